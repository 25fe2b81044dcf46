use Rattle.std.proofs.Common.{drop, take, ◌≡◌, ◌+◌, ◌-◌, ◌≤◌, ◌++◌, length, arith, ◌∙◌, refl}
use Rattle.std.proofs.lemmas.List.{length-take}
use Rattle.dist_types.proofs.Contents.{read_there}
use Rattle.http_connections.proofs.BegunLemmas.{front_read}
use Rattle.http_connections.proofs.begun_link.BegunLinkSource.read.Goals as goal

pub returns-clause-taken : goal.returns-clause-taken
returns-clause-taken g c =
    let at = c.args.self.now.at in
    let n = c.min-n.result in
    let bytes = c.args.self.now.begun.items in
    let copy = c.copy_from_slice.new.self in
    let rest = drop n c.args.buf.now in
    let same : at + n - at ≡ n = omega arith in
    let copied : copy ≡ take n (drop at bytes) =
    c.copy_from_slice.ensures.after ∙ rw (same, c.deref.ensures.value) refl in
    let fits : n ≤ length c.args.buf.now = grind arith in
    let len : length copy ≡ n = c.copy_from_slice.ensures.len ∙ omega (arith, length-take n c.args.buf.now) in
    front_read (drop at bytes) (take n (copy ++ rest)) (drop (at + n) bytes)
    (g.L.Source.left c.args.self.now.link) (read_there bytes copy rest at n copied len)
