use Rattle.std.proofs.Common.{◌++◌, None, is_some, length, sym, ap, ◌∙◌}
use Rattle.lru_metered.specs.Chain.{links, walk, with_ends, without}
use Rattle.lru_metered.proofs.ChainLemmas.{unlinked-chain, without-at, settled, order-walked, outer_end}
use Rattle.lru_metered.proofs.SeenLemmas.{cut-seen, seen-held}
use Rattle.lru_metered.proofs.chain.Chain.unlink.Goals as goal

pub relink-ends-requires : goal.relink-ends-requires
relink-ends-requires g c =
    ap is_some (cut-seen c.self.inside.nodes c.self.inside.first c.self.inside.last _ c.args.at c.self.invariant
    (ap (λ v. v.order) c.self.view_is) c.requires).ends

pub join-requires-clause-previous : goal.join-requires-clause-previous
join-requires-clause-previous g c =
    (seen-held c.self.inside.nodes c.self.inside.first c.self.inside.last _ c.args.at c.self.invariant
    (ap (λ v. v.order) c.self.view_is) c.requires c.relink-ends.new.nodes c.relink-ends.result
    (with_ends None None) c.relink-ends.ensures.was c.relink-ends.ensures.changed).0

pub join-requires-clause-next : goal.join-requires-clause-next
join-requires-clause-next g c =
    (seen-held c.self.inside.nodes c.self.inside.first c.self.inside.last _ c.args.at c.self.invariant
    (ap (λ v. v.order) c.self.view_is) c.requires c.relink-ends.new.nodes c.relink-ends.result
    (with_ends None None) c.relink-ends.ensures.was c.relink-ends.ensures.changed).1

pub invariant_of-self : goal.invariant_of-self
invariant_of-self g c =
    let s = c.self.inside.nodes in let first = c.self.inside.first in let last = c.self.inside.last
    in let key = c.args.at in
    let order = walk (links s) (length s.slots) first in
    let cut = cut-seen s first last _ key c.self.invariant (ap (λ v. v.order) c.self.view_is) c.requires in
    let ends = c.relink-ends.result in let new = c.join.new.nodes in let joined = c.join.ensures.changed in
    let made = unlinked-chain (links s) (links c.relink-ends.new.nodes) joined.0
    (links new) first last order key ends (None, None) cut c.relink-ends.ensures.was
    c.relink-ends.ensures.changed joined.1 joined.2 in
    rw (c.outer-self-inside.ensures, c.outer-self-inside-2.ensures)
    (settled new (outer_end first ends.0 ends.1) (outer_end last ends.1 ends.0)
    (cut.front ++ cut.back) made)

pub returns-clause-order : goal.returns-clause-order
returns-clause-order g c =
    let s = c.self.inside.nodes in let first = c.self.inside.first in let last = c.self.inside.last
    in let key = c.args.at in
    let order = walk (links s) (length s.slots) first in
    let cut = cut-seen s first last _ key c.self.invariant (ap (λ v. v.order) c.self.view_is) c.requires in
    let ends = c.relink-ends.result in let new = c.join.new.nodes in let joined = c.join.ensures.changed in
    let made = unlinked-chain (links s) (links c.relink-ends.new.nodes) joined.0
    (links new) first last order key ends (None, None) cut c.relink-ends.ensures.was
    c.relink-ends.ensures.changed joined.1 joined.2 in
    rw c.outer-self-inside.ensures
    (order-walked new (outer_end first ends.0 ends.1) (outer_end last ends.1 ends.0)
    (cut.front ++ cut.back) made ∙ sym (without-at (links s) first last order key cut)
    ∙ ap (λ v. without key v.order) c.self.view_is)
