use Rattle.std.proofs.Common.{◌≡◌, Some, length, sym, ap, ◌∙◌, subst}
use Rattle.lru_metered.specs.Index.{hash_of, bucket_in, nexts, IsBucketed, IsIndexed}
use Rattle.std.proofs.lemmas.List.{with_items_is}
use Rattle.lru_metered.specs.Listing.{IsTable}
use Rattle.lru_metered.proofs.ListingLemmas.{absent-listed}
use Rattle.lru_metered.proofs.TableLemmas.{table-taken, pairs-taken, key-found, value-found, home-found}
use Rattle.lru_metered.proofs.table.Table.remove.Goals as goal

pub find-requires : goal.find-requires
find-requires g c =
    let hash = λ (l : g.row.K.Denot). hash_of g.S.BuildHasher g.S.Hasher.Hasher c.self.inside.hasher
    (g.K.Hash.hash_input l) in
    subst (λ h. IsIndexed hash c.self.inside.nodes.items h)
    (sym c.as_slice.ensures.value) c.self.invariant.indexed

pub returns-in_err-found-clause-key : goal.returns-in_err-found-clause-key
returns-in_err-found-clause-key g c =
    rw (c.from_residual.ensures, ← c.self.view_is)
    (sym (absent-listed (g.K.PartialEq.eq c.args.key.now) c.self.inside.nodes
    c.in_err-found.ensures.absent).key)

pub returns-in_err-found-clause-value : goal.returns-in_err-found-clause-value
returns-in_err-found-clause-value g c =
    rw (c.from_residual.ensures, ← c.self.view_is)
    (sym (absent-listed (g.K.PartialEq.eq c.args.key.now) c.self.inside.nodes
    c.in_err-found.ensures.absent).value)

pub returns-in_err-found-clause-others : goal.returns-in_err-found-clause-others
returns-in_err-found-clause-others g c =
    rw (← c.self.view_is) (sym
    (absent-listed (g.K.PartialEq.eq c.args.key.now) c.self.inside.nodes
    c.in_err-found.ensures.absent).others)

pub invariant_of-self : goal.invariant_of-self
invariant_of-self g c =
    let t = c.self.invariant in let nodes = c.self.inside.nodes in let heads = c.self.inside.heads.items
    in let k = c.args.key.now in
    let eq = g.K.PartialEq.eq in let law = g.met.K.Eq.laws in
    let hash = λ (l : g.row.K.Denot). hash_of g.S.BuildHasher g.S.Hasher.Hasher c.self.inside.hasher
    (g.K.Hash.hash_input l) in
    let f = c.in_ok-found.found in let m = c.in_ok-found.ensures.matches in let mid = c.unhook.new.nodes
    in let new = c.take_out.new.nodes in
    let bucket : bucket_in (length heads) (hash k) ≡ f.bucket =
    sym (c.in_ok-found.ensures.bucket ∙ ap (λ h. bucket_in (length h) (hash k)) c.as_slice.ensures.value)
    in
    subst (λ h. IsTable eq hash new h)
    (sym (with_items_is c.self.inside.heads c.unhook.new.heads
    (c.unhook.ensures.len ∙ c.as_mut_slice.ensures.len)))
    (table-taken eq hash law nodes heads t k f.at m mid new c.unhook.ensures.relinks c.take_out.ensures.full
    c.take_out.ensures.order c.take_out.ensures.updates c.unhook.new.heads f.bucket
    (c.unhook.ensures.len ∙ ap length c.as_mut_slice.ensures.value)
    (λ home old is. c.unhook.ensures.bucketed home
    (subst (IsBucketed (nexts nodes.items) home) (sym c.as_mut_slice.ensures.value) old) is)
    (home-found eq hash law nodes heads t k f.at m
    (λ l e. ap (hash_of g.S.BuildHasher g.S.Hasher.Hasher c.self.inside.hasher)
    (g.met.K.Hash.respects_eq k l e)) ∙ ap (λ n. Some n) bucket))

pub returns-clause-key : goal.returns-clause-key
returns-clause-key g c =
    let f = c.in_ok-found.found in
    rw (← c.self.view_is) (sym (key-found _ _ g.met.K.Eq.laws c.self.inside.nodes _ c.self.invariant
    c.args.key.now f.at c.in_ok-found.ensures.matches c.take_out.result
    (sym (c.unhook.ensures.relinks.pairs f.at) ∙ c.take_out.ensures.pair)))

pub returns-clause-value : goal.returns-clause-value
returns-clause-value g c =
    let f = c.in_ok-found.found in
    rw (← c.self.view_is) (sym (value-found _ _ g.met.K.Eq.laws c.self.inside.nodes _ c.self.invariant
    c.args.key.now f.at c.in_ok-found.ensures.matches c.take_out.result
    (sym (c.unhook.ensures.relinks.pairs f.at) ∙ c.take_out.ensures.pair)))

pub returns-clause-others : goal.returns-clause-others
returns-clause-others g c =
    let t = c.self.invariant in let nodes = c.self.inside.nodes in
    let f = c.in_ok-found.found in let m = c.in_ok-found.ensures.matches in let mid = c.unhook.new.nodes
    in let new = c.take_out.new.nodes in
    rw (← c.self.view_is) (pairs-taken _ _ g.met.K.Eq.laws nodes _ t c.args.key.now f.at m mid new
    c.unhook.ensures.relinks c.take_out.ensures.full c.take_out.ensures.order c.take_out.ensures.updates)
