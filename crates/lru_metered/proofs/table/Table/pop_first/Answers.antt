use Rattle.std.proofs.Common.{◌≡◌, Some, IfSome, length, drop, slice_get, refl, sym, ap, ◌∙◌, subst}
use Rattle.lru_metered.specs.Index.{hash_of, bucket_in, pairs_at, nexts, IsBucketed, IsIndexed, Matches}
use Rattle.std.proofs.lemmas.List.{with_items_is}
use Rattle.lru_metered.specs.Listing.{IsTable}
use Rattle.lru_metered.specs.declared.index.Found.{Found}
use Rattle.lru_metered.specs.Chain.{without}
use Rattle.lru_metered.proofs.PartLemmas.{none-listed, first-taken, got-has}
use Rattle.lru_metered.proofs.TableLemmas.{held-entry, found-self, taken-others, table-taken, home-found}
use Rattle.lru_metered.proofs.table.Table.pop_first.Goals as goal

pub returns-in_err-at-clause-pair : goal.returns-in_err-at-clause-pair
returns-in_err-at-clause-pair g c =
    rw (c.from_residual.ensures, ← c.self.view_is)
    (sym (ap (λ l. slice_get l 0) (none-listed c.self.inside.nodes (sym c.in_err-at.ensures))))

pub returns-in_err-at-clause-rest : goal.returns-in_err-at-clause-rest
returns-in_err-at-clause-rest g c =
    let none = none-listed c.self.inside.nodes (sym c.in_err-at.ensures) in
    rw (← c.self.view_is) (none ∙ sym (ap (drop 1) none))

pub item-requires : goal.item-requires
item-requires g c =
    let nodes = c.self.inside.nodes in
    held-entry nodes c.in_ok-at.at c.self.invariant.full
    (got-has nodes.order 0 c.in_ok-at.at (sym c.in_ok-at.ensures))

pub find-requires : goal.find-requires
find-requires g c =
    let hash = λ (l : g.row.K.Denot). hash_of g.S.BuildHasher g.S.Hasher.Hasher c.self.inside.hasher
    (g.K.Hash.hash_input l) in
    subst (λ h. IsIndexed hash c.self.inside.nodes.items h)
    (sym c.as_slice.ensures.value) c.self.invariant.indexed

pub invariant_of-self : goal.invariant_of-self
invariant_of-self g c =
    let t = c.self.invariant in let nodes = c.self.inside.nodes in let heads = c.self.inside.heads.items in
    let eq = g.K.PartialEq.eq in let law = g.met.K.Eq.laws in
    let hash = λ (l : g.row.K.Denot). hash_of g.S.BuildHasher g.S.Hasher.Hasher c.self.inside.hasher
    (g.K.Hash.hash_input l) in
    let at = c.in_ok-at.at in let e = c.item.result.now in let k = e.key in let f = c.unwrap-found.result in
    let m : Matches (eq k) (pairs_at nodes.items) f.at =
    subst (λ o. IfSome o (λ (x : Found). Matches (eq k) (pairs_at nodes.items) x.at))
    c.unwrap-found.ensures c.find.ensures.matches in
    let mid = c.unhook.new.nodes in let new = c.take_out.new.nodes in
    let at-bucket : f.bucket ≡ bucket_in (length c.as_slice.result.now) (hash k) =
    subst (λ o. IfSome o (λ (x : Found). x.bucket ≡ bucket_in (length c.as_slice.result.now) (hash k)))
    c.unwrap-found.ensures c.find.ensures.bucket in
    let bucket : bucket_in (length heads) (hash k) ≡ f.bucket =
    sym (at-bucket ∙ ap (λ h. bucket_in (length h) (hash k)) c.as_slice.ensures.value) in
    subst (λ h. IsTable eq hash new h)
    (sym (with_items_is c.self.inside.heads c.unhook.new.heads
    (c.unhook.ensures.len ∙ c.as_mut_slice.ensures.len)))
    (table-taken eq hash law nodes heads t k f.at m mid new c.unhook.ensures.relinks c.take_out.ensures.full
    c.take_out.ensures.order c.take_out.ensures.updates c.unhook.new.heads f.bucket
    (c.unhook.ensures.len ∙ ap length c.as_mut_slice.ensures.value)
    (λ home old is. c.unhook.ensures.bucketed home
    (subst (IsBucketed (nexts nodes.items) home) (sym c.as_mut_slice.ensures.value) old) is)
    (home-found eq hash law nodes heads t k f.at m
    (λ l e. ap (hash_of g.S.BuildHasher g.S.Hasher.Hasher c.self.inside.hasher)
    (g.met.K.Hash.respects_eq k l e)) ∙ ap (λ n. Some n) bucket))

pub returns-clause-pair : goal.returns-clause-pair
returns-clause-pair g c =
    let t = c.self.invariant in let nodes = c.self.inside.nodes in let heads = c.self.inside.heads.items in
    let eq = g.K.PartialEq.eq in let law = g.met.K.Eq.laws in
    let hash = λ (l : g.row.K.Denot). hash_of g.S.BuildHasher g.S.Hasher.Hasher c.self.inside.hasher
    (g.K.Hash.hash_input l) in
    let at = c.in_ok-at.at in let e = c.item.result.now in let k = e.key in let f = c.unwrap-found.result in
    let m : Matches (eq k) (pairs_at nodes.items) f.at =
    subst (λ o. IfSome o (λ (x : Found). Matches (eq k) (pairs_at nodes.items) x.at))
    c.unwrap-found.ensures c.find.ensures.matches in
    let mid = c.unhook.new.nodes in let new = c.take_out.new.nodes in
    let there : slice_get nodes.order 0 ≡ Some f.at = sym c.in_ok-at.ensures
    ∙ ap (λ n. Some n) (sym (found-self eq hash law nodes heads t k f.at m at e c.item.ensures refl)) in
    let pairs = first-taken nodes new t.full f.at c.take_out.result (sym (c.unhook.ensures.relinks.pairs f.at)
    ∙ c.take_out.ensures.pair)
    (c.take_out.ensures.order ∙ ap (without f.at) c.unhook.ensures.relinks.order)
    (taken-others eq hash law nodes heads t k f.at m mid new c.unhook.ensures.relinks c.take_out.ensures.full
    c.take_out.ensures.order c.take_out.ensures.updates) there in
    rw (← c.self.view_is) (sym (ap (λ l. slice_get l 0) pairs))

pub returns-clause-rest : goal.returns-clause-rest
returns-clause-rest g c =
    let t = c.self.invariant in let nodes = c.self.inside.nodes in let heads = c.self.inside.heads.items in
    let eq = g.K.PartialEq.eq in let law = g.met.K.Eq.laws in
    let hash = λ (l : g.row.K.Denot). hash_of g.S.BuildHasher g.S.Hasher.Hasher c.self.inside.hasher
    (g.K.Hash.hash_input l) in
    let at = c.in_ok-at.at in let e = c.item.result.now in let k = e.key in let f = c.unwrap-found.result in
    let m : Matches (eq k) (pairs_at nodes.items) f.at =
    subst (λ o. IfSome o (λ (x : Found). Matches (eq k) (pairs_at nodes.items) x.at))
    c.unwrap-found.ensures c.find.ensures.matches in
    let mid = c.unhook.new.nodes in let new = c.take_out.new.nodes in
    let there : slice_get nodes.order 0 ≡ Some f.at = sym c.in_ok-at.ensures
    ∙ ap (λ n. Some n) (sym (found-self eq hash law nodes heads t k f.at m at e c.item.ensures refl)) in
    let pairs = first-taken nodes new t.full f.at c.take_out.result (sym (c.unhook.ensures.relinks.pairs f.at)
    ∙ c.take_out.ensures.pair)
    (c.take_out.ensures.order ∙ ap (without f.at) c.unhook.ensures.relinks.order)
    (taken-others eq hash law nodes heads t k f.at m mid new c.unhook.ensures.relinks c.take_out.ensures.full
    c.take_out.ensures.order c.take_out.ensures.updates) there in
    rw (← c.self.view_is) (sym (ap (drop 1) pairs))
