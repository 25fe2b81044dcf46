use Rattle.std.proofs.Common.{ℕ, IfNone, is_some, sym, ap, subst}
use Rattle.lru_metered.specs.Index.{hash_of, pairs_at, IsIndexed, Matches}
use Rattle.lru_metered.proofs.ListingLemmas.{absent-listed}
use Rattle.lru_metered.proofs.TableLemmas.{promoted-absent, table-moved, pairs-moved, found-some}
use Rattle.lru_metered.proofs.table.Table.promote.Goals as goal

pub find-requires : goal.find-requires
find-requires g c =
    let hash = λ (l : g.row.K.Denot). hash_of g.S.BuildHasher g.S.Hasher.Hasher c.self.inside.hasher
    (g.K.Hash.hash_input l) in
    subst (λ h. IsIndexed hash c.self.inside.nodes.items h)
    (sym c.as_slice.ensures.value) c.self.invariant.indexed

pub returns-in_default-clause-pairs : goal.returns-in_default-clause-pairs
returns-in_default-clause-pairs g c =
    let absent = subst (λ o.
    IfNone o ((x : ℕ) → ¬ (Matches (g.K.PartialEq.eq c.args.key.now) (pairs_at c.self.inside.nodes.items)
    x))) c.in_default.is c.find.ensures.absent in
    rw (← c.self.view_is) (sym (promoted-absent (g.K.PartialEq.eq c.args.key.now) c.self.inside.nodes absent))

pub returns-in_default-clause-found : goal.returns-in_default-clause-found
returns-in_default-clause-found g c =
    let absent = subst (λ o.
    IfNone o ((x : ℕ) → ¬ (Matches (g.K.PartialEq.eq c.args.key.now) (pairs_at c.self.inside.nodes.items)
    x))) c.in_default.is c.find.ensures.absent in
    rw (← c.self.view_is) (sym
    (ap is_some (absent-listed (g.K.PartialEq.eq c.args.key.now) c.self.inside.nodes absent).value))

pub invariant_of-self : goal.invariant_of-self
invariant_of-self g c =
    let t = c.self.invariant in let nodes = c.self.inside.nodes in let heads = c.self.inside.heads.items
    in let k = c.args.key.now in
    let eq = g.K.PartialEq.eq in let law = g.met.K.Eq.laws in
    let hash = λ (l : g.row.K.Denot). hash_of g.S.BuildHasher g.S.Hasher.Hasher c.self.inside.hasher
    (g.K.Hash.hash_input l) in
    table-moved eq hash law nodes heads t k c.in-Some.found.at c.in-Some.ensures.matches c.promote.new.chain
    c.promote.ensures.order c.promote.ensures.items

pub returns-clause-pairs : goal.returns-clause-pairs
returns-clause-pairs g c =
    let t = c.self.invariant in let nodes = c.self.inside.nodes in let heads = c.self.inside.heads.items
    in let k = c.args.key.now in
    let eq = g.K.PartialEq.eq in let law = g.met.K.Eq.laws in
    let hash = λ (l : g.row.K.Denot). hash_of g.S.BuildHasher g.S.Hasher.Hasher c.self.inside.hasher
    (g.K.Hash.hash_input l) in
    rw (← c.self.view_is) (pairs-moved eq hash law nodes heads t k c.in-Some.found.at
    c.in-Some.ensures.matches c.promote.new.chain c.promote.ensures.order c.promote.ensures.items)

pub returns-clause-found : goal.returns-clause-found
returns-clause-found g c =
    let t = c.self.invariant in let nodes = c.self.inside.nodes in let heads = c.self.inside.heads.items
    in let k = c.args.key.now in
    let eq = g.K.PartialEq.eq in let law = g.met.K.Eq.laws in
    let hash = λ (l : g.row.K.Denot). hash_of g.S.BuildHasher g.S.Hasher.Hasher c.self.inside.hasher
    (g.K.Hash.hash_input l) in
    rw (← c.self.view_is) (sym
    (found-some eq hash law nodes heads t k c.in-Some.found.at c.in-Some.ensures.matches))
