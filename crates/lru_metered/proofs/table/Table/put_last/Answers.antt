use Rattle.std.proofs.Common.{◌≡◌, ℕ, [], ◌∷◌, ◌++◌, Some, IfNone, IfOk, OnOk, OnErr, Result, Ok, Err, sym, ap, ◌∙◌}
use Rattle.std.proofs.Common.{subst}
use Rattle.std.specs.Map.{lookup, remove_entry}
use Rattle.lru_metered.specs.Index.{hash_of, pairs_at, Matches, IsIndexed}
use Rattle.lru_metered.proofs.ListingLemmas.{absent-listed, matches-pair}
use Rattle.lru_metered.proofs.TableLemmas.{table-renewed, pairs-renewed, value-found}
use Rattle.lru_metered.proofs.table.Table.put_last.Goals as goal

-- what holds anyway holds of an error
on_err : {T E P : Type 0} (result : Result T E) → P → OnErr result P
on_err (Ok x) p = tt
on_err (Err e) p = p

pub find-requires : goal.find-requires
find-requires g c =
    let hash = λ (l : g.row.K.Denot). hash_of g.S.BuildHasher g.S.Hasher.Hasher c.self.inside.hasher
    (g.K.Hash.hash_input l) in
    subst (λ h. IsIndexed hash c.self.inside.nodes.items h)
    (sym c.as_slice.ensures.value) c.self.invariant.indexed

pub put_new-requires : goal.put_new-requires
put_new-requires g c =
    let absent = absent-listed (g.K.PartialEq.eq c.args.key) c.self.inside.nodes
    (subst (λ o. IfNone o ((x : ℕ)
    → ¬ (Matches (g.K.PartialEq.eq c.args.key) (pairs_at c.self.inside.nodes.items) x))) c.in_default.is
    c.find.ensures.absent) in
    rw (← c.self.view_is) absent.value

pub returns-in_default-clause-pairs : goal.returns-in_default-clause-pairs
returns-in_default-clause-pairs g c =
    let absent = absent-listed (g.K.PartialEq.eq c.args.key) c.self.inside.nodes
    (subst (λ o. IfNone o ((x : ℕ)
    → ¬ (Matches (g.K.PartialEq.eq c.args.key) (pairs_at c.self.inside.nodes.items) x))) c.in_default.is
    c.find.ensures.absent) in
    let others = subst (λ l. remove_entry (g.K.PartialEq.eq c.args.key) l ≡ l) c.self.view_is absent.others in
    subst (λ l. OnOk c.put_new.result (c.put_new.new.self ≡ l ++ (c.args.key, c.args.value) ∷ []))
    (sym others) c.put_new.ensures.pairs

pub returns-in_default-clause-old : goal.returns-in_default-clause-old
returns-in_default-clause-old g c =
    let absent = absent-listed (g.K.PartialEq.eq c.args.key) c.self.inside.nodes
    (subst (λ o. IfNone o ((x : ℕ)
    → ¬ (Matches (g.K.PartialEq.eq c.args.key) (pairs_at c.self.inside.nodes.items) x))) c.in_default.is
    c.find.ensures.absent) in
    let none = ap (lookup (g.K.PartialEq.eq c.args.key)) (sym c.self.view_is) ∙ absent.value in
    subst (λ o. IfOk c.put_new.result (λ old. old ≡ o)) (sym none) c.put_new.ensures.old

pub invariant_of-self : goal.invariant_of-self
invariant_of-self g c =
    let t = c.self.invariant in let nodes = c.self.inside.nodes in let heads = c.self.inside.heads.items in
    let eq = g.K.PartialEq.eq in let law = g.met.K.Eq.laws in
    let hash = λ (l : g.row.K.Denot). hash_of g.S.BuildHasher g.S.Hasher.Hasher c.self.inside.hasher
    (g.K.Hash.hash_input l) in
    let k = c.args.key in
    table-renewed eq hash law nodes heads t k c.in-Some.found.at c.in-Some.ensures.matches c.renew.new.nodes
    c.args.value c.renew.ensures.renewed
    (λ l e. ap (hash_of g.S.BuildHasher g.S.Hasher.Hasher c.self.inside.hasher)
    (g.met.K.Hash.respects_eq k l e))

pub returns-clause-pairs : goal.returns-clause-pairs
returns-clause-pairs g c =
    let t = c.self.invariant in let nodes = c.self.inside.nodes in let heads = c.self.inside.heads.items in
    let eq = g.K.PartialEq.eq in let law = g.met.K.Eq.laws in
    let hash = λ (l : g.row.K.Denot). hash_of g.S.BuildHasher g.S.Hasher.Hasher c.self.inside.hasher
    (g.K.Hash.hash_input l) in
    let k = c.args.key in
    rw (← c.self.view_is) (pairs-renewed eq hash law nodes heads t k c.in-Some.found.at
    c.in-Some.ensures.matches c.renew.new.nodes c.args.value c.renew.ensures.renewed)

pub returns-clause-old : goal.returns-clause-old
returns-clause-old g c =
    let t = c.self.invariant in let nodes = c.self.inside.nodes in let heads = c.self.inside.heads.items in
    let eq = g.K.PartialEq.eq in let law = g.met.K.Eq.laws in
    let hash = λ (l : g.row.K.Denot). hash_of g.S.BuildHasher g.S.Hasher.Hasher c.self.inside.hasher
    (g.K.Hash.hash_input l) in
    let k = c.args.key in
    let p = matches-pair (eq k) (pairs_at nodes.items) c.in-Some.found.at c.in-Some.ensures.matches in
    rw (← c.self.view_is) (ap (λ v. Some v) (c.renew.ensures.value p.0 p.1)
    ∙ sym (value-found eq hash law nodes heads t k c.in-Some.found.at c.in-Some.ensures.matches p.0 p.1))

pub returns-in_default-clause-absent : goal.returns-in_default-clause-absent
returns-in_default-clause-absent g c =
    let absent = absent-listed (g.K.PartialEq.eq c.args.key) c.self.inside.nodes
    (subst (λ o. IfNone o ((x : ℕ)
    → ¬ (Matches (g.K.PartialEq.eq c.args.key) (pairs_at c.self.inside.nodes.items) x))) c.in_default.is
    c.find.ensures.absent) in
    let none = ap (lookup (g.K.PartialEq.eq c.args.key)) (sym c.self.view_is) ∙ absent.value in
    on_err c.put_new.result none
