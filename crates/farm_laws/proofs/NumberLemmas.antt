-- How many core entries stand before an entry.
use Rattle.std.proofs.Common.{◌≡◌, ℕ, zero, suc, ◌<◌, ◌≤◌, List, [], ◌∷◌, ◌++◌, length, take, Option, Some}
use Rattle.std.proofs.Common.{None, refl, ap, ◌∙◌, arith}
use Rattle.std.specs.Prelude.{slice_get}
use Rattle.std.specs.List.{cons_option}
use Rattle.std.proofs.lemmas.Option.{same_Some}
use Rattle.core_rules.specs.declared.entry.CoreEntry.{CoreEntry}
use Rattle.farm_entries.specs.declared.entry.Entry.{Entry}
use Rattle.farm_entries.specs.Seen.{core_log}

-- one entry more at the front
front_more : (o : Option CoreEntry) (a b : List CoreEntry) → length a < length b
    → length (cons_option o a) < length (cons_option o b)
front_more None a b h = h
front_more (Some c) a b h = omega arith

-- the entries before an entry that has a core entry have fewer than those before a later one
pub numbers_rise : (log : List Entry) (n m : ℕ) (e : Entry) (c : CoreEntry) → n < m → slice_get log n ≡ Some e
    → e.core ≡ Some c
    → length (core_log (take n log)) < length (core_log (take m log))
numbers_rise [] n m e c lt at is = absurd cc
numbers_rise (x ∷ xs) n zero e c lt at is = absurd (omega arith)
numbers_rise (x ∷ xs) zero (suc m) e c lt at is =
    let here : x.core ≡ Some c = ap (λ (y : Entry). y.core) (same_Some x e at) ∙ is in
    rw here (omega arith)
numbers_rise (x ∷ xs) (suc n) (suc m) e c lt at is = front_more x.core (core_log (take n xs))
    (core_log (take m xs)) (numbers_rise xs n m e c (omega arith) at is)

-- what stands before an entry stays
pub take_left : {X : Type 0} (xs ys : List X) (n : ℕ) → n ≤ length xs → take n (xs ++ ys) ≡ take n xs
take_left xs ys zero h = refl
take_left [] ys (suc n) h = absurd (omega arith)
take_left (x ∷ xs) ys (suc n) h = ap (λ (zs : List _). x ∷ zs) (take_left xs ys n (omega arith))

-- what stands before the last is all but the last
pub take_end : {X : Type 0} (xs : List X) (x : X) → take (length xs) (xs ++ x ∷ []) ≡ xs
take_end [] x = refl
take_end (y ∷ ys) x = ap (λ (zs : List _). y ∷ zs) (take_end ys x)
