-- Archives of a cache that has room for all that is put.
use Rattle.std.proofs.Common.{◌≡◌, ℕ, ◌+◌, ◌-◌, ◌≤◌, Bool, true, false, cond, List, [], ◌∷◌, ◌++◌}
use Rattle.std.proofs.Common.{Option, Some, None, is_some, refl, sym, ap, ◌∙◌, true≢false, arith}
use Rattle.std.proofs.Common.{unwrap_or, le-ltb, inl, inr}
use Rattle.std.specs.Prelude.{◌||◌}
use Rattle.std.specs.List.{AllByRecursion, IsDistinct}
use Rattle.std.specs.Map.{keys_of, lookup, lookup_entry}
use Rattle.std.specs.Option.{option_map_or}
use Rattle.std.specs.Str.{bytes_eq}
use Rattle.std.specs.Cmp.Lexicographic.{nat_list_eq_equiv}
use Rattle.std.proofs.lemmas.List.Sums.{sum_by-cons}
use Rattle.std.proofs.lemmas.Map.{lookup-none, lookup-remove_entry}
use Rattle.std.proofs.lemmas.Map.Entries.{none_past_head}
use Rattle.std.proofs.lemmas.Map.Keys.{IsDistinct-tail}
use Rattle.std.proofs.lemmas.Slice.Eq.{bytes_eq-Decides}
use Rattle.lru_metered.proofs.Lookups.{look_up, total-hit}
use Rattle.listed_files.specs.Disk.{without_key}
use Rattle.listed_files.specs.Entries.{total, sizes, trim, promoted_key}
use Rattle.listed_files.proofs.Outs.{distinct_out}
use Rattle.listed_files.proofs.Trims.{total_more, trim_fits, unlisted}
use Rattle.folders.proofs.Distinct.{apart}
use Rattle.folders.proofs.Lookups.{itself}
use Rattle.toolchain_cache.specs.Archives.{Archives}
use Rattle.build_server.specs.Books.{is_listed}
use Rattle.mirror.specs.OneCache.{larger, with_put}
use Rattle.mirror.specs.Sides.{put_in}

-- an archive put last, and no other of its id
abbrev pub with_last : List ℕ → ℕ → Archives → Archives
with_last id size a = without_key id a ++ (id, size) ∷ []

-- ids of a list differ
abbrev pub Differ : Archives → Type 0
Differ a = IsDistinct bytes_eq (keys_of a)

-- ---- what is found

found_behind : (q id : List ℕ) (size : ℕ) (xs : Archives) → bytes_eq q id ≡ false
    → lookup (bytes_eq q) (xs ++ (id, size) ∷ []) ≡ lookup (bytes_eq q) xs
found_behind q id size [] other = ap (λ b. cond b (Some size) None) other
found_behind q id size (x ∷ xs) other = ap (cond (bytes_eq q x.0) (Some x.1)) (found_behind q id size xs other)

found_last : (id : List ℕ) (size : ℕ) (xs : Archives) → lookup (bytes_eq id) xs ≡ None
    → lookup (bytes_eq id) (xs ++ (id, size) ∷ []) ≡ Some size
found_last id size [] none = ap (λ b. cond b (Some size) None) (itself id)
found_last id size (x ∷ xs) none = by (bytes_eq id x.0) none (found_last id size xs)
  where
    by : (b : Bool) → cond b (Some x.1) (lookup (bytes_eq id) xs) ≡ None
        → (lookup (bytes_eq id) xs ≡ None → lookup (bytes_eq id) (xs ++ (id, size) ∷ []) ≡ Some size)
        → cond b (Some x.1) (lookup (bytes_eq id) (xs ++ (id, size) ∷ [])) ≡ Some size
    by true some rest = absurd (true≢false (ap is_some some))
    by false none rest = rest none

-- another id is found as before
pub found_other : (q id : List ℕ) (size : ℕ) (a : Archives) → Differ a → bytes_eq q id ≡ false
    → lookup (bytes_eq q) (with_last id size a) ≡ lookup (bytes_eq q) a
found_other q id size a differ other =
    found_behind q id size (without_key id a) other
    ∙ (lookup-remove_entry nat_list_eq_equiv (bytes_eq id)
    (λ x y is. ap (λ k. bytes_eq k y) ((bytes_eq-Decides id x).0 is)) q a differ
    ∙ ap (λ b. cond b None (lookup (bytes_eq q) a)) (apart q id other))

-- and this one with its size
pub found_this : (id : List ℕ) (size : ℕ) (a : Archives) → Differ a
    → lookup (bytes_eq id) (with_last id size a) ≡ Some size
found_this id size a differ = found_last id size (without_key id a) (unlisted id a differ)

others_apart : (id : List ℕ) (xs : Archives) → lookup (bytes_eq id) xs ≡ None
    → AllByRecursion (λ y. bytes_eq y id ≡ false) (keys_of xs)
others_apart id [] none = tt
others_apart id (x ∷ xs) none = by (bytes_eq id x.0) refl none (others_apart id xs)
  where
    by : (b : Bool) → bytes_eq id x.0 ≡ b → cond b (Some x.1) (lookup (bytes_eq id) xs) ≡ None
        → (lookup (bytes_eq id) xs ≡ None → AllByRecursion (λ y. bytes_eq y id ≡ false) (keys_of xs))
        → (bytes_eq x.0 id ≡ false) × AllByRecursion (λ y. bytes_eq y id ≡ false) (keys_of xs)
    by true is some rest = absurd (true≢false (ap is_some some))
    by false is none rest = (apart id x.0 is, rest none)

differ_end : (id : List ℕ) (size : ℕ) (xs : Archives) → Differ xs
    → AllByRecursion (λ y. bytes_eq y id ≡ false) (keys_of xs) → Differ (xs ++ (id, size) ∷ [])
unfolding IsDistinct
differ_end id size [] h others = (tt, tt)
differ_end id size (x ∷ xs) h others = (all_end xs h.0, differ_end id size xs h.1 others.1)
  where
    all_end : (ys : Archives) → AllByRecursion (λ y. bytes_eq x.0 y ≡ false) (keys_of ys)
        → AllByRecursion (λ y. bytes_eq x.0 y ≡ false) (keys_of (ys ++ (id, size) ∷ []))
    all_end [] h = (others.0, tt)
    all_end (y ∷ ys) h = (h.0, all_end ys h.1)

-- ids differ still
pub differ_last : (id : List ℕ) (size : ℕ) (a : Archives) → Differ a → Differ (with_last id size a)
differ_last id size a differ =
    differ_end id size (without_key id a) (distinct_out (bytes_eq id) a differ)
    (others_apart id (without_key id a) (unlisted id a differ))

-- ids are listed as before, and this one
pub listed_last : (q id : List ℕ) (size : ℕ) (a : Archives) → Differ a
    → is_listed q (with_last id size a) ≡ (bytes_eq q id || is_listed q a)
listed_last q id size a differ = by (bytes_eq q id) refl
  where
    by : (b : Bool) → bytes_eq q id ≡ b → is_listed q (with_last id size a) ≡ (b || is_listed q a)
    by true is =
        ap (λ k. is_some (lookup (bytes_eq k) (with_last id size a))) ((bytes_eq-Decides q id).0 is)
        ∙ ap is_some (found_this id size a differ)
    by false is = ap is_some (found_other q id size a differ is)

-- ---- what is most recent

entry_is : (id : List ℕ) (size : ℕ) (xs : Archives) → lookup (bytes_eq id) xs ≡ Some size
    → lookup_entry (bytes_eq id) xs ≡ Some (id, size)
entry_is id size [] found = absurd (true≢false (sym (ap is_some found)))
entry_is id size (x ∷ xs) found = by (bytes_eq id x.0) refl found (entry_is id size xs)
  where
    by : (b : Bool) → bytes_eq id x.0 ≡ b → cond b (Some x.1) (lookup (bytes_eq id) xs) ≡ Some size
        → (lookup (bytes_eq id) xs ≡ Some size → lookup_entry (bytes_eq id) xs ≡ Some (id, size))
        → cond b (Some x) (lookup_entry (bytes_eq id) xs) ≡ Some (id, size)
    by true is found rest =
        let same : id ≡ x.0 = (bytes_eq-Decides id x.0).0 is in
        let sized : x.1 ≡ size = ap (λ o. unwrap_or o 0) found in
        λ i. Some (sym same i, sized i)
    by false is found rest = rest found

-- an archive that is listed is put last, with its size
pub promoted_is : (id : List ℕ) (size : ℕ) (a : Archives) → lookup (bytes_eq id) a ≡ Some size
    → promoted_key id a ≡ with_last id size a
promoted_is id size a found = ap (λ o. option_map_or (λ p. without_key id a ++ p ∷ []) o a) (entry_is id size a found)

-- ---- sums

-- each archive is among these, with at least its size
abbrev pub PartOf : Archives → Archives → Type 0
PartOf a all = (q : List ℕ) (n : ℕ) → lookup (bytes_eq q) a ≡ Some n
    → (m : ℕ) × (lookup (bytes_eq q) all ≡ Some m) × (n ≤ m)

none_some : {X : Type 0} (o : Option ℕ) (n : ℕ) → o ≡ None → o ≡ Some n → X
none_some o n none some = absurd (true≢false (sym (ap is_some (sym none ∙ some))))

-- the sum is what one of them measures, and the others
pub total_out : (id : List ℕ) (m : ℕ) (all : Archives) → lookup (bytes_eq id) all ≡ Some m
    → total all ≡ m + total (without_key id all)
total_out id m all found = elim (look_up (bytes_eq id) all) [
  | inl l ↦ none_some (lookup (bytes_eq id) all) m l.value found
  | inr h ↦
      let sized : h.pair.1 ≡ m = ap (λ o. unwrap_or o 0) (sym h.value ∙ found) in
      total-hit (bytes_eq id) sizes all h ∙ ap (λ n. n + total (without_key id all)) sized
]

-- another id is found in what is left
pub out_other : (q id : List ℕ) (a : Archives) → Differ a → bytes_eq q id ≡ false
    → lookup (bytes_eq q) (without_key id a) ≡ lookup (bytes_eq q) a
out_other q id a differ other =
    lookup-remove_entry nat_list_eq_equiv (bytes_eq id)
    (λ x y is. ap (λ k. bytes_eq k y) ((bytes_eq-Decides id x).0 is)) q a differ
    ∙ ap (λ b. cond b None (lookup (bytes_eq q) a)) (apart q id other)

-- archives without one are among those without it
pub part_out : (id : List ℕ) (a all : Archives) → Differ a → Differ all → PartOf a all
    → PartOf (without_key id a) (without_key id all)
part_out id a all da dall part q n found = by (bytes_eq q id) refl
  where
    by : (b : Bool) → bytes_eq q id ≡ b
        → (m : ℕ) × (lookup (bytes_eq q) (without_key id all) ≡ Some m) × (n ≤ m)
    by true is = none_some (lookup (bytes_eq q) (without_key id a)) n
        (ap (λ k. lookup (bytes_eq k) (without_key id a)) ((bytes_eq-Decides q id).0 is) ∙ unlisted id a da) found
    by false is =
        let p = part q n (sym (out_other q id a da is) ∙ found) in
        (p.0, out_other q id all dall is ∙ p.1, p.2)

-- those behind the first are among all without it
part_rest : (e : List ℕ × ℕ) (a all : Archives) → Differ (e ∷ a) → Differ all → PartOf (e ∷ a) all
    → PartOf a (without_key e.0 all)
part_rest e a all da dall part q n found = by (bytes_eq q e.0) refl
  where
    by : (b : Bool) → bytes_eq q e.0 ≡ b
        → (m : ℕ) × (lookup (bytes_eq q) (without_key e.0 all) ≡ Some m) × (n ≤ m)
    by true is = none_some (lookup (bytes_eq q) a) n
        (lookup-none (bytes_eq q) a (none_past_head nat_list_eq_equiv q e a da is)) found
    by false is =
        let p = part q n (ap (λ b. cond b (Some e.1) (lookup (bytes_eq q) a)) is ∙ found) in
        (p.0, out_other q e.0 all dall is ∙ p.1, p.2)

-- so they sum to no more
pub total_part : (a all : Archives) → Differ a → Differ all → PartOf a all → total a ≤ total all
total_part [] all da dall part = omega arith
total_part (e ∷ a) all da dall part =
    let p = part e.0 e.1 (ap (λ b. cond b (Some e.1) (lookup (bytes_eq e.0) a)) (itself e.0)) in
    let rest : total a ≤ total (without_key e.0 all) =
    total_part a (without_key e.0 all) (IsDistinct-tail bytes_eq e.0 (keys_of a) da)
    (distinct_out (bytes_eq e.0) all dall) (part_rest e a all da dall part) in
    let all_is : total all ≡ p.0 + total (without_key e.0 all) = total_out e.0 p.0 all p.1 in
    let larger : e.1 ≤ p.0 = p.2 in
    omega (arith, sum_by-cons (λ (x : List ℕ × ℕ). x.1) e a, all_is, rest, larger)

-- ---- a store where there is room

-- an archive that has its place among all is put last, and nothing goes
pub stored_is : (capacity : ℕ) (id : List ℕ) (n m : ℕ) (a all : Archives) → Differ a → Differ all → PartOf a all
    → lookup (bytes_eq id) all ≡ Some m → n ≤ m → total all ≤ capacity → put_in capacity id n a ≡ with_last id n a
stored_is capacity id n m a all da dall part found less fits =
    let all_is : total all ≡ m + total (without_key id all) = total_out id m all found in
    let rest : total (without_key id a) ≤ total (without_key id all) =
    total_part (without_key id a) (without_key id all) (distinct_out (bytes_eq id) a da)
    (distinct_out (bytes_eq id) all dall) (part_out id a all da dall part) in
    let small : n ≤ capacity = omega (arith, all_is, less, fits) in
    let room : total (without_key id a) ≤ capacity - n = omega (arith, all_is, rest, less, fits) in
    ap (λ b. cond b a (trim (capacity - n) (without_key id a) ++ (id, n) ∷ [])) (le-ltb capacity n small)
    ∙ ap (λ l. l ++ (id, n) ∷ []) (trim_fits (without_key id a) (capacity - n) room)

-- and is among all
pub part_last : (id : List ℕ) (n m : ℕ) (a all : Archives) → Differ a → PartOf a all
    → lookup (bytes_eq id) all ≡ Some m → n ≤ m → PartOf (with_last id n a) all
part_last id n m a all da part found less q k seen = by (bytes_eq q id) refl
  where
    by : (b : Bool) → bytes_eq q id ≡ b → (m : ℕ) × (lookup (bytes_eq q) all ≡ Some m) × (k ≤ m)
    by true is =
        let same : q ≡ id = (bytes_eq-Decides q id).0 is in
        let sized : n ≡ k = ap (λ o. unwrap_or o 0) (sym (found_this id n a da)
        ∙ (ap (λ p. lookup (bytes_eq p) (with_last id n a)) (sym same) ∙ seen)) in
        (m, ap (λ p. lookup (bytes_eq p) all) same ∙ found, omega (arith, less, sized))
    by false is = part q k (sym (found_other q id n a da is) ∙ seen)

-- ---- what was put

-- what was among all is so once more is put
pub part_wider : (id : List ℕ) (n : ℕ) (a all : Archives) → Differ all → PartOf a all → PartOf a (with_put id n all)
part_wider id n a all dall part q k seen = by (bytes_eq q id) refl
  where
    by : (b : Bool) → bytes_eq q id ≡ b → (m : ℕ) × (lookup (bytes_eq q) (with_put id n all) ≡ Some m) × (k ≤ m)
    by true is =
        let same : q ≡ id = (bytes_eq-Decides q id).0 is in
        let p = part q k seen in
        let old : unwrap_or (lookup (bytes_eq id) all) 0 ≡ p.0 =
        ap (λ o. unwrap_or o 0) (ap (λ w. lookup (bytes_eq w) all) (sym same) ∙ p.1) in
        let small : k ≤ p.0 = p.2 in (
          larger id n all,
          ap (λ w. lookup (bytes_eq w) (with_put id n all)) same ∙ found_this id (larger id n all) all dall,
          omega (arith, small, old),
        )
    by false is = let p = part q k seen in (p.0, found_other q id (larger id n all) all dall is ∙ p.1, p.2)

-- the sum does not fall
pub grows : (id : List ℕ) (n : ℕ) (all : Archives) → total all ≤ total (with_put id n all)
grows id n all =
    let whole : total (with_put id n all) ≡ total (without_key id all) + larger id n all =
    total_more (without_key id all) id (larger id n all) in
    elim (look_up (bytes_eq id) all) [
      | inl l ↦ omega (arith, whole, ap total l.rest)
      | inr h ↦
          let old : unwrap_or (lookup (bytes_eq id) all) 0 ≡ h.pair.1 = ap (λ o. unwrap_or o 0) h.value in
          let all_is : total all ≡ h.pair.1 + total (without_key id all) = total_out id h.pair.1 all h.value in
          omega (arith, whole, all_is, old)
    ]
