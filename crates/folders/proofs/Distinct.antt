-- The paths of a folder's files differ, whatever its calls make of them.
use Rattle.std.proofs.Common.{◌≡◌, ℕ, Bool, true, false, cond, not, List, [], ◌∷◌, ◌++◌, filter, Result, Ok}
use Rattle.std.proofs.Common.{Err, OnOk, OnErr, refl, sym, ◌∙◌, subst, true≢false}
use Rattle.std.specs.List.{AllByRecursion, IsDistinct}
use Rattle.std.specs.Map.{keys_of}
use Rattle.std.specs.Str.{bytes_eq}
use Rattle.std.proofs.lemmas.Slice.Eq.{bytes_eq-Decides}
use Rattle.folders.specs.Files.{Files, without, put}

module _ (P : List ℕ → Type 0) where
  all_filtered : (p : List ℕ × List ℕ → Bool) (files : Files) → AllByRecursion P (keys_of files)
      → AllByRecursion P (keys_of (filter p files))
  all_filtered p [] h = tt
  all_filtered p (f ∷ fs) h =
      elim (p f) as (λ b. AllByRecursion P (keys_of (cond b (f ∷ filter p fs) (filter p fs))))
      [ true ↦ (h.0, all_filtered p fs h.1) | false ↦ all_filtered p fs h.1 ]

  all_end : (files : Files) (f : List ℕ × List ℕ) → AllByRecursion P (keys_of files) → P f.0
      → AllByRecursion P (keys_of (files ++ f ∷ []))
  all_end [] f h last = (last, tt)
  all_end (g ∷ gs) f h last = (h.0, all_end gs f h.1 last)

pub distinct_filtered : (p : List ℕ × List ℕ → Bool) (files : Files) → IsDistinct bytes_eq (keys_of files)
    → IsDistinct bytes_eq (keys_of (filter p files))
unfolding IsDistinct
distinct_filtered p [] h = tt
distinct_filtered p (f ∷ fs) h =
    elim (p f) as (λ b. IsDistinct bytes_eq (keys_of (cond b (f ∷ filter p fs) (filter p fs)))) [
      | true ↦ (all_filtered (λ y. bytes_eq f.0 y ≡ false) p fs h.0, distinct_filtered p fs h.1)
      | false ↦
          distinct_filtered p fs h.1
    ]

distinct_end : (files : Files) (f : List ℕ × List ℕ) → IsDistinct bytes_eq (keys_of files)
    → AllByRecursion (λ y. bytes_eq y f.0 ≡ false) (keys_of files)
    → IsDistinct bytes_eq (keys_of (files ++ f ∷ []))
unfolding IsDistinct
distinct_end [] f h others = (tt, tt)
distinct_end (g ∷ gs) f h others = (
  all_end (λ y. bytes_eq g.0 y ≡ false) gs f h.0 others.0,
  distinct_end gs f h.1 others.1,
)

-- that two texts differ goes both ways
pub apart : (p q : List ℕ) → bytes_eq p q ≡ false → bytes_eq q p ≡ false
apart p q h = by (bytes_eq q p) refl
  where
    by : (b : Bool) → bytes_eq q p ≡ b → b ≡ false
    by true is = absurd (true≢false (sym ((bytes_eq-Decides p q).1 (sym ((bytes_eq-Decides q p).0 is))) ∙ h))
    by false is = refl

all_others : (path : List ℕ) (files : Files) → AllByRecursion (λ y. bytes_eq y path ≡ false)
    (keys_of (without path files))
all_others path [] = tt
all_others path (f ∷ fs) = by (bytes_eq path f.0) refl (all_others path fs)
  where
    by : (b : Bool) → bytes_eq path f.0 ≡ b → AllByRecursion (λ y. bytes_eq y path ≡ false)
        (keys_of (without path fs)) → AllByRecursion (λ y. bytes_eq y path ≡ false)
        (keys_of (cond (not b) (f ∷ without path fs) (without path fs)))
    by true is others = others
    by false is others = (apart path f.0 is, others)

-- they differ still once a file is out
pub without_distinct : (path : List ℕ) (old new : Files) → new ≡ without path old
    → IsDistinct bytes_eq (keys_of old) → IsDistinct bytes_eq (keys_of new)
without_distinct path old new is h =
    subst (λ l. IsDistinct bytes_eq (keys_of l)) (sym is)
    (distinct_filtered (λ f. not (bytes_eq path f.0)) old h)

-- and once one is put
pub put_distinct : (path bytes : List ℕ) (old new : Files) → new ≡ put path bytes old
    → IsDistinct bytes_eq (keys_of old) → IsDistinct bytes_eq (keys_of new)
put_distinct path bytes old new is h =
    subst (λ l. IsDistinct bytes_eq (keys_of l)) (sym is)
    (distinct_end (without path old) (path, bytes)
    (distinct_filtered (λ f. not (bytes_eq path f.0)) old h) (all_others path old))

pub put_from_distinct : (from path bytes : List ℕ) (old new : Files) → new ≡ put path bytes (without from old)
    → IsDistinct bytes_eq (keys_of old) → IsDistinct bytes_eq (keys_of new)
put_from_distinct from path bytes old new is h =
    put_distinct path bytes (without from old) new is (distinct_filtered (λ f. not (bytes_eq from f.0)) old h)

-- whether that is done or not
pub put_tried : {E : Type 0} (path bytes : List ℕ) (old new : Files) (result : Result (Unit {0}) E)
    → OnOk result (new ≡ put path bytes old) → OnErr result (new ≡ old) → IsDistinct bytes_eq (keys_of old)
    → IsDistinct bytes_eq (keys_of new)
put_tried path bytes old new (Ok x) ok err h = put_distinct path bytes old new ok h
put_tried path bytes old new (Err e) ok err h = subst (λ l. IsDistinct bytes_eq (keys_of l)) (sym err) h

pub put_from_tried : {E : Type 0} (from path bytes : List ℕ) (old new : Files) (result : Result (Unit {0}) E)
    → OnOk result (new ≡ put path bytes (without from old)) → OnErr result (new ≡ old)
    → IsDistinct bytes_eq (keys_of old) → IsDistinct bytes_eq (keys_of new)
put_from_tried from path bytes old new (Ok x) ok err h = put_from_distinct from path bytes old new ok h
put_from_tried from path bytes old new (Err e) ok err h = subst (λ l. IsDistinct bytes_eq (keys_of l))
    (sym err) h

-- no file is none twice
pub none_distinct : (files : Files) → files ≡ [] → IsDistinct bytes_eq (keys_of files)
unfolding IsDistinct
none_distinct files is =
    let nothing : Files = [] in
    let none : IsDistinct bytes_eq (keys_of nothing) = tt in
    subst (λ l. IsDistinct bytes_eq (keys_of l)) (sym is) none
