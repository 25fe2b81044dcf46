-- What an opening lists, and what stands behind it.
use Rattle.std.proofs.Common.{◌≡◌, ℕ, ◌+◌, ◌≤◌, Bool, true, false, cond, ◌&&◌, nat_le, List, [], ◌∷◌, ◌++◌}
use Rattle.std.proofs.Common.{filter, refl, sym, ap, subst, ◌∙◌, arith, leb-true}
use Rattle.std.specs.List.{AllByRecursion, IsDistinct}
use Rattle.std.specs.Map.{keys_of}
use Rattle.std.specs.Str.{bytes_eq}
use Rattle.folders.specs.Files.{Files, found_behind}
use Rattle.folders.specs.Held.{Held, Holds}
use Rattle.folders.specs.declared.folder.Found.{Found}
use Rattle.listed_files.specs.Key.{is_key}
use Rattle.listed_files.specs.Entries.{Entries, total, trim}
use Rattle.listed_files.specs.Disk.{Stands, Backed, AllKeys}
use Rattle.listed_files.specs.Opened.{keyed, is_kept, kept, opened, listing, InStep, Shows}
use Rattle.listed_files.proofs.Listings.{distinct_listing, backed_listing}

-- ---- what is trimmed fits, and keeps what all have

pub trim_within : (capacity : ℕ) (es : Entries) → total (trim capacity es) ≤ capacity
trim_within capacity [] = omega arith
trim_within capacity (e ∷ es) = by (nat_le (total (e ∷ es)) capacity) refl (trim_within capacity es)
  where
    by : (b : Bool) → nat_le (total (e ∷ es)) capacity ≡ b → total (trim capacity es) ≤ capacity
        → total (cond b (e ∷ es) (trim capacity es)) ≤ capacity
    by true is rest = leb-true (total (e ∷ es)) capacity is
    by false is rest = rest

pub trim_has : (P : Entries → Type 0) → ((e : List ℕ × ℕ) (es : Entries) → P (e ∷ es) → P es)
    → (capacity : ℕ) (es : Entries) → P es → P (trim capacity es)
trim_has P less capacity [] h = h
trim_has P less capacity (e ∷ es) h =
    elim (nat_le (total (e ∷ es)) capacity) as (λ b. P (cond b (e ∷ es) (trim capacity es)))
    [ true ↦ h | false ↦ trim_has P less capacity es (less e es h) ]

keys_kept : (capacity : ℕ) (es : Entries) → AllKeys (filter (is_kept capacity) es)
keys_kept capacity [] = tt
keys_kept capacity (e ∷ es) = by (is_key e.0) (nat_le e.1 capacity) refl (keys_kept capacity es)
  where
    by : (a b : Bool) → is_key e.0 ≡ a → AllKeys (filter (is_kept capacity) es)
        → AllKeys (cond (a && b) (e ∷ filter (is_kept capacity) es) (filter (is_kept capacity) es))
    by true true is rest = (is, rest)
    by true false is rest = rest
    by false b is rest = rest

pub keys_opened : (capacity : ℕ) (es : Entries) → AllKeys (trim capacity (filter (is_kept capacity) es))
keys_opened capacity es = trim_has AllKeys (λ e es h. h.1) capacity (filter (is_kept capacity) es)
    (keys_kept capacity es)

others_kept : (P : List ℕ → Type 0) (test : List ℕ × ℕ → Bool) (es : Entries) → AllByRecursion P (keys_of es)
    → AllByRecursion P (keys_of (filter test es))
others_kept P test [] h = tt
others_kept P test (e ∷ es) h =
    elim (test e) as (λ b. AllByRecursion P (keys_of (cond b (e ∷ filter test es) (filter test es))))
    [ true ↦ (h.0, others_kept P test es h.1) | false ↦ others_kept P test es h.1 ]

distinct_kept : (test : List ℕ × ℕ → Bool) (es : Entries) → IsDistinct bytes_eq (keys_of es)
    → IsDistinct bytes_eq (keys_of (filter test es))
unfolding IsDistinct
distinct_kept test [] h = tt
distinct_kept test (e ∷ es) h =
    elim (test e) as (λ b. IsDistinct bytes_eq (keys_of (cond b (e ∷ filter test es) (filter test es)))) [
      | true ↦ (others_kept (λ k. bytes_eq e.0 k ≡ false) test es h.0, distinct_kept test es h.1)
      | false ↦
          distinct_kept test es h.1
    ]

distinct_less : (e : List ℕ × ℕ) (es : Entries) → IsDistinct bytes_eq (keys_of (e ∷ es))
    → IsDistinct bytes_eq (keys_of es)
unfolding IsDistinct
distinct_less e es h = h.1

distinct_opened : (root : List ℕ) (capacity : ℕ) (files : Files) → IsDistinct bytes_eq (keys_of files)
    → IsDistinct bytes_eq (keys_of (opened root capacity files))
distinct_opened root capacity files h =
    trim_has (λ l. IsDistinct bytes_eq (keys_of l)) distinct_less capacity
    (kept root capacity (found_behind root files))
    (distinct_kept (is_kept capacity) (listing root files) (distinct_listing root files h))

-- ---- the table

-- it is what the files that were told give
pub opens : (root front : List ℕ) (capacity : ℕ) (found : List Found) (good rest entries : Entries)
    (old : Held) → front ≡ root → good ≡ kept root capacity found → rest ≡ trim capacity good
    → (IsDistinct bytes_eq (keys_of rest) → entries ≡ rest)
    → Holds old (λ f. found ≡ found_behind front f) → Holds old (λ f. IsDistinct bytes_eq (keys_of f))
    → Holds old (λ files. entries ≡ opened root capacity files)
opens root front capacity found good rest entries old is good_is rest_is list found_is distinct =
    λ files told.
    let all : rest ≡ opened root capacity files =
    rest_is ∙ (ap (trim capacity) good_is ∙ ap (λ f. trim capacity (kept root capacity f))
    (found_is files told ∙ ap (λ p. found_behind p files) is)) in
    list (subst (λ l. IsDistinct bytes_eq (keys_of l)) (sym all)
    (distinct_opened root capacity files (distinct files told))) ∙ all

keys_rest : (root : List ℕ) (capacity : ℕ) (found : List Found) (good rest : Entries)
    → good ≡ kept root capacity found → rest ≡ trim capacity good → AllKeys rest
keys_rest root capacity found good rest good_is rest_is =
    subst AllKeys (sym (rest_is ∙ ap (trim capacity) good_is)) (keys_opened capacity (keyed root found))

-- each entry has its file
pub opens_stands : (root : List ℕ) (capacity : ℕ) (found : List Found) (good rest entries : Entries)
    (new : Held) → good ≡ kept root capacity found → rest ≡ trim capacity good
    → (IsDistinct bytes_eq (keys_of rest) → entries ≡ rest)
    → (AllKeys rest → AllKeys entries) → Shows root new rest → Stands root new entries
opens_stands root capacity found good rest entries new good_is rest_is list keys shows = record {
  keys = keys (keys_rest root capacity found good rest good_is rest_is);
  backed = λ files told.
      let w = shows files told in
      let same = list (subst (λ l. IsDistinct bytes_eq (keys_of l)) w.1 (distinct_listing root files w.0)) in
      subst (λ l. Backed root files l) (w.1 ∙ sym same) (backed_listing root files w.0);
}

all_keys : (es : Entries) → AllKeys es → filter (λ e. is_key e.0) es ≡ es
all_keys [] h = refl
all_keys (e ∷ es) h =
    ap (λ b. cond b (e ∷ filter (λ x. is_key x.0) es) (filter (λ x. is_key x.0) es)) h.0
    ∙ ap (λ l. e ∷ l) (all_keys es h.1)

-- no other file is left
pub opens_cleared : (root : List ℕ) (rest entries : Entries) (new : Held)
    → (IsDistinct bytes_eq (keys_of rest) → entries ≡ rest) → Shows root new rest → Shows root new entries
opens_cleared root rest entries new list shows = λ files told.
    let w = shows files told in
    let same = list (subst (λ l. IsDistinct bytes_eq (keys_of l)) w.1 (distinct_listing root files w.0)) in
    (w.0, w.1 ∙ sym same)

-- and the list is in step with the files
pub opens_in_step : (root : List ℕ) (capacity : ℕ) (found : List Found) (good rest entries : Entries)
    (new : Held) → good ≡ kept root capacity found → rest ≡ trim capacity good
    → (IsDistinct bytes_eq (keys_of rest) → entries ≡ rest)
    → Shows root new rest → Holds new (λ files. InStep root files entries)
opens_in_step root capacity found good rest entries new good_is rest_is list shows = λ files told.
    let w = shows files told in
    let same = list (subst (λ l. IsDistinct bytes_eq (keys_of l)) w.1 (distinct_listing root files w.0)) in
    ap (filter (λ e. is_key e.0)) w.1
    ∙ (all_keys rest (keys_rest root capacity found good rest good_is rest_is) ∙ sym same)

-- ---- from a table that was empty

pub from_empty : (before rest entries : Entries) → before ≡ []
    → (IsDistinct bytes_eq (keys_of (before ++ rest)) → entries ≡ before ++ rest)
    → IsDistinct bytes_eq (keys_of rest) → entries ≡ rest
from_empty before rest entries empty list distinct =
    list (subst (λ l. IsDistinct bytes_eq (keys_of (l ++ rest))) (sym empty) distinct)
    ∙ ap (λ l. l ++ rest) empty

pub keys_from_empty : (before rest entries : Entries) → before ≡ []
    → (AllKeys before → AllKeys rest → AllKeys entries) → AllKeys rest → AllKeys entries
keys_from_empty before rest entries empty keys h =
    let none : AllKeys [] = tt in
    keys (subst AllKeys (sym empty) none) h

pub kept_from_empty : (root : List ℕ) (capacity : ℕ) (found same : List Found) (before good : Entries)
    → before ≡ [] → same ≡ found → good ≡ before ++ kept root capacity same → good ≡ kept root capacity found
kept_from_empty root capacity found same before good empty is list =
    list ∙ (ap (λ l. l ++ kept root capacity same) empty ∙ ap (kept root capacity) is)

pub room_in_empty : (before rest good : Entries) (capacity most : ℕ) → before ≡ [] → most ≡ capacity
    → rest ≡ trim capacity good → total before + total rest ≤ most
room_in_empty before rest good capacity most empty is rest_is =
    omega (arith, ap total empty, is, ap total rest_is, trim_within capacity good)
