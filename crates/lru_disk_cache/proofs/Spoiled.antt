-- What failed inserts left of their temporary files stays, where a step takes none of these.
use Rattle.std.proofs.Common.{◌≡◌, ℕ, ◌+◌, ◌<◌, ◌^◌, Bool, true, false, List, [], ◌∷◌, ◌++◌, Option}
use Rattle.std.proofs.Common.{refl, sym, ap, ◌∙◌, true≢false, append_assoc}
use Rattle.std.specs.Str.{bytes_eq}
use Rattle.std.proofs.lemmas.Slice.Eq.{bytes_eq-Decides}
use Rattle.folders.specs.Files.{Files, front}
use Rattle.folders.specs.Held.{Became}
use Rattle.folders.specs.Changed.{ButAt}
use Rattle.folders.proofs.Became.{became_map, became_same}
use Rattle.listed_files.specs.Key.{is_key, is_temporary, last_behind, names_temporary, temp_name, insert_name}
use Rattle.listed_files.specs.Entries.{Entries}
use Rattle.listed_files.specs.Disk.{AllKeys, ButThese, ButInsert, KeepsSpoiled}
use Rattle.listed_files.proofs.Fills.{temp_avoided}
use Rattle.listed_files.proofs.Paths.{same_front, insert_split, insert_begins_so, insert_is_none, none_differs}
use Rattle.listed_files.proofs.Paths.{inserts_differ, kinds_differ}
use Rattle.lru_disk_cache.proofs.Reserving.{cut, last_is}

-- no insert of a lower number has this path
abbrev pub IsFresh : List ℕ → ℕ → List ℕ → Type 0
IsFresh root spoiled from = (n : ℕ) → n < spoiled → n < 2 ^ 64 → bytes_eq from (root ++ insert_name n) ≡ false

pub fresh_temp : (root from : List ℕ) (m spoiled : ℕ) → from ≡ root ++ temp_name m → m < 2 ^ 64
    → IsFresh root spoiled from
fresh_temp root from m spoiled is below n less fits =
    ap (λ p. bytes_eq p (root ++ insert_name n)) is ∙ kinds_differ root m n below

pub fresh_key : (root path key : List ℕ) (spoiled : ℕ) → path ≡ root ++ key → is_key key ≡ true
    → IsFresh root spoiled path
fresh_key root path key spoiled is fit n less fits =
    ap (λ p. bytes_eq p (root ++ insert_name n)) is
    ∙ (same_front root key (insert_name n) ∙ none_differs (insert_name n) key (insert_is_none n fits) fit)

front_named : (p : List ℕ) (n : ℕ) → n < 2 ^ 64 → names_temporary (front p ++ insert_name n) ≡ true
front_named [] n below = ap (λ parts. is_temporary (last_behind [] parts)) (insert_split n below)
    ∙ insert_begins_so n
front_named (b ∷ bs) n below =
    let w = cut (b ∷ bs) (insert_name n) in
    ap names_temporary (append_assoc (b ∷ bs) (47 ∷ []) (insert_name n))
    ∙ (ap (λ parts. is_temporary (last_behind [] parts))
    (w.2 ∙ ap (λ parts. w.0 ∷ (w.1 ++ parts)) (insert_split n below))
    ∙ (ap is_temporary (last_is w.0 w.1 (insert_name n)) ∙ insert_begins_so n))

pub fresh_named : (path root from : List ℕ) (spoiled : ℕ) → root ≡ front path
    → names_temporary from ≡ false → IsFresh root spoiled from
fresh_named path root from spoiled root_is named n less fits = by (bytes_eq from (root ++ insert_name n)) refl
  where
    by : (b : Bool) → bytes_eq from (root ++ insert_name n) ≡ b → b ≡ false
    by false is = refl
    by true is =
        let same : from ≡ front path ++ insert_name n = (bytes_eq-Decides from (root ++ insert_name n)).0 is
        ∙ ap (λ r. r ++ insert_name n) root_is in
        absurd (true≢false (sym (front_named path n fits) ∙ (ap names_temporary (sym same) ∙ named)))

-- ---- steps

pub none_spoiled : (root : List ℕ) (spoiled : ℕ) (o : Option Files) → Became (KeepsSpoiled root spoiled) o o
none_spoiled root spoiled o = became_same (KeepsSpoiled root spoiled) o (λ f n less fits. refl)

pub at_spoiled : (root from : List ℕ) (spoiled : ℕ) (old new : Option Files) → IsFresh root spoiled from
    → Became (ButAt from) old new → Became (KeepsSpoiled root spoiled) old new
at_spoiled root from spoiled old new fresh but =
    became_map (ButAt from) (KeepsSpoiled root spoiled) old new
    (λ f g h n less fits. h (root ++ insert_name n) (fresh n less fits)) but

pub these_spoiled : (root from path : List ℕ) (es : Entries) (spoiled : ℕ) (old new : Option Files)
    → IsFresh root spoiled from → IsFresh root spoiled path → AllKeys es
    → Became (ButThese root from path es) old new → Became (KeepsSpoiled root spoiled) old new
these_spoiled root from path es spoiled old new fresh other keys but =
    became_map (ButThese root from path es) (KeepsSpoiled root spoiled) old new
    (λ f g h n less fits. h (root ++ insert_name n) (fresh n less fits) (other n less fits)
    (temp_avoided root (root ++ insert_name n) es (insert_name n, insert_is_none n fits, refl) keys)) but

-- ---- an insert takes the name of one number

pub none_inserted : (root : List ℕ) (number : ℕ) (o : Option Files) → Became (ButInsert root number) o o
none_inserted root number o = became_same (ButInsert root number) o (λ f n other fits. refl)

pub these_inserted : (root from path key : List ℕ) (es : Entries) (number : ℕ) (old new : Option Files)
    → from ≡ root ++ insert_name number → number < 2 ^ 64 → path ≡ root ++ key → is_key key ≡ true → AllKeys es
    → Became (ButThese root from path es) old new → Became (ButInsert root number) old new
these_inserted root from path key es number old new is below path_is fit keys but =
    became_map (ButThese root from path es) (ButInsert root number) old new
    (λ f g h n other fits. h (root ++ insert_name n)
    (ap (λ p. bytes_eq p (root ++ insert_name n)) is
    ∙ inserts_differ root number n below fits (λ same. other (sym same)))
    (ap (λ p. bytes_eq p (root ++ insert_name n)) path_is
    ∙ (same_front root key (insert_name n) ∙ none_differs (insert_name n) key (insert_is_none n fits) fit))
    (temp_avoided root (root ++ insert_name n) es (insert_name n, insert_is_none n fits, refl) keys)) but
