-- Keys that are no archive's, and what is listed without them.
use Rattle.std.proofs.Common.{◌≡◌, ℕ, Bool, true, false, cond, ◌&&◌, ◌==◌, List, [], ◌∷◌, ◌++◌, length}
use Rattle.std.proofs.Common.{Option, Some, None, Result, Ok, Err, OnOk, refl, sym, ap}
use Rattle.std.proofs.Common.{◌∙◌, true≢false, arith}
use Rattle.std.proofs.lemmas.Bool.{eqb-true}
use Rattle.std.specs.List.{AllByRecursion}
use Rattle.std.specs.Str.{bytes_eq}
use Rattle.std.proofs.lemmas.Slice.Eq.{bytes_eq-Decides}
use Rattle.folders.specs.Files.{Files}
use Rattle.folders.specs.Held.{Held, Holds}
use Rattle.listed_files.specs.Entries.{Entries}
use Rattle.listed_files.specs.Disk.{without_key}
use Rattle.dist_types.specs.declared.cache_error.Error.{Error}
use Rattle.toolchain_cache.specs.Cleaned.{is_archive_key, are_archive_keys, other_keys, without_keys}

-- ---- those that are none's

pub none_other : (es : Entries) → other_keys es ≡ [] → are_archive_keys es ≡ true
none_other [] h = refl
none_other (e ∷ es) h = by (is_archive_key e.0) refl h (none_other es)
  where
    by : (b : Bool) → is_archive_key e.0 ≡ b → cond b [] (e.0 ∷ []) ++ other_keys es ≡ []
        → (other_keys es ≡ [] → are_archive_keys es ≡ true) → (is_archive_key e.0 && are_archive_keys es) ≡ true
    by true is none rest = ap (λ b. b && are_archive_keys es) is ∙ rest none
    by false is none rest = absurd (omega (arith, ap length none))

pub all_archives : (es : Entries) → are_archive_keys es ≡ true → other_keys es ≡ []
all_archives [] h = refl
all_archives (e ∷ es) h = by (is_archive_key e.0) refl h (all_archives es)
  where
    by : (b : Bool) → is_archive_key e.0 ≡ b → (is_archive_key e.0 && are_archive_keys es) ≡ true
        → (are_archive_keys es ≡ true → other_keys es ≡ []) → cond b [] (e.0 ∷ []) ++ other_keys es ≡ []
    by true is all rest = rest (sym (ap (λ b. b && are_archive_keys es) is) ∙ all)
    by false is all rest = absurd (true≢false (sym all ∙ ap (λ b. b && are_archive_keys es) is))

no_length : {A : Type 0} (xs : List A) → (length xs == 0) ≡ true → xs ≡ []
no_length [] h = refl
no_length (x ∷ xs) h = absurd (omega (arith, eqb-true (length (x ∷ xs)) 0 h))

pub none_at : (es : Entries) (others : List (List ℕ)) → others ≡ other_keys es → (length others == 0) ≡ true
    → are_archive_keys es ≡ true
none_at es others is none = none_other es (sym is ∙ no_length others none)

-- where there is one, no files are told
pub not_told : (held : Held) (es : Entries) (others : List (List ℕ))
    → Holds held (λ files. are_archive_keys es ≡ true) → others ≡ other_keys es
    → (length others == 0) ≡ false → held.files ≡ None
not_told held es others all is some = by held.files refl
  where
    by : (o : Option Files) → held.files ≡ o → o ≡ None
    by None told = refl
    by (Some f) told = absurd (true≢false (ap (λ l. length l == 0)
        (sym (is ∙ all_archives es (all f told))) ∙ some))

-- ---- what is listed without them

other_differs : (k q : List ℕ) → is_archive_key k ≡ false → is_archive_key q ≡ true → bytes_eq k q ≡ false
other_differs k q wrong fit = by (bytes_eq k q) refl
  where
    by : (b : Bool) → bytes_eq k q ≡ b → b ≡ false
    by false is = refl
    by true is = absurd (true≢false (sym fit ∙ (ap is_archive_key (sym ((bytes_eq-Decides k q).0 is)) ∙ wrong)))

abbrev AllOther : List (List ℕ) → Type 0
AllOther ks = AllByRecursion (λ k. is_archive_key k ≡ false) ks

all_other : (es : Entries) → AllOther (other_keys es)
all_other [] = tt
all_other (e ∷ es) = by (is_archive_key e.0) refl (all_other es)
  where
    by : (b : Bool) → is_archive_key e.0 ≡ b → AllOther (other_keys es)
        → AllOther (cond b [] (e.0 ∷ []) ++ other_keys es)
    by true is rest = rest
    by false is rest = (is, rest)

keep_first : (e : List ℕ × ℕ) (ks : List (List ℕ)) (es : Entries) → is_archive_key e.0 ≡ true → AllOther ks
    → without_keys ks (e ∷ es) ≡ e ∷ without_keys ks es
keep_first e [] es fit h = refl
keep_first e (k ∷ ks) es fit h =
    ap (λ b. without_keys ks (cond b es (e ∷ without_key k es))) (other_differs k e.0 h.0 fit)
    ∙ keep_first e ks (without_key k es) fit h.1

pub cleared : (es : Entries) → are_archive_keys (without_keys (other_keys es) es) ≡ true
cleared [] = refl
cleared (e ∷ es) = by (is_archive_key e.0) refl (cleared es)
  where
    by : (b : Bool) → is_archive_key e.0 ≡ b → are_archive_keys (without_keys (other_keys es) es) ≡ true
        → are_archive_keys (without_keys (cond b [] (e.0 ∷ []) ++ other_keys es) (e ∷ es)) ≡ true
    by true is rest =
        ap are_archive_keys (keep_first e (other_keys es) es is (all_other es))
        ∙ (ap (λ b. b && are_archive_keys (without_keys (other_keys es) es)) is ∙ rest)
    by false is rest =
        ap (λ b. are_archive_keys (without_keys (other_keys es) (cond b es (e ∷ without_key e.0 es))))
        ((bytes_eq-Decides e.0 e.0).1 refl) ∙ rest

pub cleared_ok : (es left : Entries) (others : List (List ℕ)) (result : Result (Unit {0}) Error)
    → others ≡ other_keys es → OnOk result (left ≡ without_keys others es)
    → OnOk result (are_archive_keys left ≡ true)
cleared_ok es left others (Ok x) is h =
    ap are_archive_keys h ∙ (ap (λ ks. are_archive_keys (without_keys ks es)) is ∙ cleared es)
cleared_ok es left others (Err e) is h = tt
