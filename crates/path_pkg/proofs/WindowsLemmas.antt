-- What Windows paths begin with.
use Rattle.std.proofs.Common.{◌≡◌, ℕ, zero, suc, ◌+◌, ◌<◌, List, [], ◌∷◌, ◌++◌, slice_index, Bool, true}
use Rattle.std.proofs.Common.{false, ◌&&◌, ◌==◌, if◌then◌else◌, refl, sym, ap, ◌∙◌, append_assoc, arith}
use Rattle.std.specs.List.{list_any}
use Rattle.std.proofs.lemmas.List.{append-nil}
use Rattle.path_pkg.specs.Written.{Entry}
use Rattle.std.specs.Char.{is_ascii_alphabetic}
use Rattle.std.proofs.lemmas.Bool.Decides.{nat_tests}
use Rattle.path_pkg.specs.Windows.{is_separator, is_plain, is_verbatim, is_on_plain, is_on_verbatim}
use Rattle.path_pkg.specs.Windows.{disk_text, letters_from, plain_mappings, verbatim_mappings}

and_last : (a b : Bool) → (a && b) ≡ true → b ≡ true
and_last true b h = h
and_last false b h = absurd (cc)

and_first : (a b : Bool) → (a && b) ≡ true → a ≡ true
and_first true b h = refl
and_first false b h = absurd (cc)

separator_ascii : (b : ℕ) → is_separator b ≡ true → b < 128
separator_ascii b h = grind (arith, nat_tests)

backslash_ascii : (b : ℕ) → (b == 92) ≡ true → b < 128
backslash_ascii b h = grind (arith, nat_tests)

pub plain_ascii : (path : List ℕ) → is_plain path ≡ true → slice_index path 2 < 128
unfolding is_plain
plain_ascii path h = separator_ascii (slice_index path 2) (and_last _ _ h)

pub plain_letter : (path : List ℕ) → is_plain path ≡ true → is_ascii_alphabetic (slice_index path 0) ≡ true
unfolding is_plain
plain_letter path h = and_first _ _ (and_first _ _ h)

pub verbatim_ascii : (path : List ℕ) → is_verbatim path ≡ true → slice_index path 6 < 128
unfolding is_verbatim
verbatim_ascii path h = backslash_ascii (slice_index path 6) (and_last _ _ h)

pub verbatim_letter : (path : List ℕ) → is_verbatim path ≡ true
    → is_ascii_alphabetic (slice_index path 4) ≡ true
unfolding is_verbatim
verbatim_letter path h = and_last _ _ (and_first _ _ (and_first _ _ h))

pub next_letter : (x y n m : ℕ) → n ≡ m + 1 → y ≡ x + 1 → letters_from x n ≡ x ∷ letters_from y m
unfolding letters_from
next_letter x y zero m e ey = absurd (omega arith)
next_letter x y (suc n) m e ey = let same : n ≡ m = omega arith in ap (λ k. x ∷ letters_from (x + 1) k) same
    ∙ ap (λ k. x ∷ letters_from k m) (sym ey)

pub no_letter : (x n : ℕ) → n ≡ 0 → letters_from x n ≡ []
unfolding letters_from
no_letter x zero e = refl
no_letter x (suc n) e = absurd (omega arith)

-- one letter more
pub plain_more : (mapped pairs new total : List Entry) (x n m : ℕ) → n ≡ m + 1
    → new ≡ pairs ++ plain_mappings mapped (x ∷ [])
    → pairs ++ plain_mappings mapped (letters_from x n) ≡ total
    → new ++ plain_mappings mapped (letters_from (x + 1) m) ≡ total
plain_more mapped pairs new total x n m e made so_far =
    let rest : List Entry = plain_mappings mapped (letters_from (x + 1) m) in
    let all : plain_mappings mapped (letters_from x n) ≡ plain_mappings mapped (x ∷ letters_from (x + 1) m) =
    ap (plain_mappings mapped) (next_letter x (x + 1) n m e refl) in
    let one : plain_mappings mapped (x ∷ []) ≡ (if list_any (λ f. is_on_plain x f.1) mapped
    then (x ∷ 58 ∷ [], disk_text x) ∷ [] else []) = append-nil _ in
    ap (λ l. l ++ rest) (made ∙ ap (λ l. pairs ++ l) one) ∙ append_assoc pairs _ rest
    ∙ ap (λ l. pairs ++ l) (sym all) ∙ so_far

pub verbatim_more : (mapped pairs new total : List Entry) (x n m : ℕ) → n ≡ m + 1
    → new ≡ pairs ++ verbatim_mappings mapped (x ∷ [])
    → pairs ++ verbatim_mappings mapped (letters_from x n) ≡ total → new ++ verbatim_mappings mapped
    (letters_from (x + 1) m) ≡ total
verbatim_more mapped pairs new total x n m e made so_far =
    let rest : List Entry = verbatim_mappings mapped (letters_from (x + 1) m) in
    let all : verbatim_mappings mapped (letters_from x n) ≡ verbatim_mappings mapped
    (x ∷ letters_from (x + 1) m) = ap (verbatim_mappings mapped) (next_letter x (x + 1) n m e refl) in
    let one : verbatim_mappings mapped (x ∷ []) ≡ (if list_any (λ f. is_on_verbatim x f.1) mapped
    then (92 ∷ 92 ∷ 63 ∷ 92 ∷ x ∷ 58 ∷ [], disk_text x) ∷ [] else []) = append-nil _ in
    ap (λ l. l ++ rest) (made ∙ ap (λ l. pairs ++ l) one) ∙ append_assoc pairs _ rest
    ∙ ap (λ l. pairs ++ l) (sym all) ∙ so_far

pub plain_done : (mapped pairs total : List Entry) (x n : ℕ) → n ≡ 0 → pairs ++ plain_mappings mapped
    (letters_from x n) ≡ total → pairs ≡ total
plain_done mapped pairs total x n e so_far =
    sym (append-nil pairs) ∙ ap (λ l. pairs ++ plain_mappings mapped l) (sym (no_letter x n e)) ∙ so_far

pub verbatim_done : (mapped pairs total : List Entry) (x n : ℕ) → n ≡ 0 → pairs ++ verbatim_mappings mapped
    (letters_from x n) ≡ total → pairs ≡ total
verbatim_done mapped pairs total x n e so_far =
    sym (append-nil pairs) ∙ ap (λ l. pairs ++ verbatim_mappings mapped l) (sym (no_letter x n e)) ∙ so_far
