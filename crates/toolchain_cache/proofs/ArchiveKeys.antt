-- The key of an archive is a key.
use Rattle.std.proofs.Common.{◌≡◌, ℕ, ◌==◌, ◌&&◌, true, false, not, List, [], ◌∷◌, refl, ap, ◌∙◌, arith}
use Rattle.std.specs.List.{list_all, list_any, slice_split, onto_first}
use Rattle.std.proofs.lemmas.Bool.Decides.{nat_tests}
use Rattle.std.proofs.lemmas.List.Splits.{slice_split-cons_no}
use Rattle.dist_types.specs.Toolchain.{is_lower_hex}
use Rattle.listed_files.specs.Key.{is_key, are_key, is_temporary}
use Rattle.folders.specs.Plain.{is_plain}
use Rattle.toolchain_cache.specs.Archives.{is_id, archive_key}
use Rattle.toolchain_cache.proofs.KeyLemmas.{id_digits, id_long}

first_hex : (d : ℕ) (ds : List ℕ) → list_all is_lower_hex (d ∷ ds) ≡ true → is_lower_hex d ≡ true
first_hex d ds h = grind (arith, nat_tests)

rest_hex : (d : ℕ) (ds : List ℕ) → list_all is_lower_hex (d ∷ ds) ≡ true → list_all is_lower_hex ds ≡ true
rest_hex d ds h = grind (arith, nat_tests)

no_slash : (d : ℕ) → is_lower_hex d ≡ true → (d == 47) ≡ false
no_slash d h = grind (arith, nat_tests)

no_dot : (d : ℕ) → is_lower_hex d ≡ true → (d == 46) ≡ false
no_dot d h = grind (arith, nat_tests)

no_nul : (d : ℕ) → is_lower_hex d ≡ true → (d == 0) ≡ false
no_nul d h = grind (arith, nat_tests)

hex_split : (ds : List ℕ) → list_all is_lower_hex ds ≡ true → slice_split (λ b. b == 47) ds ≡ ds ∷ []
hex_split [] h = refl
hex_split (d ∷ ds) h =
    slice_split-cons_no (λ b. b == 47) d ds (no_slash d (first_hex d ds h))
    ∙ ap (onto_first d) (hex_split ds (rest_hex d ds h))

none_nul : (ds : List ℕ) → list_all is_lower_hex ds ≡ true → list_any (λ b. b == 0) ds ≡ false
none_nul [] h = refl
none_nul (d ∷ ds) h =
    let this = no_nul d (first_hex d ds h) in
    rw (this, none_nul ds (rest_hex d ds h)) refl

hex_plain : (d : ℕ) (ds : List ℕ) → list_all is_lower_hex (d ∷ ds) ≡ true → is_plain (d ∷ ds) ≡ true
unfolding is_plain
hex_plain d ds h =
    let dot = no_dot d (first_hex d ds h) in
    let nul = none_nul (d ∷ ds) h in
    rw (dot, nul) refl

hex_lasting : (d : ℕ) (ds : List ℕ) → list_all is_lower_hex (d ∷ ds) ≡ true → is_temporary (d ∷ ds) ≡ false
unfolding is_temporary
hex_lasting d ds h =
    let dot : (46 == d) ≡ false = grind (arith, nat_tests) in
    rw dot refl

one_hex : (d : ℕ) (ds : List ℕ) → list_all is_lower_hex (d ∷ ds) ≡ true
    → list_all is_lower_hex (d ∷ []) ≡ true
one_hex d ds h = rw (first_hex d ds h) refl

key_split : (a b : ℕ) (rest : List ℕ) → list_all is_lower_hex (a ∷ b ∷ rest) ≡ true
    → slice_split (λ c. c == 47) (archive_key (a ∷ b ∷ rest)) ≡ (a ∷ []) ∷ (b ∷ []) ∷ (a ∷ b ∷ rest) ∷ []
unfolding archive_key
key_split a b rest h =
    let second = rest_hex a (b ∷ rest) h in
    slice_split-cons_no (λ c. c == 47) a (47 ∷ b ∷ 47 ∷ a ∷ b ∷ rest) (no_slash a (first_hex a (b ∷ rest) h))
    ∙ ap (λ l. onto_first a ([] ∷ l))
    (slice_split-cons_no (λ c. c == 47) b (47 ∷ a ∷ b ∷ rest) (no_slash b (first_hex b rest second))
    ∙ ap (λ l. onto_first b ([] ∷ l)) (hex_split (a ∷ b ∷ rest) h))

keys : (a b : ℕ) (rest : List ℕ) → list_all is_lower_hex (a ∷ b ∷ rest) ≡ true
    → is_key (archive_key (a ∷ b ∷ rest)) ≡ true
unfolding is_key
keys a b rest h =
    let second = rest_hex a (b ∷ rest) h in
    ap are_key (key_split a b rest h)
    ∙ (λ i. (hex_plain a [] (one_hex a (b ∷ rest) h) i
    && (hex_plain b [] (one_hex b rest second) i && (hex_plain a (b ∷ rest) h i && true)))
    && not (hex_lasting a (b ∷ rest) h i))

pub id_is_key : (id : List ℕ) → is_id id ≡ true → is_key (archive_key id) ≡ true
id_is_key [] fit = let long = id_long [] fit in absurd (omega (arith, long))
id_is_key (a ∷ []) fit = let long = id_long (a ∷ []) fit in absurd (omega (arith, long))
id_is_key (a ∷ b ∷ rest) fit = keys a b rest (id_digits (a ∷ b ∷ rest) fit)
