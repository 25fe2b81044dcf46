-- An id in lower case is visible, and is the digest that it says.
use Rattle.std.proofs.Common.{◌≡◌, ℕ, ◌<◌, ◌==◌, true, false, List, [], ◌∷◌, length, map, take, Some, None}
use Rattle.std.proofs.Common.{refl, arith}
use Rattle.std.specs.List.{list_all}
use Rattle.std.specs.Char.{is_ascii_hexdigit, to_ascii_lowercase}
use Rattle.std.proofs.lemmas.Bool.{ne_eqb}
use Rattle.std.proofs.lemmas.Bool.Decides.{nat_tests}
use Rattle.std.proofs.lemmas.List.{take_all}
use Rattle.dist_types.specs.Toolchain.{is_lower_hex, digest_in}
use Rattle.farm_script.specs.Words.{is_visible}
use Rattle.farm_script.proofs.VisibleLemmas.{both}
use Rattle.run_lines.specs.Fields.{archive_at}

one_visible : (b : ℕ) → is_lower_hex b ≡ true → is_visible b ≡ true
one_visible b e = grind (arith, nat_tests)

one_hex : (b : ℕ) → is_lower_hex b ≡ true → is_ascii_hexdigit b ≡ true
one_hex b e = grind (arith, nat_tests)

one_same : (b : ℕ) → is_lower_hex b ≡ true → to_ascii_lowercase b ≡ b
one_same b e = grind (arith, nat_tests)

pub lower_visible : (t : List ℕ) → list_all is_lower_hex t ≡ true → list_all is_visible t ≡ true
lower_visible [] e = refl
lower_visible (b ∷ bs) e =
    let p = both (is_lower_hex b) (list_all is_lower_hex bs) e in
    rw (one_visible b p.0, lower_visible bs p.1) refl

lower_hex : (t : List ℕ) → list_all is_lower_hex t ≡ true → list_all is_ascii_hexdigit t ≡ true
lower_hex [] e = refl
lower_hex (b ∷ bs) e =
    let p = both (is_lower_hex b) (list_all is_lower_hex bs) e in
    rw (one_hex b p.0, lower_hex bs p.1) refl

lower_same : (t : List ℕ) → list_all is_lower_hex t ≡ true → map to_ascii_lowercase t ≡ t
lower_same [] e = refl
lower_same (b ∷ bs) e =
    let p = both (is_lower_hex b) (list_all is_lower_hex bs) e in
    rw (one_same b p.0, lower_same bs p.1) refl

pub lower_digest : (t : List ℕ) → length t ≡ 64 → list_all is_lower_hex t ≡ true → digest_in t ≡ Some t
unfolding digest_in
lower_digest t long e = rw (long, lower_hex t e, lower_same t e) refl

-- a text that is shorter than an id says no archive
pub short_archive : (t : List ℕ) → length t < 64 → archive_at t ≡ None
unfolding archive_at
short_archive t lt =
    let same : take 64 t ≡ t = take_all 64 t (omega (arith, lt)) in
    let short : (length t == 64) ≡ false = ne_eqb (length t) 64 (λ e. absurd (omega (arith, e, lt))) in
    rw (same, short) refl
