-- The keys of archives.
use Rattle.std.proofs.Common.{◌≡◌, ◌==◌, ℕ, List, [], ◌∷◌, true, Some, Result, Ok, Err, is_ok, length, map}
use Rattle.std.proofs.Common.{refl, sym, ap, ◌∙◌, true≢false, arith}
use Rattle.std.specs.Option.{ok_or}
use Rattle.std.specs.Char.{is_ascii_hexdigit, to_ascii_lowercase}
use Rattle.std.specs.List.{list_all}
use Rattle.std.specs.Str.{IsUtf8}
use Rattle.std.proofs.lemmas.Bool.Decides.{nat_tests}
use Rattle.dist_types.specs.Toolchain.{is_lower_hex, digest_in}
use Rattle.dist_types.proofs.ToolchainLemmas.{lower_is_text}
use Rattle.toolchain_cache.specs.Archives.{is_id}
use Rattle.toolchain_cache.specs.Keyed.{id_in, IsArchiveKey}

pub id_digits : (id : List ℕ) → is_id id ≡ true → list_all is_lower_hex id ≡ true
id_digits id h = grind (arith, nat_tests)

pub id_long : (id : List ℕ) → is_id id ≡ true → length id ≡ 64
id_long id h = grind (arith, nat_tests)

pub id_is_text : (key : List ℕ) → IsArchiveKey key → IsUtf8 (id_in key)
id_is_text key h = lower_is_text (id_in key) (id_digits (id_in key) h.id)

lower_is_hex : (ds : List ℕ) → list_all is_lower_hex ds ≡ true → list_all is_ascii_hexdigit ds ≡ true
lower_is_hex [] h = refl
lower_is_hex (d ∷ ds) h =
    let this : is_ascii_hexdigit d ≡ true = grind (arith, nat_tests) in
    let later : list_all is_lower_hex ds ≡ true = grind (arith, nat_tests) in
    rw (this, lower_is_hex ds later) refl

lower_stays : (ds : List ℕ) → list_all is_lower_hex ds ≡ true → map to_ascii_lowercase ds ≡ ds
lower_stays [] h = refl
lower_stays (d ∷ ds) h =
    let this : to_ascii_lowercase d ≡ d = grind (arith, nat_tests) in
    let later : list_all is_lower_hex ds ≡ true = grind (arith, nat_tests) in
    λ i. this i ∷ lower_stays ds later i

-- an id says itself
pub digest_of_id : (id : List ℕ) → is_id id ≡ true → digest_in id ≡ Some id
unfolding digest_in
digest_of_id id h =
    let long : (length id == 64) ≡ true = grind (arith, nat_tests) in
    rw (long, lower_is_hex id (id_digits id h)) (ap Some (lower_stays id (id_digits id h)))

pub id_said : (key : List ℕ) → IsArchiveKey key → digest_in (id_in key) ≡ Some (id_in key)
id_said key h = digest_of_id (id_in key) h.id

-- it makes a toolchain, whatever its refusal would be
pub id_made : {E : Type 0} (id text : List ℕ) (bad : E) (result : Result (List ℕ) E)
    → result ≡ ok_or (digest_in text) bad → text ≡ id → digest_in id ≡ Some id → result ≡ Ok id
id_made id text bad result is same said = is
    ∙ (ap (λ t. ok_or (digest_in t) bad) same ∙ ap (λ o. ok_or o bad) said)

pub none_refused : {E : Type 0} (id text : List ℕ) (bad e : E) (result : Result (List ℕ) E)
    → result ≡ ok_or (digest_in text) bad → text ≡ id → digest_in id ≡ Some id → result ≡ Err e → ⊥
none_refused id text bad e result is same said err =
    true≢false (ap is_ok (sym (id_made id text bad result is same said) ∙ err))

pub id_given : {E : Type 0} (id text tc : List ℕ) (bad : E) (result : Result (List ℕ) E)
    → result ≡ ok_or (digest_in text) bad → text ≡ id → digest_in id ≡ Some id → result ≡ Ok tc → tc ≡ id
id_given id text tc bad result is same said ok =
    let both : Ok tc ≡ Ok id = sym ok ∙ id_made id text bad result is same said in cc
