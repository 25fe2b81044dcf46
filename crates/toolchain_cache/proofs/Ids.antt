-- The SHA-256 of anything, in lower-case hex, is an id.
use Rattle.std.proofs.Common.{◌≡◌, ℕ, zero, suc, ◌*◌, ◌^◌, ◌<◌, ◌/◌, ◌%◌, ◌==◌, ◌&&◌, true, List, [], ◌∷◌}
use Rattle.std.proofs.Common.{◌++◌, length, slice_index, refl, ap, ◌∙◌, arith}
use Rattle.std.specs.Int.{byte_at, bytes_high_first, to_be_bytes, w32}
use Rattle.std.specs.List.{list_all, AllByRecursion}
use Rattle.hex.specs.Hex.{encode_with, lower_digits}
use Rattle.sha2.specs.Sha256.{sha256, digest_bytes, final_hash, initial_hash_256}
use Rattle.sha2.proofs.Facts256.{length-sha256}
use Rattle.dist_types.specs.Toolchain.{is_lower_hex}
use Rattle.toolchain_cache.specs.Archives.{id_of, is_id, archive_key}

abbrev Bytes : List ℕ → Type 0
Bytes bs = AllByRecursion (λ b. b < 256) bs

mod_below : (m : ℕ) → m % 256 < 256
mod_below m = omega arith

each_below : (i n : ℕ) → byte_at i n < 256
each_below zero n = mod_below n
each_below (suc i) n = mod_below (n / 256 ^ suc i)

bytes_high : (k n : ℕ) → Bytes (bytes_high_first k n)
bytes_high zero n = tt
bytes_high (suc k) n = (each_below k n, bytes_high k n)

bytes_both : (xs ys : List ℕ) → Bytes xs → Bytes ys → Bytes (xs ++ ys)
bytes_both [] ys h g = g
bytes_both (x ∷ xs) ys h g = (h.0, bytes_both xs ys h.1 g)

bytes_digest : (h : List ℕ) (n : ℕ) → Bytes (digest_bytes h n)
unfolding digest_bytes
bytes_digest h zero = tt
bytes_digest h (suc n) = bytes_both (digest_bytes h n) (to_be_bytes w32 (slice_index h n)) (bytes_digest h n)
    (bytes_high 4 (slice_index h n))

bytes_sha : (m : List ℕ) → Bytes (sha256 m)
unfolding sha256
bytes_sha m = bytes_digest (final_hash initial_hash_256 m) 8

at_index : (P : ℕ → Type 0) (xs : List ℕ) (k : ℕ) → AllByRecursion P xs → k < length xs → P (slice_index xs k)
at_index P [] k h below = absurd (omega (arith, below))
at_index P (x ∷ xs) zero h below = h.0
at_index P (x ∷ xs) (suc k) h below = at_index P xs k h.1 (omega (arith, below))

digits_hex : AllByRecursion (λ d. is_lower_hex d ≡ true) lower_digits
digits_hex = (
  refl,
  (
    refl,
    (
      refl,
      (
        refl,
        (
          refl,
          (
            refl,
            (refl, (refl, (refl, (refl, (refl, (refl, (refl, (refl, (refl, (refl, tt)))))))))),
          ),
        ),
      ),
    ),
  ),
)

hex_digit : (k : ℕ) → k < 16 → is_lower_hex (slice_index lower_digits k) ≡ true
hex_digit k below = at_index (λ d. is_lower_hex d ≡ true) lower_digits k digits_hex below

high_below : (b : ℕ) → b < 256 → b / 16 < 16
high_below b below = omega (arith, below)

low_below : (b : ℕ) → b % 16 < 16
low_below b = omega arith

encoded_hex : (bs : List ℕ) → Bytes bs → list_all is_lower_hex (encode_with lower_digits bs) ≡ true
unfolding encode_with
encoded_hex [] h = refl
encoded_hex (b ∷ bs) h =
    λ i. hex_digit (b / 16) (high_below b h.0) i
    && (hex_digit (b % 16) (low_below b) i && encoded_hex bs h.1 i)

encoded_long : (bs : List ℕ) → length (encode_with lower_digits bs) ≡ 2 * length bs
unfolding encode_with
encoded_long [] = refl
encoded_long (b ∷ bs) = omega (arith, encoded_long bs)

pub id_length : (m : List ℕ) → length (id_of m) ≡ 64
unfolding id_of
id_length m = encoded_long (sha256 m) ∙ ap (λ n. 2 * n) (length-sha256 m)

id_hex : (m : List ℕ) → list_all is_lower_hex (id_of m) ≡ true
unfolding id_of
id_hex m = encoded_hex (sha256 m) (bytes_sha m)

pub digest_is_id : (m : List ℕ) → is_id (id_of m) ≡ true
digest_is_id m = λ i. (id_length m i == 64) && id_hex m i

pub key_length : (id : List ℕ) → length id ≡ 64 → length (archive_key id) ≡ 68
unfolding archive_key
key_length [] long = absurd (omega (arith, long))
key_length (a ∷ []) long = absurd (omega (arith, long))
key_length (a ∷ b ∷ rest) long = omega (arith, long)
