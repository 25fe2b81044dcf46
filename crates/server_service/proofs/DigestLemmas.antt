-- Archives of one id have one SHA-256.
use Rattle.std.proofs.Common.{◌≡◌, ℕ, zero, suc, ◌<◌, ◌/◌, ◌%◌, ◌^◌, List, [], ◌∷◌, ◌++◌, slice_index, sym, ap}
use Rattle.std.proofs.Common.{Result, Ok, ◌∙◌, arith}
use Rattle.std.specs.Int.{byte_at, bytes_high_first, to_be_bytes, w32}
use Rattle.std.specs.List.{AllByRecursion}
use Rattle.hex.specs.Hex.{IsBytes, decode_of}
use Rattle.hex.specs.declared.error.FromHexError.{FromHexError}
use Rattle.hex.proofs.HexLemmas.{decode_of-encode_lower}
use Rattle.sha2.specs.Sha256.{sha256, digest_bytes, final_hash, initial_hash_256}
use Rattle.toolchain_cache.specs.Archives.{id_of}

abbrev Bytes : List ℕ → Type 0
Bytes bs = AllByRecursion (λ b. b < 256) bs

mod_below : (m : ℕ) → m % 256 < 256
mod_below m = omega arith

each_below : (i n : ℕ) → byte_at i n < 256
each_below zero n = mod_below n
each_below (suc i) n = mod_below (n / 256 ^ suc i)

bytes_high : (k n : ℕ) → Bytes (bytes_high_first k n)
bytes_high zero n = tt
bytes_high (suc k) n = (each_below k n, bytes_high k n)

bytes_both : (xs ys : List ℕ) → Bytes xs → Bytes ys → Bytes (xs ++ ys)
bytes_both [] ys h g = g
bytes_both (x ∷ xs) ys h g = (h.0, bytes_both xs ys h.1 g)

bytes_digest : (h : List ℕ) (n : ℕ) → Bytes (digest_bytes h n)
unfolding digest_bytes
bytes_digest h zero = tt
bytes_digest h (suc n) = bytes_both (digest_bytes h n) (to_be_bytes w32 (slice_index h n)) (bytes_digest h n)
    (bytes_high 4 (slice_index h n))

bytes_sha : (m : List ℕ) → Bytes (sha256 m)
unfolding sha256
bytes_sha m = bytes_digest (final_hash initial_hash_256 m) 8

each_byte : (bs : List ℕ) → Bytes bs → IsBytes bs
each_byte [] h i = omega arith
each_byte (b ∷ bs) h zero = h.0
each_byte (b ∷ bs) h (suc i) = each_byte bs h.1 i

ok_same : (x y : List ℕ) → ◌≡◌ {A = Result (List ℕ) FromHexError} (Ok x) (Ok y) → x ≡ y
ok_same x y is = cc is

pub same_digest : (x y : List ℕ) → id_of x ≡ id_of y → sha256 x ≡ sha256 y
unfolding id_of
same_digest x y is = ok_same (sha256 x) (sha256 y)
    (sym (decode_of-encode_lower (sha256 x) (each_byte (sha256 x) (bytes_sha x)))
    ∙ (ap decode_of is ∙ decode_of-encode_lower (sha256 y) (each_byte (sha256 y) (bytes_sha y))))
