-- The keyed hash of RFC 2104 over SHA-256 (FIPS 180-4).
use Rattle.std.specs.Prelude.{ℕ, ◌-◌, nat_lt, if◌then◌else◌, List, ◌++◌, map, length, replicate, bit_xor}
use Rattle.sha2.specs.Sha256.{sha256}

-- the key, or its digest where it is longer than a block
abbrev pub short_key : List ℕ → List ℕ
short_key key = if nat_lt 64 (length key) then sha256 key else key

-- with zeros up to a block of 64 bytes
abbrev pub key_block : List ℕ → List ℕ
key_block key = short_key key ++ replicate (64 - length (short_key key)) 0

-- each byte of a block with the pad
abbrev pub with_pad : ℕ → List ℕ → List ℕ
with_pad pad block = map (λ byte. bit_xor byte pad) block

-- the MAC of a text under a key
unfoldable pub hmac_of : List ℕ → List ℕ → List ℕ
hmac_of key text = sha256 (with_pad 0x5c (key_block key) ++ sha256 (with_pad 0x36 (key_block key) ++ text))
