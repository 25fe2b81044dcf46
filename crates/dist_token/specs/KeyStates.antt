-- The two hash states of a key.
use Rattle.std.specs.Prelude.{ℕ, List}
use Rattle.sha2.specs.Hashers.{Holds256}
use Rattle.sha2.specs.declared.Sha256.{Sha256}
use Rattle.dist_token.specs.Mac.{key_block, with_pad}

-- one has taken in the key's block under the inner pad, the other under the outer one
abbrev pub AreStatesOf : List ℕ → Sha256 → Sha256 → Type 0
AreStatesOf key inner outer = Holds256 inner (with_pad 0x36 (key_block key))
    × Holds256 outer (with_pad 0x5c (key_block key))
