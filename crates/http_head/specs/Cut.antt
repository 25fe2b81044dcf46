-- Which bytes of a connection are taken as its request.
use Rattle.std.specs.Prelude.{◌≡◌, ◌⊎◌, ℕ, ◌+◌, ◌<◌, List, ◌++◌, length, take, true, false}
use Rattle.http_head.specs.Head.{IsHead}
use Rattle.http_head.specs.Stop.{stop_of, is_stop}

-- Where the stop is one head, the stop and as many bytes as the head says, or fewer where the bytes end; else
-- the stop.
abbrev pub IsCut : List ℕ → List ℕ → Type 0
IsCut bytes cut =
    ((n : ℕ) × IsHead (stop_of bytes) n × (cut ≡ take (length (stop_of bytes) + n) bytes))
    ⊎ (((n : ℕ) → ¬ (IsHead (stop_of bytes) n)) × (cut ≡ stop_of bytes))

-- the front begins the bytes
abbrev pub Begins : List ℕ → List ℕ → Type 0
Begins front bytes = (rest : List ℕ) × (bytes ≡ front ++ rest)

-- The stop, in other words: it begins the bytes, no shorter front of them is a stop, and it is one or is all
-- of them.
pub record IsShortest (bytes stop : List ℕ) : Type 0 where
  pub begins : Begins stop bytes
  pub ends : (is_stop stop ≡ true) ⊎ (stop ≡ bytes)
  pub first : (front rest : List ℕ) → bytes ≡ front ++ rest → length front < length stop
      → is_stop front ≡ false
