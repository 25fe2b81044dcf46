-- Values under keys, by what is at each key.
use Rattle.std.specs.Prelude.{◌≡◌, ℕ, List, Bool, Option, if◌then◌else◌}
use Rattle.std.specs.Map.{lookup}

-- What contracts see: the entries, and how many more go in without memory.
pub record Looked (K V : Type 0) : Type 0 where
  pub entries : List (K × V)
  pub spare : ℕ

-- what is at a key
abbrev pub value_at : {K V : Type 0} → (K → K → Bool) → K → List (K × V) → Option V
value_at eq key entries = lookup (eq key) entries

-- each key has what it had
abbrev pub HaveSame : {K V : Type 0} → (K → K → Bool) → List (K × V) → List (K × V) → Type 0
HaveSame {K} eq old new = (q : K) → value_at eq q new ≡ value_at eq q old

-- the key has that, or nothing, and each other key what it had
abbrev pub Puts : {K V : Type 0} → (K → K → Bool) → K → Option V → List (K × V) → List (K × V) → Type 0
Puts {K} eq key value old new =
    (q : K) → value_at eq q new ≡ (if eq key q then value else value_at eq q old)
