-- What a packager does to the bytes that it is given.
use Rattle.std.specs.Prelude.{◌≡◌, ℕ, List, ◌++◌, Option, Some, None}

-- bytes stand behind those that were there
abbrev pub HasAppended : List ℕ → List ℕ → Type 0
HasAppended old new = (more : List ℕ) × (new ≡ old ++ more)

-- these bytes stand behind those that were there, or some, where they are not told
abbrev pub Appends : Option (List ℕ) → List ℕ → List ℕ → Type 0
Appends None old new = HasAppended old new
Appends (Some bytes) old new = new ≡ old ++ bytes
