-- Texts that are put together.
use Rattle.std.specs.Prelude.{ℕ, List, ◌++◌}

-- one text before another, nested to the right as they are written
infixr 20 ◌⧺◌
abbrev pub ◌⧺◌ : List ℕ → List ℕ → List ℕ
a ⧺ b = a ++ b
