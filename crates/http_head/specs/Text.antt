-- Texts, one behind the other.
use Rattle.std.specs.Prelude.{ℕ, List, ◌++◌}

-- ++ nested to the right
infixr 20 ◌⧺◌
abbrev pub ◌⧺◌ : List ℕ → List ℕ → List ℕ
a ⧺ b = a ++ b
