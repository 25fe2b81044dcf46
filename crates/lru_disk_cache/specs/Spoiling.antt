-- How inserts that failed are counted, where memory may run out before the folder is asked.
use Rattle.std.specs.Prelude.{◌≡◌, ℕ, ◌⊎◌}
use Rattle.dist_types.specs.Cause.{counted}
use Rattle.folders.specs.Held.{Held}
use Rattle.dist_types.specs.declared.cache_error.Error.{Error}
use Rattle.dist_types.specs.declared.cache_error.Error.TheVariants.{Io}
use Rattle.dist_types.specs.declared.cache_error.Error.TheVariants.{Memory as NoMemory}

-- Io raises the count of inserts that failed, a refusal leaves it and the folder as they were, and want of
-- memory does the one or the other
abbrev pub MaySpoil : Error → ℕ → ℕ → Held → Held → Type 0
MaySpoil (Io fault) spoiled later old new = later ≡ counted spoiled
MaySpoil NoMemory spoiled later old new = (later ≡ counted spoiled) ⊎ ((later ≡ spoiled) × (new ≡ old))
MaySpoil refusal spoiled later old new = (later ≡ spoiled) × (new ≡ old)
