-- How much of an input was read.
use Rattle.std.specs.Prelude.{◌≡◌, ℕ}
use Rattle.dist_types.specs.Content.{TookAtMost, left_behind}
use Rattle.line_program.specs.Limits.{bytes_read}
use Rattle.line_program.specs.Side.{Side}

-- It was read to its end, or so many bytes of it: it has left what stands behind them, and did not fail.
abbrev pub IsReadTo : ℕ → Side → Side → Type 0
IsReadTo most before after = (after.content ≡ left_behind most before.content) × (after.faults ≡ before.faults)

-- Of it no more was taken than so many bytes.
abbrev pub IsReadWithin : ℕ → Side → Side → Type 0
IsReadWithin most before after = TookAtMost most before.content after.content

-- It was read to its end, or to one byte past the limit of a script.
abbrev pub IsReadWhole : Side → Side → Type 0
IsReadWhole before after = IsReadTo bytes_read before after

-- Of it no more was taken than one byte past the limit of a script.
abbrev pub IsReadInPart : Side → Side → Type 0
IsReadInPart before after = IsReadWithin bytes_read before after
