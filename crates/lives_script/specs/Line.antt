-- What a line says.
use Rattle.std.specs.Prelude.{ℕ, ◌==◌, if◌then◌else◌, List, Option, Some, None, codes}
use Rattle.dist_types.specs.Addr.{◌>>=◌}
use Rattle.farm_script.specs.Words.{strip, field, behind}
use Rattle.farm_script.specs.Fields.{number_at}
use Rattle.farm_script.specs.Lines as farm
use Rattle.farm_script.specs.declared.lines.Scopes.{Scopes}
use Rattle.farm_script.specs.declared.lines.Line as farm_line
use Rattle.farm_script.specs.declared.lines.Line.TheVariants as farm_lines
use Rattle.lives_script.specs.declared.line.Line.{Line}
use Rattle.lives_script.specs.declared.line.Line.TheVariants as lines

-- a life of so many ids, which has one at least
abbrev pub life_of : ℕ → ℕ → Option Line
life_of from count = if count == 0 then None else Some (lines.Life from count)

-- behind the word life
unfoldable pub life_at : List ℕ → Option Line
life_at t = do
  from ← field number_at t
  count ← number_at from.1
  life_of from.0 count

-- a line of a farm's script
abbrev pub line_of : farm_line.Line → Line
line_of farm_lines.Skip = lines.Skip
line_of (farm_lines.Setup s) = lines.Setup s
line_of (farm_lines.Event e) = lines.Event e

-- the value that the whole line spells, if it spells one: a life, else what it is in a farm's script
unfoldable pub line_at : Scopes → List ℕ → Option Line
line_at scopes t = behind (strip (codes "life ") t) life_at (farm.line_at scopes t >>= λ l. Some (line_of l))
