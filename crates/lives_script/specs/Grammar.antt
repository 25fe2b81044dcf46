-- The grammar of lines: which bytes spell which value.
use Rattle.std.specs.Prelude.{◌≡◌, ℕ, List, codes}
use Rattle.std.specs.Fmt.{decimal}
use Rattle.line_program.specs.Texts.{◌⧺◌}
use Rattle.farm_script.specs.Grammar as farm
use Rattle.farm_script.specs.declared.lines.Scopes.{Scopes}
use Rattle.farm_script.specs.declared.lines.Line.TheVariants as farm_lines
use Rattle.lives_script.specs.Ids.{Ids, IsRange}
use Rattle.lives_script.specs.declared.line.Line.{Line}
use Rattle.lives_script.specs.declared.line.Line.TheVariants as lines

-- life FROM N
pub record IsLifeLine (t : List ℕ) (ids : Ids) : Type 0 where
  pub range : IsRange ids
  pub spelled : t ≡ codes "life " ⧺ decimal ids.from ⧺ codes " " ⧺ decimal ids.count

-- A line begins a life, or is one of a farm's script. Its addresses may have scopes where those are taken.
abbrev pub Spells : Scopes → List ℕ → Line → Type 0
Spells scopes t lines.Skip = farm.Spells scopes t farm_lines.Skip
Spells scopes t (lines.Setup s) = farm.Spells scopes t (farm_lines.Setup s)
Spells scopes t (lines.Life from count) = IsLifeLine t (record { from = from; count = count })
Spells scopes t (lines.Event e) = farm.Spells scopes t (farm_lines.Event e)
