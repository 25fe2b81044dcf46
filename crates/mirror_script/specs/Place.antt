-- Where a line may stand, by what the lines before it say.
use Rattle.std.specs.Prelude.{ℕ, ◌||◌, Bool, false, not, List, Option, Some, None}
use Rattle.std.specs.List.{filter_map}
use Rattle.farm_script.specs.Place.{is_nil}
use Rattle.mirror_script.specs.declared.line.Site.TheVariants.{Near, Far}
use Rattle.mirror_script.specs.declared.line.Step.{Step}
use Rattle.mirror_script.specs.declared.line.Line.{Line}
use Rattle.mirror_script.specs.declared.line.Line.TheVariants as lines

-- how many bytes the near cache takes, if the line says so
abbrev pub near_in : Line → Option ℕ
near_in lines.Skip = None
near_in (lines.Capacity Near n) = Some n
near_in (lines.Capacity Far n) = None
near_in (lines.Step s) = None

-- how many bytes the far cache takes, if the line says so
abbrev pub far_in : Line → Option ℕ
far_in lines.Skip = None
far_in (lines.Capacity Near n) = None
far_in (lines.Capacity Far n) = Some n
far_in (lines.Step s) = None

-- what is done, if the line says so
abbrev pub step_in : Line → Option Step
step_in lines.Skip = None
step_in (lines.Capacity site n) = None
step_in (lines.Step s) = Some s

-- what decides where a line may stand: how many bytes the caches take
pub record Before : Type 0 where
  pub near : List ℕ
  pub far : List ℕ

-- the same, of the lines before
abbrev pub before_of : List Line → Before
before_of said = record { near = filter_map near_in said; far = filter_map far_in said }

-- First stands what the near cache takes, then what the far one takes, each once, and then what is done.
abbrev pub misplaced : Before → Line → Bool
misplaced b lines.Skip = false
misplaced b (lines.Capacity Near n) = not (is_nil b.near)
misplaced b (lines.Capacity Far n) = is_nil b.near || not (is_nil b.far)
misplaced b (lines.Step s) = is_nil b.far
