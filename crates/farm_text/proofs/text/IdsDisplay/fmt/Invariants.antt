use Rattle.std.proofs.Common.{take}
use Rattle.std.specs.Prelude.{codes, ◌++◌}
use Rattle.std.specs.List.{flat_map}
use Rattle.std.specs.Fmt.{HasWritten, IsPlainFormatter}
use Rattle.farm_text.proofs.text.IdsDisplay.fmt.Given as goal

-- the ids of what was passed, each behind a comma
abbrev pub invariant-loop-tc : goal.invariant-loop-tc
invariant-loop-tc g l = IsPlainFormatter l.initial.f → HasWritten g.W.Write.write_str_gives l.initial.f
    (flat_map (λ other. codes "," ++ other) (take l.tc-index l.rest)) l.f
