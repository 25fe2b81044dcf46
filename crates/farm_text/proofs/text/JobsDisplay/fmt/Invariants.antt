use Rattle.std.proofs.Common.{take}
use Rattle.std.specs.Prelude.{codes, ◌++◌}
use Rattle.std.specs.List.{flat_map}
use Rattle.std.specs.Fmt.{decimal, HasWritten, IsPlainFormatter}
use Rattle.farm_text.proofs.text.JobsDisplay.fmt.Given as goal

abbrev pub invariant-loop-job : goal.invariant-loop-job
invariant-loop-job g l = IsPlainFormatter l.initial.f → HasWritten g.W.Write.write_str_gives l.initial.f
    (flat_map (λ k. codes "," ++ decimal k.0) (take l.job-index l.rest)) l.f
