use Rattle.std.proofs.Common.{take}
use Rattle.std.specs.Prelude.{codes, ◌++◌}
use Rattle.std.specs.List.{flat_map}
use Rattle.std.specs.Fmt.{decimal, HasWritten, IsPlainFormatter}
use Rattle.farm_text.proofs.text.NumbersDisplay.fmt.Given as goal

abbrev pub invariant-loop-n : goal.invariant-loop-n
invariant-loop-n g l = IsPlainFormatter l.initial.f → HasWritten g.W.Write.write_str_gives l.initial.f
    (flat_map (λ m. codes "," ++ decimal m) (take l.n-index l.rest)) l.f
