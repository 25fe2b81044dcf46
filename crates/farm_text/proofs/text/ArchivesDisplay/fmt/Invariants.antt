use Rattle.std.proofs.Common.{take}
use Rattle.std.specs.Prelude.{codes, ◌++◌}
use Rattle.std.specs.List.{flat_map}
use Rattle.std.specs.Fmt.{HasWritten, IsPlainFormatter}
use Rattle.farm_entries.specs.Printed.{archive_text}
use Rattle.farm_text.proofs.text.ArchivesDisplay.fmt.Given as goal

abbrev pub invariant-loop-pair : goal.invariant-loop-pair
invariant-loop-pair g l = IsPlainFormatter l.initial.f → HasWritten g.W.Write.write_str_gives l.initial.f
    (flat_map (λ q. codes "," ++ archive_text q) (take l.pair-index l.rest)) l.f
