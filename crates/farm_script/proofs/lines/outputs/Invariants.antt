use Rattle.std.proofs.Common.{◌≡◌}
use Rattle.std.specs.Option.{option_map}
use Rattle.farm_script.specs.Lines.{outputs_behind}
use Rattle.farm_script.proofs.OutputLemmas.{put_before, room_of}
use Rattle.farm_script.proofs.lines.outputs.Given as goal

abbrev pub invariant-loop-left : goal.invariant-loop-left
invariant-loop-left l = put_before l.outputs.items (outputs_behind (option_map (λ rest. rest.now) l.left))
    ≡ outputs_behind (option_map (λ rest. rest.now) l.fn.behind)

abbrev pub decreases-loop-left : goal.decreases-loop-left
decreases-loop-left l = room_of (option_map (λ rest. rest.now) l.left)
