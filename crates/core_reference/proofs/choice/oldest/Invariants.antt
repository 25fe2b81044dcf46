use Rattle.std.proofs.Common.{◌≡◌, take}
use Rattle.std.specs.List.{best_of}
use Rattle.core_rules.specs.Pick.{is_older}
use Rattle.core_reference.proofs.choice.oldest.Given as goal

abbrev pub invariant-loop-row : goal.invariant-loop-row
invariant-loop-row l = l.best ≡ best_of is_older l.initial.best (take l.row-index l.rest)
