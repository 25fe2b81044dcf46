use Rattle.std.proofs.Common.{◌≡◌, take}
use Rattle.std.specs.List.{best_of}
use Rattle.core_rules.specs.Pick.{is_lighter}
use Rattle.core_reference.proofs.choice.lightest.Given as goal

abbrev pub invariant-loop-row : goal.invariant-loop-row
invariant-loop-row l = l.best ≡ best_of is_lighter l.initial.best (take l.row-index l.rest)
