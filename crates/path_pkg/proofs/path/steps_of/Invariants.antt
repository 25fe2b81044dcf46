use Rattle.std.proofs.Common.{◌≡◌, map}
use Rattle.std.specs.List.{filter_map}
use Rattle.path_pkg.specs.Path.{step_in}
use Rattle.path_pkg.proofs.path.steps_of.Given as goal

abbrev pub invariant-loop-piece : goal.invariant-loop-piece
invariant-loop-piece l = l.steps.items ≡ filter_map step_in (map (λ p. p.now) l.yielded)
