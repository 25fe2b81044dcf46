use Rattle.std.proofs.Common.{◌≡◌, ◌++◌, map, filter}
use Rattle.path_pkg.specs.Windows.{is_full}
use Rattle.path_pkg.proofs.win_path.push_cut.Given as goal

abbrev pub invariant-loop-piece : goal.invariant-loop-piece
invariant-loop-piece l = l.parts.items ≡ l.initial.parts.items ++ filter is_full (map (λ p. p.now) l.yielded)
