use Rattle.std.proofs.Common.{◌≡◌, ◌==◌, map, filter}
use Rattle.std.specs.List.{flat_map, slice_split}
use Rattle.path_pkg.specs.Windows.{is_full}
use Rattle.path_pkg.proofs.win_path.parts_of.Given as goal

abbrev pub invariant-loop-piece : goal.invariant-loop-piece
invariant-loop-piece l = l.parts.items ≡ flat_map (λ piece. filter is_full (slice_split (λ b. b == 47) piece))
    (map (λ p. p.now) l.yielded)
