use Rattle.std.proofs.Common.{◌≡◌, [], drop}
use Rattle.std.specs.List.{filter_map}
use Rattle.path_pkg.specs.Written.{texts_of, put_all, in_rank}
use Rattle.path_pkg.proofs.sorted.in_order.Given as goal

abbrev pub invariant-loop-r : goal.invariant-loop-r
invariant-loop-r l = put_all (texts_of l.entries.entries)
    (filter_map (in_rank l.rank) (drop l.r-index l.records)) ≡ put_all []
    (filter_map (in_rank l.rank) l.records)
