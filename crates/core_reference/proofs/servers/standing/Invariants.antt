use Rattle.std.proofs.Common.{◌≡◌, ◌++◌, take, drop}
use Rattle.std.specs.List.{filter_map}
use Rattle.core_rules.specs.Cuts.{cuts, cuts_behind}
use Rattle.core_rules.specs.Standing.{registered_at, stands}
use Rattle.core_reference.specs.Plain.{shown, signed}
use Rattle.core_reference.proofs.servers.standing.Given as goal

abbrev pub invariant-loop-place : goal.invariant-loop-place
invariant-loop-place l = l.rows.items ++ filter_map (shown registered_at stands signed)
    (cuts_behind (take l.place l.log) (drop l.place l.log))
    ≡ filter_map (shown registered_at stands signed) (cuts l.log)
