-- The least unknown key of all is that of those left, from the least so far.
use Rattle.std.proofs.Common.{◌≡◌, map, None}
use Rattle.std.specs.Option.{option_map}
use Rattle.toml.specs.View.{members_view}
use Rattle.command_line.specs.Unknown.{least_from}
use Rattle.command_line.proofs.look_up.least_unknown.Given as goal

abbrev pub invariant-loop-key : goal.invariant-loop-key
invariant-loop-key l =
    least_from (map (λ name. name.now) l.known) (option_map (λ k. k.now) l.least)
    (members_view l.key-iterator)
    ≡ least_from (map (λ name. name.now) l.known) None (members_view l.table.entries)
