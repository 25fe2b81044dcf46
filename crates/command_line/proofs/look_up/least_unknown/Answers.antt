use Rattle.std.proofs.Common.{rules, ◌≡◌, map, option_map, subst, sym}
use Rattle.toml.specs.View.{table_view}
use Rattle.command_line.specs.Unknown.{least_unknown, IsLeast}
use Rattle.command_line.proofs.LeastLemmas.{least_is}
use Rattle.command_line.proofs.look_up.least_unknown.Goals as goal

pub returns-clause-least : goal.returns-clause-least
returns-clause-least c =
    let u : option_map (λ key. key.now) c.loop-key.least
    ≡ least_unknown (map (λ name. name.now) c.args.known.now) (table_view c.args.table.now) = search rules in
    subst (IsLeast (map (λ name. name.now) c.args.known.now) (table_view c.args.table.now)) (sym u)
    (least_is (map (λ name. name.now) c.args.known.now) (table_view c.args.table.now))
