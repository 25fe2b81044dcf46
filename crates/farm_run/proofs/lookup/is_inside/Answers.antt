use Rattle.std.proofs.Common.{Bool, sym, ap, ◌∙◌}
use Rattle.std.specs.Prelude.{is_some, ◌||◌}
use Rattle.farm_entries.specs.Servers.{server_at}
use Rattle.farm_entries.specs.Ways.{is_inside}
use Rattle.farm_run.proofs.ServerLemmas.{inside_is}
use Rattle.farm_run.proofs.lookup.is_inside.Goals as goal

pub returns-else-is_scheduler : goal.returns-else-is_scheduler
returns-else-is_scheduler c =
    let out = c.in-Some.out.now in
    c.is_some.ensures ∙ ap is_some c.place_of.ensures.place ∙ inside_is c.args.setup.now out.target
    ∙ sym (ap (λ (b : Bool). b || is_some (server_at c.args.setup.now out.target))
    (sym c.is_scheduler.ensures ∙ c.if-is_scheduler.false))
    ∙ ap (is_inside c.args.setup.now) c.in-Some.ensures
