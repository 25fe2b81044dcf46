use Rattle.std.proofs.Common.{◌≡◌, sym, subst}
use Rattle.std.specs.Prelude.{IfOk}
use Rattle.row_index.specs.Slots.{rows_in}
use Rattle.sched_core.proofs.RankedLemmas.{prune_is}
use Rattle.sched_core.proofs.registrations.Registrations.pruned.Goals as goal

pub returns : goal.returns
returns g c = rw (← c.self.view_is) (subst (λ l. IfOk c.signs_before.result (λ v. v.items ≡ l))
    (sym (prune_is c.args.now (rows_in c.self.inside.ranks.places)))
    (rw c.saturating_sub.ensures at c.signs_before.ensures.numbers))
