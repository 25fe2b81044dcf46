use Rattle.std.proofs.Common.{◌≡◌, ◌≤◌, ◌+◌, ◌*◌, length, ap, sym, subst}
use Rattle.std.specs.Prelude.{IfOk}
use Rattle.row_index.specs.Slots.{rows_in}
use Rattle.sched_core.proofs.RankedLemmas.{forgiven_is}
use Rattle.sched_core.proofs.registrations.Registrations.forgiven.Goals as goal

pub returns-clause-forgiven : goal.returns-clause-forgiven
returns-clause-forgiven g c = rw (← c.self.view_is)
    (subst (λ l. IfOk c.errors_before.result (λ v. v.items ≡ l))
    (sym (forgiven_is c.args.now (rows_in c.self.inside.ranks.places)))
    (rw c.saturating_sub.ensures at c.errors_before.ensures.numbers))

pub returns-clause-looks : goal.returns-clause-looks
returns-clause-looks g c = rw (← c.self.view_is) (λ h le.
    subst (λ n. c.errors_before.new.steps ≤ c.args.steps.now + (2 * h * n + 1))
    (ap length (sym (forgiven_is c.args.now (rows_in c.self.inside.ranks.places))))
    ((rw c.saturating_sub.ensures at c.errors_before.ensures.looks) h le))
