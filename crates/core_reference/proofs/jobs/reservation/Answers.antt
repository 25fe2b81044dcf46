use Rattle.std.proofs.Common.{◌∙◌, sym}
use Rattle.core_reference.proofs.PlainLemmas.{reserved_some}
use Rattle.core_reference.proofs.jobs.reservation.Goals as goal

pub returns-then-lasts : goal.returns-then-lasts
returns-then-lasts c = reserved_some c.args.which c.args.step.now.kind c.args.number c.args.step.now.now
    c.args.later.now c.in_ok-row.row c.state_in.result c.ready_in.result c.is_claimed.result
    (sym c.begun.ensures ∙ c.in_ok-row.was) (sym c.lasts.ensures ∙ c.if-lasts.true) c.state_in.ensures
    c.ready_in.ensures c.is_claimed.ensures
