use Rattle.std.proofs.Common.{◌∙◌, sym}
use Rattle.core_reference.proofs.SignLemmas.{standing_some}
use Rattle.core_reference.proofs.servers.standing_at.Goals as goal

pub returns : goal.returns
returns c = standing_some c.args.step.now.kind c.args.step.now.now c.args.before.now c.args.step.now
    c.args.later.now c.in-Some.row c.in_ok-seen.seen c.is_draining-draining.result
    (sym c.row_made.ensures ∙ c.in-Some.is) (sym c.is_ended.ensures ∙ c.if-is_ended.false) c.in_ok-seen.ensures
    c.is_draining-draining.ensures
