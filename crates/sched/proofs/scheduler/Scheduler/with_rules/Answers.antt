use Rattle.std.proofs.Common.{ap, refl, ◌∙◌, arith}
use Rattle.sched.proofs.StepLemmas.{opens}
use Rattle.sched.proofs.scheduler.Scheduler.with_rules.Goals as goal

pub new-requires-2 : goal.new-requires-2
new-requires-2 g c =
    let first = c.in_ok-desk.ensures.first in
    let empty = first ∙ ap (λ s. record { core = s; made = 1 }) c.with_rules.ensures.empty in
    rw (c.push_reserved.ensures.items, c.in_ok-slots.ensures.items)
    (opens (record { base = c.args.base; count = 0; rules = c.args.rules }) c.in_ok-desk.desk _
    (omega arith) empty refl)
