use Rattle.std.proofs.Common.{rules, ap}
use Rattle.scheduler_service.proofs.RepliedLemmas.{allocated_over}
use Rattle.scheduler_service.proofs.answer.allocated.Goals as goal

pub returns-clause-allocated : goal.returns-clause-allocated
returns-clause-allocated g c =
    allocated_over c.new-asking.result.dialer.ghost_name _ _ _ _ _ _ _ _ _
    c.handle_alloc_job.ensures.allocation
    (ap g.D.Dialer.faults c.new-asking.ensures.now)
    (ap g.D.Dialer.asked c.new-asking.ensures.now)
    (search rules)
    (search rules)
    (search rules)
