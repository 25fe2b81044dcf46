use Rattle.std.proofs.Common.{rules, ap}
use Rattle.server_service.proofs.RanLemmas.{run_over}
use Rattle.server_service.proofs.answer.ran.Goals as goal

pub returns-in-Err : goal.returns-in-Err
returns-in-Err g c = record {
  ran = run_over c.new-telling.result.dialer.ghost_name _ _ _ _ _ _ _ _ _ _ _ _ _ _ _ _ _
      (rw c.get-outputs.ensures.items at c.in-Err.ensures.run)
      (search rules)
      (ap g.D.Dialer.faults c.new-telling.ensures.now)
      (ap g.D.Dialer.asked c.new-telling.ensures.now)
      (search rules)
      (search rules)
      (search rules)
      (search rules);
}
