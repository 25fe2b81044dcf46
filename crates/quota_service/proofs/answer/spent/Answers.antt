use Rattle.std.proofs.Common.{rules, ap}
use Rattle.quota_service.proofs.SpentLemmas.{called_over, spent_by}
use Rattle.quota_service.proofs.answer.spent.Goals as goal

pub returns : goal.returns
returns g c =
    let h = c.do_assign_job-heard.ensures in
    record {
      spent = spent_by c.new-asking.result.dialer.ghost_name c.now.result c.args.r c.args.tc.now
          c.do_assign_job-heard.result c.settle-settled.result _ _ c.allocated.result
          (called_over c.new-asking.result.dialer.ghost_name
          c.do_assign_job-heard.new.self.dialer.ghost_name c.args.r c.args.tc.now c.do_assign_job-heard.result
          _ _ (g.D.Dialer.asked c.new-asking.result.dialer.now)
          (g.D.Dialer.asked c.do_assign_job-heard.new.self.dialer.now)
          _ _ (g.D.Dialer.faults c.new-asking.result.dialer.now)
          (g.D.Dialer.faults c.do_assign_job-heard.new.self.dialer.now)
          (record {
            row = h.row;
            memory = h.memory;
            lent = rw (c.server_id.ensures.server, c.job_id.ensures.job, c.auth.ensures.auth) at h.lent;
            steady = h.steady;
            uncounted = h.uncounted;
            later = h.later;
            cause = h.cause;
          })
          (ap g.D.Dialer.faults c.new-asking.ensures.now)
          (ap g.D.Dialer.asked c.new-asking.ensures.now)
          (search rules)
          (search rules)
          (search rules))
          (record { left = c.now.ensures.left; last = rw c.now.ensures.last c.now.ensures.given })
          c.now.ensures.last c.settle-settled.ensures.left c.settle-settled.ensures.settled c.allocated.ensures;
    }
