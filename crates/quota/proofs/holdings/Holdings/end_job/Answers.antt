use Rattle.std.proofs.Common.{◌∙◌}
use Rattle.quota.proofs.LinkLemmas.{linked_alike, newest_alike}
use Rattle.quota.proofs.EndLemmas.{row_there, job_ended, none_ended}
use Rattle.quota.proofs.holdings.Holdings.end_job.Goals as goal

pub invariant_of-self : goal.invariant_of-self
invariant_of-self c = let s = c.self.inside in record {
  linked = linked_alike s.shares.items c.end_row.new.shares.items c.end_row.ensures.regs
      c.self.invariant.linked;
  newest_are = newest_alike s.shares.items c.end_row.new.shares.items _ c.end_row.ensures.regs
      c.self.invariant.newest_are;
  counted = c.end_row.ensures.counted;
}

pub returns-in-Some-clause-owned : goal.returns-in-Some-clause-owned
returns-in-Some-clause-owned c = let s = c.self.inside in
    rw (← c.self.view_is)
    (c.end_row.ensures.owned c.in-Some.ensures.row
    (row_there s.rows.rows c.args.job c.in-Some.place c.in-Some.ensures)
    ∙ job_ended s.rows.rows s.shares.items c.args.job c.in-Some.place c.in-Some.ensures)

pub returns-in-None-clause-owned : goal.returns-in-None-clause-owned
returns-in-None-clause-owned c = let s = c.self.inside in
    rw (← c.self.view_is) (none_ended s.rows.rows s.shares.items c.args.job c.in-None.ensures)
