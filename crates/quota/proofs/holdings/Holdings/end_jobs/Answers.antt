use Rattle.std.proofs.Common.{◌≤◌, length, refl, ap, ◌∙◌, sym, arith, map}
use Rattle.std.proofs.lemmas.List.{drop_more, drop_all}
use Rattle.quota.specs.Holdings.{ended_jobs}
use Rattle.quota.proofs.EndLemmas.{drop_none, jobs_next, jobs_none}
use Rattle.quota.proofs.holdings.Holdings.end_jobs.Goals as goal

pub loop-job-init : goal.loop-job-init
loop-job-init c = (
  ap (λ js. map (ended_jobs js) c.args.self.now.owned) (drop_none c.args.jobs.now),
  refl,
  refl,
)

pub loop-job-preserved : goal.loop-job-preserved
loop-job-preserved c = let l = c.loop-job in (
  ap (map (ended_jobs _)) c.end_job.ensures.owned ∙ jobs_next _ _ l.self.owned
      ∙ ap (λ js. map (ended_jobs js) l.self.owned)
      (sym (drop_more c.args.jobs.now l.job-index _ c.loop-job-test.true)) ∙ l.invariant.0,
  c.end_job.ensures.first ∙ l.invariant.1,
  c.end_job.ensures.clients ∙ l.invariant.2,
)

pub returns-clause-owned : goal.returns-clause-owned
returns-clause-owned c =
    let l = c.loop-job in
    let le : length c.args.jobs.now ≤ l.job-index = omega (arith, c.loop-job-test.false) in
    sym (jobs_none l.self.owned) ∙ ap (λ js. map (ended_jobs js) l.self.owned)
    (sym (drop_all l.job-index c.args.jobs.now le)) ∙ l.invariant.0

pub returns-clause-first : goal.returns-clause-first
returns-clause-first c = c.loop-job.invariant.1

pub returns-clause-clients : goal.returns-clause-clients
returns-clause-clients c = c.loop-job.invariant.2
