use Rattle.std.proofs.Common.{◌≤◌, length, refl, ap, ◌∙◌, sym, arith, map}
use Rattle.std.proofs.lemmas.List.{drop_more}
use Rattle.reservations.specs.Own.{ended_jobs}
use Rattle.reservations.proofs.OwnRowLemmas.{drop_none, drop_all, job_next, no_job}
use Rattle.reservations.proofs.bookings.Bookings.end_jobs.Goals as goal

pub loop-job-init : goal.loop-job-init
loop-job-init c = (
  ap (λ js. map (ended_jobs js) c.args.self.now.rows) (drop_none c.args.jobs.now),
  refl,
  refl,
)

pub loop-job-preserved : goal.loop-job-preserved
loop-job-preserved c = let l = c.loop-job in (
  ap (map (ended_jobs _)) c.end_job.ensures.rows ∙ job_next _ _ l.self.rows
      ∙ ap (λ js. map (ended_jobs js) l.self.rows)
      (sym (drop_more c.args.jobs.now l.job-index _ c.loop-job-test.true)) ∙ l.invariant.0,
  c.end_job.ensures.first ∙ l.invariant.1,
  c.end_job.ensures.room ∙ l.invariant.2,
)

pub returns-clause-rows : goal.returns-clause-rows
returns-clause-rows c =
    let l = c.loop-job in
    let le : length c.args.jobs.now ≤ l.job-index = omega (arith, c.loop-job-test.false) in
    sym (no_job l.self.rows) ∙ ap (λ js. map (ended_jobs js) l.self.rows)
    (sym (drop_all c.args.jobs.now l.job-index le)) ∙ l.invariant.0
