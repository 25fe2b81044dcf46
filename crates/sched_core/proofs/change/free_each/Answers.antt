use Rattle.std.proofs.Common.{◌≤◌, length, refl, ap, ◌∙◌, arith, map}
use Rattle.std.proofs.lemmas.List.{get_or_default}
use Rattle.sched_core.specs.Changes.{row_without}
use Rattle.reservations.specs.Booked.{held_view}
use Rattle.reservations.proofs.OwnRowLemmas.{drop_none}
use Rattle.sched_core.proofs.FreeLemmas.{without_next, without_last}
use Rattle.sched_core.proofs.change.free_each.Goals as goal

pub loop-job-init : goal.loop-job-init
loop-job-init g c = (
  ap (λ js. map (row_without js (held_view c.args.bookings.now.rows)) c.args.rows.now.rows)
      (drop_none c.args.jobs.now),
  refl,
)

pub loop-job-preserved : goal.loop-job-preserved
loop-job-preserved g c = (
  without_next c.args.jobs.now c.loop-job.job-index _ (held_view c.args.bookings.now.rows)
      c.args.rows.now.rows c.loop-job.rows.rows c.free_one.new.rows.rows c.requires c.loop-job-test.true
      (get_or_default c.args.jobs.now c.loop-job.job-index _ _ c.loop-job-test.true)
      c.loop-job.invariant.0 c.free_one.ensures.rows,
  c.free_one.ensures.places ∙ c.loop-job.invariant.1,
)

pub returns-clause-rows : goal.returns-clause-rows
returns-clause-rows g c =
    let le : length c.args.jobs.now ≤ c.loop-job.job-index = omega (arith, c.loop-job-test.false) in
    without_last c.args.jobs.now c.loop-job.job-index (held_view c.args.bookings.now.rows)
    c.args.rows.now.rows
    c.loop-job.rows.rows le c.loop-job.invariant.0
