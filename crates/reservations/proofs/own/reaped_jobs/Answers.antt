use Rattle.std.proofs.Common.{ap, ◌∙◌, map, filter}
use Rattle.std.proofs.lemmas.Result.{IfOk-weaker}
use Rattle.reservations.specs.declared.booked.BookedRow.{BookedRow}
use Rattle.core_rules.specs.Reap.{is_reaped}
use Rattle.reservations.specs.Booked.{held_part_of}
use Rattle.reservations.proofs.OwnRowLemmas.{rows_own, reap_own}
use Rattle.reservations.proofs.own.reaped_jobs.Goals as goal

pub returns : goal.returns
returns c = let a = c.args in IfOk-weaker c.jobs_to_reap.result _ _
    (λ v h. h ∙ ap (λ l. map (λ (b : BookedRow). b.job) (filter (λ b. is_reaped a.beat.rules a.beat.moment a.beat.reg (held_part_of
    b)) l))
    (rows_own a.beat.reg a.rows.now a.places.now c.requires)
    ∙ reap_own a.beat.rules a.beat.moment a.beat.reg a.rows.now) c.jobs_to_reap.ensures
