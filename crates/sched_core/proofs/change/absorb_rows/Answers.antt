use Rattle.std.proofs.Common.{◌≡◌, ◌∙◌, ap, map, filter, refl}
use Rattle.core_rules.specs.declared.entry.CoreKind.TheVariants.{Commit}
use Rattle.core_rules.specs.Next.{row_after, row_freed, row_stays, served_by}
use Rattle.core_rules.specs.Reservation.{frees_by}
use Rattle.reservations.specs.Booked.{held_view, open_view}
use Rattle.sched_core.proofs.ChangeLemmas.{reserve_whole, commit_quiet, keep_all}
use Rattle.sched_core.proofs.FreeLemmas.{never_freed}
use Rattle.sched_core.proofs.UpdateLemmas.{update_whole}
use Rattle.sched_core.proofs.change.absorb_rows.Goals as goal

pub returns-in-Reserve-clause-rows : goal.returns-in-Reserve-clause-rows
returns-in-Reserve-clause-rows g c =
    c.reserve.ensures.rows
    ∙ reserve_whole c.args.step.now (held_view c.args.bookings.now.rows) (open_view c.args.bookings.now.rows)
    c.args.rows.now.rows c.in-Reserve.reserved c.in-Reserve.is

pub returns-in-Reserve-clause-looks : goal.returns-in-Reserve-clause-looks
returns-in-Reserve-clause-looks g c = rw c.in-Reserve.is (λ h le. c.reserve.ensures.looks h le)

pub returns-in-Commit-clause-rows : goal.returns-in-Commit-clause-rows
returns-in-Commit-clause-rows g c =
    let e = c.args.step.now in
    let bs = c.args.bookings.now.rows in
    let rows = c.args.rows.now.rows in
    let kind = Commit c.in-Commit.job c.in-Commit.state c.in-Commit.kept in
    let stay : rows ≡ map (row_freed e.kind (held_view bs)) (filter (row_stays e.kind) rows) =
    rw c.in-Commit.is (never_freed (frees_by kind) bs rows (λ b. refl)
    ∙ ap (map (row_freed kind (held_view bs))) (keep_all rows)) in
    commit_quiet e (open_view bs) rows c.in-Commit.job c.in-Commit.state c.in-Commit.kept c.in-Commit.is
    ∙ ap (map (row_after e (served_by e.kind (open_view bs)))) stay

pub returns-in-Commit-clause-looks : goal.returns-in-Commit-clause-looks
returns-in-Commit-clause-looks g c = rw c.in-Commit.is (λ h le. tt)

pub returns-in-Undo-clause-looks : goal.returns-in-Undo-clause-looks
returns-in-Undo-clause-looks g c = rw c.in-Undo.is (λ h le. tt)

pub returns-in-Beat-clause-looks : goal.returns-in-Beat-clause-looks
returns-in-Beat-clause-looks g c = rw c.in-Beat.is (λ h le. tt)

pub returns-in-Update-clause-rows : goal.returns-in-Update-clause-rows
returns-in-Update-clause-rows g c =
    c.lower_and_see.ensures.rows
    ∙ update_whole c.args.step.now c.in-Update.server c.in-Update.job c.in-Update.state c.in-Update.answer
    c.args.bookings.now.rows c.args.rows.now.rows c.row-found.result c.lowered_in-lowered.result
    c.seen_in-seen.result c.in-Update.is c.row-found.ensures c.lowered_in-lowered.ensures
    (rw c.heard.ensures at c.seen_in-seen.ensures)

pub returns-in-Update-clause-looks : goal.returns-in-Update-clause-looks
returns-in-Update-clause-looks g c = rw c.in-Update.is (λ h le. tt)

pub returns-in-Status-clause-looks : goal.returns-in-Status-clause-looks
returns-in-Status-clause-looks g c = rw c.in-Status.is (λ h le. tt)

pub returns-in-Drain-clause-looks : goal.returns-in-Drain-clause-looks
returns-in-Drain-clause-looks g c = rw c.in-Drain.is (λ h le. tt)
