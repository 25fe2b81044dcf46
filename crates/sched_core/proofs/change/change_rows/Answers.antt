use Rattle.std.proofs.Common.{◌≡◌, ◌∙◌, None, find}
use Rattle.std.specs.Prelude.{if◌then◌else◌}
use Rattle.core_rules.specs.Log.{same_job}
use Rattle.core_rules.specs.Standing.{is_heard}
use Rattle.core_rules.specs.Next.{place_if}
use Rattle.reservations.specs.Booked.{open_view}
use Rattle.sched_core.proofs.ChangeLemmas.{commit_quiet, status_quiet, update_seen, drain_marks}
use Rattle.sched_core.proofs.change.change_rows.Goals as goal

pub returns-in-Commit-clause-rows : goal.returns-in-Commit-clause-rows
returns-in-Commit-clause-rows g c =
    commit_quiet c.args.step.now (open_view c.args.bookings.now.rows) c.args.rows.now.rows c.in-Commit.job
    c.in-Commit.state c.in-Commit.kept c.in-Commit.is

pub returns-in-Update-clause-rows : goal.returns-in-Update-clause-rows
returns-in-Update-clause-rows g c =
    let served : c.place_if_heard-served.result
    ≡ (if is_heard c.in-Update.answer then place_if
    (find (λ o. same_job o.job c.in-Update.job) (open_view c.args.bookings.now.rows)) else None) =
    rw c.heard.ensures at c.place_if_heard-served.ensures in
    c.apply_if-in-Update.ensures.rows
    ∙ update_seen c.args.step.now (open_view c.args.bookings.now.rows) c.args.rows.now.rows c.in-Update.server
    c.in-Update.job c.in-Update.state c.in-Update.answer c.place_if_heard-served.result c.in-Update.is served

pub returns-in-Status-clause-rows : goal.returns-in-Status-clause-rows
returns-in-Status-clause-rows g c =
    status_quiet c.args.step.now (open_view c.args.bookings.now.rows) c.args.rows.now.rows c.in-Status.pruned
    c.in-Status.servers c.in-Status.cpus c.in-Status.jobs c.in-Status.is

pub returns-in-Drain-clause-rows : goal.returns-in-Drain-clause-rows
returns-in-Drain-clause-rows g c =
    c.apply_if-in-Drain.ensures.rows
    ∙ drain_marks c.args.step.now (open_view c.args.bookings.now.rows) c.args.rows.now.rows c.in-Drain.server
    c.in-Drain.nonce c.in-Drain.on c.in-Drain.reg c.in-Drain.is
