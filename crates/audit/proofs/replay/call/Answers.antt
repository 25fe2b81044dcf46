use Rattle.std.proofs.Common.{ap, sym, subst}
use Rattle.core_rules.specs.declared.entry.CoreKind.{CoreKind}
use Rattle.core_rules.specs.declared.call.Call.TheVariants as call
use Rattle.audit.specs.Replay.{IsCalled, due_by}
use Rattle.audit.proofs.replay.call.Goals as goal

pub returns-in_ok-reserve-in-Reserve-clause-called : goal.returns-in_ok-reserve-in-Reserve-clause-called
returns-in_ok-reserve-in-Reserve-clause-called c = (
  call.Reserve c.args.now,
  ap (due_by c.args.r.now.state c.args.now) c.in-Reserve.is,
  c.in_ok-reserve-in-Reserve.ensures.logged,
)

pub returns-in-Commit-clause-called : goal.returns-in-Commit-clause-called
returns-in-Commit-clause-called c =
    subst (λ (k : CoreKind). IsCalled c.commit.result
    (due_by c.args.r.now.state c.args.now k) c.args.r.now.state
    c.commit.new.r.state) (sym c.in-Commit.is) (c.commit.ensures.called c.in-Commit.kept)

pub returns-in-Undo-clause-called : goal.returns-in-Undo-clause-called
returns-in-Undo-clause-called c =
    subst (λ (k : CoreKind). IsCalled c.undo.result
    (due_by c.args.r.now.state c.args.now k) c.args.r.now.state
    c.undo.new.r.state) (sym c.in-Undo.is)
    (c.undo.ensures.called c.in-Undo.noted c.in-Undo.ended)

pub returns-in_ok-update-in-Update-clause-called : goal.returns-in_ok-update-in-Update-clause-called
returns-in_ok-update-in-Update-clause-called c = (
  call.Update c.args.now c.in-Update.server c.in-Update.job c.in-Update.state,
  ap (due_by c.args.r.now.state c.args.now) c.in-Update.is,
  c.in_ok-update-in-Update.ensures.logged,
)

pub returns-in_ok-status-in-Status-clause-called : goal.returns-in_ok-status-in-Status-clause-called
returns-in_ok-status-in-Status-clause-called c = (
  call.Status c.args.now,
  ap (due_by c.args.r.now.state c.args.now) c.in-Status.is,
  c.in_ok-status-in-Status.ensures.logged,
)
