use Rattle.std.proofs.Common.{sym}
use Rattle.audit.proofs.ReplayLemmas.{none_committed, commit_called, commit_kept}
use Rattle.audit.proofs.replay.commit.Goals as goal

pub returns-in-None-clause-called : goal.returns-in-None-clause-called
returns-in-None-clause-called c = λ kept.
    none_committed c.args.r.now.state c.args.now c.args.job c.args.state kept
    (c.in-None.ensures.taken c.args.r.now.state c.requires).0

pub returns-in-None-clause-kept : goal.returns-in-None-clause-kept
returns-in-None-clause-kept c = (c.in-None.ensures.taken c.args.r.now.state c.requires).1

pub returns-in-Some-clause-called : goal.returns-in-Some-clause-called
returns-in-Some-clause-called c = λ kept.
    commit_called c.take.new.kept c.args.r.now.state c.commit.new.self c.args.now c.args.job c.args.state kept
    c.in-Some.t (sym c.if-not-is_initial.ensures) (c.in-Some.ensures.taken c.args.r.now.state c.requires)
    c.commit.ensures.logged

pub returns-in-Some-clause-kept : goal.returns-in-Some-clause-kept
returns-in-Some-clause-kept c =
    commit_kept c.take.new.kept c.args.r.now.state c.commit.new.self c.args.now c.args.job c.args.state
    c.in-Some.t (c.in-Some.ensures.taken c.args.r.now.state c.requires) c.commit.ensures.logged
