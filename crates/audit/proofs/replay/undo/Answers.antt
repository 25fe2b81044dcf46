use Rattle.audit.proofs.ReplayLemmas.{none_undone, undo_called, undo_kept}
use Rattle.audit.proofs.replay.undo.Goals as goal

pub returns-in-None-clause-called : goal.returns-in-None-clause-called
returns-in-None-clause-called c = λ noted ended.
    none_undone c.args.r.now.state c.args.now c.args.job noted ended
    (c.in-None.ensures.taken c.args.r.now.state c.requires).0

pub returns-in-None-clause-kept : goal.returns-in-None-clause-kept
returns-in-None-clause-kept c = (c.in-None.ensures.taken c.args.r.now.state c.requires).1

pub returns-in-Some-clause-called : goal.returns-in-Some-clause-called
returns-in-Some-clause-called c = λ noted ended.
    undo_called c.take.new.kept c.args.r.now.state c.undo.new.self c.args.now c.args.job noted ended
    c.in-Some.t (c.in-Some.ensures.taken c.args.r.now.state c.requires) c.undo.ensures.logged

pub returns-in-Some-clause-kept : goal.returns-in-Some-clause-kept
returns-in-Some-clause-kept c =
    undo_kept c.take.new.kept c.args.r.now.state c.undo.new.self c.args.now c.args.job
    c.in-Some.t (c.in-Some.ensures.taken c.args.r.now.state c.requires) c.undo.ensures.logged
