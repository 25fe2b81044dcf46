use Rattle.std.proofs.Common.{ap}
use Rattle.quota.specs.declared.call.QuotaAnswer.TheVariants as answer
use Rattle.quota_run.proofs.CallLemmas.{undo_made, undo_kept, none_undone, none_kept}
use Rattle.quota_run.proofs.run.undo.Goals as goal

pub returns-in-Some-clause-made : goal.returns-in-Some-clause-made
returns-in-Some-clause-made g c =
    undo_made c.args.quota.now c.undo.new.self c.args.now c.args.job c.in-Some.r c.args.hand.now _ c.requires.kept
    c.in-Some.ensures.taken c.undo.ensures.logged (ap answer.Logged c.next_number-number.ensures)

pub returns-in-Some-clause-kept : goal.returns-in-Some-clause-kept
returns-in-Some-clause-kept g c =
    undo_kept c.args.quota.now c.undo.new.self c.args.now c.args.job c.in-Some.r c.args.hand.now c.take.new.self
    c.requires.kept c.in-Some.ensures.taken c.undo.ensures.logged c.take.ensures.left

pub returns-in-None-clause-made : goal.returns-in-None-clause-made
returns-in-None-clause-made g c =
    none_undone c.args.quota.now c.args.now c.args.job c.args.hand.now c.requires.kept c.in-None.ensures.taken

pub returns-in-None-clause-kept : goal.returns-in-None-clause-kept
returns-in-None-clause-kept g c =
    none_kept c.args.quota.now c.args.job c.args.hand.now c.take.new.self c.requires.kept c.in-None.ensures.taken
    c.take.ensures.left
