use Rattle.std.proofs.Common.{◌∙◌, ap, Err}
use Rattle.folders.proofs.CallLemmas.{taken_missing}
use Rattle.folders.proofs.Removals.{removed_part}
use Rattle.toolchain_cache.proofs.cleaning.discard.Goals as goal

pub returns-in-Err-Missing-clause-exact : goal.returns-in-Err-Missing-clause-exact
returns-in-Err-Missing-clause-exact g c =
    taken_missing c.get.result.now c.args.path.now c.remove.result (g.F.Folder.held c.args.folder.now)
    (g.F.Folder.held c.remove.new.self) (c.in-Err-Missing.is ∙ ap Err c.in-Err-Missing.field-0-is)
    c.get.ensures.text c.remove.ensures.removes

pub returns-in-Ok-clause-part : goal.returns-in-Ok-clause-part
returns-in-Ok-clause-part g c = removed_part c.get.result.now c.args.path.now c.remove.result _ _
    c.get.ensures.text c.remove.ensures.removes

pub returns-in-Err-Missing-clause-part : goal.returns-in-Err-Missing-clause-part
returns-in-Err-Missing-clause-part g c = removed_part c.get.result.now c.args.path.now c.remove.result _ _
    c.get.ensures.text c.remove.ensures.removes

pub returns-in-Err-Failed-clause-part : goal.returns-in-Err-Failed-clause-part
returns-in-Err-Failed-clause-part g c = removed_part c.get.result.now c.args.path.now c.remove.result _ _
    c.get.ensures.text c.remove.ensures.removes

pub returns-in-Err-Memory-clause-part : goal.returns-in-Err-Memory-clause-part
returns-in-Err-Memory-clause-part g c = removed_part c.get.result.now c.args.path.now c.remove.result _ _
    c.get.ensures.text c.remove.ensures.removes
