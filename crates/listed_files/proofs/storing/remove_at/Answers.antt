use Rattle.std.proofs.Common.{◌∙◌, refl, ap, Err}
use Rattle.folders.proofs.CallLemmas.{removed_others, gone_ok, taken_ok, taken_missing}
use Rattle.folders.proofs.Removals.{removed_part}
use Rattle.listed_files.proofs.storing.remove_at.Goals as goal

pub returns-in-Ok-clause-others : goal.returns-in-Ok-clause-others
returns-in-Ok-clause-others g c =
    removed_others c.args.path.now c.remove.result _ _ c.remove.ensures.removes

pub returns-in-Err-Failed-clause-others : goal.returns-in-Err-Failed-clause-others
returns-in-Err-Failed-clause-others g c =
    removed_others c.args.path.now c.remove.result _ _ c.remove.ensures.removes

pub returns-in-Ok-clause-gone : goal.returns-in-Ok-clause-gone
returns-in-Ok-clause-gone g c =
    gone_ok c.args.path.now c.args.path.now c.in-Ok.field-0 (g.F.Folder.held c.args.folder.now)
    (g.F.Folder.held c.remove.new.self) refl c.in-Ok.ensures.removes

pub returns-in-Ok-clause-exact : goal.returns-in-Ok-clause-exact
returns-in-Ok-clause-exact g c =
    taken_ok c.args.path.now c.args.path.now c.in-Ok.field-0 (g.F.Folder.held c.args.folder.now)
    (g.F.Folder.held c.remove.new.self) refl c.in-Ok.ensures.removes

pub returns-in-Err-Missing-clause-exact : goal.returns-in-Err-Missing-clause-exact
returns-in-Err-Missing-clause-exact g c =
    taken_missing c.args.path.now c.args.path.now c.remove.result (g.F.Folder.held c.args.folder.now)
    (g.F.Folder.held c.remove.new.self) (c.in-Err-Missing.is ∙ ap Err c.in-Err-Missing.field-0-is) refl
    c.remove.ensures.removes

pub returns-in-Err-Memory-clause-others : goal.returns-in-Err-Memory-clause-others
returns-in-Err-Memory-clause-others g c =
    removed_others c.args.path.now c.remove.result _ _ c.remove.ensures.removes

pub returns-in-Ok-clause-part : goal.returns-in-Ok-clause-part
returns-in-Ok-clause-part g c =
    removed_part c.args.path.now c.args.path.now c.remove.result _ _ refl c.remove.ensures.removes

pub returns-in-Err-Failed-clause-part : goal.returns-in-Err-Failed-clause-part
returns-in-Err-Failed-clause-part g c =
    removed_part c.args.path.now c.args.path.now c.remove.result _ _ refl c.remove.ensures.removes

pub returns-in-Err-Memory-clause-part : goal.returns-in-Err-Memory-clause-part
returns-in-Err-Memory-clause-part g c =
    removed_part c.args.path.now c.args.path.now c.remove.result _ _ refl c.remove.ensures.removes

pub returns-in-Err-Missing-clause-part : goal.returns-in-Err-Missing-clause-part
returns-in-Err-Missing-clause-part g c =
    removed_part c.args.path.now c.args.path.now c.remove.result _ _ refl c.remove.ensures.removes
