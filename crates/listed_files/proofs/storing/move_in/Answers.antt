use Rattle.std.proofs.Common.{sym, refl, inl, ◌∙◌, subst}
use Rattle.folders.specs.Changed.{ButUnderAnd, RemovedOrSame, IsNeither}
use Rattle.folders.specs.Whole.{OldOrMoved}
use Rattle.listed_files.specs.Disk.{Stands, ButThese}
use Rattle.std.proofs.lemmas.Result.{err_from_is_err_and}
use Rattle.listed_files.specs.Told.{ToldStored}
use Rattle.listed_files.proofs.Tolds.{call_told, early_told}
use Rattle.listed_files.proofs.Calls.{keeps_equal, equal_became}
use Rattle.listed_files.proofs.Fills.{stands_kept, on_err}
use Rattle.listed_files.proofs.storing.move_in.Given.{Over}
use Rattle.listed_files.proofs.storing.move_in.Goals.{After-make_way}
use Rattle.listed_files.proofs.storing.move_in.Goals as goal

-- what is listed stands behind the directories
stands : (g : Over) (c : After-make_way g)
    → Stands c.args.root.now (g.F.Folder.held c.make_way.new.folder) c.args.table.now.entries
stands g c =
    stands_kept c.args.root.now c.args.table.now.entries (g.F.Folder.held c.args.folder.now)
    (g.F.Folder.held c.make_way.new.folder) c.requires.stands
    (keeps_equal c.args.root.now c.args.table.now.entries _ _ c.make_way.ensures.files)

pub fill-requires-clause-stands : goal.fill-requires-clause-stands
fill-requires-clause-stands g c = stands g (goal.at.fill-requires-clause-stands g c).After-make_way

pub returns-in_err-make_way-clause-stands : goal.returns-in_err-make_way-clause-stands
returns-in_err-make_way-clause-stands g c =
    stands g (goal.at.returns-in_err-make_way-clause-stands g c).After-make_way

pub fill-requires-clause-written : goal.fill-requires-clause-written
fill-requires-clause-written g c = λ files told.
    c.requires.written files (sym c.make_way.ensures.files ∙ told)

pub returns-in_err-make_way-clause-left : goal.returns-in_err-make_way-clause-left
returns-in_err-make_way-clause-left g c = on_err c.from_residual.result
    (keeps_equal c.args.root.now c.args.table.now.entries _ _ c.make_way.ensures.files)

pub returns-in_err-make_way-clause-others : goal.returns-in_err-make_way-clause-others
returns-in_err-make_way-clause-others g c =
    equal_became (ButUnderAnd c.args.root.now c.args.arrival.now.from) _ _ c.make_way.ensures.files
    (λ f q away not_from. refl)

pub returns-in_err-make_way-clause-untouched : goal.returns-in_err-make_way-clause-untouched
returns-in_err-make_way-clause-untouched g c =
    equal_became (ButThese c.args.root.now c.args.arrival.now.from c.args.arrival.now.path
    c.args.table.now.entries) _ _ c.make_way.ensures.files (λ f q not_from not_path avoids. refl)

pub returns-in_err-make_way-clause-whole : goal.returns-in_err-make_way-clause-whole
returns-in_err-make_way-clause-whole g c =
    equal_became (OldOrMoved c.args.arrival.now.from c.args.arrival.now.path) _ _ c.make_way.ensures.files
    (λ f. inl (refl, refl))

pub returns-in_err-make_way-clause-removed : goal.returns-in_err-make_way-clause-removed
returns-in_err-make_way-clause-removed g c =
    equal_became (RemovedOrSame (IsNeither c.args.arrival.now.from c.args.arrival.now.path)) _ _
    c.make_way.ensures.files (λ f q b neither found. found)

pub returns-in_err-make_way-clause-failed : goal.returns-in_err-make_way-clause-failed
returns-in_err-make_way-clause-failed g c = λ files told.
    let p = err_from_is_err_and c.from_residual.result c.from_residual.ensures.1 in
    early_told c.args.arrival.now.key c.args.arrival.now.limit c.args.table.now.entries
    c.from_residual.result p.0 (g.F.Folder.failures c.args.folder.now)
    (g.F.Folder.failures c.make_way.new.folder) p.1
    (call_told c.make_way.result (g.F.Folder.failures c.args.folder.now)
    (g.F.Folder.failures c.make_way.new.folder) (c.make_way.ensures.failed files told))

pub returns-clause-failed : goal.returns-clause-failed
returns-clause-failed g c = λ files told.
    subst (λ f. ToldStored c.fill.result c.args.arrival.now.key c.args.arrival.now.limit
    c.args.table.now.entries c.fill.new.table.entries f (g.F.Folder.failures c.fill.new.folder))
    (c.in_ok-make_way.ensures.failed files told)
    (c.fill.ensures.failed _ (c.make_way.ensures.files ∙ told))
