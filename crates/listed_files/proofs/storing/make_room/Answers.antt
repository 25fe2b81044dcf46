use Rattle.std.proofs.Common.{◌<◌, ◌≤◌, ◌∙◌, sym, arith}
use Rattle.listed_files.specs.Entries.{total}
use Rattle.listed_files.proofs.Made.{still_made, all_made}
use Rattle.folders.proofs.Exactly.{removed_both}
use Rattle.listed_files.proofs.Standing.{drops_more}
use Rattle.listed_files.proofs.Trims.{trim_fits}
use Rattle.listed_files.proofs.storing.make_room.Goals as goal

pub loop-folder-preserved : goal.loop-folder-preserved
loop-folder-preserved g c =
    let over : c.args.limit < total c.loop-folder.table.entries =
    omega (arith, c.loop-folder-test.true, c.size.ensures.size) in (
      drops_more c.args.root.now c.args.limit c.args.table.now c.loop-folder.table c.drop_first.new.table
          (g.F.Folder.held c.args.folder.now) (g.F.Folder.held c.loop-folder.folder)
          (g.F.Folder.held c.drop_first.new.folder) c.loop-folder.invariant.0 over c.drop_first.ensures.rest
          c.drop_first.ensures.stands c.drop_first.ensures.others c.drop_first.ensures.kept,
      c.in_ok-drop_first.ensures.counts ∙ c.loop-folder.invariant.1,
      still_made c.args.root.now c.args.limit c.args.table.now c.loop-folder.table c.drop_first.new.table
          (g.F.Folder.held c.args.folder.now).files (g.F.Folder.held c.loop-folder.folder).files
          (g.F.Folder.held c.drop_first.new.folder).files over c.drop_first.ensures.rest
          c.loop-folder.invariant.2 c.in_ok-drop_first.ensures.exact,
      removed_both (g.F.Folder.held c.args.folder.now).files (g.F.Folder.held c.loop-folder.folder).files
          (g.F.Folder.held c.drop_first.new.folder).files c.loop-folder.invariant.3
          c.drop_first.ensures.removed,
    )

pub returns-in_err-drop_first-clause-drops : goal.returns-in_err-drop_first-clause-drops
returns-in_err-drop_first-clause-drops g c =
    let over : c.args.limit < total c.loop-folder.table.entries =
    omega (arith, c.loop-folder-test.true, c.size.ensures.size) in
    drops_more c.args.root.now c.args.limit c.args.table.now c.loop-folder.table c.drop_first.new.table
    (g.F.Folder.held c.args.folder.now) (g.F.Folder.held c.loop-folder.folder)
    (g.F.Folder.held c.drop_first.new.folder) c.loop-folder.invariant.0 over c.drop_first.ensures.rest
    c.drop_first.ensures.stands c.drop_first.ensures.others c.drop_first.ensures.kept

pub returns-clause-ok : goal.returns-clause-ok
returns-clause-ok g c =
    let fits : total c.loop-folder.table.entries ≤ c.args.limit =
    omega (arith, c.loop-folder-test.false, c.size.ensures.size) in
    sym (trim_fits c.loop-folder.table.entries c.args.limit fits) ∙ c.loop-folder.invariant.0.needed

pub returns-clause-exact : goal.returns-clause-exact
returns-clause-exact g c =
    let fits : total c.loop-folder.table.entries ≤ c.args.limit =
    omega (arith, c.loop-folder-test.false, c.size.ensures.size) in
    all_made c.args.root.now c.args.limit c.args.table.now.entries c.loop-folder.table.entries
    (g.F.Folder.held c.args.folder.now).files (g.F.Folder.held c.loop-folder.folder).files fits
    c.loop-folder.invariant.2

pub returns-in_err-drop_first-clause-removed : goal.returns-in_err-drop_first-clause-removed
returns-in_err-drop_first-clause-removed g c =
    removed_both (g.F.Folder.held c.args.folder.now).files (g.F.Folder.held c.loop-folder.folder).files
    (g.F.Folder.held c.drop_first.new.folder).files c.loop-folder.invariant.3 c.drop_first.ensures.removed
