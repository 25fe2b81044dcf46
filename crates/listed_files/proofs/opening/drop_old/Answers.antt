use Rattle.std.proofs.Common.{rules, subst, ◌∙◌, arith}
use Rattle.folders.proofs.Exactly.{removed_both, outside_at, outside_both}
use Rattle.folders.proofs.Removals.{spared_at, spared_both}
use Rattle.folders.specs.Held.{Became}
use Rattle.listed_files.specs.Entries.{trim}
use Rattle.listed_files.specs.Disk.{Keeps}
use Rattle.listed_files.proofs.Keeping.{shown_keeps, later_keeps}
use Rattle.listed_files.proofs.Sorting.{one_gone, at_front}
use Rattle.listed_files.proofs.opening.drop_old.Goals as goal

pub loop-key-preserved : goal.loop-key-preserved
loop-key-preserved g c =
    let old = (g.F.Folder.held c.args.folder.now).files in
    let now = (g.F.Folder.held c.loop-key.folder).files in
    let new = (g.F.Folder.held c.remove_file.new.folder).files in (
      one_gone c.args.root.now c.loop-key.key-index c.first_kept-first.result c.args.good.now
          c.loop-key-item.result (g.F.Folder.held c.loop-key.folder)
          (g.F.Folder.held c.remove_file.new.folder) c.first_kept-first.ensures.within
          (omega (arith, c.loop-key-test.true)) c.loop-key-item.is c.in_ok-remove_file.ensures.exact
          c.loop-key.invariant.0,
      removed_both old now new c.loop-key.invariant.1 c.in_ok-remove_file.ensures.removed,
      outside_both c.args.root.now old now new c.loop-key.invariant.2
          (outside_at c.args.root.now c.loop-key-item.result.0 now new
          c.in_ok-remove_file.ensures.others),
      spared_both c.args.root.now old now new c.loop-key.invariant.3
          (spared_at c.args.root.now c.loop-key-item.result.0 now new c.remove_file.ensures.part),
      c.in_ok-remove_file.ensures.counts ∙ c.loop-key.invariant.4,
    )

pub returns-in_err-remove_file-clause-spares : goal.returns-in_err-remove_file-clause-spares
returns-in_err-remove_file-clause-spares g c = spared_both c.args.root.now (g.F.Folder.held c.args.folder.now).files
    (g.F.Folder.held c.loop-key.folder).files (g.F.Folder.held c.remove_file.new.folder).files c.loop-key.invariant.3
    (spared_at c.args.root.now c.loop-key-item.result.0 (g.F.Folder.held c.loop-key.folder).files
    (g.F.Folder.held c.remove_file.new.folder).files c.remove_file.ensures.part)

pub returns-in_err-remove_file-clause-keeps : goal.returns-in_err-remove_file-clause-keeps
returns-in_err-remove_file-clause-keeps g c =
    let at = at_front c.loop-key.key-index c.first_kept-first.result c.args.good.now c.loop-key-item.result
    c.first_kept-first.ensures.within (omega (arith, c.loop-key-test.true)) c.loop-key-item.is in
    subst (λ l. Became (Keeps c.args.root.now l) (g.F.Folder.held c.args.folder.now).files
    (g.F.Folder.held c.remove_file.new.folder).files) c.first_kept-first.ensures.rest
    (later_keeps c.args.root.now c.loop-key.key-index c.first_kept-first.result c.args.good.now
    c.loop-key-item.result (g.F.Folder.held c.args.folder.now) (g.F.Folder.held c.loop-key.folder)
    (g.F.Folder.held c.remove_file.new.folder) at.0 at.1 c.loop-key.invariant.0 c.loop-key.invariant.1
    c.remove_file.ensures.part)

pub returns-clause-keeps : goal.returns-clause-keeps
returns-clause-keeps g c =
    shown_keeps c.args.root.now (trim c.args.capacity c.args.good.now) (g.F.Folder.held c.args.folder.now)
    (g.F.Folder.held c.loop-key.folder) (search rules) c.loop-key.invariant.1
