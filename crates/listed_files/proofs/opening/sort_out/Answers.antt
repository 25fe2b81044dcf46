use Rattle.std.proofs.Common.{◌+◌, ◌<◌, drop, length, refl, ◌∙◌, arith}
use Rattle.listed_files.specs.Opened.{keyed}
use Rattle.folders.proofs.Exactly.{none_removed, none_outside, removed_both, outside_both}
use Rattle.folders.proofs.Removals.{none_spared, spared_both}
use Rattle.listed_files.proofs.Keeping.{none_out_kept, kept_both}
use Rattle.listed_files.proofs.Sorting.{none_kept, kept_more, shows_more}
use Rattle.listed_files.proofs.opening.sort_out.Goals as goal

pub loop-file-init : goal.loop-file-init
loop-file-init g c =
    let files = (g.F.Folder.held c.args.folder.now).files in (
      none_kept c.args.root.now c.args.capacity c.args.found.now c.args.good.now.items,
      c.requires,
      none_removed files,
      none_outside c.args.root.now files,
      none_spared c.args.root.now files,
      none_out_kept c.args.root.now c.args.capacity files,
      refl,
    )

pub loop-file-preserved : goal.loop-file-preserved
loop-file-preserved g c =
    let within : c.loop-file.file-index < length c.args.found.now = omega (arith, c.loop-file-test.true) in
    let old = (g.F.Folder.held c.args.folder.now).files in
    let now = (g.F.Folder.held c.loop-file.folder).files in
    let new = (g.F.Folder.held c.sort_one.new.folder).files in (
      kept_more c.args.root.now c.args.capacity c.loop-file.file-index c.args.found.now c.file-item.result
          c.args.good.now.items c.loop-file.good.items c.sort_one.new.good.items within c.file-item.is
          c.loop-file.invariant.0 c.in_ok-sort_one.ensures.list,
      c.in_ok-sort_one.ensures.shows
          (keyed c.args.root.now (drop (c.loop-file.file-index + 1) c.args.found.now))
          (shows_more c.args.root.now c.loop-file.file-index c.args.found.now c.file-item.result
          c.loop-file.good.items (g.F.Folder.held c.loop-file.folder) within c.file-item.is
          c.loop-file.invariant.1),
      removed_both old now new c.loop-file.invariant.2 c.in_ok-sort_one.ensures.removed,
      outside_both c.args.root.now old now new c.loop-file.invariant.3 c.in_ok-sort_one.ensures.others,
      spared_both c.args.root.now old now new c.loop-file.invariant.4 c.sort_one.ensures.spares,
      kept_both c.args.root.now c.args.capacity old now new c.loop-file.invariant.5
          (c.sort_one.ensures.keeps
          (keyed c.args.root.now (drop (c.loop-file.file-index + 1) c.args.found.now))
          (shows_more c.args.root.now c.loop-file.file-index c.args.found.now c.file-item.result
          c.loop-file.good.items (g.F.Folder.held c.loop-file.folder) within c.file-item.is
          c.loop-file.invariant.1)),
      c.in_ok-sort_one.ensures.counts ∙ c.loop-file.invariant.6,
    )

pub returns-in_err-sort_one-clause-spares : goal.returns-in_err-sort_one-clause-spares
returns-in_err-sort_one-clause-spares g c = spared_both c.args.root.now (g.F.Folder.held c.args.folder.now).files
    (g.F.Folder.held c.loop-file.folder).files (g.F.Folder.held c.sort_one.new.folder).files c.loop-file.invariant.4 c.sort_one.ensures.spares

pub returns-in_err-sort_one-clause-keeps : goal.returns-in_err-sort_one-clause-keeps
returns-in_err-sort_one-clause-keeps g c =
    let within : c.loop-file.file-index < length c.args.found.now = omega (arith, c.loop-file-test.true) in
    kept_both c.args.root.now c.args.capacity (g.F.Folder.held c.args.folder.now).files
    (g.F.Folder.held c.loop-file.folder).files (g.F.Folder.held c.sort_one.new.folder).files
    c.loop-file.invariant.5
    (c.sort_one.ensures.keeps (keyed c.args.root.now (drop (c.loop-file.file-index + 1) c.args.found.now))
    (shows_more c.args.root.now c.loop-file.file-index c.args.found.now c.file-item.result
    c.loop-file.good.items (g.F.Folder.held c.loop-file.folder) within c.file-item.is
    c.loop-file.invariant.1))
