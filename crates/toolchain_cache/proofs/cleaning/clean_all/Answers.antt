use Rattle.std.proofs.Common.{◌∙◌, arith}
use Rattle.toolchain_cache.proofs.Judged.{cleaned_more, one_spared, still_there}
use Rattle.folders.proofs.Removals.{spared_both}
use Rattle.toolchain_cache.proofs.Sparing.{one_sound, sound_both}
use Rattle.toolchain_cache.proofs.cleaning.clean_all.Goals as goal

pub clean_one-requires : goal.clean_one-requires
clean_one-requires g c =
    still_there c.args.root.now c.args.capacity c.loop-file.file-index c.args.found.now c.file-item.result
    (g.F.Folder.held c.args.folder.now) (g.F.Folder.held c.loop-file.folder) c.requires.found
    (omega (arith, c.loop-file-test.true)) c.file-item.is c.loop-file.invariant.0

pub loop-file-preserved : goal.loop-file-preserved
loop-file-preserved g c = (
  cleaned_more c.args.root.now c.args.capacity c.loop-file.file-index c.args.found.now c.file-item.result
      (g.F.Folder.held c.args.folder.now).files (g.F.Folder.held c.loop-file.folder).files
      (g.F.Folder.held c.clean_one.new.folder).files c.requires.found (omega (arith, c.loop-file-test.true))
      c.file-item.is c.loop-file.invariant.0 c.in_ok-clean_one.ensures.cleaned,
  spared_both c.args.root.now (g.F.Folder.held c.args.folder.now).files
      (g.F.Folder.held c.loop-file.folder).files (g.F.Folder.held c.clean_one.new.folder).files
      c.loop-file.invariant.1 (one_spared c.args.root.now c.args.capacity c.loop-file.file-index
      c.args.found.now c.file-item.result (g.F.Folder.held c.args.folder.now)
      (g.F.Folder.held c.loop-file.folder) (g.F.Folder.held c.clean_one.new.folder).files c.requires.found
      (omega (arith, c.loop-file-test.true)) c.file-item.is c.loop-file.invariant.0
      c.clean_one.ensures.part),
  c.in_ok-clean_one.ensures.counts ∙ c.loop-file.invariant.2,
  sound_both c.args.root.now c.args.capacity (g.F.Folder.held c.args.folder.now).files
      (g.F.Folder.held c.loop-file.folder).files (g.F.Folder.held c.clean_one.new.folder).files
      c.loop-file.invariant.3 (one_sound c.args.root.now c.args.capacity c.loop-file.file-index
      c.args.found.now c.file-item.result (g.F.Folder.held c.args.folder.now)
      (g.F.Folder.held c.loop-file.folder) (g.F.Folder.held c.clean_one.new.folder).files c.requires.found
      (omega (arith, c.loop-file-test.true)) c.file-item.is c.loop-file.invariant.0
      c.clean_one.ensures.spares),
)

pub returns-in_err-clean_one-clause-spares : goal.returns-in_err-clean_one-clause-spares
returns-in_err-clean_one-clause-spares g c = spared_both c.args.root.now (g.F.Folder.held c.args.folder.now).files
    (g.F.Folder.held c.loop-file.folder).files (g.F.Folder.held c.clean_one.new.folder).files c.loop-file.invariant.1
    (one_spared c.args.root.now c.args.capacity c.loop-file.file-index c.args.found.now c.file-item.result
    (g.F.Folder.held c.args.folder.now) (g.F.Folder.held c.loop-file.folder) (g.F.Folder.held c.clean_one.new.folder).files
    c.requires.found (omega (arith, c.loop-file-test.true)) c.file-item.is c.loop-file.invariant.0
    c.clean_one.ensures.part)

pub returns-in_err-clean_one-clause-sound : goal.returns-in_err-clean_one-clause-sound
returns-in_err-clean_one-clause-sound g c =
    sound_both c.args.root.now c.args.capacity (g.F.Folder.held c.args.folder.now).files
    (g.F.Folder.held c.loop-file.folder).files (g.F.Folder.held c.clean_one.new.folder).files
    c.loop-file.invariant.3 (one_sound c.args.root.now c.args.capacity c.loop-file.file-index
    c.args.found.now c.file-item.result (g.F.Folder.held c.args.folder.now)
    (g.F.Folder.held c.loop-file.folder) (g.F.Folder.held c.clean_one.new.folder).files c.requires.found
    (omega (arith, c.loop-file-test.true)) c.file-item.is c.loop-file.invariant.0
    c.clean_one.ensures.spares)
