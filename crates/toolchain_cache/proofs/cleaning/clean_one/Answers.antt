use Rattle.folders.proofs.Removals.{same_then_part}
use Rattle.toolchain_cache.proofs.Sparing.{unsound_out}
use Rattle.toolchain_cache.proofs.cleaning.clean_one.Goals as goal

pub returns-clause-part : goal.returns-clause-part
returns-clause-part g c = same_then_part c.args.file.now.path (g.F.Folder.held c.args.folder.now).files (g.F.Folder.held c.is_sound.new.folder).files (g.F.Folder.held c.discard.new.folder).files
    c.is_sound.ensures.kept c.discard.ensures.part

pub returns-clause-spares : goal.returns-clause-spares
returns-clause-spares g c =
    unsound_out c.args.root.now c.args.capacity c.args.file.now c.in_ok-is_sound.field-0
    (g.F.Folder.held c.args.folder.now) (g.F.Folder.held c.is_sound.new.folder)
    (g.F.Folder.held c.discard.new.folder).files c.in_ok-is_sound.ensures.sound c.if-branch.false
    c.in_ok-is_sound.ensures.same c.discard.ensures.part
