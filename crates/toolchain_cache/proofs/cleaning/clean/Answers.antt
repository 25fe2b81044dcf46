use Rattle.folders.proofs.Removals.{same_spared, spared_both}
use Rattle.folders.specs.Held.{Never}
use Rattle.folders.proofs.CallLemmas.{left_same}
use Rattle.toolchain_cache.proofs.Sparing.{listed_same, sound_listed}
use Rattle.toolchain_cache.proofs.cleaning.clean.Goals as goal

pub returns-in_err-found-clause-spares : goal.returns-in_err-found-clause-spares
returns-in_err-found-clause-spares g c = (same_spared c.args.root.now (g.F.Folder.held c.args.folder.now).files (g.F.Folder.held c.list.new.self).files
    (left_same Never c.list.result (g.F.Folder.held c.args.folder.now) (g.F.Folder.held c.list.new.self)
    c.list.ensures.leaves))

pub returns-clause-spares : goal.returns-clause-spares
returns-clause-spares g c = spared_both c.args.root.now (g.F.Folder.held c.args.folder.now).files (g.F.Folder.held c.list.new.self).files (g.F.Folder.held c.clean_all.new.folder).files
    (same_spared c.args.root.now (g.F.Folder.held c.args.folder.now).files (g.F.Folder.held c.list.new.self).files
    (left_same Never c.list.result (g.F.Folder.held c.args.folder.now) (g.F.Folder.held c.list.new.self)
    c.list.ensures.leaves)) c.clean_all.ensures.spares

pub returns-in_err-found-clause-spared : goal.returns-in_err-found-clause-spared
returns-in_err-found-clause-spared g c =
    listed_same c.args.path.now c.args.capacity (g.F.Folder.held c.args.folder.now).files
    (g.F.Folder.held c.list.new.self).files
    (left_same Never c.list.result (g.F.Folder.held c.args.folder.now) (g.F.Folder.held c.list.new.self)
    c.list.ensures.leaves)

pub returns-clause-spared : goal.returns-clause-spared
returns-clause-spared g c =
    sound_listed c.args.path.now c.args.root.now c.args.capacity (g.F.Folder.held c.args.folder.now)
    (g.F.Folder.held c.list.new.self).files (g.F.Folder.held c.clean_all.new.folder).files c.requires
    c.in_ok-found.ensures.distinct
    (left_same Never c.list.result (g.F.Folder.held c.args.folder.now) (g.F.Folder.held c.list.new.self)
    c.list.ensures.leaves) c.clean_all.ensures.sound
