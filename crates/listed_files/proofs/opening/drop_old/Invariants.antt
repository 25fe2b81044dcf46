-- The folder shows what is still to go and what stays.
use Rattle.std.proofs.Common.{◌≡◌, drop}
use Rattle.folders.specs.Held.{Became}
use Rattle.folders.specs.Changed.{OnlyRemoved, ButUnder, RemovedUnder}
use Rattle.listed_files.specs.Opened.{Shows}
use Rattle.listed_files.proofs.opening.drop_old.Given as goal

abbrev pub invariant-loop-key : goal.invariant-loop-key
invariant-loop-key g l =
    Shows l.root (g.F.Folder.held l.folder) (drop l.key-index l.good)
    × Became OnlyRemoved (g.F.Folder.held l.fn.folder).files (g.F.Folder.held l.folder).files
    × Became (ButUnder l.root) (g.F.Folder.held l.fn.folder).files (g.F.Folder.held l.folder).files
    × Became (RemovedUnder l.root) (g.F.Folder.held l.fn.folder).files (g.F.Folder.held l.folder).files
    × ((g.F.Folder.held l.folder).faults ≡ (g.F.Folder.held l.fn.folder).faults)
