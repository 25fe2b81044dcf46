-- What is kept of the files so far, and with the others what the folder shows.
use Rattle.std.proofs.Common.{◌≡◌, ◌++◌, take, drop}
use Rattle.folders.specs.Held.{Became}
use Rattle.folders.specs.Changed.{OnlyRemoved, ButUnder, RemovedUnder}
use Rattle.listed_files.specs.Opened.{keyed, kept, Shows, KeepsKept}
use Rattle.listed_files.proofs.opening.sort_out.Given as goal

abbrev pub invariant-loop-file : goal.invariant-loop-file
invariant-loop-file g l =
    (l.good.items ≡ l.fn.good.items ++ kept l.root l.capacity (take l.file-index l.found))
    × Shows l.root (g.F.Folder.held l.folder) (l.good.items ++ keyed l.root (drop l.file-index l.found))
    × Became OnlyRemoved (g.F.Folder.held l.fn.folder).files (g.F.Folder.held l.folder).files
    × Became (ButUnder l.root) (g.F.Folder.held l.fn.folder).files (g.F.Folder.held l.folder).files
    × Became (RemovedUnder l.root) (g.F.Folder.held l.fn.folder).files (g.F.Folder.held l.folder).files
    × Became (KeepsKept l.root l.capacity) (g.F.Folder.held l.fn.folder).files (g.F.Folder.held l.folder).files
    × ((g.F.Folder.held l.folder).faults ≡ (g.F.Folder.held l.fn.folder).faults)
