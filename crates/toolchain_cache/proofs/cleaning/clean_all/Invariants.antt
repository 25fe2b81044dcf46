-- Of the files so far those are left that are sound, and of the others all.
use Rattle.std.proofs.Common.{◌≡◌}
use Rattle.folders.specs.Held.{Became}
use Rattle.folders.specs.Changed.{RemovedUnder}
use Rattle.toolchain_cache.specs.Cleaned.{KeepsSound}
use Rattle.toolchain_cache.proofs.Judged.{SoFar}
use Rattle.toolchain_cache.proofs.cleaning.clean_all.Given as goal

abbrev pub invariant-loop-file : goal.invariant-loop-file
invariant-loop-file g l =
    Became (SoFar l.root l.capacity l.file-index) (g.F.Folder.held l.fn.folder).files
    (g.F.Folder.held l.folder).files
    × Became (RemovedUnder l.root) (g.F.Folder.held l.fn.folder).files (g.F.Folder.held l.folder).files
    × ((g.F.Folder.held l.folder).faults ≡ (g.F.Folder.held l.fn.folder).faults)
    × Became (KeepsSound l.root l.capacity) (g.F.Folder.held l.fn.folder).files
    (g.F.Folder.held l.folder).files
