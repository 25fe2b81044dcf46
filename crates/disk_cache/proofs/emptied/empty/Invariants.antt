-- Of the files that were found those so far are gone.
use Rattle.std.proofs.Common.{◌≡◌}
use Rattle.folders.specs.Held.{Became}
use Rattle.disk_cache.proofs.EmptyLemmas.{Emptying}
use Rattle.disk_cache.proofs.emptied.empty.Given as goal

abbrev pub invariant-loop-file : goal.invariant-loop-file
invariant-loop-file g l =
    Became (Emptying l.under l.file-items l.file-index) (g.F.Folder.held l.fn.folder).files
    (g.F.Folder.held l.folder).files
    × ((g.F.Folder.held l.folder).faults ≡ (g.F.Folder.held l.fn.folder).faults)
