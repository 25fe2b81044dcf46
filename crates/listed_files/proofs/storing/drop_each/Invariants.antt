-- The entries so far are out and the files at their paths are gone, and no call failed.
use Rattle.std.proofs.Common.{◌≡◌, drop, take}
use Rattle.folders.specs.Failures.{WhereTold}
use Rattle.folders.specs.Held.{BecameBy}
use Rattle.listed_files.specs.Arriving.{without_paths}
use Rattle.listed_files.proofs.storing.drop_each.Given as goal

abbrev pub invariant-loop-path : goal.invariant-loop-path
invariant-loop-path g l =
    (l.table ≡ record l.fn.table { entries = drop l.path-index l.fn.table.entries })
    × BecameBy (without_paths (take l.path-index l.paths)) (g.F.Folder.held l.fn.folder).files
    (g.F.Folder.held l.folder).files
    × ((g.F.Folder.held l.folder).faults ≡ (g.F.Folder.held l.fn.folder).faults)
    × WhereTold (g.F.Folder.held l.fn.folder) (g.F.Folder.failures l.folder ≡ g.F.Folder.failures l.fn.folder)
