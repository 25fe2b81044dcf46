-- What was dropped so far had to go, and there was no fault.
use Rattle.std.proofs.Common.{◌≡◌, length}
use Rattle.std.specs.Option.{option_map}
use Rattle.folders.specs.Held.{Became}
use Rattle.listed_files.specs.Disk.{Drops, dropped, without_each}
use Rattle.folders.specs.Changed.{OnlyRemoved}
use Rattle.listed_files.proofs.storing.make_room.Given as goal

abbrev pub invariant-loop-folder : goal.invariant-loop-folder
invariant-loop-folder g l =
    Drops l.root l.limit l.fn.table l.table (g.F.Folder.held l.fn.folder) (g.F.Folder.held l.folder)
    × ((g.F.Folder.held l.folder).faults ≡ (g.F.Folder.held l.fn.folder).faults)
    × (option_map (without_each l.root (dropped l.limit l.table.entries)) (g.F.Folder.held l.folder).files
    ≡ option_map (without_each l.root (dropped l.limit l.fn.table.entries))
    (g.F.Folder.held l.fn.folder).files)
    × Became OnlyRemoved (g.F.Folder.held l.fn.folder).files (g.F.Folder.held l.folder).files

abbrev pub decreases-loop-folder : goal.decreases-loop-folder
decreases-loop-folder g l = length l.table.entries
