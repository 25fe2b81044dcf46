-- What goes is what went so far and what goes of the entries left, whose keys differ.
use Rattle.std.proofs.Common.{◌≡◌, ◌++◌}
use Rattle.std.specs.List.{IsDistinct}
use Rattle.std.specs.Map.{keys_of}
use Rattle.std.specs.Str.{bytes_eq}
use Rattle.listed_files.specs.Arriving.{paths_of}
use Rattle.listed_files.specs.Disk.{dropped, without_key}
use Rattle.listed_files.specs.Entries.{total}
use Rattle.listed_files.proofs.storing.paths_to_drop.Given as goal

abbrev pub invariant-loop-listed : goal.invariant-loop-listed
invariant-loop-listed l =
    (l.rest ≡ total (without_key l.key l.listed-iterator))
    × IsDistinct bytes_eq (keys_of l.listed-iterator)
    × (l.paths.items ++ paths_of l.root (dropped l.limit (without_key l.key l.listed-iterator))
    ≡ paths_of l.root (dropped l.limit (without_key l.key l.table.entries)))
