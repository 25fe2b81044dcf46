-- The entries so far are listed, and there is room for the others.
use Rattle.std.proofs.Common.{◌≡◌, ◌+◌, ◌≤◌, ◌++◌, take, drop}
use Rattle.std.specs.List.{IsDistinct}
use Rattle.std.specs.Map.{keys_of}
use Rattle.std.specs.Str.{bytes_eq}
use Rattle.listed_files.specs.Entries.{total}
use Rattle.listed_files.specs.Disk.{AllKeys}
use Rattle.listed_files.proofs.opening.list_all.Given as goal

abbrev pub invariant-loop-key : goal.invariant-loop-key
invariant-loop-key l =
    (l.table.capacity ≡ l.fn.table.capacity)
    × (total l.table.entries + total (drop l.key-index l.good) ≤ l.table.capacity)
    × (IsDistinct bytes_eq (keys_of (l.fn.table.entries ++ l.good))
    → l.table.entries ≡ l.fn.table.entries ++ take l.key-index l.good)
    × (AllKeys l.fn.table.entries → AllKeys l.good
    → AllKeys l.table.entries × AllKeys (drop l.key-index l.good))
