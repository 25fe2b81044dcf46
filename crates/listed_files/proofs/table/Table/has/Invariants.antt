-- The key is listed where it is among those left.
use Rattle.std.proofs.Common.{◌≡◌}
use Rattle.std.specs.Map.{lookup}
use Rattle.std.specs.Str.{bytes_eq}
use Rattle.listed_files.proofs.table.Table.has.Given as goal

abbrev pub invariant-loop-listed : goal.invariant-loop-listed
invariant-loop-listed l = lookup (bytes_eq l.key) l.self.entries ≡ lookup (bytes_eq l.key) l.listed-iterator
