-- What a cache is seen as, by what it keeps.
use Rattle.std.specs.Prelude.{ℕ, List}
use Rattle.listed_files.specs.Entries.{Listed}
use Rattle.lru_disk_cache.specs.Reserved.{Reservation}
use Rattle.lru_disk_cache.specs.Store.{Disk}

abbrev pub disk_of : List ℕ → List ℕ → Listed → List Reservation → Disk
disk_of path root table pending = record {
  path = path;
  root = root;
  capacity = table.capacity;
  entries = table.entries;
  pending = pending;
}
