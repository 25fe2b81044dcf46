-- What a cache of archives is seen as, by what it keeps.
use Rattle.std.specs.Prelude.{ℕ}
use Rattle.toolchain_cache.specs.Archives.{ArchiveStore}
use Rattle.toolchain_cache.specs.Keyed.{unkeyed}
use Rattle.lru_disk_cache.specs.Store.{Disk}

abbrev pub archives_of : {F : Type 0} → Disk → F → ℕ → ArchiveStore F
archives_of disk folder spoiled = record {
  path = disk.path;
  capacity = disk.capacity;
  archives = unkeyed disk.entries;
  folder = folder;
  spoiled = spoiled;
}
