-- What holds of the parts of a client's toolchains, whatever failed so far.
use Rattle.std.specs.Prelude.{◌≡◌, ℕ, List, IsSome}
use Rattle.folders.specs.Held.{Held, Holds}
use Rattle.toolchain_cache.specs.Archives.{Archives, IsArchiveStore}
use Rattle.disk_cache.specs.declared.names.Names.{Names}
use Rattle.disk_cache.specs.Names.{AreNames}
use Rattle.disk_cache.specs.WeakMaps.{weak_map_at}

-- the names are those of the path, the cache is the one that they name, and the weak map is one, where files
-- are told
pub record IsShelf (names : Names) (path : List ℕ) (capacity : ℕ) (archives : Archives)
    (held : Held) : Type 0 where
  pub named : AreNames names
  pub path_is : path ≡ names.cache
  pub stands : IsArchiveStore path capacity archives held
  pub reads : Holds held (λ files. IsSome (weak_map_at names.dir files))
