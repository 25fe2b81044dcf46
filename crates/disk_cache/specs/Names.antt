-- Where the files of a client's toolchains stand, below the path that it is opened with.
use Rattle.std.specs.Prelude.{◌≡◌, ℕ, false, List, ◌++◌, codes}
use Rattle.std.specs.Str.{bytes_eq}
use Rattle.folders.specs.Files.{front}
use Rattle.disk_cache.specs.declared.names.Names.{Names}

-- the cache of archives
abbrev pub cache_path : List ℕ → List ℕ
cache_path dir = front dir ++ codes "tc"

-- the recorded weak keys
abbrev pub weak_path : List ℕ → List ℕ
weak_path dir = front dir ++ codes "weak_map.json"

-- what is still being written
abbrev pub temp_dir : List ℕ → List ℕ
temp_dir dir = front dir ++ codes "toolchain_tmp"

-- the recorded weak keys, while they are written
abbrev pub temp_path : List ℕ → List ℕ
temp_path dir = front dir ++ codes "toolchain_tmp/weak_map.json"

-- they are those of the path
pub record AreNames (n : Names) : Type 0 where
  pub cache_is : n.cache ≡ cache_path n.dir
  pub weak_is : n.weak ≡ weak_path n.dir
  pub temp_dir_is : n.temp_dir ≡ temp_dir n.dir
  pub temp_is : n.temp ≡ temp_path n.dir

-- it is not the path of a file below that directory
abbrev pub IsBeside : List ℕ → List ℕ → Type 0
IsBeside under path = (k : List ℕ) → bytes_eq (front under ++ k) path ≡ false
