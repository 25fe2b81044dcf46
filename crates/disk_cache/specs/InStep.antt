-- A client's list and its files.
use Rattle.toolchain_cache.specs.Archives.{IsInStep}
use Rattle.disk_cache.specs.Names.{cache_path}
use Rattle.disk_cache.specs.Toolchains.{Toolchains}

-- the archives among the files, where they are told, are those listed, in their order
abbrev pub IsClientInStep : Toolchains → Type 0
IsClientInStep t = IsInStep (cache_path t.dir) t.held t.archives

-- a list that was in step with the files is so still
abbrev pub KeepsStep : Toolchains → Toolchains → Type 0
KeepsStep old new = IsClientInStep old → IsClientInStep new
