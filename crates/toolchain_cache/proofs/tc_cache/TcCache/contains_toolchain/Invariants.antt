-- The archive is listed where it is among those left, whose keys are those of archives.
use Rattle.std.proofs.Common.{◌≡◌}
use Rattle.std.specs.Map.{lookup}
use Rattle.std.specs.Str.{bytes_eq}
use Rattle.toolchain_cache.specs.Keyed.{unkeyed, AllArchiveKeys}
use Rattle.toolchain_cache.proofs.tc_cache.TcCache.contains_toolchain.Given as goal

abbrev pub invariant-loop-key : goal.invariant-loop-key
invariant-loop-key g l = (lookup (bytes_eq l.tc) l.self.archives
    ≡ lookup (bytes_eq l.tc) (unkeyed l.key-iterator)) × AllArchiveKeys l.key-iterator
