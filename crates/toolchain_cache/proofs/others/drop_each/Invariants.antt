-- Those so far are out, and those left are still to go.
use Rattle.std.proofs.Common.{◌≡◌, drop, None}
use Rattle.toolchain_cache.specs.Cleaned.{without_keys}
use Rattle.toolchain_cache.proofs.others.drop_each.Given as goal

abbrev pub invariant-loop-key : goal.invariant-loop-key
invariant-loop-key g l =
    (without_keys (drop l.key-index l.others) l.cache.disk.entries
    ≡ without_keys l.others l.fn.cache.disk.entries)
    × ((g.F.Folder.held l.cache.folder).files ≡ None)
    × (l.cache.disk ≡ record l.fn.cache.disk { entries = l.cache.disk.entries })
    × ((g.F.Folder.held l.cache.folder).faults ≡ (g.F.Folder.held l.fn.cache.folder).faults)
    × (l.cache.spoiled ≡ l.fn.cache.spoiled)
