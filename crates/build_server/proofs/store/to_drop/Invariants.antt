use Rattle.std.proofs.Common.{◌≡◌, ◌++◌}
use Rattle.listed_files.specs.Disk.{dropped}
use Rattle.listed_files.specs.Entries.{total}
use Rattle.build_server.specs.Books.{ids}
use Rattle.build_server.proofs.store.to_drop.Given as goal

abbrev pub invariant-loop-tc : goal.invariant-loop-tc
invariant-loop-tc g l =
    (l.left ≡ total l.tc-iterator)
    × (l.gone.items ++ ids (dropped l.limit l.tc-iterator) ≡ ids (dropped l.limit l.cache.archives))
