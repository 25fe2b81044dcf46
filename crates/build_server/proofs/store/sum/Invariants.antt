use Rattle.std.proofs.Common.{◌≡◌, ◌+◌}
use Rattle.listed_files.specs.Entries.{total}
use Rattle.build_server.proofs.store.sum.Given as goal

abbrev pub invariant-loop-size : goal.invariant-loop-size
invariant-loop-size g l = l.sum + total l.size-iterator ≡ total l.cache.archives
