use Rattle.std.proofs.Common.{◌≡◌, drop}
use Rattle.disk_cache.specs.Custom.{taken_of}
use Rattle.disk_cache.proofs.custom.taken_of.Given as goal

abbrev pub invariant-loop-first : goal.invariant-loop-first
invariant-loop-first l = taken_of l.path (drop l.first-index l.taken) ≡ taken_of l.path l.taken
