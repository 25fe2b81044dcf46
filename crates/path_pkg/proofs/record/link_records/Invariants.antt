use Rattle.std.proofs.Common.{◌≡◌, take}
use Rattle.path_pkg.specs.Records.{link_records}
use Rattle.path_pkg.proofs.record.link_records.Given as goal

abbrev pub invariant-loop-path : goal.invariant-loop-path
invariant-loop-path l = l.records.items ≡ link_records (take l.path-index l.links)
