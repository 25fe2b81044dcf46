-- A folder of no file has no path twice.
use Rattle.folders.proofs.Distinct.{none_distinct}
use Rattle.test_cache_orders.proofs.runs.over_memory.Goals as goal

pub new-folder-requires : goal.new-folder-requires
new-folder-requires g c = none_distinct c.new.result.items c.new.ensures.items
