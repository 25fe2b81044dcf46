use Rattle.folders.proofs.Distinct.{none_distinct}
use Rattle.folders.proofs.reliable_folder.ReliableFolder.new.Goals as goal

pub invariant_of-result : goal.invariant_of-result
invariant_of-result c = record { distinct = none_distinct c.new.result.items c.new.ensures.items }
