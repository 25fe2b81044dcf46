use Rattle.farm_run.proofs.BeginLemmas.{none_distinct}
use Rattle.farm_run.proofs.begin.own_folder.Goals as goal

pub new-requires-4 : goal.new-requires-4
new-requires-4 c = none_distinct c.new-3.result.items c.new-3.ensures.items
