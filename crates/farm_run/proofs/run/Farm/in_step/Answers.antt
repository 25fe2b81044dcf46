use Rattle.farm_run.proofs.StayLemmas.{are_in_step}
use Rattle.farm_run.proofs.run.Farm.in_step.Goals as goal

pub returns : goal.returns
returns g c = rw (← c.self.view_is)
    (are_in_step c.self.inside.desk.value.setup c.self.inside.log.entries.items c.self.inside.stations.items
    c.self.invariant.farm.stations)
