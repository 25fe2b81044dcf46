use Rattle.farm_run.proofs.StayLemmas.{are_hands}
use Rattle.farm_run.proofs.run.Farm.have_hands.Goals as goal

pub returns : goal.returns
returns g c = rw (← c.self.view_is)
    (are_hands c.self.inside.desk.value.setup c.self.inside.log.entries.items c.self.inside.stations.items
    c.self.invariant.farm.stations)
