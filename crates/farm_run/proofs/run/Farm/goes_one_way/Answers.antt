use Rattle.std.proofs.Common.{map}
use Rattle.farm_stations.specs.Post.{Post}
use Rattle.farm_run.proofs.OneWayLemmas.{steps_one}
use Rattle.farm_run.proofs.run.Farm.goes_one_way.Goals as goal

pub returns : goal.returns
returns g c = rw (← c.self.view_is)
    (λ event one other. steps_one c.self.inside.desk.value.setup c.self.inside.log.entries.items _
    (map (λ (st : Post). st.hand) c.self.inside.stations.items) event one other c.self.invariant.farm.apart)
