use Rattle.farm_laws.proofs.ThereLemmas.{has_next}
use Rattle.farm_run.proofs.run.Farm.goes_on.Goals as goal

pub returns : goal.returns
returns g c = rw (← c.self.view_is)
    (has_next c.self.inside.desk.value.setup c.self.inside.log.entries.items c.self.inside.log.kept.items
    c.self.invariant.farm.kept)
