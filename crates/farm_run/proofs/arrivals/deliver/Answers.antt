use Rattle.farm_run.specs.declared.pending.Made.{Made}
use Rattle.std.proofs.Common.{ap}
use Rattle.farm_run.proofs.StandLemmas.{stands_same}
use Rattle.farm_run.proofs.arrivals.deliver.Goals as goal

pub returns-in-None-clause-stations : goal.returns-in-None-clause-stations
returns-in-None-clause-stations g c =
    stands_same c.args.desk.now.setup c.args.entries.now c.args.stations.now.items c.idle.result.effect
    c.requires.stations (ap (λ (m : Made). m.effect.step) c.idle.ensures)
