use Rattle.farm_run.proofs.ServerLemmas.{station_look}
use Rattle.farm_run.proofs.run.Farm.station.Goals as goal

pub returns : goal.returns
returns g c = record {
  station = rw (← c.self.view_is) (station_look c.self.inside.desk.value.setup.servers
      c.self.inside.log.entries.items c.self.inside.stations.items c.args.place c.get.result
      c.self.invariant.farm.stations
      (rw (← c.deref.ensures.value) c.get.ensures.lookup));
}
