use Rattle.farm_storm.proofs.PlaceLemmas.{deeds_are}
use Rattle.farm_storm.proofs.laws.deeds_by_place.Goals as goal

pub returns : goal.returns
returns c = deeds_are
