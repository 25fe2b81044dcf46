use Rattle.farm_stations.proofs.UnlistedLemmas.{never_fails}
use Rattle.farm_stations.proofs.folder_laws.unlisted_calls_never_fail.Goals as goal

pub returns : goal.returns
returns c = never_fails
