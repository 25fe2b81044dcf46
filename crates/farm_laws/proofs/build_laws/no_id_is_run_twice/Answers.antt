use Rattle.farm_laws.proofs.RanLemmas.{never_ran_twice}
use Rattle.farm_laws.proofs.build_laws.no_id_is_run_twice.Goals as goal

pub returns : goal.returns
returns c = never_ran_twice
