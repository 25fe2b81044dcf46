-- How long the head of the storm's run is.
use Rattle.std.proofs.Common.{◌≡◌, length, refl}
use Rattle.dist_wire.specs.Written.{run_text}
use Rattle.dist_wire.specs.Numbers.{number_text}
use Rattle.farm_storm.specs.Storm.{storm_run}

pub run_length : length (run_text storm_run) ≡ 52
unfolding number_text
run_length = refl
