use Rattle.lives_script.proofs.IdLemmas.{no_id_shared}
use Rattle.lives_script.proofs.laws.ranges_apart_share_no_id.Goals as goal

pub returns : goal.returns
returns c = no_id_shared
