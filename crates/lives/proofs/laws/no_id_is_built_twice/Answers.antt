use Rattle.lives.proofs.OnceLemmas.{built_once}
use Rattle.lives.proofs.laws.no_id_is_built_twice.Goals as goal

pub returns : goal.returns
returns c = built_once
