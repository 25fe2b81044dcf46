use Rattle.farm_laws.proofs.OneLemmas.{one_text}
use Rattle.farm_laws.proofs.laws.texts_are_one.Goals as goal

pub returns : goal.returns
returns c = one_text
