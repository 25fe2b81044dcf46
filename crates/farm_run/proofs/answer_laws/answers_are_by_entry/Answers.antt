use Rattle.farm_run.proofs.ServeLemmas.{answered_by}
use Rattle.farm_run.proofs.answer_laws.answers_are_by_entry.Goals as goal

pub returns : goal.returns
returns c = answered_by
