use Rattle.quota_script.proofs.FirstFaultyLemmas.{first_faulty}
use Rattle.quota_script.proofs.laws.first_faulty_lines_are_named.Goals as goal

pub returns : goal.returns
returns c = first_faulty
