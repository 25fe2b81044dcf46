use Rattle.lives_script.proofs.FirstFaultyLemmas.{first_faulty}
use Rattle.lives_script.proofs.laws.first_faulty_lines_are_named.Goals as goal

pub returns : goal.returns
returns c = first_faulty
