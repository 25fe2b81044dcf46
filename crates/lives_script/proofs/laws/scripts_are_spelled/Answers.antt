use Rattle.lives_script.proofs.SpelledLemmas.{script_is_said}
use Rattle.lives_script.proofs.laws.scripts_are_spelled.Goals as goal

pub returns : goal.returns
returns c = script_is_said
