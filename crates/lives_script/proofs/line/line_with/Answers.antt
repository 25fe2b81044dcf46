use Rattle.lives_script.proofs.LineLemmas.{life_range}
use Rattle.lives_script.proofs.line.line_with.Goals as goal

pub returns-in-Some-clause-some : goal.returns-in-Some-clause-some
returns-in-Some-clause-some c = life_range c.in-Some.rest.now c.in_ok-line.line c.in_ok-line.ensures
