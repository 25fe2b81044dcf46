use Rattle.run_lines.proofs.UnbrokenLemmas.{line_unbroken}
use Rattle.run_lines.proofs.laws.lines_are_unbroken.Goals as goal

pub returns : goal.returns
returns c = line_unbroken
