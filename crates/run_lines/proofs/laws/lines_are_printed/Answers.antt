use Rattle.run_lines.proofs.LineLemmas.{run_line_sound, run_line_complete}
use Rattle.run_lines.proofs.laws.lines_are_printed.Goals as goal

pub returns : goal.returns
returns c = λ t l. (run_line_sound t l, run_line_complete t l)
