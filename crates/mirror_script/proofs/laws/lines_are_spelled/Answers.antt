use Rattle.mirror_script.proofs.LineLemmas.{line_sound, line_complete}
use Rattle.mirror_script.proofs.laws.lines_are_spelled.Goals as goal

pub returns : goal.returns
returns c = λ t l. (line_sound t l, line_complete t l)
