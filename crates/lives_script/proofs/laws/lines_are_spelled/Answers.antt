use Rattle.lives_script.proofs.LineLemmas.{line_sound, line_complete}
use Rattle.lives_script.proofs.laws.lines_are_spelled.Goals as goal

pub returns : goal.returns
returns c = λ scopes t l. (line_sound scopes t l, line_complete scopes t l)
