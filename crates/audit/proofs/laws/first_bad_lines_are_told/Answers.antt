use Rattle.audit.proofs.FirstBadLemmas.{first_bad, one_bad}
use Rattle.audit.proofs.laws.first_bad_lines_are_told.Goals as goal

pub returns-clause-told : goal.returns-clause-told
returns-clause-told c = first_bad

pub returns-clause-single : goal.returns-clause-single
returns-clause-single c = one_bad
