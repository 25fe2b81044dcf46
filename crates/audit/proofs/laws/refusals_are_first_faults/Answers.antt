use Rattle.audit.proofs.HeldLemmas.{by_law}
use Rattle.audit.proofs.CauseLemmas.{refused_text, refused_judged, refused_books}
use Rattle.audit.proofs.laws.refusals_are_first_faults.Goals as goal

pub returns-clause-text : goal.returns-clause-text
returns-clause-text c = refused_text

pub returns-clause-judged : goal.returns-clause-judged
returns-clause-judged c = refused_judged (by_law c.reservations_have_one_number.ensures)

pub returns-clause-books : goal.returns-clause-books
returns-clause-books c = refused_books (by_law c.reservations_have_one_number.ensures)
