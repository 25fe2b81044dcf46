use Rattle.audit.proofs.HeldLemmas.{by_law, holds_exactly}
use Rattle.audit.proofs.laws.what_holds_is_held.Goals as goal

pub returns : goal.returns
returns c = holds_exactly (by_law c.reservations_have_one_number.ensures)
