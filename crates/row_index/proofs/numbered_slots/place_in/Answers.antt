use Rattle.std.proofs.lemmas.List.Sorted.{searched}
use Rattle.std.specs.Prelude.{Err}
use Rattle.row_index.proofs.SlotLemmas.{rising_at, between_none}
use Rattle.row_index.proofs.numbered_slots.place_in.Goals as goal

pub returns-in-Err : goal.returns-in-Err
returns-in-Err c = λ i lt is.
    let at = searched c.args.numbers.now c.args.number (Err c.in-Err.field-0) c.in-Err.ensures.position
    (rising_at c.args.numbers.now c.requires) in
    between_none c.args.numbers.now c.args.number c.in-Err.field-0 i at.1 at.2 lt is
