use Rattle.row_index.proofs.SlotLemmas.{row_is}
use Rattle.row_index.proofs.numbered_slots.Slots.row.Goals as goal

pub returns-clause-whole : goal.returns-clause-whole
returns-clause-whole g c =
    let s = c.self.inside in
    rw (← c.self.view_is) (row_is g.T.Numbered.number_of s.numbers.items s.rows.items c.args.place
    c.read_at.result c.self.invariant.rising c.self.invariant.numbered
    (rw c.deref.ensures.value at c.read_at.ensures))
