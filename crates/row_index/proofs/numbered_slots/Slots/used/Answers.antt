use Rattle.std.proofs.Common.{◌≡◌, length, ◌∙◌, arith}
use Rattle.row_index.proofs.SlotLemmas.{within, rows_rise, rows_below}
use Rattle.row_index.proofs.numbered_slots.Slots.used.Goals as goal

pub returns-clause-within : goal.returns-clause-within
returns-clause-within g c =
    let s = c.self.inside in
    let le = within g.T.Numbered.number_of s.numbers.items s.rows.items c.self.invariant.numbered in
    let used : c.len.result ≡ length s.numbers.items = c.len.ensures ∙ s.numbers.ok.0 in
    rw (← c.self.view_is) (omega (arith, le, used))

pub returns-clause-rising : goal.returns-clause-rising
returns-clause-rising g c = rw (← c.self.view_is)
    (rows_rise g.T.Numbered.number_of c.self.inside.numbers.items
    c.self.inside.rows.items c.self.invariant.rising c.self.invariant.numbered)

pub returns-clause-below : goal.returns-clause-below
returns-clause-below g c = rw (← c.self.view_is)
    (rows_below g.T.Numbered.number_of c.self.inside.numbers.items
    c.self.inside.rows.items c.self.invariant.rising c.self.invariant.numbered)
