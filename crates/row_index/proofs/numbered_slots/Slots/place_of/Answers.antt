use Rattle.std.proofs.Common.{◌<◌, length, arith}
use Rattle.row_index.proofs.SlotLemmas.{not_found, place_is, within}
use Rattle.row_index.proofs.numbered_slots.Slots.place_of.Goals as goal

pub returns-in-None : goal.returns-in-None
returns-in-None g c =
    let s = c.self.inside in
    rw (← c.self.view_is) (not_found g.T.Numbered.number_of c.args.number s.numbers.items s.rows.items
    c.self.invariant.numbered (rw c.deref.ensures.value at c.in-None.ensures))

pub row-requires : goal.row-requires
row-requires g c =
    let s = c.self.inside in
    let at = rw c.deref.ensures.value at c.in-Some.ensures in
    let lt : c.in-Some.place < length s.numbers.items = at.0 in
    let le = within g.T.Numbered.number_of s.numbers.items s.rows.items c.self.invariant.numbered in
    rw (← c.self.view_is) (omega (arith, lt, le))

pub returns-in-Some : goal.returns-in-Some
returns-in-Some g c =
    let s = c.self.inside in
    rw (← c.self.view_is) (place_is g.T.Numbered.number_of c.args.number s.numbers.items s.rows.items
    c.in-Some.place c.row.result c.if_full.result c.self.invariant.rising c.self.invariant.numbered
    (rw c.deref.ensures.value at c.in-Some.ensures)
    (rw (← c.self.view_is) at c.row.ensures.row) c.if_full.ensures)
