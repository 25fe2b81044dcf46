use Rattle.std.proofs.Common.{◌∙◌, arith}
use Rattle.row_index.proofs.SlotLemmas.{rows-take_out, numbered-take_out, among, fewer}
use Rattle.row_index.proofs.numbered_slots.Slots.take_out.Goals as goal

pub invariant_of-self : goal.invariant_of-self
invariant_of-self g c =
    let s = c.self.inside in
    let is = rw (← c.self.view_is) at c.requires.is in
    let at = among g.T.Numbered.number_of s.numbers.items s.rows.items c.args.place c.requires.row
    c.self.invariant.numbered is in
    let len = c.write_at.ensures.len in
    let room = c.self.invariant.room in
    rw c.write_at.ensures.items (record {
      rising = c.self.invariant.rising;
      numbered = numbered-take_out g.T.Numbered.number_of s.numbers.items s.rows.items c.args.place
          c.self.invariant.numbered at.0;
      room = omega (arith, len, room);
      counted = omega (arith, fewer s.rows.items c.args.place c.requires.row is, c.self.invariant.counted);
    })

pub returns-clause-rows : goal.returns-clause-rows
returns-clause-rows g c =
    let s = c.self.inside in
    let is = rw (← c.self.view_is) at c.requires.is in
    let at = among g.T.Numbered.number_of s.numbers.items s.rows.items c.args.place c.requires.row
    c.self.invariant.numbered is in
    rw (← c.self.view_is, c.write_at.ensures.items)
    (rows-take_out g.T.Numbered.number_of c.args.number s.numbers.items s.rows.items c.args.place
    c.self.invariant.rising c.self.invariant.numbered at.0 (at.1 ∙ c.requires.numbered))
