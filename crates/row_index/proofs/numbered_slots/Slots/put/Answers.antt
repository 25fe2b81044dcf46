use Rattle.std.proofs.Common.{ap, ◌∙◌, sym, arith}
use Rattle.std.proofs.Common.{length}
use Rattle.std.proofs.lemmas.List.{length-map}
use Rattle.row_index.specs.Slots.{rows_in}
use Rattle.row_index.proofs.SlotLemmas.{rows-put, numbered-put, among}
use Rattle.row_index.proofs.numbered_slots.Slots.put.Goals as goal

pub invariant_of-self : goal.invariant_of-self
invariant_of-self g c =
    let s = c.self.inside in
    let is = rw (← c.self.view_is) at c.requires.is in
    let at = among g.T.Numbered.number_of s.numbers.items s.rows.items c.args.place c.requires.row
    c.self.invariant.numbered is in
    let len = c.write_at.ensures.len in
    let room = c.self.invariant.room in
    rw c.write_at.ensures.items (record {
      rising = c.self.invariant.rising;
      numbered = numbered-put g.T.Numbered.number_of c.args.row s.numbers.items s.rows.items c.args.place
          c.self.invariant.numbered at.0 (at.1 ∙ c.requires.numbered);
      room = omega (arith, len, room);
      counted = c.self.invariant.counted
          ∙ sym (ap length (rows-put g.T.Numbered.number_of (g.T.Numbered.number_of c.args.row)
          c.args.row s.numbers.items s.rows.items c.args.place c.requires.row c.self.invariant.rising
          c.self.invariant.numbered at.0 (at.1 ∙ c.requires.numbered) is)
          ∙ length-map (rows_in s.rows.items) _);
    })

pub returns-clause-rows : goal.returns-clause-rows
returns-clause-rows g c =
    let s = c.self.inside in
    let is = rw (← c.self.view_is) at c.requires.is in
    let at = among g.T.Numbered.number_of s.numbers.items s.rows.items c.args.place c.requires.row
    c.self.invariant.numbered is in
    rw (← c.self.view_is, c.write_at.ensures.items)
    (rows-put g.T.Numbered.number_of
    (g.T.Numbered.number_of c.args.row) c.args.row s.numbers.items s.rows.items c.args.place
    c.requires.row c.self.invariant.rising c.self.invariant.numbered at.0
    (at.1 ∙ c.requires.numbered) is)
