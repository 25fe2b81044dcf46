use Rattle.std.proofs.Common.{◌≡◌, ◌<◌, ◌+◌, ◌∷◌, [], Some, set, length, length-append, ap, ◌∙◌, arith}
use Rattle.row_index.specs.Slots.{rows_in}
use Rattle.row_index.proofs.SlotLemmas.{rows-push, numbered-push, rising-push, no_more}
use Rattle.row_index.proofs.numbered_slots.Slots.push.Goals as goal

pub invariant_of-self : goal.invariant_of-self
invariant_of-self g c =
    let s = c.self.inside in
    let row = c.args.row in
    let lt : length s.numbers.items < length s.rows.items = rw (← c.self.view_is) at c.requires.room in
    let len = c.write_at.ensures.len in
    let grown = c.in-Ok.ensures.capacity in
    let room = c.self.invariant.room in
    let place : c.len-place.result ≡ length s.numbers.items = c.len-place.ensures ∙ s.numbers.ok.0 in
    rw (c.write_at.ensures.items, c.in-Ok.ensures.items, c.number.ensures, place) (record {
      rising = rising-push s.numbers.items (g.T.Numbered.number_of row) c.self.invariant.rising
          (rw (← c.self.view_is) at c.requires.above);
      numbered = numbered-push g.T.Numbered.number_of row s.numbers.items s.rows.items
          c.self.invariant.numbered lt;
      room = omega (arith, len, grown, room);
      counted =
          let more : length (rows_in (set s.rows.items (length s.numbers.items) (Some row)))
          ≡ length (rows_in s.rows.items) + 1 =
          ap length (rows-push g.T.Numbered.number_of row s.numbers.items s.rows.items
          c.self.invariant.numbered lt)
          ∙ length-append (rows_in s.rows.items) (row ∷ []) in omega (arith, more, c.self.invariant.counted);
    })

pub returns-clause-rows : goal.returns-clause-rows
returns-clause-rows g c =
    let s = c.self.inside in
    let place : c.len-place.result ≡ length s.numbers.items = c.len-place.ensures ∙ s.numbers.ok.0 in
    rw (← c.self.view_is, c.write_at.ensures.items, place)
    (rows-push g.T.Numbered.number_of c.args.row s.numbers.items s.rows.items c.self.invariant.numbered
    (rw (← c.self.view_is) at c.requires.room))

pub overflow_add-self : goal.overflow_add-self
overflow_add-self g c =
    let s = c.self.inside in
    let few = no_more g.T.Numbered.number_of s.numbers.items s.rows.items c.self.invariant.numbered in
    omega (arith, few, c.self.invariant.counted, s.numbers.ok, s.numbers.small)
