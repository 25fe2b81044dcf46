use Rattle.std.proofs.Common.{[], ◌∷◌, arith, length-append}
use Rattle.row_index.specs.Slots.{rows_in}
use Rattle.row_index.proofs.SlotLemmas.{top-push}
use Rattle.sched_core.proofs.IndexLemmas.{indexed_pushed, sum_few}
use Rattle.sched_core.proofs.registrations.Registrations.push.Goals as goal

pub raised-self-inside-requires : goal.raised-self-inside-requires
raised-self-inside-requires g c =
    let all = c.self.invariant.0.sum in
    let few = sum_few (rows_in c.self.inside.ranks.places) c.self.invariant.0.words in
    omega (arith, all, few, c.count-count.ensures, c.count-count.type_inv)

pub invariant_of-self : goal.invariant_of-self
invariant_of-self g c =
    let s = c.self.inside in
    let rows = rows_in s.ranks.places in (
      rw c.push.ensures.rows
          (indexed_pushed rows s.addresses.entries c.put.new.addresses.entries s.cpus _ c.args.row
          c.self.invariant.0 (rw (← c.self.view_is) at c.requires.sound) (omega arith)
          c.put.ensures.entries c.raised-self-inside.ensures),
      (let room = c.self.invariant.1 in
          let spare = c.put.ensures.spare in
          let longer = length-append s.ranks.numbers (c.args.row.reg ∷ []) in
          rw (c.push.ensures.len, c.push.ensures.numbers) (omega (arith, room, spare, longer))),
    )

pub returns-clause-top : goal.returns-clause-top
returns-clause-top g c = rw c.push.ensures.numbers (top-push c.self.inside.ranks.numbers c.args.row.reg)
