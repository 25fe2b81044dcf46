use Rattle.std.proofs.Common.{◌∙◌, sym, arith}
use Rattle.row_index.specs.Slots.{rows_in}
use Rattle.sched_core.proofs.RegistrationLemmas.{ended_rows}
use Rattle.sched_core.proofs.IndexLemmas.{ended_sum, indexed_ended, none_ends}
use Rattle.sched_core.proofs.registrations.Registrations.end.Goals as goal

pub lowered-self-inside-requires : goal.lowered-self-inside-requires
lowered-self-inside-requires g c =
    let rows = rows_in c.self.inside.ranks.places in
    let all = c.self.invariant.0.sum in
    let both = ended_sum rows c.args.reg c.in-Some.row c.self.invariant.0.sound.rising
    (sym c.row.ensures.row ∙ c.in-Some.is) in
    omega (arith, all, both)

pub invariant_of-self : goal.invariant_of-self
invariant_of-self g c =
    let s = c.self.inside in
    let rows = rows_in s.ranks.places in (
      rw c.take_out.ensures.rows
          (indexed_ended rows s.addresses.entries c.remove.new.addresses.entries s.cpus _ c.args.reg
          c.in-Some.row
          c.self.invariant.0 c.in-Some.ensures.only (sym c.row.ensures.row ∙ c.in-Some.is)
          c.remove.ensures.entries c.lowered-self-inside.ensures),
      (let room = c.self.invariant.1 in
          let spare = c.remove.ensures.spare in
          rw (c.take_out.ensures.len, c.take_out.ensures.numbers) (omega (arith, room, spare))),
    )

pub returns-in-Some-clause-rows : goal.returns-in-Some-clause-rows
returns-in-Some-clause-rows g c = rw (← c.self.view_is, c.take_out.ensures.rows)
    (ended_rows c.args.reg (rows_in c.self.inside.ranks.places))

pub returns-in-None-clause-rows : goal.returns-in-None-clause-rows
returns-in-None-clause-rows g c =
    let rows = rows_in c.self.inside.ranks.places in
    rw (← c.self.view_is)
    (sym (sym (ended_rows c.args.reg rows)
    ∙ none_ends rows c.args.reg (sym c.row.ensures.row ∙ c.in-None.is)))
