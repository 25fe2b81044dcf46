use Rattle.std.proofs.Common.{arith}
use Rattle.row_index.specs.Slots.{rows_in}
use Rattle.sched_core.proofs.IndexLemmas.{indexed_same}
use Rattle.sched_core.proofs.registrations.Registrations.make_room.Goals as goal

pub invariant_of-self : goal.invariant_of-self
invariant_of-self c =
    let s = c.self.inside in
    let room = c.self.invariant.1 in
    let spare = c.make_room.ensures.spare in (
      indexed_same (rows_in s.ranks.places) s.addresses.entries c.make_room.new.addresses.entries s.cpus
          c.self.invariant.0 c.make_room.ensures.entries,
      omega (arith, room, spare),
    )

pub invariant_of-self-in_err-self-inside : goal.invariant_of-self-in_err-self-inside
invariant_of-self-in_err-self-inside c =
    let s = c.self.inside in
    let room = c.self.invariant.1 in
    let spare = c.make_room.ensures.spare in (
      indexed_same (rows_in s.ranks.places) s.addresses.entries c.make_room.new.addresses.entries s.cpus
          c.self.invariant.0 c.make_room.ensures.entries,
      omega (arith, room, spare),
    )

pub invariant_of-self-2 : goal.invariant_of-self-2
invariant_of-self-2 c =
    let s = c.self.inside in
    let places = c.in_ok-self-inside.ensures.len in
    let spare = c.in_ok-make_room.ensures.room in (
      rw c.in_ok-self-inside.ensures.rows
          (indexed_same (rows_in s.ranks.places) s.addresses.entries c.make_room.new.addresses.entries s.cpus
          c.self.invariant.0 c.make_room.ensures.entries),
      omega (arith, places, spare),
    )
