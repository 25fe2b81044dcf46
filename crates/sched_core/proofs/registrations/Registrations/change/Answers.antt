use Rattle.std.proofs.Common.{◌+◌, ◌*◌}
use Rattle.row_index.specs.Slots.{rows_in}
use Rattle.sched_core.proofs.RegistrationLemmas.{changed_rows, changed_looks, not_there}
use Rattle.sched_core.proofs.RegistrationLemmas.{found_there, only_there, place_kept, is_full}
use Rattle.sched_core.proofs.IndexLemmas.{indexed_changed}
use Rattle.sched_core.proofs.registrations.Registrations.change.Goals as goal

pub at-row-requires-clause-full : goal.at-row-requires-clause-full
at-row-requires-clause-full g c =
    is_full c.args.reg c.in-Some.place c.self.inside.ranks.places c.in-Some.ensures

pub put_at-requires-clause-place : goal.put_at-requires-clause-place
put_at-requires-clause-place g c = rw c.changed-new.ensures
    (place_kept c.args.change c.args.reg c.in-Some.place c.self.inside.ranks.places c.at-row.result
    c.in-Some.ensures c.at-row.ensures)

pub invariant_of-self : goal.invariant_of-self
invariant_of-self g c =
    let s = c.self.inside in
    let rows = rows_in s.ranks.places in (
      rw (
        c.put_at.ensures.rows,
        c.changed-new.ensures,
        changed_rows c.args.change c.args.reg c.at-row.result rows
            (found_there c.args.reg c.in-Some.place s.ranks.places c.at-row.result c.in-Some.ensures
            c.at-row.ensures)
            (only_there c.args.reg c.in-Some.place s.ranks.places c.at-row.result c.in-Some.ensures
            c.at-row.ensures),
      )
          (indexed_changed c.args.change c.args.reg rows s.addresses.entries s.cpus c.self.invariant.0),
      rw (c.put_at.ensures.len, c.put_at.ensures.numbers) c.self.invariant.1,
    )

pub returns-in-Some-clause-rows : goal.returns-in-Some-clause-rows
returns-in-Some-clause-rows g c =
    let places = c.self.inside.ranks.places in
    rw (← c.self.view_is, c.put_at.ensures.rows, c.changed-new.ensures)
    (changed_rows c.args.change c.args.reg c.at-row.result (rows_in places)
    (found_there c.args.reg c.in-Some.place places c.at-row.result c.in-Some.ensures c.at-row.ensures)
    (only_there c.args.reg c.in-Some.place places c.at-row.result c.in-Some.ensures c.at-row.ensures))

pub returns-in-Some-clause-looks : goal.returns-in-Some-clause-looks
returns-in-Some-clause-looks g c = rw (← c.self.view_is) (λ h le.
    changed_looks c.args.change c.at-row.result (2 * h + 1) c.args.steps.now c.put_at.new.steps
    ((rw c.changed-new.ensures at c.put_at.ensures.looks) h le))

pub returns-in-None-clause-rows : goal.returns-in-None-clause-rows
returns-in-None-clause-rows g c = rw (← c.self.view_is)
    (not_there c.args.change c.args.reg (rows_in c.self.inside.ranks.places)
    c.in-None.ensures)
