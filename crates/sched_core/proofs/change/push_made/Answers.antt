use Rattle.sched_core.proofs.KeyLemmas.{row_registers}
use Rattle.sched_core.proofs.RegistrationLemmas.{row_by_number, above_number}
use Rattle.sched_core.proofs.change.push_made.Goals as goal

pub push_row-requires-clause-room : goal.push_row-requires-clause-room
push_row-requires-clause-room g c = rw c.row_made.ensures
    (λ some. c.requires.room (row_registers c.args.step.now.kind c.args.number c.args.step.now.now some))

pub push_row-requires-clause-above : goal.push_row-requires-clause-above
push_row-requires-clause-above g c = rw c.row_made.ensures
    (above_number c.args.step.now.kind c.args.number c.args.step.now.now c.args.rows.now.places.top
    c.requires.above)

pub push_row-requires-clause-sound : goal.push_row-requires-clause-sound
push_row-requires-clause-sound g c = rw c.row_made.ensures c.requires.sound

pub returns-then-is_new_beat-clause-top : goal.returns-then-is_new_beat-clause-top
returns-then-is_new_beat-clause-top g c = c.push_row.ensures.top c.args.number c.requires.above
    (rw c.row_made.ensures (row_by_number c.args.step.now.kind c.args.number c.args.step.now.now))
