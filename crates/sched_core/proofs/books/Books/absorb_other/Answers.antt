use Rattle.sched_core.proofs.RegistrationLemmas.{few_pushed}
use Rattle.sched_core.proofs.books.Books.absorb_other.Goals as goal

pub push_made-requires-clause-room : goal.push_made-requires-clause-room
push_made-requires-clause-room g c = rw c.absorb_rows.ensures.places
    (rw (← c.self.view_is) at c.requires.row_room)

pub push_made-requires-clause-above : goal.push_made-requires-clause-above
push_made-requires-clause-above g c = rw c.absorb_rows.ensures.places
    (rw (← c.self.view_is) at c.requires.above)

pub push_made-requires-clause-sound : goal.push_made-requires-clause-sound
push_made-requires-clause-sound g c = rw c.absorb_rows.ensures.rows
    (rw (← c.self.view_is) at c.requires.sound)

pub returns-clause-looks : goal.returns-clause-looks
returns-clause-looks g c = rw (← c.self.view_is) (λ h le.
    few_pushed c.args.step.now.kind c.args.number c.args.step.now.now h c.args.steps.now
    c.absorb_rows.new.steps c.push_made.new.steps c.push_made.ensures.none
    (c.absorb_rows.ensures.looks h le))
