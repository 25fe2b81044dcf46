use Rattle.sched_core.proofs.registrations.Registrations.make_room.Given as goal

abbrev pub ghosts-renewed : goal.ghosts-renewed
ghosts-renewed a = record { name = a.blank.name; parts = a.blank.parts }
