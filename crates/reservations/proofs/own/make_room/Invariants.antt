use Rattle.reservations.proofs.own.make_room.Given as goal

abbrev pub ghosts-sweep : goal.ghosts-sweep
ghosts-sweep a = record { name = a.blank.name; parts = a.blank.parts }
