use Rattle.sched_core.proofs.books.Books.pruned.Given as goal

abbrev pub ghosts-pruned : goal.ghosts-pruned
ghosts-pruned a = record { name = a.blank.name; parts = a.blank.parts }
