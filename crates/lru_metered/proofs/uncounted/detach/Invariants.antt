use Rattle.lru_metered.proofs.uncounted.detach.Given as goal

abbrev pub ghosts-detach_on : goal.ghosts-detach_on
ghosts-detach_on g a = record { name = a.blank.name; parts = a.blank.parts }
