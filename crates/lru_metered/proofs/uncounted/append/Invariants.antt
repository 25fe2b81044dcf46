use Rattle.lru_metered.proofs.uncounted.append.Given as goal

abbrev pub ghosts-append_on : goal.ghosts-append_on
ghosts-append_on g a = record { name = a.blank.name; parts = a.blank.parts }
