use Rattle.lru_metered.proofs.uncounted.promote.Given as goal

abbrev pub ghosts-promote_on : goal.ghosts-promote_on
ghosts-promote_on g a = record { name = a.blank.name; parts = a.blank.parts }
