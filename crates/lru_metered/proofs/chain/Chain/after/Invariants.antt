use Rattle.lru_metered.proofs.chain.Chain.after.Given as goal

abbrev pub ghosts-after_on : goal.ghosts-after_on
ghosts-after_on g a = record { name = a.blank.name; parts = a.blank.parts }
