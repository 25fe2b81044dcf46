use Rattle.lru_metered.proofs.chain.Chain.before.Given as goal

abbrev pub ghosts-before_on : goal.ghosts-before_on
ghosts-before_on g a = record { name = a.blank.name; parts = a.blank.parts }
