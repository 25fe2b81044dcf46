use Rattle.sched_core.proofs.state.SchedState.reserve.Given as goal

abbrev pub ghosts-reserve_uncounted : goal.ghosts-reserve_uncounted
ghosts-reserve_uncounted g a = record { name = a.blank.name; parts = a.blank.parts }
