use Rattle.sched_core.proofs.state.SchedState.history.Goals as goal

pub returns-clause-count : goal.returns-clause-count
returns-clause-count g c = rw (← c.self.view_is) c.self.invariant.fits

pub returns-clause-lawful : goal.returns-clause-lawful
returns-clause-lawful g c = rw (← c.self.view_is) (c.legal_logs_are_lawful.ensures c.self.inside.start
    c.self.inside.journal.log.items c.self.invariant.fits c.self.invariant.legal)
