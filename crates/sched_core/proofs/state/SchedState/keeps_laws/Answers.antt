use Rattle.sched_core.proofs.state.SchedState.keeps_laws.Goals as goal

pub returns : goal.returns
returns g c = rw (← c.self.view_is) (c.legal_logs_are_lawful.ensures c.self.inside.start
    c.self.inside.journal.log.items c.self.invariant.fits c.self.invariant.legal)
