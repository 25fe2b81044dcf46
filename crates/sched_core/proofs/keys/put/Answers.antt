use Rattle.sched_core.proofs.KeyLemmas.{kept_with}
use Rattle.sched_core.proofs.keys.put.Goals as goal

pub returns : goal.returns
returns g c = rw (← c.held.view_is) (kept_with g.A.JobAuthorizer.key_of c.held.inside.reg c.held.inside.key
    c.args.keys.now.entries c.put.new.self.entries c.put.ensures.values)
