use Rattle.sched_core.proofs.KeyLemmas.{kept_without}
use Rattle.sched_core.proofs.keys.end_one.Goals as goal

pub returns-clause-keys : goal.returns-clause-keys
returns-clause-keys g c = kept_without g.A.JobAuthorizer.key_of c.args.number
    c.args.keys.now.entries c.take_out.new.self.entries c.take_out.ensures.values
