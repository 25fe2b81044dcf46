use Rattle.sched_core.proofs.KeyLemmas.{kept_same}
use Rattle.sched_core.proofs.keys.make_room.Goals as goal

pub returns-clause-keys : goal.returns-clause-keys
returns-clause-keys g c = kept_same g.A.JobAuthorizer.key_of c.args.keys.now.entries
    c.make_room.new.self.entries c.make_room.ensures.values
