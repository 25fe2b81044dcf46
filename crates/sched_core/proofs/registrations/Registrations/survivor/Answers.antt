use Rattle.sched_core.proofs.RegistrationLemmas.{heard_is}
use Rattle.sched_core.proofs.registrations.Registrations.survivor.Goals as goal

pub returns : goal.returns
returns c = rw (c.if_heard.ensures, c.at-row.ensures.row)
    (heard_is c.args.now c.args.server c.args.self.now.rows c.at-row.ensures.sound.apart)
