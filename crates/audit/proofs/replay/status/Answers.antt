use Rattle.audit.proofs.ReplayLemmas.{kept_status}
use Rattle.audit.proofs.replay.status.Goals as goal

pub returns-in-Ok-clause-kept : goal.returns-in-Ok-clause-kept
returns-in-Ok-clause-kept c =
    kept_status c.args.r.now.kept c.args.r.now.state c.status.new.self c.args.now c.in-Ok.ensures.logged c.requires
