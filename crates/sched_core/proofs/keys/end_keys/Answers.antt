use Rattle.std.proofs.Common.{◌∙◌, ap}
use Rattle.sched_core.specs.Books.{kept_by, without_this}
use Rattle.sched_core.proofs.KeyLemmas.{ended_both}
use Rattle.sched_core.proofs.keys.end_keys.Goals as goal

pub returns-in-Beat-clause-keys : goal.returns-in-Beat-clause-keys
returns-in-Beat-clause-keys g c = rw c.in-Beat.is
    (c.end_if.ensures.keys
    ∙ ap (without_this c.in-Beat.replaced) (rw c.get.ensures.items at c.end_each.ensures.keys)
    ∙ ended_both c.in-Beat.pruned c.in-Beat.replaced
    (kept_by g.A.JobAuthorizer.key_of c.args.keys.now.entries))

pub returns-in-Status-clause-keys : goal.returns-in-Status-clause-keys
returns-in-Status-clause-keys g c = rw c.in-Status.is
    (rw c.get-in-Status.ensures.items at c.end_each-in-Status.ensures.keys)
