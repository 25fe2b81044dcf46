use Rattle.std.proofs.Common.{◌∙◌}
use Rattle.quota.proofs.EndLemmas.{reserve_is, commit_is, drain_is, beat_is}
use Rattle.quota.proofs.holdings.Holdings.absorb.Goals as goal

pub returns-in-Reserve-clause-owned : goal.returns-in-Reserve-clause-owned
returns-in-Reserve-clause-owned c = rw c.in-Reserve.is (reserve_is c.in-Reserve.field-0 c.args.self.now.owned)

pub returns-in-Commit-clause-owned : goal.returns-in-Commit-clause-owned
returns-in-Commit-clause-owned c = rw c.in-Commit.is
    (commit_is c.in-Commit.job c.in-Commit.state c.in-Commit.kept c.args.self.now.owned)

pub returns-in-Drain-clause-owned : goal.returns-in-Drain-clause-owned
returns-in-Drain-clause-owned c = rw c.in-Drain.is
    (drain_is c.in-Drain.server c.in-Drain.nonce c.in-Drain.on c.in-Drain.reg c.args.self.now.owned)

pub returns-in-Beat-clause-owned : goal.returns-in-Beat-clause-owned
returns-in-Beat-clause-owned c =
    let does = rw (c.get.ensures.items, c.get-in-Beat.ensures.items) at c.beat.ensures.owned in
    rw c.in-Beat.is (does ∙ beat_is c.in-Beat.server c.in-Beat.nonce c.in-Beat.cpus c.in-Beat.key
    c.in-Beat.pruned c.in-Beat.reaped c.in-Beat.replaced c.in-Beat.is_new c.args.self.now.owned)
