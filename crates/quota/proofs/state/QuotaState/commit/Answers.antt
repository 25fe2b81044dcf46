use Rattle.std.proofs.Common.{refl}
use Rattle.core_rules.specs.Rule.{rule, is_among}
use Rattle.core_rules.specs.Reservation.{unspent, unended}
use Rattle.core_rules.specs.declared.call.Call.TheVariants as call
use Rattle.quota.proofs.SinceLemmas.{since_commit, kept_spent, seen_spent}
use Rattle.quota.proofs.state.QuotaState.commit.Goals as goal

pub invariant_of-self : goal.invariant_of-self
invariant_of-self g c =
    let s = c.self.inside in
    let own = is_among (unspent s.state.log) c.args.r.number c.args.r.job in
    let since = since_commit own (is_among (unended s.state.log) c.args.r.number c.args.r.job) s.state
    c.commit.new.self s.holdings c.args.now c.args.r.job c.args.state c.commit.ensures.logged in
    kept_spent own s.state c.commit.new.self s.clients s.holdings s.holdings
    (rule s.state (call.Commit c.args.now c.args.r.number c.args.r.job c.args.state))
    c.commit.ensures.logged (λ n m. refl) since c.self.invariant

pub returns-clause-logged : goal.returns-clause-logged
returns-clause-logged g c =
    let s = c.self.inside in
    let own = is_among (unspent s.state.log) c.args.r.number c.args.r.job in
    let since = since_commit own (is_among (unended s.state.log) c.args.r.number c.args.r.job) s.state
    c.commit.new.self s.holdings c.args.now c.args.r.job c.args.state c.commit.ensures.logged in
    rw (← c.self.view_is) (seen_spent own s.state c.commit.new.self s.clients s.holdings s.holdings
    (rule s.state (call.Commit c.args.now c.args.r.number c.args.r.job c.args.state))
    c.commit.ensures.logged since)

pub returns-clause-answer : goal.returns-clause-answer
returns-clause-answer g c = rw (← c.self.view_is) c.commit.ensures.answer
