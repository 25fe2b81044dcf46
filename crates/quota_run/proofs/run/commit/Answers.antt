use Rattle.std.proofs.Common.{◌≡◌, ap, subst, cond}
use Rattle.dist_types.specs.declared.results.JobState.{JobState}
use Rattle.core_rules.specs.declared.call.Call.TheVariants as core_call
use Rattle.core_rules.specs.Log.{logged}
use Rattle.core_rules.specs.Reservation.{unspent}
use Rattle.core_rules.specs.Rule.{rule, is_among}
use Rattle.quota.specs.Quota.{over_core}
use Rattle.quota.specs.declared.call.QuotaAnswer.TheVariants as answer
use Rattle.quota_run.proofs.CallLemmas.{Spends, commits, commit_made, commit_kept, none_committed, none_kept}
use Rattle.quota_run.proofs.run.commit.Goals as goal

pub returns-in-Some-clause-made : goal.returns-in-Some-clause-made
returns-in-Some-clause-made g c =
    let a = c.args in
    let q = a.quota.now in
    let r = c.in-Some.r in
    let spends : Spends q c.commit.new.self (commits a.now a.is_ready) r =
    subst (λ (s : JobState). c.commit.new.self ≡ over_core q (cond (is_among (unspent q.core.log) r.number r.job)
    (logged q.core (rule q.core (core_call.Commit a.now r.number r.job s))) q.core)) c.state_if.ensures.state
    c.commit.ensures.logged in
    commit_made q c.commit.new.self a.now a.is_ready a.job r a.hand.now _ c.requires.kept c.in-Some.ensures.taken spends
    (ap answer.Logged c.next_number-number.ensures)

pub returns-in-Some-clause-kept : goal.returns-in-Some-clause-kept
returns-in-Some-clause-kept g c =
    let a = c.args in
    let q = a.quota.now in
    let r = c.in-Some.r in
    let spends : Spends q c.commit.new.self (commits a.now a.is_ready) r =
    subst (λ (s : JobState). c.commit.new.self ≡ over_core q (cond (is_among (unspent q.core.log) r.number r.job)
    (logged q.core (rule q.core (core_call.Commit a.now r.number r.job s))) q.core)) c.state_if.ensures.state
    c.commit.ensures.logged in
    commit_kept q c.commit.new.self a.now a.is_ready a.job r a.hand.now c.take.new.self c.requires.kept
    c.in-Some.ensures.taken spends c.take.ensures.left

pub returns-in-None-clause-made : goal.returns-in-None-clause-made
returns-in-None-clause-made g c =
    none_committed c.args.quota.now c.args.now c.args.is_ready c.args.job c.args.hand.now c.requires.kept
    c.in-None.ensures.taken

pub returns-in-None-clause-kept : goal.returns-in-None-clause-kept
returns-in-None-clause-kept g c =
    none_kept c.args.quota.now c.args.job c.args.hand.now c.take.new.self c.requires.kept c.in-None.ensures.taken
    c.take.ensures.left
