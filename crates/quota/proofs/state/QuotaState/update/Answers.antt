use Rattle.std.proofs.Common.{refl}
use Rattle.core_rules.specs.Advance.{advance}
use Rattle.core_rules.specs.Rows.{open_rows}
use Rattle.core_rules.specs.Rule.{rule}
use Rattle.core_rules.specs.declared.call.Call.TheVariants as call
use Rattle.quota.proofs.SinceLemmas.{since_update, kept_leaves, seen_ok, seen_leaves}
use Rattle.quota.proofs.state.QuotaState.update.Goals as goal

pub invariant_of-self : goal.invariant_of-self
invariant_of-self g c =
    let s = c.self.inside in
    let since = since_update c.update-updated.result s.state c.update-updated.new.self s.holdings
    c.end_job_if.new.self c.args.now c.args.server c.args.job c.args.state
    (advance (open_rows s.state.log) c.args.server c.args.job c.args.state) c.update-updated.ensures.logged
    c.update-updated.ensures.err c.update-updated.ensures.answer
    (rw c.ends_updated.ensures at c.end_job_if.ensures.owned) c.end_job_if.ensures.first
    c.end_job_if.ensures.clients in
    kept_leaves c.update-updated.result s.state c.update-updated.new.self s.clients s.holdings
    c.end_job_if.new.self (rule s.state (call.Update c.args.now c.args.server c.args.job c.args.state))
    c.update-updated.ensures.logged c.update-updated.ensures.err (λ n m. refl) since c.self.invariant

pub returns-clause-logged : goal.returns-clause-logged
returns-clause-logged g c =
    let s = c.self.inside in
    let since = since_update c.update-updated.result s.state c.update-updated.new.self s.holdings
    c.end_job_if.new.self c.args.now c.args.server c.args.job c.args.state
    (advance (open_rows s.state.log) c.args.server c.args.job c.args.state) c.update-updated.ensures.logged
    c.update-updated.ensures.err c.update-updated.ensures.answer
    (rw c.ends_updated.ensures at c.end_job_if.ensures.owned) c.end_job_if.ensures.first
    c.end_job_if.ensures.clients in
    rw (← c.self.view_is) (seen_ok c.update-updated.result s.state c.update-updated.new.self s.clients
    s.holdings c.end_job_if.new.self
    (rule s.state (call.Update c.args.now c.args.server c.args.job c.args.state))
    c.update-updated.ensures.logged since)

pub returns-clause-err : goal.returns-clause-err
returns-clause-err g c =
    let s = c.self.inside in
    let since = since_update c.update-updated.result s.state c.update-updated.new.self s.holdings
    c.end_job_if.new.self c.args.now c.args.server c.args.job c.args.state
    (advance (open_rows s.state.log) c.args.server c.args.job c.args.state) c.update-updated.ensures.logged
    c.update-updated.ensures.err c.update-updated.ensures.answer
    (rw c.ends_updated.ensures at c.end_job_if.ensures.owned) c.end_job_if.ensures.first
    c.end_job_if.ensures.clients in
    rw (← c.self.view_is) (seen_leaves c.update-updated.result s.state c.update-updated.new.self s.clients
    s.holdings c.end_job_if.new.self
    (rule s.state (call.Update c.args.now c.args.server c.args.job c.args.state))
    c.update-updated.ensures.err since)

pub returns-clause-answer : goal.returns-clause-answer
returns-clause-answer g c = rw (← c.self.view_is) c.update-updated.ensures.answer
