use Rattle.std.proofs.Common.{refl}
use Rattle.std.specs.Prelude.{option_and_then}
use Rattle.core_rules.specs.Rule.{rule, is_among, noted_over, place_at}
use Rattle.core_rules.specs.Reservation.{unspent, unended}
use Rattle.core_rules.specs.Rows.{servers_of}
use Rattle.core_rules.specs.Standing.{address_of}
use Rattle.core_rules.specs.declared.call.Call.TheVariants as call
use Rattle.quota.proofs.SinceLemmas.{since_undo, kept_spent, seen_spent}
use Rattle.quota.proofs.state.QuotaState.undo.Goals as goal

pub invariant_of-self : goal.invariant_of-self
invariant_of-self g c =
    let s = c.self.inside in
    let own = is_among (unspent s.state.log) c.args.r.number c.args.r.job in
    let since = since_undo own (is_among (unended s.state.log) c.args.r.number c.args.r.job)
    (noted_over (servers_of s.state.log) (option_and_then (address_of s.state.log) (place_at s.state.log
    c.args.r.number))) s.state c.undo-undone.new.self s.holdings c.end_job_if.new.self c.args.now
    c.args.r.job c.undo-undone.result c.undo-undone.ensures.logged c.undo-undone.ensures.answer
    (rw (c.ends_undone.ensures, c.job_id-job.ensures.job) at c.end_job_if.ensures.owned)
    c.end_job_if.ensures.first c.end_job_if.ensures.clients in
    kept_spent own s.state c.undo-undone.new.self s.clients s.holdings c.end_job_if.new.self
    (rule s.state (call.Undo c.args.now c.args.r.number c.args.r.job))
    c.undo-undone.ensures.logged (λ n m. refl) since c.self.invariant

pub returns-clause-logged : goal.returns-clause-logged
returns-clause-logged g c =
    let s = c.self.inside in
    let own = is_among (unspent s.state.log) c.args.r.number c.args.r.job in
    let since = since_undo own (is_among (unended s.state.log) c.args.r.number c.args.r.job)
    (noted_over (servers_of s.state.log) (option_and_then (address_of s.state.log) (place_at s.state.log
    c.args.r.number))) s.state c.undo-undone.new.self s.holdings c.end_job_if.new.self c.args.now
    c.args.r.job c.undo-undone.result c.undo-undone.ensures.logged c.undo-undone.ensures.answer
    (rw (c.ends_undone.ensures, c.job_id-job.ensures.job) at c.end_job_if.ensures.owned)
    c.end_job_if.ensures.first c.end_job_if.ensures.clients in
    rw (← c.self.view_is) (seen_spent own s.state c.undo-undone.new.self s.clients s.holdings
    c.end_job_if.new.self (rule s.state (call.Undo c.args.now c.args.r.number c.args.r.job))
    c.undo-undone.ensures.logged since)

pub returns-clause-answer : goal.returns-clause-answer
returns-clause-answer g c = rw (← c.self.view_is) c.undo-undone.ensures.answer
