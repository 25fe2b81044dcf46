use Rattle.std.proofs.Common.{ap}
use Rattle.quota.specs.declared.call.QuotaAnswer.TheVariants as answer
use Rattle.quota_run.proofs.CallLemmas.{same_kept, status_kept}
use Rattle.quota_run.proofs.run.status.Goals as goal

pub returns-in-Ok-clause-step : goal.returns-in-Ok-clause-step
returns-in-Ok-clause-step g c = record {
  left = c.in-Ok.ensures.logged;
  told = ap answer.Logged c.next_number-number.ensures;
}

pub returns-in-Ok-clause-kept : goal.returns-in-Ok-clause-kept
returns-in-Ok-clause-kept g c = λ hand are.
    status_kept c.args.quota.now c.status.new.self c.args.now hand c.in-Ok.ensures.logged are

pub returns-in-Err-clause-kept : goal.returns-in-Err-clause-kept
returns-in-Err-clause-kept g c = λ hand are.
    same_kept c.args.quota.now c.status.new.self hand c.in-Err.ensures.err are
