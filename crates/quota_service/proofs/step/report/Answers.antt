use Rattle.std.proofs.Common.{Ok, Err}
use Rattle.quota_service.proofs.StepLemmas.{reported}
use Rattle.quota_service.proofs.step.report.Goals as goal

pub returns-in-Ok : goal.returns-in-Ok
returns-in-Ok c = record {
  step = reported c.args.quota.now c.update.new.self c.args.now c.args.server c.args.job c.args.to
      (Ok c.in-Ok.answer) c.in-Ok.ensures.logged c.in-Ok.ensures.answer c.in-Ok.ensures.err;
}

pub returns-in-Err : goal.returns-in-Err
returns-in-Err c = record {
  step = rw c.fault_of.ensures (reported c.args.quota.now c.update.new.self c.args.now c.args.server
      c.args.job c.args.to (Err c.in-Err.e) c.in-Err.ensures.logged c.in-Err.ensures.answer
      c.in-Err.ensures.err);
}
