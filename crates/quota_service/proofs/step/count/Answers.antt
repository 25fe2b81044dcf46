use Rattle.std.proofs.Common.{Some, Ok, refl, ap}
use Rattle.quota_service.proofs.step.count.Goals as goal

pub returns-in-Ok : goal.returns-in-Ok
returns-in-Ok c = record {
  step = record {
    made = Some _;
    left = c.in-Ok.ensures.logged;
    gives = (refl, ap Ok c.in-Ok.ensures.answer);
  };
}
