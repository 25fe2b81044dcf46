use Rattle.std.proofs.Common.{ap, sym, ◌∙◌, arith}
use Rattle.sched.proofs.StepLemmas.{counts_split}
use Rattle.sched.proofs.scheduler.Scheduler.count_split.Goals as goal

pub load-made-requires : goal.load-made-requires
load-made-requires g c = (
  c.into_seat-seat.ensures.0 ∙ (c.requires.of ∙ sym (ap (λ s. s.of) c.self.view_is)),
  omega (arith, c.self.invariant.0),
  counts_split _ _ _ _ _,
)
