use Rattle.std.proofs.Common.{ap, sym, ◌∙◌, arith}
use Rattle.sched.proofs.StepLemmas.{joins, compares, counts}
use Rattle.sched.proofs.PassLemmas.{idle_seat}
use Rattle.sched.proofs.scheduler.Scheduler.unite.Goals as goal

pub join_seat-requires : goal.join_seat-requires
join_seat-requires g c = (
  c.into_seat-seat.ensures.0 ∙ (c.requires.of ∙ sym (ap (λ s. s.of) c.self.view_is)),
  c.into_seat-other.ensures.0 ∙ (c.requires.other_of ∙ sym (ap (λ s. s.of) c.self.view_is)),
  c.into_seat-other.ensures.3,
  omega (arith, c.self.invariant.0),
  joins _ _ _ _ _ (idle_seat _ c.requires.idle _ c.into_seat-seat.ensures.2)
      (idle_seat _ c.requires.other_idle _ c.into_seat-other.ensures.2),
)

pub load-len-requires : goal.load-len-requires
load-len-requires g c = (
  c.join_seat.ensures.0
      ∙ (c.into_seat-seat.ensures.0 ∙ (c.requires.of ∙ sym (ap (λ s. s.of) c.self.view_is))),
  omega (arith, c.self.invariant.0),
  compares _ _ _ _ _,
)

pub load-made-requires : goal.load-made-requires
load-made-requires g c = (
  c.load-len.ensures.0 ∙
      (c.join_seat.ensures.0
      ∙ (c.into_seat-seat.ensures.0 ∙ (c.requires.of ∙ sym (ap (λ s. s.of) c.self.view_is)))),
  omega (arith, c.self.invariant.0),
  counts _ _ _ _ _,
)
