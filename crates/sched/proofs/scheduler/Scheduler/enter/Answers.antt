use Rattle.std.proofs.Common.{ap, sym, ◌∙◌, arith}
use Rattle.sched.proofs.PassLemmas.{enters_at, leaves_at}
use Rattle.sched.proofs.scheduler.Scheduler.enter.Goals as goal

pub store-requires : goal.store-requires
store-requires g c = (
  c.exchange.ensures.0 ∙ (c.requires.of ∙ sym (ap (λ s. s.of) c.self.view_is)),
  omega (arith, c.self.invariant.0),
  enters_at _ _ _ _ c.args.desk _ _ c.made-made.result c.args.turn.has.turn c.made-made.ensures
      c.requires.may c.exchange.ensures.3,
)

pub store-requires-2 : goal.store-requires-2
store-requires-2 g c = (
  c.store.ensures.0 ∙ (c.exchange.ensures.0 ∙ (c.requires.of ∙ sym (ap (λ s. s.of) c.self.view_is))),
  omega (arith, c.self.invariant.0),
  leaves_at _ _ _ c.args.turn.seat.me c.args.desk _ _ c.args.turn.has c.requires.may c.exchange.ensures.3
      c.store.ensures.2,
)
