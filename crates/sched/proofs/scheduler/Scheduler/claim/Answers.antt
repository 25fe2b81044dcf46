use Rattle.std.proofs.Common.{ap, sym, subst, ◌∙◌, arith}
use Rattle.sched.specs.Hand.{Begins}
use Rattle.sched.proofs.PassLemmas.{claims_at, in_slot, begun}
use Rattle.sched.proofs.scheduler.Scheduler.claim.Goals as goal

pub compare_exchange-found-requires : goal.compare_exchange-found-requires
compare_exchange-found-requires g c =
    let same = c.loop.invariant.same in (
      c.loop.invariant.of ∙ (c.requires.of ∙ sym (ap (λ s. s.of) c.self.view_is)),
      omega (arith, c.self.invariant.0),
      claims_at _ _ _ _ (ap (λ x. x.1) same ∙ c.requires.idle.0)
          (ap (λ x. x.0.live) same ∙ c.requires.idle.1),
    )

pub exchange-requires : goal.exchange-requires
exchange-requires g c = (
  c.compare_exchange-found.ensures.0
      ∙ (c.loop.invariant.of ∙ (c.requires.of ∙ sym (ap (λ s. s.of) c.self.view_is))),
  in_slot _ _ (rw c.if-found-eq0.true at c.compare_exchange-found.ensures.2),
)

pub returns-then-found-eq0-clause-begins : goal.returns-then-found-eq0-clause-begins
returns-then-found-eq0-clause-begins g c =
    subst (λ me. Begins me.0 c.exchange.new.seat.me.0 c.unwrap.result) c.loop.invariant.same
    (begun _ _ _ _ _ (rw c.if-found-eq0.true at c.compare_exchange-found.ensures.2) c.exchange.ensures.2
    c.unwrap.ensures c.exchange.ensures.3)
