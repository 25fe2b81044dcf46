use Rattle.std.proofs.Common.{ap, sym, ◌∙◌, arith, length}
use Rattle.atomic_table.specs.Table.{rest}
use Rattle.sched.proofs.PassLemmas.{may_record, releases_at}
use Rattle.sched.proofs.scheduler.Scheduler.end.Goals as goal

pub record-requires-clause-may : goal.record-requires-clause-may
record-requires-clause-may g c κs lives =
    may_record _ _ c.args.desk _ _ c.args.turn.has.turn c.args.turn.has.live c.requires.may
    c.exchange.ensures.3
    (ap rest c.args.turn.has.slot) c.len-len.ensures.legal c.len-len.ensures.len

pub record-requires-clause-found : goal.record-requires-clause-found
record-requires-clause-found g c κs lives =
    c.args.turn.found_is ∙ ap (λ x. length x.0.front) (sym c.exchange.ensures.3)

pub store-requires : goal.store-requires
store-requires g c = (
  c.record.ensures.of ∙ (c.exchange.ensures.0 ∙ (c.requires.of ∙ sym (ap (λ s. s.of) c.self.view_is))),
  omega (arith, c.self.invariant.0),
  releases_at _ _ _ _ _ c.args.desk _ _ c.args.turn.has.turn c.args.turn.has.live c.requires.may
      c.exchange.ensures.3
      c.record.ensures.recorded,
)
