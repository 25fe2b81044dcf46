use Rattle.std.proofs.Common.{ap, sym, ◌∙◌, arith}
use Rattle.sched.proofs.PassLemmas.{records_at}
use Rattle.sched.proofs.scheduler.Scheduler.record.Goals as goal

pub store-requires : goal.store-requires
store-requires g c = (
  c.requires.of ∙ sym (ap (λ s. s.of) c.self.view_is),
  omega (arith, c.self.invariant.0),
  records_at _ _ _ _ c.args.len c.args.found c.if-found-len.true c.requires.found c.requires.may,
)
