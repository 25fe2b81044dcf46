use Rattle.std.proofs.Common.{◌≡◌, map, vec_capacity}
use Rattle.scheduler_service.specs.Workers.{AreJoined}
use Rattle.scheduler_service.proofs.workers.gather.Given as goal

abbrev pub invariant-loop-worker : goal.invariant-loop-worker
invariant-loop-worker g l = record {
  kits : l.kits.items ≡ map (λ w. w.kit) l.yielded;
  joined : AreJoined (map (λ w. w.pass) l.yielded) l.initial.pass l.pass;
  room : vec_capacity l.kits ≡ vec_capacity l.initial.kits;
}
