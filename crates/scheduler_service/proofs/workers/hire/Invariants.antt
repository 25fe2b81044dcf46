use Rattle.std.proofs.Common.{◌≡◌, ◌+◌, length, map, vec_len, vec_capacity}
use Rattle.std.specs.Prelude.{All}
use Rattle.std.specs.List.{sum_by}
use Rattle.sched.specs.Pass.{IsSplit, held_of}
use Rattle.scheduler_service.proofs.workers.hire.Given as goal

abbrev pub invariant-loop-kit : goal.invariant-loop-kit
invariant-loop-kit g l = record {
  kits : map (λ w. w.kit) l.workers.items ≡ l.yielded;
  split : All (λ w. IsSplit l.pass w.pass) l.workers.items;
  hold : sum_by (λ w. held_of w.pass) l.workers.items ≡ length l.yielded;
  room : vec_capacity l.workers ≡ vec_capacity l.initial.workers;
  enough : vec_len l.passes + length l.yielded ≡ vec_len l.initial.passes;
  left : All (λ p. IsSplit l.pass p) l.passes.items;
}
