use Rattle.std.proofs.Common.{◌≡◌, ◌≤◌, vec_len, vec_capacity}
use Rattle.std.specs.Prelude.{All}
use Rattle.sched.specs.Pass.{IsPassOf, IsSplit, split_off}
use Rattle.scheduler_service.proofs.workers.split_all.Given as goal

abbrev pub invariant-loop : goal.invariant-loop
invariant-loop g l = record {
  split : All (λ p. IsSplit l.initial.pass p) l.passes.items;
  of : All (λ p. IsPassOf l.scheduler p) l.passes.items;
  len : vec_len l.passes ≡ l.counter;
  within : l.counter ≤ l.number;
  room : vec_capacity l.passes ≡ vec_capacity l.initial.passes;
  counted : l.pass ≡ split_off l.counter l.initial.pass;
}
