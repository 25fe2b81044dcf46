use Rattle.std.proofs.Common.{◌≡◌, ◌≤◌, ◌-◌}
use Rattle.http_connections.specs.Taking.{TookSome}
use Rattle.http_connections.proofs.take.drop_up_to.Given as goal

abbrev pub invariant-loop-came : goal.invariant-loop-came
invariant-loop-came g l = record {
  within : l.came ≤ l.limit;
  so_far : TookSome l.came (g.S.Source.left l.initial.link) (g.S.Source.left l.link);
  steady : g.S.Source.faults l.link ≡ g.S.Source.faults l.initial.link;
  apart : g.S.Source.apart l.link ≡ g.S.Source.apart l.initial.link;
}

abbrev pub decreases-loop-came : goal.decreases-loop-came
decreases-loop-came g l = l.limit - l.came
