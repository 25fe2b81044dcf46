use Rattle.std.proofs.Common.{◌≡◌, ◌<◌, ◌-◌, vec_len}
use Rattle.dist_types.specs.Content.{Taken}
use Rattle.http_connections.specs.Scan.{Sees}
use Rattle.http_head.specs.Stop.{lines_of}
use Rattle.http_connections.proofs.StopLemmas.{GoesOn}
use Rattle.http_connections.proofs.stop.read_stop.Given as goal

abbrev pub invariant-loop-out : goal.invariant-loop-out
invariant-loop-out g l = record {
  below : vec_len l.out < 65537;
  taken : Taken l.out.items (g.S.Source.left l.initial.link) (g.S.Source.left l.link);
  sees : Sees l.scan (lines_of l.out.items);
  goes : GoesOn l.out.items (g.S.Source.left l.link);
  steady : g.S.Source.faults l.link ≡ g.S.Source.faults l.initial.link;
  apart : g.S.Source.apart l.link ≡ g.S.Source.apart l.initial.link;
}

abbrev pub decreases-loop-out : goal.decreases-loop-out
decreases-loop-out g l = 65537 - vec_len l.out
