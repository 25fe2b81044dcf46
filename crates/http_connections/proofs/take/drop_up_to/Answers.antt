use Rattle.std.proofs.Common.{◌≤◌, length, arith, ◌∙◌}
use Rattle.std.proofs.lemmas.List.{length-take}
use Rattle.http_connections.proofs.TakingLemmas.{some_more}
use Rattle.http_connections.proofs.take.drop_up_to.Goals as goal

pub loop-came-preserved : goal.loop-came-preserved
loop-came-preserved g c =
    let before = c.loop-came.invariant in
    let read = c.in_ok-n.ensures in
    let room : c.in_ok-n.n ≤ c.min-want.result = omega (
      arith,
      read.within,
      length-take c.min-want.result c.loop-came.buf,
    ) in
    let whole : c.in_ok-n.n ≤ length c.read.new.buf = omega (arith, read.within, c.read.auto.buf) in
    record {
      within = omega (arith, room, c.min-want.ensures, before.within, c.loop-came-test.true);
      so_far = some_more c.loop-came.came c.in_ok-n.n c.read.new.buf _ _ _ before.so_far read.taken whole;
      steady = read.steady ∙ before.steady;
      apart = read.apart ∙ before.apart;
    }
