use Rattle.std.proofs.Common.{sym, arith}
use Rattle.std.proofs.lemmas.List.FromFn.{map-range_with_len_more}
use Rattle.farm_storm.specs.Storm.{storm_server}
use Rattle.farm_storm.proofs.setup.storm_servers.Goals as goal

pub loop-number-preserved : goal.loop-number-preserved
loop-number-preserved c =
    rw (c.in_ok-push.ensures.ok, c.in_ok-server.ensures, c.loop-number.invariant)
    (sym (map-range_with_len_more storm_server 0 c.loop-number.number c.loop-number.number (omega arith)))
