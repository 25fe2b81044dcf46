use Rattle.std.proofs.Common.{sym}
use Rattle.farm_audit.specs.Fit.{ServerFits}
use Rattle.farm_audit.proofs.ValueLemmas.{each_push}
use Rattle.farm_audit.proofs.fit.servers_fit.Goals as goal

pub loop-server-preserved : goal.loop-server-preserved
loop-server-preserved c =
    each_push ServerFits c.args.servers.now c.loop-server.server-index c.server-item.result _ c.loop-server.invariant
    c.loop-server-test.true (sym c.server-item.is) c.server_fits.ensures
