use Rattle.std.proofs.Common.{sym}
use Rattle.run_lines.specs.Grammar.{IsId}
use Rattle.farm_audit.proofs.ValueLemmas.{each_push}
use Rattle.farm_audit.proofs.fit.ids_fit.Goals as goal

pub loop-tc-preserved : goal.loop-tc-preserved
loop-tc-preserved c =
    each_push IsId c.args.ids.now c.loop-tc.tc-index c.tc-item.result _ c.loop-tc.invariant
    c.loop-tc-test.true (sym c.tc-item.is) c.id_fits.ensures
