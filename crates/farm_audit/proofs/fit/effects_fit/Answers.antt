use Rattle.std.proofs.Common.{sym}
use Rattle.farm_audit.specs.Fit.{EffectFits}
use Rattle.farm_audit.proofs.ValueLemmas.{each_push}
use Rattle.farm_audit.proofs.fit.effects_fit.Goals as goal

pub loop-made-preserved : goal.loop-made-preserved
loop-made-preserved c =
    each_push EffectFits c.args.entries.now c.loop-made.made-index c.made-item.result _ c.loop-made.invariant
    c.loop-made-test.true (sym c.made-item.is) c.effect_fits.ensures
