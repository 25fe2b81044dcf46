use Rattle.std.proofs.Common.{take}
use Rattle.run_lines.specs.Grammar.{Each}
use Rattle.farm_audit.specs.Fit.{EffectFits}
use Rattle.farm_audit.proofs.fit.effects_fit.Given as goal

-- those so far
abbrev pub invariant-loop-made : goal.invariant-loop-made
invariant-loop-made l = Each EffectFits (take l.made-index l.entries)
