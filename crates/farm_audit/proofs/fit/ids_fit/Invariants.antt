use Rattle.std.proofs.Common.{take}
use Rattle.run_lines.specs.Grammar.{Each}
use Rattle.run_lines.specs.Grammar.{IsId}
use Rattle.farm_audit.proofs.fit.ids_fit.Given as goal

-- those so far
abbrev pub invariant-loop-tc : goal.invariant-loop-tc
invariant-loop-tc l = Each IsId (take l.tc-index l.ids)
