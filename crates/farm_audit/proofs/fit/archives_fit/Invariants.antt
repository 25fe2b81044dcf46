use Rattle.std.proofs.Common.{take}
use Rattle.run_lines.specs.Grammar.{Each}
use Rattle.run_lines.specs.Grammar.{ArchiveFits}
use Rattle.farm_audit.proofs.fit.archives_fit.Given as goal

-- those so far
abbrev pub invariant-loop-archive : goal.invariant-loop-archive
invariant-loop-archive l = Each ArchiveFits (take l.archive-index l.archives)
