use Rattle.std.proofs.Common.{take}
use Rattle.run_lines.specs.Grammar.{Each}
use Rattle.farm_audit.specs.Fit.{ServerFits}
use Rattle.farm_audit.proofs.fit.servers_fit.Given as goal

-- those so far
abbrev pub invariant-loop-server : goal.invariant-loop-server
invariant-loop-server l = Each ServerFits (take l.server-index l.servers)
