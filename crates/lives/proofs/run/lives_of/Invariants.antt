use Rattle.std.proofs.Common.{take, string_bytes}
use Rattle.lives.proofs.LifeLemmas.{LivedSoFar}
use Rattle.lives.proofs.run.lives_of.Given as goal

-- the lives so far
abbrev pub invariant-loop-number : goal.invariant-loop-number
invariant-loop-number l = LivedSoFar l.script.setup (take l.number l.script.lives) l.farm (string_bytes l.out)
