use Rattle.std.proofs.Common.{take}
use Rattle.quota_run.specs.Run.{AreMade}
use Rattle.quota_run.proofs.run.answer_each.Given as goal

-- the first calls were made
abbrev pub invariant-loop-call : goal.invariant-loop-call
invariant-loop-call g l = AreMade l.fn.run (take l.call-index l.fn.calls) l.run l.answers.items
