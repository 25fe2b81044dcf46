use Rattle.std.proofs.Common.{◌≡◌, take, string_bytes}
use Rattle.std.specs.List.{flat_map}
use Rattle.quota_run.specs.Lines.{told_text}
use Rattle.quota_run.proofs.lines.lines.Given as goal

-- the lines of the first answers
abbrev pub invariant-loop-answer : goal.invariant-loop-answer
invariant-loop-answer l = string_bytes l.out ≡ flat_map (told_text l.log) (take l.answer-index l.answers)
