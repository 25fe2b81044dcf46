use Rattle.std.proofs.Common.{◌≡◌, ◌≤◌, length}
use Rattle.line_program.specs.Lines.{lines_from}
use Rattle.line_program.specs.Pieces.{pieces}
use Rattle.farm_script.specs.Script.{read_of, judge, finished, script}
use Rattle.farm_script.proofs.script.read_script.Given as goal

abbrev pub invariant-loop-rest : goal.invariant-loop-rest
invariant-loop-rest l = record {
  same : lines_from judge finished l.number l.room (read_of l.reading) (pieces l.rest) ≡ script l.fn.bytes;
  within : l.number ≤ 1000001;
}

abbrev pub decreases-loop-rest : goal.decreases-loop-rest
decreases-loop-rest l = length l.rest
