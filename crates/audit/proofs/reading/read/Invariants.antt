use Rattle.std.proofs.Common.{◌≡◌, ◌≤◌, ◌+◌, length}
use Rattle.line_program.specs.Pieces.{pieces}
use Rattle.audit.specs.Reading.{read_of, read_from, read}
use Rattle.audit.proofs.reading.read.Given as goal

abbrev pub invariant-loop-rest : goal.invariant-loop-rest
invariant-loop-rest l = record {
  same : read_from l.number l.room (read_of l.reading) (pieces l.rest) ≡ read l.fn.bytes;
  within : l.number + l.room ≤ 268435457;
  made : l.reading.made + 1 ≤ l.number;
  seen : l.reading.seen + 1 ≤ l.number;
  line : l.reading.ids_line ≤ l.number;
}

abbrev pub decreases-loop-rest : goal.decreases-loop-rest
decreases-loop-rest l = length l.rest
