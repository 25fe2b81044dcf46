use Rattle.std.proofs.Common.{◌≡◌, ◌+◌, drop}
use Rattle.line_program.specs.Pieces.{piece_len}
use Rattle.line_program.proofs.pieces.first_len.Given as goal

abbrev pub invariant-loop-i : goal.invariant-loop-i
invariant-loop-i l = l.i + piece_len (drop l.i l.rest) ≡ piece_len l.rest
