-- what is left, behind the words so far, has the same front and the same command
use Rattle.std.proofs.Common.{◌≡◌, map, string_bytes, take, drop}
use Rattle.submit_words.specs.Words.{front_of, front_from, command_of}
use Rattle.submit_words.proofs.words.dashes_at.Given as goal

abbrev pub invariant-loop-i : goal.invariant-loop-i
invariant-loop-i l =
    (front_from (map string_bytes (take l.i l.words)) (map string_bytes (drop l.i l.words))
    ≡ front_of (map string_bytes l.words))
    × (command_of (map string_bytes (drop l.i l.words)) ≡ command_of (map string_bytes l.words))
