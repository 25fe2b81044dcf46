use Rattle.std.proofs.Common.{◌≡◌, true, drop}
use Rattle.http_connections.specs.Plain.{has_length}
use Rattle.http_connections.proofs.begun.has_length.Given as goal

-- what is left of the head decides
abbrev pub invariant-loop-at : goal.invariant-loop-at
invariant-loop-at l = has_length true l.head ≡ has_length l.begins (drop l.at l.head)
