use Rattle.std.proofs.Common.{◌≤◌, length, take}
use Rattle.http_connections.specs.Looked.{IsOpen}
use Rattle.http_connections.proofs.begun.look.Given as goal

-- no stop is among the bytes that were looked at
abbrev pub invariant-loop-at : goal.invariant-loop-at
invariant-loop-at l = IsOpen (take l.at l.bytes) l.scan
