use Rattle.std.proofs.Common.{◌≡◌, map}
use Rattle.quota_run.specs.Lines.{call_of}
use Rattle.quota_run.proofs.script_run.calls_of.Given as goal

-- the calls of the events that came so far
abbrev pub invariant-loop-event : goal.invariant-loop-event
invariant-loop-event l = l.calls.items ≡ map call_of l.yielded
