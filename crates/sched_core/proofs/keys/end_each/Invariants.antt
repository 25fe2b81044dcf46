use Rattle.std.proofs.Common.{◌≡◌, ◌≤◌, take}
use Rattle.sched_core.specs.Books.{kept_by, without}
use Rattle.sched_core.proofs.keys.end_each.Given as goal

abbrev pub invariant-loop-number : goal.invariant-loop-number
invariant-loop-number g l = (kept_by g.A.JobAuthorizer.key_of l.keys.entries
    ≡ without (take l.number-index l.numbers) (kept_by g.A.JobAuthorizer.key_of l.initial.keys.entries))
    × (l.initial.keys.spare ≤ l.keys.spare)
