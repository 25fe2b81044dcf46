-- Which jobs a heartbeat reaps, over the rows of the unended reservations.
use Rattle.std.specs.Prelude.{ℕ, List, map, filter, Bool, false, not, ◌&&◌, ◌==◌, nat_lt, nat_le}
use Rattle.std.specs.Prelude.{Option, Some, None, unwrap_or}
use Rattle.dist_types.specs.declared.ids.JobId.{JobId}
use Rattle.dist_types.specs.declared.results.JobState.{JobState}
use Rattle.dist_types.specs.declared.results.JobState.TheVariants.{Pending, Ready}
use Rattle.dist_types.specs.declared.rules.Rules.{Rules}
use Rattle.dist_types.specs.declared.rules.Rules.TheVariants.{One, Two}
use Rattle.core_rules.specs.declared.rows.HeldRow.{HeldRow}
use Rattle.core_rules.specs.Prune.{age}

-- how long the job of a reservation has been ready: in version 1 since its reserve, in version 2 since it
-- became ready
abbrev pub ready_age : Rules → ℕ → HeldRow → ℕ
ready_age One now h = age now h.reserved_at
ready_age Two now h = age now (unwrap_or h.ready_at now)

-- whether a job in this state has waited too long, by its age and its ready age: not committed, from 60000
-- milliseconds on; ready, from a ready age of 60000 on; pending, over 300000
abbrev pub is_overdue : ℕ → ℕ → Option JobState → Bool
is_overdue waited ready None = nat_le 60000 waited
is_overdue waited ready (Some Ready) = nat_le 60000 ready
is_overdue waited ready (Some Pending) = nat_lt 300000 waited
is_overdue waited ready other = false

-- an unclaimed reservation of the registration whose job has waited too long
abbrev pub is_reaped : Rules → ℕ → ℕ → HeldRow → Bool
is_reaped rules now reg h = (h.reg == reg) && not h.claimed
    && is_overdue (age now h.reserved_at) (ready_age rules now h) h.state

-- the jobs of those, in the order of their reservations
abbrev pub reap : Rules → ℕ → ℕ → List HeldRow → List JobId
reap rules now reg held = map (λ h. h.job) (filter (is_reaped rules now reg) held)
