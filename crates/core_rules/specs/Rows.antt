-- What is asked of the log, as rows.
use Rattle.std.specs.Prelude.{ℕ, List, [], ◌∷◌, map, Option, option_and_then, nat_lt, if◌then◌else◌}
use Rattle.std.specs.List.{filter_map}
use Rattle.std.specs.Option.{option_map}
use Rattle.core_rules.specs.declared.entry.CoreEntry.{CoreEntry}
use Rattle.core_rules.specs.declared.rows.ServerRow.{ServerRow}
use Rattle.core_rules.specs.declared.rows.HeldRow.{HeldRow}
use Rattle.core_rules.specs.declared.rows.OpenRow.{OpenRow}
use Rattle.core_rules.specs.declared.rows.JobRow.{JobRow}
use Rattle.core_rules.specs.Standing.{Registered, standing, last_sign, is_draining, address_of}
use Rattle.core_rules.specs.Reservation.{Booking, unended, is_claimed, load_of}
use Rattle.core_rules.specs.Fault.{error_of}
use Rattle.core_rules.specs.Job.{Committed, open_jobs, state_now, state_of, ready_at}

-- a registration as a row: its last sign, its load and its remembered error over the log, and whether it is
-- draining
abbrev pub row_of : List CoreEntry → Registered → ServerRow
row_of log g = record {
  reg = g.reg;
  server = g.server;
  cpus = g.cpus;
  nonce = g.nonce;
  seen = last_sign g;
  load = load_of log g.reg;
  error = error_of log g.reg;
  draining = is_draining g;
}

-- the registrations that stand, by rising number, with their last sign, load and remembered error
abbrev pub servers_of : List CoreEntry → List ServerRow
servers_of log = map (row_of log) (standing log)

-- a reservation as a row: the state of its job, when it became ready and whether the build has begun
abbrev pub held_of : Booking → HeldRow
held_of b = record {
  number = b.number;
  job = b.job;
  reg = b.reg;
  reserved_at = b.now;
  state = state_of b.job b.later;
  ready_at = ready_at b.job b.later;
  claimed = is_claimed b;
}

-- the unended reservations, in the order of their reserving
abbrev pub held_rows : List CoreEntry → List HeldRow
held_rows log = map held_of (unended log)

-- an open job as a row: the registration that it is at, that address, and its state
abbrev pub open_of : List CoreEntry → Committed → OpenRow
open_of log c = record {
  job = c.job;
  reg = c.reg;
  server = option_and_then (address_of log) c.reg;
  state = state_now c;
}

-- the open jobs, in the order of their commits
abbrev pub open_rows : List CoreEntry → List OpenRow
open_rows log = map (open_of log) (open_jobs log)

-- a row put before the first whose number is greater
abbrev pub placed : {X : Type 0} → (X → ℕ) → X → List X → List X
placed number x [] = x ∷ []
placed number x (y ∷ ys) = if nat_lt (number x) (number y) then x ∷ y ∷ ys else y ∷ placed number x ys

-- some rows put so one after the other among those that are placed
abbrev pub sorted_into : {X : Type 0} → (X → ℕ) → List X → List X → List X
sorted_into number done [] = done
sorted_into number done (x ∷ xs) = sorted_into number (placed number x done) xs

-- the unended reservations, by rising job id
abbrev pub unended_by_id : List CoreEntry → List Booking
unended_by_id log = sorted_into (λ b. b.job.0) [] (unended log)

-- an unended reservation as a row, if its registration has an address
abbrev pub job_row : List CoreEntry → Booking → Option JobRow
job_row log b = option_map
    (λ server. record {
      number = b.number;
      job = b.job;
      reg = b.reg;
      server = server;
      reserved_at = b.now;
      state = state_of b.job b.later;
      ready_at = ready_at b.job b.later;
      claimed = is_claimed b;
    }) (address_of log b.reg)

-- the unended reservations, by rising job id, each with the address of its registration
abbrev pub jobs_of : List CoreEntry → List JobRow
jobs_of log = filter_map (job_row log) (unended_by_id log)
