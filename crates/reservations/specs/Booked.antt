-- One row for each reservation that was ever made, and what is read off these rows.
use Rattle.std.specs.Prelude.{◌≡◌, ◌<◌, ◌+◌, ◌^◌, ◌==◌, ℕ, List, [], ◌∷◌, length, map, filter}
use Rattle.std.specs.Prelude.{drop, slice_index_or, Bool, true, false, not, ◌&&◌, ◌||◌, Option, Some, None}
use Rattle.std.specs.Prelude.{if◌then◌else◌, option_and_then}
use Rattle.std.specs.List.{filter_map}
use Rattle.std.specs.Option.{option_map}
use Rattle.dist_types.specs.declared.addr.Addr.{Addr}
use Rattle.dist_types.specs.declared.ids.JobId.{JobId}
use Rattle.reservations.specs.declared.booked.BookedRow.{BookedRow}
use Rattle.core_rules.specs.declared.rows.HeldRow.{HeldRow}
use Rattle.core_rules.specs.declared.rows.JobRow.{JobRow}
use Rattle.core_rules.specs.declared.rows.OpenRow.{OpenRow}
use Rattle.core_rules.specs.Rows.{sorted_into}
use Rattle.core_rules.specs.declared.entry.CoreEntry.{CoreEntry}
use Rattle.core_rules.specs.declared.entry.CoreKind.{CoreKind}
use Rattle.core_rules.specs.Reservation.{spends_by, frees_by, claims_by}
use Rattle.core_rules.specs.Next.{UnspentRow, state_after, ready_after}

-- a reservation that was just made
abbrev pub booked_new : JobRow → BookedRow
booked_new j = record {
  number = j.number;
  job = j.job;
  reg = j.reg;
  server = j.server;
  reserved_at = j.reserved_at;
  state = j.state;
  ready_at = j.ready_at;
  claimed = j.claimed;
  unspent = true;
  unended = true;
}

-- a reservation, as an unended one
abbrev pub held_part_of : BookedRow → HeldRow
held_part_of b = record {
  number = b.number;
  job = b.job;
  reg = b.reg;
  reserved_at = b.reserved_at;
  state = b.state;
  ready_at = b.ready_at;
  claimed = b.claimed;
}

-- the same with its address
abbrev pub job_part_of : BookedRow → JobRow
job_part_of b = record {
  number = b.number;
  job = b.job;
  reg = b.reg;
  server = b.server;
  reserved_at = b.reserved_at;
  state = b.state;
  ready_at = b.ready_at;
  claimed = b.claimed;
}

-- a reservation, as an unspent one
abbrev pub unspent_part_of : BookedRow → UnspentRow
unspent_part_of b = record { number = b.number; job = b.job; reg = b.reg; server = b.server }

-- the open job of a reservation: that of one that was spent and is unended, whose job has a state
abbrev pub open_part_of : BookedRow → Option OpenRow
open_part_of b = if b.unended && not b.unspent then option_map
    (λ s. record { job = b.job; reg = Some b.reg; server = Some b.server; state = s }) b.state else None

-- the unended reservations, in the order of their reserving
abbrev pub held_view : List BookedRow → List HeldRow
held_view bs = map held_part_of (filter (λ b. b.unended) bs)

-- the same with their addresses
abbrev pub job_view : List BookedRow → List JobRow
job_view bs = map job_part_of (filter (λ b. b.unended) bs)

-- the same by rising job id
abbrev pub jobs_by_id : List BookedRow → List JobRow
jobs_by_id bs = sorted_into (λ j. j.job.0) [] (job_view bs)

-- the unspent reservations, in the order of their reserving
abbrev pub unspent_view : List BookedRow → List UnspentRow
unspent_view bs = map unspent_part_of (filter (λ b. b.unspent) bs)

-- the open jobs, in the order of their reserving
abbrev pub open_view : List BookedRow → List OpenRow
open_view bs = filter_map open_part_of bs

-- So many jobs are open, and so many reservations are unspent.
pub record AreCounted (bs : List BookedRow) (open_jobs unspent_ones : ℕ) : Type 0 where
  pub few : length bs < 2 ^ 63
  pub open_are : open_jobs ≡ length (open_view bs)
  pub unspent_are : unspent_ones ≡ length (unspent_view bs)

-- what is asked of the reservation of a job, if there is one

-- whether it has that number and is unspent
abbrev pub is_unspent_in : Option BookedRow → ℕ → Bool
is_unspent_in None number = false
is_unspent_in (Some b) number = b.unspent && (b.number == number)

-- whether it has that number and is unended
abbrev pub is_held_in : Option BookedRow → ℕ → Bool
is_held_in None number = false
is_held_in (Some b) number = b.unended && (b.number == number)

-- its address, where it has that number and is unspent
abbrev pub address_in : Option BookedRow → ℕ → Option Addr
address_in None number = None
address_in (Some b) number = if b.unspent && (b.number == number) then Some b.server else None

-- its open job
abbrev pub open_in : Option BookedRow → Option OpenRow
open_in found = option_and_then open_part_of found

-- The place has an unended reservation, the first of all.
pub record IsFirstHeld (bs : List BookedRow) (place : ℕ) : Type 0 where
  pub row : BookedRow
  pub within : place < length bs
  pub is : (d : BookedRow) → slice_index_or bs place d ≡ row
  pub rest : job_view bs ≡ job_part_of row ∷ job_view (drop (place + 1) bs)

-- what an entry does to them

-- a reservation after an entry
abbrev pub booked_after : CoreEntry → BookedRow → BookedRow
booked_after e b = record b {
  state = state_after e.kind b.job b.state;
  ready_at = ready_after e b.job b.ready_at;
  claimed = b.claimed || claims_by e.kind b.job;
  unspent = b.unspent && not (spends_by e.kind b.job);
  unended = b.unended && not (frees_by e.kind b.job b.reg);
}

-- an entry leaves the reservations of all other jobs as they are
abbrev pub LeavesOthers : CoreEntry → JobId → Type 0
LeavesOthers e job = (b : BookedRow) → (b.job.0 == job.0) ≡ false → booked_after e b ≡ b

-- an entry ends no reservation of another job
abbrev pub FreesNoOther : CoreKind → JobId → Type 0
FreesNoOther kind job = (b : BookedRow) → (b.job.0 == job.0) ≡ false → frees_by kind b.job b.reg ≡ false
