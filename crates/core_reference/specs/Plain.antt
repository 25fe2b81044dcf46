-- What the plain scheduler finds at one entry of the log, between those before and after it.
use Rattle.std.specs.Prelude.{◌≡◌, ℕ, List, Bool, true, false, not, ◌&&◌, ◌||◌, ◌==◌, count_by, Option, Some, None}
use Rattle.std.specs.Prelude.{if◌then◌else◌, option_and_then}
use Rattle.std.specs.List.{list_any}
use Rattle.dist_types.specs.declared.addr.Addr.{Addr}
use Rattle.dist_types.specs.declared.ids.JobId.{JobId}
use Rattle.core_rules.specs.declared.entry.CoreEntry.{CoreEntry}
use Rattle.core_rules.specs.declared.entry.CoreKind.{CoreKind}
use Rattle.core_rules.specs.declared.entry.CoreKind.TheVariants.{Beat, Reserve, Update}
use Rattle.core_rules.specs.declared.entry.Reserved.TheVariants.{Job}
use Rattle.core_rules.specs.declared.rows.ServerRow.{ServerRow}
use Rattle.core_rules.specs.declared.rows.HeldRow.{HeldRow}
use Rattle.core_rules.specs.Cuts.{Cut, lasting}
use Rattle.core_rules.specs.Log.{same_job}
use Rattle.core_rules.specs.Standing.{Registered, renews_by, is_heard, last_sign, is_draining}
use Rattle.core_rules.specs.Reservation.{booked_at, spends_by, frees_by}
use Rattle.core_rules.specs.Fault.{error_of}
use Rattle.core_rules.specs.declared.call.Call.{Call}
use Rattle.core_rules.specs.Log.{Core}
use Rattle.core_rules.specs.Rule.{is_among, rule, IsCall}
use Rattle.core_reference.specs.declared.jobs.Which.{Which}
use Rattle.core_reference.specs.declared.jobs.Which.TheVariants.{Unspent, Unended}

-- what is shown of it, where it lasts
abbrev pub seen : {X B : Type 0} → (X → Bool) → (X → B) → X → Option B
seen lasts view x = if lasts x then Some (view x) else None

-- what is shown of what an entry makes, where that lasts
abbrev pub shown : {X B : Type 0} → (Cut CoreEntry → Option X) → (X → Bool) → (X → B) → Cut CoreEntry → Option B
shown make lasts view c = option_and_then (seen lasts view) (make c)

-- whether a reservation lasts over the entries after it: unspent, or unended
abbrev pub lasts_as : Which → JobId → ℕ → List CoreEntry → Bool
lasts_as Unspent job reg later = not (list_any (λ e. spends_by e.kind job) later)
lasts_as Unended job reg later = not (list_any (λ e. frees_by e.kind job reg) later)

-- whether one of that number and job does
abbrev pub has_among : Which → List CoreEntry → ℕ → JobId → Bool
has_among which log number job = is_among (lasting booked_at (λ b. lasts_as which b.job b.reg b.later) log) number job

-- the registration at which an entry reserves a job
abbrev pub reg_by : CoreKind → Option ℕ
reg_by (Reserve (Job job reg forgiven)) = Some reg
reg_by other = None

-- the address of the registration that an entry makes
abbrev pub address_by : CoreKind → Option Addr
address_by (Beat server nonce cpus key pruned reaped replaced true) = Some server
address_by other = None

-- the job that an entry reserves at the registration
abbrev pub job_at : CoreKind → ℕ → Option JobId
job_at (Reserve (Job job reg forgiven)) r = if reg == r then Some job else None
job_at other r = None

-- whether an entry is an update of one of those jobs that counts as a sign
abbrev pub serves_one : CoreKind → List JobId → Bool
serves_one (Update server job state answer) jobs = is_heard answer && list_any (λ j. same_job j job) jobs
serves_one other jobs = false

-- whether an entry is a sign of the registration at that address, which is over or not and has those jobs
abbrev pub sign_among : CoreKind → Addr → Bool → List JobId → Bool
sign_among kind at over jobs = (renews_by kind at && not over) || serves_one kind jobs

-- a registration as a row, without its load and its error
abbrev pub signed : Registered → ServerRow
signed g = record {
  reg = g.reg;
  server = g.server;
  cpus = g.cpus;
  nonce = g.nonce;
  seen = last_sign g;
  load = 0;
  error = None;
  draining = is_draining g;
}

-- a row with its load and its error
abbrev pub loaded : List HeldRow → List CoreEntry → ServerRow → ServerRow
loaded held log row = record row {
  load = count_by (λ h. h.reg == row.reg) held;
  error = error_of log row.reg;
}

-- the entry is the one that the rule gives the call, and there is none where the call makes none
abbrev pub IsEntryOf : Core → Call → Option CoreEntry → Type 0
IsEntryOf s asked None = IsCall s asked → ⊥
IsEntryOf s asked (Some e) = IsCall s asked × (e ≡ rule s asked)
