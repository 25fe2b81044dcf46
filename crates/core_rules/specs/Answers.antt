-- What the calls answer that make and spend reservations, and the updates, read off their entries.
use Rattle.std.specs.Prelude.{◌≡◌, ℕ, List, length, Bool, false, Option, Some, None, Result, Ok, Err}
use Rattle.std.specs.Prelude.{if◌then◌else◌}
use Rattle.dist_types.specs.declared.ids.JobId.{JobId}
use Rattle.core_rules.specs.declared.entry.CoreEntry.{CoreEntry}
use Rattle.core_rules.specs.declared.entry.CoreKind.{CoreKind}
use Rattle.core_rules.specs.declared.entry.CoreKind.TheVariants.{Reserve, Commit, Undo, Update}
use Rattle.core_rules.specs.declared.entry.Reserved.TheVariants.{Spent}
use Rattle.dist_types.specs.declared.results.JobState.{JobState}
use Rattle.dist_types.specs.declared.results.UpdateJobStateResult.{UpdateJobStateResult}
use Rattle.dist_types.specs.declared.results.UpdateJobStateResult.TheVariants.{Success}
use Rattle.core_rules.specs.declared.entry.UpdateAnswer.{UpdateAnswer}
use Rattle.core_rules.specs.declared.entry.UpdateAnswer.TheVariants.{Accepted, Unknown, Wrong, Transition}
use Rattle.core_rules.specs.declared.error.SchedError.{SchedError}
use Rattle.core_rules.specs.declared.error.SchedError.TheVariants as error
use Rattle.core_rules.specs.declared.answers.Committed.{Committed}
use Rattle.core_rules.specs.declared.answers.Committed.TheVariants as committed
use Rattle.core_rules.specs.declared.answers.Undone.{Undone}
use Rattle.core_rules.specs.declared.answers.Undone.TheVariants as undone
use Rattle.core_rules.specs.Log.{Core, logged}
use Rattle.core_rules.specs.Standing.{address_of, key_at}
use Rattle.core_rules.specs.Ticket.{Ticket}

-- what a refused call leaves: want of memory leaves all as it was, and every other refusal is logged
abbrev pub Leaves : SchedError → Core → Core → CoreEntry → Type 0
Leaves error.Memory old new made = new ≡ old
Leaves other old new made = new ≡ logged old made

-- reserve

-- the text is a job's token of an authorizer under the key of the registration's own heartbeat
abbrev pub IsTokenAt : {A : Type 0} → (A → List ℕ) → (A → ℕ → List ℕ) → List CoreEntry → ℕ → JobId → List ℕ
    → Type 0
IsTokenAt {A} key_of token_for log reg job text = (authorizer : A)
    × (key_at log reg ≡ Some (key_of authorizer)) × (text ≡ token_for authorizer job.0)

-- A reservation of the job at the registration, made by the next entry of the log: it has that entry's
-- number, the registration's address and the job's token.
pub record IsTicket {A : Type 0} (key_of : A → List ℕ) (token_for : A → ℕ → List ℕ) (log : List CoreEntry)
    (asked : JobId) (at : ℕ) (r : Ticket) : Type 0 where
  pub number : r.number ≡ length log
  pub job : r.job ≡ asked
  pub reg : r.reg ≡ at
  pub server : address_of log at ≡ Some r.server
  pub token : IsTokenAt key_of token_for log at asked r.auth

-- how a reserve is refused, by its entry: the ids are spent exactly where it says so
abbrev pub RefusesReserve : CoreKind → SchedError → Type 0
RefusesReserve kind error.IdsSpent = kind ≡ Reserve Spent
RefusesReserve kind error.Memory = Unit {0}
RefusesReserve kind other = ⊥

-- commit and undo

-- whether the entry of a commit keeps the job
abbrev pub keeps_by : CoreKind → Bool
keeps_by (Commit job state kept) = kept
keeps_by other = false

-- what a commit answers: foreign where the reservation is none of the unspent ones, else by its entry
abbrev pub committed_by : Bool → CoreKind → Ticket → Committed
committed_by own kind r = if own
    then (if keeps_by kind then committed.Kept
    (record { auth = r.auth; job_id = r.job; server_id = r.server }) else committed.Dropped r.job)
    else committed.Foreign r.job

-- where an undo ended no reservation: whether it noted a registration
abbrev pub unended_by : Option ℕ → Undone
unended_by None = undone.NoServer
unended_by (Some reg) = undone.NotKnown

-- what an undo of an unspent reservation answers, by its entry
abbrev pub undone_by : CoreKind → Undone
undone_by (Undo job noted ended) = if ended then undone.Unassigned else unended_by noted
undone_by other = undone.Foreign

-- foreign where the reservation is none of the unspent ones, else by its entry
abbrev pub undo_answer : Bool → CoreKind → Undone
undo_answer own kind = if own then undone_by kind else undone.Foreign

-- update

-- what an update answers, by whether it is accepted
abbrev pub verdict : UpdateAnswer → JobState → Result UpdateJobStateResult SchedError
verdict Accepted state = Ok Success
verdict Unknown state = Err error.UnknownJob
verdict Wrong state = Err error.WrongServer
verdict (Transition from) state = Err (error.BadTransition from state)

-- what an update answers, by its entry
abbrev pub updated_by : CoreKind → Result UpdateJobStateResult SchedError
updated_by (Update server job state answer) = verdict answer state
updated_by other = Err error.Memory
