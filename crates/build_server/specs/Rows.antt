-- What the calls of a running server leave of the keeper, the requester, the builder and the reader that
-- they were given.
use Rattle.std.specs.Prelude.{◌≡◌, ◌≢◌, ◌≤◌, ◌<◌, ℕ, List, length, Option, IfSome, Result, Ok, Err, OnOk}
use Rattle.dist_types.specs.Cause.{Rose}
use Rattle.dist_types.specs.Content.{Recorded, KeptOrRecorded, IsAtEnd, TookFront, left_behind}
use Rattle.dist_types.specs.Content as content
use Rattle.dist_types.specs.Outgoing.{Updated, Lent, Peer, Calls, updated_row}
use Rattle.dist_types.specs.declared.dialer.Asked.{Asked}
use Rattle.dist_types.specs.declared.ids.JobId.{JobId}
use Rattle.dist_types.specs.declared.outgoing.CallFault.TheVariants as call
use Rattle.dist_types.specs.declared.results.JobState.{JobState}
use Rattle.dist_types.specs.declared.results.JobState.TheVariants.{Ready, Started, Complete}
use Rattle.dist_types.specs.declared.results.RunJobResult.{RunJobResult}
use Rattle.dist_types.specs.declared.results.SubmitToolchainResult.{SubmitToolchainResult}
use Rattle.dist_types.specs.declared.results.SubmitToolchainResult.TheVariants.{CannotCache}
use Rattle.dist_types.specs.declared.fault.Memory as want
use Rattle.dist_types.specs.declared.source.ReadError.{ReadError}
use Rattle.dist_types.specs.declared.source.ReadError.TheVariants as read
use Rattle.build_server.specs.Books.{Books}
use Rattle.build_server.specs.Builds.{Order, Builder, Builds, ended}
use Rattle.build_server.specs.Rules.{Update, fault_of, Submits, Begins, TellsUpdate, Turns, submit_result}
use Rattle.build_server.specs.declared.fault.ServerFault.{ServerFault}
use Rattle.build_server.specs.declared.fault.ServerFault.TheVariants as fault
use Rattle.build_server.specs.declared.run.Outcome.{Outcome}
use Rattle.build_server.specs.declared.run.Taken.{Taken}
use Rattle.build_server.specs.declared.submit.Submitted.{Submitted}

-- what a requester tells: its record, its count of lost calls, and what it was lent
pub record Reports : Type 0 where
  pub rows : Option (List Updated)
  pub faults : ℕ
  pub lent : Lent

abbrev pub reports : {O : Type 0} → (O → Option (List Updated)) → (O → ℕ) → (O → Lent) → O → Reports
reports rows faults lent requester =
    record { rows = rows requester; faults = faults requester; lent = lent requester }

-- The scheduler was told a state once: one row more, which is left out at most where memory ran out; the
-- call was lost only where its count rose.
pub record IsReported (says : Peer → Updated → Asked → Type 0) (job : JobId) (state : JobState)
    (heard : Update) (old new : Reports) : Type 0 where
  pub row : heard ≢ Err call.Memory → Recorded (updated_row job.0 state heard) old.rows new.rows
  pub memory : heard ≡ Err call.Memory → KeptOrRecorded (updated_row job.0 state heard) old.rows new.rows
  pub steady : OnOk heard (new.faults ≡ old.faults)
  pub uncounted : heard ≡ Err call.Memory → new.faults ≡ old.faults
  pub later : old.faults ≤ new.faults
  pub cause : heard ≡ Err call.Lost → Rose old.faults new.faults
  pub lent : Calls (says old.lent.peer) (updated_row job.0 state) heard old.lent new.lent

-- what a reader tells: what is left, and its count of faults
pub record Reading : Type 0 where
  pub left : Option (List ℕ)
  pub faults : ℕ

abbrev pub reading : {R : Type 0} → (R → Option (List ℕ)) → (R → ℕ) → R → Reading
reading left faults reader = record { left = left reader; faults = faults reader }

-- all that was left was read, no more than 1,073,741,824 bytes, and no read failed
pub record IsWhole (bytes : List ℕ) (old new : Reading) : Type 0 where
  pub all : content.Taken bytes old.left new.left
  pub at_end : IsAtEnd new.left
  pub short : length bytes ≤ 1073741824
  pub steady : new.faults ≡ old.faults

-- Why not all was read, what is left, and what is answered: a read failed, which the count shows, behind a
-- front of what was left; or more came than is taken, and was read to one byte past that: then the toolchain
-- cannot be kept. Or memory ran out.
abbrev pub Unread : ReadError → Reading → Reading → Result SubmitToolchainResult ServerFault → Type 0
Unread read.Failed old new answer = Rose old.faults new.faults × TookFront old.left new.left
    × (answer ≡ Ok CannotCache)
Unread read.TooLong old new answer = (new.faults ≡ old.faults)
    × IfSome old.left (λ left. 1073741824 < length left)
    × (new.left ≡ left_behind 1073741825 old.left) × (answer ≡ Ok CannotCache)
Unread read.Memory old new answer = (new.faults ≡ old.faults) × TookFront old.left new.left
    × (answer ≡ Err fault.Memory)

-- what a submission answers, by how it ended
abbrev pub submit_answer : Result Submitted ServerFault → Result SubmitToolchainResult ServerFault
submit_answer (Ok outcome) = Ok (submit_result outcome)
submit_answer (Err e) = Err e

-- the archive was read, and the submission ended with it
pub record Ends (job : JobId) (ready : Update) (bytes : List ℕ) (kept turned : Option Books)
    (answer : Result SubmitToolchainResult ServerFault) : Type 0 where
  pub ended : Result Submitted ServerFault
  pub turns : Turns (λ old new. Submits job ready bytes old new ended) kept turned
  pub tells : TellsUpdate ready ended
  pub gives : answer ≡ submit_answer ended

-- by whether the archive was read: where it was not, nothing is stored
abbrev pub Fetches : JobId → Update → Result (List ℕ) ReadError → Option Books → Option Books → Reading
    → Reading
    → Result SubmitToolchainResult ServerFault → Type 0
Fetches job ready (Ok bytes) kept turned old new answer =
    IsWhole bytes old new × Ends job ready bytes kept turned answer
Fetches job ready (Err e) kept turned old new answer = Unread e old new answer × (turned ≡ kept)

-- by what the scheduler answered to Ready: where that is not accepted, nothing is read or stored
abbrev pub Submitting : JobId → Update → Option Books → Option Books → Reading → Reading
    → Result SubmitToolchainResult ServerFault → Type 0
Submitting job (Ok x) kept turned old new answer =
    (fetched : Result (List ℕ) ReadError) × Fetches job (Ok x) fetched kept turned old new answer
Submitting job (Err e) kept turned old new answer =
    (answer ≡ Err (fault_of e)) × (turned ≡ kept) × (new ≡ old)

-- A toolchain is submitted under a job: one Ready row first, and then what was answered to it decides.
pub record IsSubmitOn (says : Peer → Updated → Asked → Type 0) (job : JobId) (kept turned : Option Books)
    (before after : Reports)
    (old new : Reading) (answer : Result SubmitToolchainResult ServerFault) : Type 0 where
  pub ready : Update
  pub reported : IsReported says job Ready ready before after
  pub submitting : Submitting job ready kept turned old new answer

-- the build is over, and Complete is reported once
pub record Finishes (says : Peer → Updated → Asked → Type 0) (job : JobId) (outcome : Outcome)
    (old new : Reports)
    (answer : Result RunJobResult ServerFault) : Type 0 where
  pub complete : Update
  pub reported : IsReported says job Complete complete old new
  pub gives : answer ≡ ended outcome complete

-- by whether there was memory for the build: where there was none, Complete is not reported
abbrev pub Follows : (Peer → Updated → Asked → Type 0) → JobId → Result Outcome (Taken × want.Memory)
    → Reports → Reports
    → Result RunJobResult ServerFault → Type 0
Follows says job (Ok outcome) old new answer = Finishes says job outcome old new answer
Follows says job (Err e) old new answer = (answer ≡ Err fault.Memory) × (new ≡ old)

-- what was taken out is built
pub record Works (says : Peer → Updated → Asked → Type 0) (job : JobId) (taken : Taken) (order : Order)
    (old new : Reports)
    (builder built : Builder) (answer : Result RunJobResult ServerFault) : Type 0 where
  pub went : Result Outcome (Taken × want.Memory)
  pub builds : Builds taken order builder built went
  pub follows : Follows says job went old new answer

-- by whether the job was taken out: where it was not, nothing is built or reported
abbrev pub Proceeds : (Peer → Updated → Asked → Type 0) → JobId → Order → Result Taken ServerFault → Reports
    → Reports
    → Builder → Builder → Result RunJobResult ServerFault → Type 0
Proceeds says job order (Ok taken) old new builder built answer =
    Works says job taken order old new builder built answer
Proceeds says job order (Err e) old new builder built answer =
    (answer ≡ Err e) × (new ≡ old) × (built ≡ builder)

-- a run whose Started was accepted
pub record Runs (says : Peer → Updated → Asked → Type 0) (job : JobId) (order : Order) (started : Update)
    (kept turned : Option Books)
    (old new : Reports) (builder built : Builder) (answer : Result RunJobResult ServerFault) : Type 0 where
  pub begun : Result Taken ServerFault
  pub turns : Turns (λ books later. Begins job started books later begun) kept turned
  pub tells : TellsUpdate started begun
  pub proceeds : Proceeds says job order begun old new builder built answer

-- by what the scheduler answered to Started: where that is not accepted, nothing is taken out, built or
-- reported
abbrev pub Running : (Peer → Updated → Asked → Type 0) → JobId → Order → Update → Option Books
    → Option Books → Reports → Reports
    → Builder → Builder → Result RunJobResult ServerFault → Type 0
Running says job order (Ok x) kept turned old new builder built answer =
    Runs says job order (Ok x) kept turned old new builder built answer
Running says job order (Err e) kept turned old new builder built answer =
    (answer ≡ Err (fault_of e)) × (turned ≡ kept) × (new ≡ old) × (built ≡ builder)

-- A job is run: one Started row first; where that is accepted the job is taken out and built, and then
-- comes one Complete row.
pub record IsRunOn (says : Peer → Updated → Asked → Type 0) (job : JobId) (order : Order)
    (kept turned : Option Books)
    (before after : Reports) (builder built : Builder)
    (answer : Result RunJobResult ServerFault) : Type 0 where
  pub started : Update
  pub between : Reports
  pub reported : IsReported says job Started started before between
  pub running : Running says job order started kept turned between after builder built answer
