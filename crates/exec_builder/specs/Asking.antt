-- One question to an executor, and what it answers.
use Rattle.std.specs.Prelude.{◌≡◌, ◌≢◌, ◌⊎◌, ◌≤◌, ℕ, List, Option, Result, Ok, Err}
use Rattle.dist_types.specs.Cause.{Rose}
use Rattle.dist_types.specs.Content.{Recorded}
use Rattle.dist_types.specs.Dialer.{asked_row}
use Rattle.dist_types.specs.declared.dialer.Asked.{Asked}
use Rattle.dist_types.specs.declared.dialer.AskFault.{AskFault}
use Rattle.dist_types.specs.declared.dialer.AskFault.TheVariants.{Failed, Memory as OutOfMemory}
use Rattle.dist_types.specs.declared.outgoing.CallFault.{CallFault}
use Rattle.dist_types.specs.declared.outgoing.CallFault.TheVariants.{Lost, Memory}
use Rattle.http_routes.specs.CallReply.{IsAnswer}
use Rattle.exec_builder.specs.declared.executor.Executor.{Executor}

-- what a dialer tells: its record, where it is told, and its count of faults
pub record Dialing : Type 0 where
  pub asked : Option (List Asked)
  pub faults : ℕ

abbrev pub dialing_of : {D : Type 0} → (D → Option (List Asked)) → (D → ℕ) → D → Dialing
dialing_of asked faults d = record { asked = asked d; faults = faults d }

-- what an answer is to a dialer's: what the reply says, unless memory ran out; Lost where the dialer failed
abbrev pub AnswersRow : {M : Type 0} → (List ℕ → Option (M × List ℕ)) → Result (List ℕ) AskFault
    → Result M CallFault → Type 0
AnswersRow {M} at (Ok reply) answer = answer ≢ Err Memory → IsAnswer {M = M} at reply answer
AnswersRow at (Err Failed) answer = answer ≡ Err Lost
AnswersRow at (Err OutOfMemory) answer = answer ≡ Err Memory

-- The record has one more row, of this request to the executor, and its reply gives the answer.
pub record AnswersOnce {M : Type 0} (at : List ℕ → Option (M × List ℕ)) (e : Executor) (request : List ℕ)
    (answer : Result M CallFault) (old new : Option (List Asked)) : Type 0 where
  pub heard : Result (List ℕ) AskFault
  pub row : Recorded (asked_row e.host e.port request heard) old new
  pub says : AnswersRow {M = M} at heard answer

-- the same, or memory ran out and the record is as it was
abbrev pub Answers : {M : Type 0} → (List ℕ → Option (M × List ℕ)) → Executor → List ℕ → Result M CallFault
    → Option (List Asked) → Option (List Asked) → Type 0
Answers at e request answer old new = AnswersOnce at e request answer old new
    ⊎ ((answer ≡ Err Memory) × (new ≡ old))

-- The executor was asked once, or memory ran out; Lost came only where the dialer's count rose, and whatever else
-- came left the count as it was.
pub record Asks {M : Type 0} (at : List ℕ → Option (M × List ℕ)) (e : Executor) (request : List ℕ)
    (answer : Result M CallFault) (old new : Dialing) : Type 0 where
  pub answers : Answers at e request answer old.asked new.asked
  pub cause : answer ≡ Err Lost → Rose old.faults new.faults
  pub steady : answer ≢ Err Lost → new.faults ≡ old.faults
  pub later : old.faults ≤ new.faults
