-- What an allocation did, and what its caller is told of it.
use Rattle.std.specs.Prelude.{◌≡◌, ◌<◌, ℕ, ◌+◌, List, [], ◌∷◌, length, Option, Some, Result, Ok, Err}
use Rattle.dist_types.specs.Outgoing.{Assigned}
use Rattle.dist_types.specs.declared.dialer.Asked.{Asked}
use Rattle.dist_types.specs.declared.outgoing.CallFault.{CallFault}
use Rattle.dist_types.specs.declared.results.AssignJobResult.{AssignJobResult}
use Rattle.dist_types.specs.declared.results.AllocJobResult.{AllocJobResult}
use Rattle.core_rules.specs.Log.{Core}
use Rattle.core_rules.specs.Texts.{no_room_text}
use Rattle.core_rules.specs.Ticket.{Ticket}
use Rattle.core_rules.specs.declared.entry.CoreEntry.{CoreEntry}
use Rattle.sched_core.specs.declared.answers.Picked.{Picked}
use Rattle.sched_core.specs.declared.answers.Picked.TheVariants.{Reserved, NoRoom}
use Rattle.core_rules.specs.declared.call.Call.TheVariants as call
use Rattle.scheduler_steps.specs.Settling.{judged, spend_call, TellsSettle, FailsWith, Answers}
use Rattle.scheduler_steps.specs.Telling.{TellsReserve, WantsMemory}
use Rattle.scheduler_steps.specs.declared.fault.SchedFault.{SchedFault}
use Rattle.scheduler_steps.specs.declared.settled.Settled.{Settled}
use Rattle.sched.specs.Outside.{Moments, Requests, IsCalled}
use Rattle.sched.specs.Pass.{Told, Adds}
use Rattle.sched.specs.Turn.{IsCallAt, count_made, place_made}

-- a reservation of one's own is never refused
abbrev pub Never : {X : Type 0} → Core → X → Type 0
Never core answer = ⊥

-- The second half: the requester is called once about the reservation, which is then spent by what was
-- heard, by
-- an entry at a later place; the answer tells what became of it. The two places are the new ones, and the
-- later
-- one ends what the pass has seen of the log.
pub record IsAsked (says : Assigned → Asked → Type 0) (tc : List ℕ) (r : Ticket) (place : ℕ)
    (places : List ℕ) (new : Told) (clock ticked : Moments) (before after : Requests)
    (answer : Result AllocJobResult SchedFault) : Type 0 where
  pub heard : Result AssignJobResult CallFault
  pub called : IsCalled says r tc heard before after
  pub settled : Settled
  pub spent : ℕ
  pub spending : CoreEntry
  pub later : place < spent
  pub step : IsCallAt (λ now. spend_call now r (judged heard)) (TellsSettle r (judged heard)) Never new spent
      (Some spending) clock ticked settled
  pub ends : length new.front ≡ spent + 1
  pub places_are : places ≡ place ∷ spent ∷ []
  pub told : Answers settled answer

-- Nothing more is done: the reserve's place, where it made an entry, is the one new place, and ends what
-- the pass
-- has seen of the log.
pub record IsOver (place : ℕ) (made : Option CoreEntry) (places : List ℕ) (new : Told)
    (clock ticked : Moments)
    (before after : Requests) : Type 0 where
  pub ends : length new.front ≡ place + count_made made
  pub places_are : places ≡ place_made place made
  pub unread : ticked ≡ clock
  pub unasked : after ≡ before

-- by what was picked
abbrev pub GoesOn : (Assigned → Asked → Type 0) → List ℕ → Result Picked SchedFault → ℕ → Option CoreEntry
    → List ℕ → Told → Moments → Moments → Requests → Requests → Result AllocJobResult SchedFault → Type 0
GoesOn says tc (Ok (Reserved r)) place made places new clock ticked before after answer =
    IsAsked says tc r place places new clock ticked before after answer
GoesOn says tc (Ok (NoRoom standing)) place made places new clock ticked before after answer =
    IsOver place made places new clock ticked before after × FailsWith (no_room_text standing) answer
GoesOn says tc (Err fault) place made places new clock ticked before after answer =
    IsOver place made places new clock ticked before after × (answer ≡ Err fault)

-- An allocation: a call that reserves, and what follows by what it picked. These places are the new ones of
-- the
-- pass.
pub record IsAllocation {A : Type 0} (key_of : A → List ℕ) (token_for : A → ℕ → List ℕ)
    (says : Assigned → Asked → Type 0) (tc : List ℕ) (old new : Told) (clock ticked : Moments)
    (before after : Requests) (answer : Result AllocJobResult SchedFault) : Type 0 where
  pub places : List ℕ
  pub added : Adds places old new
  pub picked : Result Picked SchedFault
  pub ticking : Moments
  pub place : ℕ
  pub made : Option CoreEntry
  pub step : IsCallAt (λ now. call.Reserve now) (TellsReserve key_of token_for) WantsMemory new place made
      clock
      ticking picked
  pub follows : GoesOn says tc picked place made places new ticking ticked before after answer
