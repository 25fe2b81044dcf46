-- An allocation by its places alone: which entries it made, each the rule's of which call.
use Rattle.std.specs.Prelude.{◌≡◌, ◌<◌, ℕ, List, [], ◌∷◌, Result, Some, slice_get}
use Rattle.dist_types.specs.declared.ids.JobId.{JobId}
use Rattle.dist_types.specs.declared.outgoing.CallFault.{CallFault}
use Rattle.dist_types.specs.declared.results.AssignJobResult.{AssignJobResult}
use Rattle.core_rules.specs.Laws.{Reserves}
use Rattle.core_rules.specs.Rule.{rule}
use Rattle.core_rules.specs.Ticket.{Ticket}
use Rattle.core_rules.specs.declared.call.Call.{Call}
use Rattle.core_rules.specs.declared.call.Call.TheVariants as call
use Rattle.scheduler_steps.specs.Settling.{judged, spend_call}
use Rattle.sched.specs.Pass.{Told, Adds}
use Rattle.sched.specs.Turn.{core_before}

-- the entry at that place of what the pass has seen of the log is the rule's, of that call over the entries
-- before it
abbrev pub IsEntered : Told → ℕ → Call → Type 0
IsEntered pass place asked = slice_get pass.front place ≡ Some (rule (core_before pass place) asked)

-- What an allocation did: it made no entry, or one that reserved no job, or one that reserved a job and,
-- at a later place, one that spent the reservation by what was heard of its server.
pub data Deed : Type 0 where
  unmade : Deed
  alone : ℕ → Deed
  both : ℕ → Ticket → Result AssignJobResult CallFault → ℕ → Deed

abbrev pub places_of : Deed → List ℕ
places_of unmade = []
places_of (alone p) = p ∷ []
places_of (both p r heard q) = p ∷ q ∷ []

-- a reserve's entry, which reserved no job
pub record IsAlone (new : Told) (place : ℕ) : Type 0 where
  pub now : ℕ
  pub entered : IsEntered new place (call.Reserve now)
  pub none : (job : JobId) → Reserves new.front place job → ⊥

-- a reserve's entry, which reserved the job, and the commit's or undo's of that very reservation
pub record AreBoth (new : Told) (place : ℕ) (r : Ticket) (heard : Result AssignJobResult CallFault)
    (spent : ℕ) : Type 0 where
  pub now : ℕ
  pub entered : IsEntered new place (call.Reserve now)
  pub number : r.number ≡ place
  pub reserved : Reserves new.front place r.job
  pub later : place < spent
  pub moment : ℕ
  pub spending : IsEntered new spent (spend_call moment r (judged heard))

abbrev pub RunsAs : Deed → Told → Type 0
RunsAs unmade new = Unit {0}
RunsAs (alone p) new = IsAlone new p
RunsAs (both p r heard q) new = AreBoth new p r heard q

-- an allocation did that, and the pass has these places more
pub record WasAllocated (old new : Told) : Type 0 where
  pub deed : Deed
  pub added : Adds (places_of deed) old new
  pub runs : RunsAs deed new
