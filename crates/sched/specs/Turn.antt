-- One turn: the call that it makes of the core, as the pass shows it that is given back.
use Rattle.std.specs.Prelude.{◌≡◌, ℕ, ◌+◌, List, [], ◌∷◌, length, take, Option, Some, None, IfSome}
use Rattle.std.specs.Prelude.{slice_get}
use Rattle.core_rules.specs.Log.{Core}
use Rattle.core_rules.specs.declared.call.Call.{Call}
use Rattle.core_rules.specs.declared.entry.CoreEntry.{CoreEntry}
use Rattle.scheduler_steps.specs.Step.{Gives}
use Rattle.sched.specs.Outside.{Moments, IsReadAt}
use Rattle.sched.specs.Pass.{Told, Adds}

-- how many entries that is
abbrev pub count_made : Option CoreEntry → ℕ
count_made None = 0
count_made (Some e) = 1

-- the place of the entry, where one was made
abbrev pub place_made : ℕ → Option CoreEntry → List ℕ
place_made place None = []
place_made place (Some e) = place ∷ []

-- the core before a place of what the pass has seen of the log
abbrev pub core_before : Told → ℕ → Core
core_before pass place = record { start = pass.start; log = take place pass.front }

-- One call of the core, whose place is within or at the end of what the pass has seen of the log. The clock
-- is
-- read once; at the moment that it gave the call is made on the core before that place: the answer is what
-- its
-- entry tells, which stands at the place; or the call is refused, and made no entry.
pub record IsCallAt {X : Type 0} (asked : ℕ → Call) (tells : Core → CoreEntry → X → Type 0)
    (refuses : Core → X → Type 0) (pass : Told) (place : ℕ) (made : Option CoreEntry)
    (clock ticked : Moments)
    (answer : X) : Type 0 where
  pub now : ℕ
  pub read : IsReadAt now clock ticked
  pub there : IfSome made (λ e. slice_get pass.front place ≡ Some e)
  pub gives : Gives (asked now) tells refuses (core_before pass place) made answer

-- One turn, in which one call of the core is made. Its place ends what the pass has seen of the log, and is
-- the
-- one new own place; where the call is refused there is none.
pub record IsTurn {X : Type 0} (asked : ℕ → Call) (tells : Core → CoreEntry → X → Type 0)
    (refuses : Core → X → Type 0) (old new : Told) (clock ticked : Moments) (answer : X) : Type 0 where
  pub place : ℕ
  pub made : Option CoreEntry
  pub step : IsCallAt asked tells refuses new place made clock ticked answer
  pub ends : length new.front ≡ place + count_made made
  pub added : Adds (place_made place made) old new
