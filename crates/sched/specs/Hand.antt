-- The turn in hand: what was taken, what may be given back, and what a pass is then.
use Rattle.std.specs.Prelude.{◌≡◌, ◌<◌, ◌≤◌, ◌+◌, ℕ, List, [], ◌∷◌, length, true, false, nat_lt}
use Rattle.std.specs.Prelude.{if◌then◌else◌}
use Rattle.std.specs.Prelude.{Option, Some, None, IfSome}
use mathlib.Core.List.{IsPrefix}
use Rattle.dist_types.specs.declared.ids.JobId.{JobId}
use Rattle.core_rules.specs.Laws.{IsLegal, Reserves}
use Rattle.core_rules.specs.declared.entry.CoreEntry.{CoreEntry}
use Rattle.sched_core.specs.declared.answers.Picked.{Picked}
use Rattle.sched_core.specs.declared.answers.Picked.TheVariants.{Reserved, NoRoom}
use Rattle.scheduler_steps.specs.Step.{with_core}
use Rattle.sched.specs.Lists.{Has, total, below, times, longer, shorter, merged}
use Rattle.sched.specs.Pass.{Told}
use Rattle.sched.specs.Plays.{Sat, claimed, recorded, released, compared, joined}
use Rattle.sched.specs.Rule.{Seen, SpendsOwn, IsOwnSpending, desk_of}
use Rattle.sched.specs.declared.view.View.{View}

-- a seat with the turn, whose desk is in hand
pub record HasTurn (me : Sat) : Type 0 where
  pub slot : me.1 ≡ (0, None) ∷ []
  pub turn : me.0.turn ≡ true
  pub live : me.0.live ≡ true

-- a turn was taken from the view v: the log was seen, and the desk is in hand
pub record Begins (v w : View) (desk : Seen) : Type 0 where
  pub log : List CoreEntry
  pub made : ℕ
  pub view : w ≡ claimed v log made
  pub desk_is : desk ≡ desk_of v.start log made
  pub front : IsPrefix v.front log
  pub legal : IsLegal v.start log
  pub spends : SpendsOwn log v.own
  pub few : length v.own ≤ length log
  pub held : v.held ≤ made
  pub whole : v.held ≡ made → (f : ℕ → ℕ) → total f v.own ≡ below f (length log)

-- the desk behind a step of its core
abbrev pub desk_with : Seen → Option CoreEntry → Seen
desk_with desk made = record desk { core = with_core desk.core made }

-- what the holder of the turn may give back: the desk behind a step, whose entry spends no reservation but
-- its own
pub record MayEnd (v : View) (desk : Seen) : Type 0 where
  pub made : Option CoreEntry
  pub desk_is : desk ≡ desk_with (desk_of v.start v.front v.note) made
  pub own : IfSome made (IsOwnSpending v.front v.own)
  pub holds : IfSome made (λ e. 0 < v.held)

-- the view that has seen this log, whose last entry is its own where it is longer than the front
abbrev pub noted : View → List CoreEntry → View
noted v log = if nat_lt (length v.front) (length log) then recorded v log else v

-- the view behind a turn
abbrev pub ended : View → List CoreEntry → View
ended v log = released (noted v log)

-- one view, of a caller
pub record IsLive (views : List View) : Type 0 where
  pub view : View
  pub is : views ≡ view ∷ []
  pub live : view.live ≡ true

-- one view, without the turn
pub record IsIdle (views : List View) : Type 0 where
  pub view : View
  pub is : views ≡ view ∷ []
  pub idle : view.turn ≡ false

-- the desk is back in its slot, and what it has more than the front may be recorded
pub record MayRecord (me : Sat) (len : ℕ) : Type 0 where
  pub desk : Seen
  pub slot : me.1 ≡ (0, Some desk) ∷ []
  pub turn : me.0.turn ≡ true
  pub live : me.0.live ≡ true
  pub may : MayEnd me.0 desk
  pub legal : IsLegal me.0.start desk.core.log
  pub len_is : len ≡ length desk.core.log

-- it was recorded, where there was more
pub record IsRecorded (m n : Sat) : Type 0 where
  pub desk : Seen
  pub slot : m.1 ≡ (0, Some desk) ∷ []
  pub view : n ≡ (noted m.0 desk.core.log, m.1)

-- the reservation of that number and job is at the last own place
pub record IsLastOwn (pass : Told) (number : ℕ) (job : JobId) : Type 0 where
  pub own : Has number pass.own
  pub reserved : Reserves pass.front number job
  pub last : (k : ℕ) → Has k pass.own → k ≤ number

-- a reservation that was made is at the last own place
abbrev pub HasPicked : Told → Picked → Type 0
HasPicked pass (Reserved r) = IsLastOwn pass r.number r.job
HasPicked pass (NoRoom standing) = Unit {0}

-- the desk has one pass more than the view has noted
pub record MayEnter (v : View) (desk : Seen) : Type 0 where
  pub desk_is : desk ≡ record (desk_of v.start v.front v.note) { made = v.note + 1 }
  pub own : v.own ≡ []

-- two views became one, whose numbers fit
pub record AreUnited (v w : View) (views : List View) : Type 0 where
  pub is : views ≡ compared (joined v w) ∷ []
  pub other : IsPrefix (shorter v.front w.front) (longer v.front w.front)
  pub once : (k : ℕ) → times k (merged v.own w.own) ≤ 1
  pub few : length (merged v.own w.own) < 18446744073709551616
  pub held : v.held + w.held < 18446744073709551616
