-- The rule of the table: the words count, turn and made, one slot, which holds the desk, and a view for
-- each pass.
use Rattle.std.specs.Prelude.{◌≡◌, ◌⊎◌, ◌<◌, ◌^◌, ℕ, List, [], ◌∷◌, length, true, cond, Option, Some}
use Rattle.std.specs.Prelude.{slice_get}
use mathlib.Core.Option.{some, none}
use mathlib.Core.Option as table
use mathlib.Core.List.{IsPrefix}
use lib.ListN.{get_elem?}
use Rattle.atomic_table.specs.Table.{State}
use Rattle.dist_types.specs.declared.ids.JobId.{JobId}
use Rattle.core_rules.specs.Laws.{IsLegal, Reserves}
use Rattle.core_rules.specs.Log.{Core}
use Rattle.core_rules.specs.Reservation.{spends_by}
use Rattle.core_rules.specs.declared.entry.CoreEntry.{CoreEntry}
use Rattle.core_rules.specs.declared.start.Start.{Start}
use Rattle.sched.specs.Lists.{Has, total, below}
use Rattle.sched.specs.declared.view.View.{View}

-- what is seen of the desk: the scheduler's core, and how many passes were made
pub record Seen : Type 0 where
  pub core : Core
  pub made : ℕ

-- the entry at that place spends the job's reservation
abbrev pub Spends : List CoreEntry → ℕ → JobId → Type 0
Spends log p job = (e : CoreEntry) × (slice_get log p ≡ Some e) × (spends_by e.kind job ≡ true)

-- the reservation at q is spent at p
pub record IsSpentAt (log : List CoreEntry) (q p : ℕ) : Type 0 where
  pub job : JobId
  pub later : q < p
  pub reserved : Reserves log q job
  pub spent : Spends log p job

-- what is spent at an own place is spent by oneself
abbrev pub SpendsOwn : List CoreEntry → List ℕ → Type 0
SpendsOwn log own = (q p : ℕ) → IsSpentAt log q p → Has q own → Has p own

-- an entry that spends a reservation spends one at an own place
abbrev pub IsOwnSpending : List CoreEntry → List ℕ → CoreEntry → Type 0
IsOwnSpending log own e =
    (job : JobId) → spends_by e.kind job ≡ true → (q : ℕ) × Has q own × Reserves log q job

-- One view, of a scheduler that began so, with that log, of which so many passes were made.
pub record Fits (start : Start) (log : List CoreEntry) (made : ℕ) (v : View) : Type 0 where
  pub front : IsPrefix v.front log
  pub other : IsPrefix v.other log
  pub turn : v.turn ≡ true → (v.front ≡ log) × (v.note ≡ made)
  pub idle : v.held ≡ 0 → v.own ≡ []
  pub spent : SpendsOwn log v.own
  pub live : v.live ≡ true → v.start ≡ start

-- the desk of that log
abbrev pub desk_of : Start → List CoreEntry → ℕ → Seen
desk_of start log made = record { core = record { start = start; log = log }; made = made }

abbrev pub has_turn : View → ℕ
has_turn v = cond v.turn 1 0

-- where the slot is: at home with the desk where nobody has the turn, else out
pub record IsHome (start : Start) (log : List CoreEntry) (made turn : ℕ)
    (homes : List (table.Option (Option Seen))) : Type 0 where
  pub free : turn ≡ 0
  pub is : homes ≡ some (Some (desk_of start log made)) ∷ []

pub record IsOut (turn : ℕ) (homes : List (table.Option (Option Seen))) : Type 0 where
  pub taken : turn ≡ 1
  pub is : homes ≡ none ∷ []

-- The rule, of a scheduler that began so.
pub record Holds (start : Start) (s : State (Option Seen) View) : Type 0 where
  pub log : List CoreEntry
  pub made : ℕ
  pub turn : ℕ
  pub words : s.words ≡ length log ∷ turn ∷ made ∷ []
  pub slot : IsHome start log made turn s.homes ⊎ IsOut turn s.homes
  pub counts : start.count < 2 ^ 64
  pub legal : IsLegal start log
  pub fits : (j : ℕ) (v : View) → get_elem? s.views j ≡ some v → Fits start log made v
  -- each place of the log is own to exactly one view, and nothing else is
  pub own : (f : ℕ → ℕ) → total (λ v. total f v.own) s.views ≡ below f (length log)
  pub held : total (λ v. v.held) s.views ≡ made
  pub turns : total has_turn s.views ≡ turn
