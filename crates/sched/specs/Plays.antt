-- What the steps of the turn tell, and how they change a view.
use Rattle.std.specs.Prelude.{◌≡◌, ◌≤◌, ◌+◌, ℕ, List, [], ◌∷◌, ◌++◌, length, true, false, Option, Some}
use mathlib.Core.List.{IsPrefix}
use Rattle.atomic_table.specs.Table.{Me}
use Rattle.dist_types.specs.declared.rules.Rules.TheVariants.{One}
use Rattle.core_rules.specs.declared.entry.CoreEntry.{CoreEntry}
use Rattle.core_rules.specs.declared.start.Start.{Start}
use Rattle.core_rules.specs.Laws.{IsLegal}
use Rattle.sched.specs.Lists.{total, below, times, longer, shorter, merged}
use Rattle.sched.specs.Rule.{Seen, SpendsOwn, desk_of}
use Rattle.sched.specs.declared.view.View.{View}

-- a seat's view, and what it has of the slot
abbrev pub Sat : Type 0
Sat = Me (Option Seen) View

-- the view of the first pass
abbrev pub first_view : Start → View
first_view start = record {
  front = [];
  own = [];
  other = [];
  turn = false;
  held = 1;
  splits = 0;
  note = 1;
  start = start;
  live = true;
}

-- the turn was taken: the log was seen, and the number of passes noted
abbrev pub claimed : View → List CoreEntry → ℕ → View
claimed v log made = record v { turn = true; front = log; note = made }

-- the log has one entry more than the front, at an own place
abbrev pub recorded : View → List CoreEntry → View
recorded v log = record v { front = log; own = v.own ++ length v.front ∷ [] }

-- one pass more
abbrev pub entered : View → View
entered v = record v { held = v.held + 1; note = v.note + 1 }

abbrev pub released : View → View
released v = record v { turn = false }

-- the other front was compared
abbrev pub compared : View → View
compared v = record v { other = [] }

-- one pass more was split off
abbrev pub with_split : View → View
with_split v = record v { splits = v.splits + 1 }

-- a new pass of as much
abbrev pub newcomer : View → View
newcomer v = record {
  front = v.front;
  own = [];
  other = [];
  turn = false;
  held = 0;
  splits = 0;
  note = v.note;
  start = v.start;
  live = v.live;
}

-- two passes as one, which keeps the shorter front to compare it
abbrev pub joined : View → View → View
joined v w = record {
  front = longer v.front w.front;
  own = merged v.own w.own;
  other = shorter v.front w.front;
  turn = false;
  held = v.held + w.held;
  splits = v.splits + w.splits;
  note = v.note;
  start = v.start;
  live = v.live;
}

-- what a pass that was taken in is left with
abbrev pub spent : View
spent = record {
  front = [];
  own = [];
  other = [];
  turn = false;
  held = 0;
  splits = 0;
  note = 0;
  start = record { base = 0; count = 0; rules = One };
  live = false;
}

-- The turn was taken, and the slot is out with the desk, whose log is the front.
pub record Claims (m n : Sat) : Type 0 where
  pub log : List CoreEntry
  pub made : ℕ
  pub is : n ≡ (claimed m.0 log made, (0, Some (desk_of m.0.start log made)) ∷ [])
  pub front : IsPrefix m.0.front log
  pub legal : IsLegal m.0.start log
  pub spends : SpendsOwn log m.0.own
  pub few : length m.0.own ≤ length log
  -- who holds all passes has every place
  pub held : m.0.held ≤ made
  pub whole : m.0.held ≡ made → (f : ℕ → ℕ) → total f m.0.own ≡ below f (length log)

-- The log of the desk in the slot is the front.
pub record Records (m n : Sat) : Type 0 where
  pub desk : Seen
  pub slot : m.1 ≡ (0, Some desk) ∷ []
  pub is : n ≡ (recorded m.0 desk.core.log, m.1)

abbrev pub Enters : Sat → Sat → Type 0
Enters m n = n ≡ (entered m.0, m.1)

abbrev pub CountsSplit : Sat → Sat → Type 0
CountsSplit m n = n ≡ (with_split m.0, m.1)

abbrev pub Releases : Sat → Sat → Type 0
Releases m n = n ≡ (released m.0, [])

-- The other front begins the front where it is no longer, no own place stands twice, and the log is so long.
pub record Compares (m : Sat) (len : ℕ) (n : Sat) : Type 0 where
  pub is : n ≡ (compared m.0, m.1)
  pub other : length m.0.other ≤ length m.0.front → IsPrefix m.0.other m.0.front
  pub once : (k : ℕ) → times k m.0.own ≤ 1
  pub few : length m.0.own ≤ len

-- So many passes were made at least.
pub record Counts (m : Sat) (made : ℕ) (n : Sat) : Type 0 where
  pub is : n ≡ m
  pub held : m.0.held ≤ made
