-- What a worker lends its connections, and what becomes of the workers' passes.
use Rattle.std.specs.Prelude.{◌≡◌, ◌≤◌, ℕ, List, [], ◌∷◌, length, All, Option}
use Rattle.std.specs.List.{sum_by}
use mathlib.Core.List.{IsPrefix}
use Rattle.dist_types.specs.declared.dialer.Asked.{Asked}
use Rattle.core_rules.specs.declared.entry.CoreEntry.{CoreEntry}
use Rattle.sched.specs.Lists.{longer, merged}
use Rattle.sched.specs.Outside.{Moments}
use Rattle.sched.specs.Pass.{Told, IsSplit, Rises, count_of, held_of, splits_of, split_off}
use Rattle.scheduler_service.specs.Connection.{Around}
use Rattle.scheduler_service.specs.declared.workers.Kit.{Kit}

-- what a worker lends, by what its clock and its dialer tell
abbrev pub around : {T D C K : Type 0} → (C → Moments) → (D → Option (List Asked)) → (D → ℕ) → Told
    → Kit T D C K → Around K
around ticks asked faults pass kit = record {
  means = record {
    pass = pass;
    clock = ticks kit.clock;
    asked = asked kit.dialer;
    faults = faults kit.dialer;
  };
  client = kit.client;
}

-- the longest of this front and those of the passes
abbrev pub longest : List CoreEntry → List Told → List CoreEntry
longest front [] = front
longest front (pass ∷ passes) = longest (longer front pass.front) passes

-- these own places and those of the passes, as one rising list
abbrev pub all_places : List ℕ → List Told → List ℕ
all_places own [] = own
all_places own (pass ∷ passes) = all_places (merged own pass.own) passes

-- These passes were joined: the pass has the places of all, and the longest of all fronts, which begins
-- with each of them. What they count, what they hold and how many were split off them is added.
pub record AreJoined (passes : List Told) (old new : Told) : Type 0 where
  pub of : new.of ≡ old.of
  pub start : new.start ≡ old.start
  pub front : new.front ≡ longest old.front passes
  pub begins : IsPrefix old.front new.front
  pub begin : All (λ pass. IsPrefix pass.front new.front) passes
  pub own : new.own ≡ all_places old.own passes
  pub count : Rises (sum_by count_of passes) (count_of old) (count_of new)
  pub held : Rises (sum_by held_of passes) (held_of old) (held_of new)
  pub splits : Rises (sum_by splits_of passes) (splits_of old) (splits_of new)

-- Passes that were split off, at most so many, were joined again before they were used: all of them.
pub record AreTakenBack (most : ℕ) (old new : Told) : Type 0 where
  pub passes : List Told
  pub within : length passes ≤ most
  pub split : All (IsSplit old) passes
  pub joined : AreJoined passes (split_off (length passes) old) new

-- For each pass that was split off it, or off one that it took in, it holds one more: none of them is out.
pub record HasAllBack (old new : Told) : Type 0 where
  pub number : ℕ
  pub splits : Rises number (splits_of old) (splits_of new)
  pub held : Rises number (held_of old) (held_of new)
