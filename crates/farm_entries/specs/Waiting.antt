-- What is kept for the calls of a log that wait.
use Rattle.std.specs.Prelude.{◌≡◌, ℕ, List, length, slice_get}
use Rattle.std.specs.Prelude.{Option, Some, None}
use Rattle.dist_types.specs.Addr.{◌>>=◌}
use Rattle.farm_entries.specs.declared.site.Site.{Site as Setup}
use Rattle.farm_entries.specs.declared.entry.Entry.{Entry}
use Rattle.farm_entries.specs.declared.pending.Pending.{Pending}
use Rattle.farm_entries.specs.Begun.{IsCallOf}
use Rattle.farm_entries.specs.Calls.{waiting_at}

-- What is kept for the call of entry n: it waits, and that is what its entry tells of it.
pub record IsWaiting (setup : Setup) (log : List Entry) (n : ℕ) (p : Pending) : Type 0 where
  pub entry : Entry
  pub waits : waiting_at log n ≡ Some entry
  pub call : IsCallOf setup log n p

-- nothing is kept where no call waits
abbrev pub IsKept : Setup → List Entry → ℕ → Option Pending → Type 0
IsKept setup log n None = waiting_at log n ≡ None
IsKept setup log n (Some p) = IsWaiting setup log n p

-- what is kept at that place
abbrev pub kept_at : List (Option Pending) → ℕ → Option Pending
kept_at ps n = slice_get ps n >>= λ o. o

-- a place is kept for each entry
pub record AreKept (setup : Setup) (log : List Entry) (ps : List (Option Pending)) : Type 0 where
  pub size : length ps ≡ length log
  pub each : (n : ℕ) → IsKept setup log n (kept_at ps n)
