-- What an entry does to single registrations.
use Rattle.std.specs.Prelude.{ℕ, ◌-◌, List, Bool, true, not, ◌&&◌, ◌==◌, Option, Some}
use Rattle.std.specs.Prelude.{None, if◌then◌else◌, count_by}
use Rattle.dist_types.specs.declared.addr.Addr.{Addr}
use Rattle.dist_types.specs.Addr.{same_addr}
use Rattle.dist_types.specs.declared.ids.JobId.{JobId}
use Rattle.core_rules.specs.declared.entry.CoreKind.{CoreKind}
use Rattle.core_rules.specs.declared.entry.CoreKind.TheVariants.{Beat}
use Rattle.core_rules.specs.declared.entry.Reserved.{Reserved}
use Rattle.core_rules.specs.declared.entry.Reserved.TheVariants.{Job}
use Rattle.core_rules.specs.declared.rows.HeldRow.{HeldRow}
use Rattle.core_rules.specs.declared.rows.ServerRow.{ServerRow}
use Rattle.sched_core.specs.declared.change.Change.{Change}
use Rattle.sched_core.specs.declared.change.Change.TheVariants.{Lower, Raise, Forgive, Note, See, LowerAndSee}
use Rattle.sched_core.specs.declared.change.Change.TheVariants.{Draining}
use Rattle.core_rules.specs.Log.{names, names_job, is_this}
use Rattle.core_rules.specs.Laws.{AreDistinct}
use Rattle.core_rules.specs.Next.{one_more_if}

-- the row after a change
abbrev pub row_changed : Change → ServerRow → ServerRow
row_changed Lower row = record row { load = row.load - 1 }
row_changed Raise row = record row { load = one_more_if true row.load }
row_changed Forgive row = record row { error = None }
row_changed (Note moment) row = record row { error = Some moment }
row_changed (See moment) row = record row { seen = moment }
row_changed (LowerAndSee moment) row = record row { load = row.load - 1; seen = moment }
row_changed (Draining on) row = record row { draining = on }

-- the same, where it is the registration of that number
abbrev pub row_changed_at : Change → ℕ → ServerRow → ServerRow
row_changed_at change reg row = if reg == row.reg then row_changed change row else row

-- the same, if there is a number
abbrev pub row_changed_if : Change → Option ℕ → ServerRow → ServerRow
row_changed_if change reg row = if is_this reg row.reg then row_changed change row else row

-- a row without its error, where it is one of those
abbrev pub row_forgiven : List ℕ → ServerRow → ServerRow
row_forgiven ns row = record row { error = if names ns row.reg then None else row.error }

-- a row after a reserve
abbrev pub row_reserved : Reserved → ServerRow → ServerRow
row_reserved (Job job reg forgiven) row =
    record row {
      load = one_more_if (reg == row.reg) row.load;
      error =
          if names forgiven row.reg then None else row.error;
    }
row_reserved other row = row

-- a row after a heartbeat at that address
abbrev pub row_renewed : ℕ → Addr → Bool → ServerRow → ServerRow
row_renewed now server is_new row =
    record row { seen = if not is_new && same_addr row.server server then now else row.seen }

-- what jobs that are reaped take from the loads

-- how many of the reservations at a registration are those of some jobs
abbrev pub jobs_at : List JobId → List HeldRow → ℕ → ℕ
jobs_at jobs held reg = count_by (λ h. names_job jobs h.job && (h.reg == reg)) held

-- a row without those
abbrev pub row_without : List JobId → List HeldRow → ServerRow → ServerRow
row_without jobs held row = record row { load = row.load - jobs_at jobs held row.reg }

-- the jobs that an entry reaps differ
abbrev pub AreReapedApart : CoreKind → Type 0
AreReapedApart (Beat server nonce cpus key pruned reaped replaced is_new) = AreDistinct reaped
AreReapedApart other = Unit {0}
