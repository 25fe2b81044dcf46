-- What may come to a server from outside of a farm: from its folder and from its builder.
use Rattle.std.specs.Prelude.{◌≡◌, ◌≤◌, ℕ, List, Bool, true, false, Option, Some, None, Ok, codes}
use Rattle.toolchain_cache.specs.Archives.{Archives, opened_archives}
use Rattle.dist_types.specs.Builder.{Built}
use Rattle.folders.specs.Changed.{OnlyRemoved, ButUnder}
use Rattle.folders.specs.Files.{front}
use Rattle.folders.specs.Held.{Held, Holds, Became}
use Rattle.dist_types.specs.declared.ids.JobId.{JobId}
use Rattle.dist_wire.specs.declared.run.RunJobHttpRequest.{RunJobHttpRequest}
use Rattle.build_server.specs.Books.{Books, held_for, Fails}
use Rattle.build_server.specs.Builds.{Builder, Order, Builds, ran_of}
use Rattle.build_server.specs.Rules.{submit_verdict, Comes, Finds}
use Rattle.build_server.specs.declared.run.Outcome.{Outcome}
use Rattle.build_server.specs.declared.run.Outcome.TheVariants as outcome
use Rattle.build_server.specs.declared.run.Ran.{Ran}
use Rattle.build_server.specs.declared.run.Ran.TheVariants as ran
use Rattle.build_server.specs.declared.run.Taken.{Taken}
use Rattle.build_server.specs.declared.submit.Submitted.{Submitted}
use Rattle.build_server.specs.declared.submit.Submitted.TheVariants as submitted
use Rattle.farm_entries.specs.declared.entry.Effect.{Effect}
use Rattle.farm_entries.specs.declared.entry.EntryWord.TheVariants.{Down}
use Rattle.farm_entries.specs.declared.entry.StepKind.TheVariants as step
use Rattle.farm_entries.specs.Effects.{word_effect, step_effect}
use Rattle.farm_entries.specs.Served.{books_of, run_outcome}
use Rattle.farm_entries.specs.Servers.{ServerNow}

-- What is outside of a server: whether its folder failed since its last opening began, what the folder tells,
-- and a builder that was handed in; none where the farm made the builder, with a folder in memory.
pub record Outside : Type 0 where
  pub failed : Bool
  pub folder : Held
  pub builder : Option Builder

pub data Weather : Type 0 where
  -- the folder does not fail, and the builder answers by its lines
  calm : Weather
  -- whatever comes
  free : Weather
  -- what was outside of the event's server before the event, and what is after it
  between : Outside → Outside → Weather

-- the rows that a builder tells which was handed in
abbrev pub rows_of : Option Builder → Option (List Built)
rows_of None = None
rows_of (Some builder) = builder.rows

-- Files are told and no count of faults rose: the folder did not fail from the one moment to the other. At the
-- later the builder tells those rows.
pub record IsTold (old new : Outside) (rows : List Built) : Type 0 where
  pub sound : ¬ (Fails old.folder new.folder)
  pub rows_are : rows_of new.builder ≡ Some rows

abbrev pub weather_by : Option Builder → Outside → Outside → Weather
weather_by None old new = calm
weather_by (Some builder) old new = between old new

-- the weather of an event, by what was outside of its server before it and after it
abbrev pub weather_of : Outside → Outside → Weather
weather_of old new = weather_by old.builder old new

-- ---- submissions

-- whether the folder failed, after a submission came to this
abbrev pub failed_after_submit : Submitted → Bool → Bool
failed_after_submit (submitted.Folder gone) failed = true
failed_after_submit other failed = failed

-- A submission under that job may come to this: to what the rule says; over a folder that was handed in also
-- to a refusal where the folder failed.
abbrev pub Stores : Weather → ServerNow → JobId → List ℕ → Submitted → Type 0
Stores calm s job bytes o = o ≡ submit_verdict (books_of s) (held_for job s.held) bytes
Stores free s job bytes o = Unit {0}
Stores (between a b) s job bytes o =
    Comes (submit_verdict (books_of s) (held_for job s.held) bytes) o a.folder b.folder
    × (b.failed ≡ failed_after_submit o a.failed) × (b.builder ≡ a.builder)

-- ---- runs

-- whether the folder failed, after a run went so
abbrev pub failed_after_run : Ran → Bool → Bool
failed_after_run (ran.Folder tc) failed = true
failed_after_run ran.None failed = failed
failed_after_run (ran.Unlisted tc) failed = failed
failed_after_run (ran.Built tc) failed = failed
failed_after_run (ran.Refused tc) failed = failed

-- the books that taking a job out asks
abbrev pub books_in : ServerNow → Outside → Books
books_in s a = record {
  held = s.held;
  archives = s.archives;
  capacity = s.setup.capacity;
  path = codes "tc";
  folder = a.folder;
}

-- the builder was asked so
abbrev pub IsOrdered : Option Builder → Option Builder → Taken → Order → Outcome → Type 0
IsOrdered None new taken order o = ⊥
IsOrdered (Some old) None taken order o = ⊥
IsOrdered (Some old) (Some new) taken order o = Builds taken order old new (Ok o)

abbrev pub order_of : RunJobHttpRequest → List ℕ → Order
order_of run inputs = record { command = run.command; outputs = run.outputs; inputs = inputs }

-- what was found as the job was taken out, and what its builder made of it
pub record Worked (a b : Outside) (s : ServerNow) (found : Option (List ℕ)) (order : Order)
    (o : Outcome) : Type 0 where
  pub taken : Taken
  pub finds : Finds found (books_in s a) (books_in s b) taken
  pub asked : IsOrdered a.builder b.builder taken order o
  pub failed : b.failed ≡ failed_after_run (ran_of o) a.failed

-- where nothing is held there is nothing to build
abbrev pub IsFree : Option (List ℕ) → Outcome → Type 0
IsFree None o = o ≡ outcome.None
IsFree (Some tc) o = Unit {0}

-- A run of a job that holds this toolchain may go so: a builder that was handed in answers what it will,
-- once, and a folder that was handed in may fail as the archive is looked up.
abbrev pub Works : Weather → ServerNow → Option (List ℕ) → RunJobHttpRequest → List ℕ → Outcome → Type 0
Works calm s found run inputs o = o ≡ run_outcome s found run.outputs inputs
Works free s found run inputs o = IsFree found o
Works (between a b) s found run inputs o = Worked a b s found (order_of run inputs) o

-- ---- restarts

-- what an opening leaves of a folder: it removes files at most, and none outside of the directory of the
-- archives, where files are told; the count never falls
pub record OnlyClears (old new : Held) : Type 0 where
  pub removed : Became OnlyRemoved old.files new.files
  pub others : Became (ButUnder (front (codes "tc"))) old.files new.files
  pub later : old.faults ≤ new.faults

-- An opening may come to this: to what was there before; where the folder failed since the last opening
-- began, to what its files give; and to none where the folder fails in it. Where files are not told, the list
-- is open.
abbrev pub OpensBetween : Outside → Outside → ServerNow → Option Archives → Type 0
OpensBetween a b s (Some list) =
    Holds a.folder (λ files. list ≡ opened_archives (codes "tc") s.setup.capacity files)
    × Holds a.folder (λ files. s.running ≡ true → a.failed ≡ false → list ≡ s.archives)
    × (b.failed ≡ false) × (b.folder.faults ≡ a.folder.faults) × (b.builder ≡ a.builder)
    × OnlyClears a.folder b.folder
OpensBetween a b s None = Fails a.folder b.folder × (b.failed ≡ true) × (b.builder ≡ a.builder)
    × OnlyClears a.folder b.folder

abbrev pub Opens : Weather → ServerNow → Option Archives → Type 0
Opens calm s o = o ≡ Some s.archives
Opens free s o = Unit {0}
Opens (between a b) s o = OpensBetween a b s o

-- a restart whose opening came to this: it lists the archives that are there, or the server is down
abbrev pub opened_effect : ServerNow → Option Archives → Effect
opened_effect s None = word_effect Down
opened_effect s (Some list) = step_effect s.setup.addr (step.Opened list)

-- a restart
abbrev pub IsRestarted : Weather → ServerNow → Effect → Type 0
IsRestarted w s x = (o : Option Archives) × Opens w s o × (x ≡ opened_effect s o)
