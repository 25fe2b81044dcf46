-- The summary of a storm.
use Rattle.std.specs.Prelude.{◌≡◌, ℕ, List, [], length, count_by, Bool, true, false, is_some, Option, Some}
use Rattle.std.specs.Prelude.{None, codes}
use Rattle.std.specs.Fmt.{decimal}
use Rattle.core_rules.specs.Job.{open_jobs}
use Rattle.core_rules.specs.Reservation.{is_booked}
use Rattle.core_rules.specs.declared.entry.CoreEntry.{CoreEntry}
use Rattle.build_server.specs.declared.run.Ran.{Ran}
use Rattle.build_server.specs.declared.run.Ran.TheVariants as ran
use Rattle.build_server.specs.declared.submit.Submitted.{Submitted}
use Rattle.build_server.specs.declared.submit.Submitted.TheVariants as submitted
use Rattle.line_program.specs.Texts.{◌⧺◌}
use Rattle.farm_run.specs.Farm.{Farmed}
use Rattle.farm_entries.specs.Next.{EachNext}
use Rattle.farm_entries.specs.Passage.{AreOwn}
use Rattle.farm_entries.specs.Sites.{site_of}
use Rattle.farm_entries.specs.Weather.{calm}
use Rattle.farm_entries.specs.Seen.{core_log}
use Rattle.farm_entries.specs.declared.entry.Entry.{Entry}
use Rattle.farm_entries.specs.declared.entry.Step.{Step}
use Rattle.farm_entries.specs.declared.entry.StepKind.{StepKind}
use Rattle.farm_entries.specs.declared.entry.StepKind.TheVariants as step
use Rattle.farm_storm.specs.declared.sums.Sums.{Sums}
use Rattle.farm_storm.specs.declared.summary.Counted.{Counted}
use Rattle.farm_storm.specs.declared.summary.Counted.TheVariants.{Core, Reserved, Built, Stored, Listed}
use Rattle.farm_storm.specs.Storm.{storm_setup, storm_events}

-- ---- what is counted of an entry

-- the scheduler made an entry that reserves a job
abbrev pub reserves : Option CoreEntry → Bool
reserves None = false
reserves (Some e) = is_booked e.kind

-- a job was built
abbrev pub was_built : Ran → Bool
was_built (ran.Built tc) = true
was_built other = false

abbrev pub is_built : StepKind → Bool
is_built (step.Ran job ran result) = was_built ran
is_built other = false

-- a submitted archive was stored
abbrev pub was_stored : Submitted → Bool
was_stored (submitted.Stored size dropped) = true
was_stored other = false

abbrev pub is_stored : StepKind → Bool
is_stored (step.Submitted job outcome) = was_stored outcome
is_stored other = false

-- a submitted archive was listed already
abbrev pub was_listed : Submitted → Bool
was_listed submitted.Listed = true
was_listed other = false

abbrev pub is_listed : StepKind → Bool
is_listed (step.Submitted job outcome) = was_listed outcome
is_listed other = false

-- a build server made such a step
abbrev pub steps_so : (StepKind → Bool) → Option Step → Bool
steps_so test None = false
steps_so test (Some s) = test s.kind

-- whether an entry is counted
unfoldable pub counts : Counted → Entry → Bool
counts Core e = is_some e.core
counts Reserved e = reserves e.core
counts Built e = steps_so is_built e.step
counts Stored e = steps_so is_stored e.step
counts Listed e = steps_so is_listed e.step

-- ---- the line

-- the numbers of the summary: how many entries of each kind there are, and how many jobs are open
abbrev pub sums_of : ℕ → List Entry → Sums
sums_of n entries = record {
  events = n;
  core = count_by (counts Core) entries;
  reserved = count_by (counts Reserved) entries;
  built = count_by (counts Built) entries;
  stored = count_by (counts Stored) entries;
  listed = count_by (counts Listed) entries;
  open_ones = length (open_jobs (core_log entries));
}

-- the line that says them
abbrev pub sums_text : Sums → List ℕ
sums_text s =
    codes "storm " ⧺ decimal s.events ⧺ codes " core " ⧺ decimal s.core ⧺ codes " reserved "
    ⧺ decimal s.reserved
    ⧺ codes " built " ⧺ decimal s.built ⧺ codes " stored " ⧺ decimal s.stored ⧺ codes " listed "
    ⧺ decimal s.listed
    ⧺ codes " open " ⧺ decimal s.open_ones ⧺ codes "\n"

-- the summary of the entries of so many events
abbrev pub summary : ℕ → List Entry → List ℕ
summary n entries = sums_text (sums_of n entries)

-- The text is the summary of the storm's first so many events: of a list that has one entry for each, each
-- next over those before it.
pub record IsStormText (n : ℕ) (text : List ℕ) : Type 0 where
  pub entries : List Entry
  pub each : EachNext calm (site_of storm_setup) [] (storm_events n) entries
  pub is : text ≡ summary n entries

-- a farm that the storm's setup made, after so many of its events
pub record IsStormed (n : ℕ) (farm : Farmed) : Type 0 where
  pub setup : farm.setup ≡ site_of storm_setup
  pub each : EachNext calm (site_of storm_setup) [] (storm_events n) farm.entries
  pub own : AreOwn farm.outside
