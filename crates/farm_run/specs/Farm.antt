-- What contracts see of a farm, and what its runs do.
use Rattle.std.specs.Prelude.{◌≡◌, ℕ, ◌^◌, ◌<◌, List, [], ◌∷◌, ◌++◌, length, map, take}
use Rattle.std.specs.Prelude.{Option, None}
use Rattle.core_rules.specs.Log.{Core}
use Rattle.core_rules.specs.declared.entry.CoreEntry.{CoreEntry}
use Rattle.farm_entries.specs.declared.site.Site.{Site as Setup}
use Rattle.farm_script.specs.declared.event.Event.{Event}
use Rattle.farm_run.specs.declared.desk.Desk.{Desk}
use Rattle.farm_entries.specs.declared.entry.Effect.{Effect}
use Rattle.farm_entries.specs.declared.entry.Entry.{Entry}
use Rattle.dist_types.specs.declared.addr.Addr.{Addr}
use Rattle.farm_run.specs.declared.pending.Made.{Made}
use Rattle.farm_entries.specs.declared.pending.Pending.{Pending}
use Rattle.farm_stations.specs.Hands.{Hand}
use Rattle.farm_stations.specs.Post.{Post as Station, outside_of}
use Rattle.farm_entries.specs.Begun.{IsBegunBy, Keeps}
use Rattle.farm_entries.specs.Builds.{AreSettledOnce, AreRanOnce}
use Rattle.farm_entries.specs.Effects.{entry_of}
use Rattle.farm_entries.specs.Next.{IsServed, IsMade, IsNext, IsRun}
use Rattle.farm_entries.specs.Passage.{IsMoved, Passage}
use Rattle.farm_entries.specs.Seen.{core_of}
use Rattle.farm_entries.specs.Servers.{restart_by}
use Rattle.farm_stations.specs.Stations.{AreStations, HasApart}
use Rattle.farm_entries.specs.Ways.{Way}
use Rattle.farm_entries.specs.Weather.{Outside, Weather, free}
use Rattle.farm_entries.specs.Waiting.{IsKept, kept_at, AreKept}
use Rattle.farm_entries.specs.Seen.{with_core}
use Rattle.farm_entries.specs.Lawful.{IsSound}

-- how the farm was set up, the entries so far, and of each server, in the order of the setup, what is outside of
-- it and the builder that it asks
pub record Farmed : Type 0 where
  pub setup : Setup
  pub entries : List Entry
  pub outside : List Outside
  pub hands : List Hand

-- the farm with more entries, that outside of its servers, and those builders
abbrev pub with_entries : Farmed → List Entry → List Outside → List Hand → Farmed
with_entries farm more outside hands = record {
  setup = farm.setup;
  entries = farm.entries ++ more;
  outside = outside;
  hands = hands;
}

-- ---- the calls that wait

-- what is kept for the entries before one more, and what for itself
pub record IsAfter (setup : Setup) (log : List Entry) (e : Entry) (ps : List (Option Pending))
    (o : Option Pending) : Type 0 where
  pub size : length ps ≡ length log
  pub old : (n : ℕ) → n < length log → IsKept setup (log ++ e ∷ []) n (kept_at ps n)
  pub new : IsKept setup (log ++ e ∷ []) (length log) o

-- what is made of bytes that come to an address: what they make, and what is kept of the call that this makes
pub record IsReceived (w : Weather) (setup : Setup) (core : Core) (number at : ℕ) (way : Way)
    (m : Made) : Type 0 where
  pub served : IsServed w setup core number at way m.effect
  pub kept : Keeps (IsBegunBy setup core.log number way m.effect) m.effect m.pending

-- An event that restarts nothing and did that leaves the stations so: they are the servers after its entry,
-- and what is outside of them is left as in that weather.
abbrev pub Stands : Setup → List Entry → Effect → Weather → List Station → List Station → Type 0
Stands setup log x w old new =
    (event : Event) → ((a : Addr) → restart_by a event.kind ≡ None)
    → AreStations setup.servers (log ++ entry_of event x ∷ []) new
    × IsMoved setup (entry_of event x) w (map outside_of old) (map outside_of new)

-- what an event made: what is made of what it comes to in some weather, which is that outside of its server,
-- and what is kept after it
pub record IsMadeSo (setup : Setup) (log : List Entry) (event : Event) (way : Way)
    (ps : List (Option Pending)) (old sts : List Station) (m : Made) : Type 0 where
  pub weather : Weather
  pub made : IsMade weather setup log event.at way m.effect
  pub moved : IsMoved setup (entry_of event m.effect) weather (map outside_of old) (map outside_of sts)
  pub after : IsAfter setup log (entry_of event m.effect) ps m.pending
  pub stations : AreStations setup.servers (log ++ entry_of event m.effect ∷ []) sts

-- ---- the desk

-- the desk once its scheduler made that core entry, if any
abbrev pub acted : Desk → Option CoreEntry → Desk
acted desk made = record desk { state = with_core desk.state made }

-- ---- farms

-- the entries are those of a run, what the scheduler has seen is their core log, its servers stand as they
-- tell, and what is kept of the calls that wait is theirs
pub record IsFarm (setup : Setup) (core : Core) (entries : List Entry) (ps : List (Option Pending))
    (sts : List Station) : Type 0 where
  pub fits : setup.scheduler.count < 2 ^ 64
  pub apart : HasApart setup
  pub run : IsRun free setup entries
  pub core_is : core ≡ core_of setup entries
  pub sound : IsSound setup entries
  pub kept : AreKept setup entries ps
  pub stations : AreStations setup.servers entries sts

-- one entry more, which is next
abbrev pub AddsNext : Setup → List Entry → Event → List Entry → List Outside → List Outside → Type 0
AddsNext setup old event new before after = (w : Weather) × (e : Entry) × IsNext w setup old event e
    × IsMoved setup e w before after × (new ≡ old ++ e ∷ [])

-- one event makes its entry
abbrev pub StepsTo : Farmed → Event → Farmed → Type 0
StepsTo old event new = (w : Weather) × (e : Entry) × IsNext w old.setup old.entries event e
    × IsMoved old.setup e w old.outside new.outside × (new ≡ with_entries old (e ∷ []) new.outside new.hands)

-- the farm has one more entry for each of the events, each next over those before it
abbrev pub Runs : Farmed → List Event → Farmed → Type 0
Runs old events new = (entries : List Entry)
    × Passage old.setup old.entries old.outside events entries new.outside
    × (new ≡ with_entries old entries new.outside new.hands)

-- Whatever the farm's words are, after each front of the entries a call is settled at most once, and no id has
-- two ran steps behind an accepted start.
pub record AreOnce (entries : List Entry) : Type 0 where
  pub settled : (n : ℕ) → AreSettledOnce (take n entries)
  pub ran : (n : ℕ) → AreRanOnce (take n entries)
