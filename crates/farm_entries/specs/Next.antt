-- The entry that an event makes over the entries before it, in that weather.
use Rattle.std.specs.Prelude.{◌≡◌, ℕ, List, [], ◌∷◌, ◌++◌, length, map, Bool, Option, Some, None, Result}
use Rattle.dist_types.specs.declared.outgoing.CallFault.{CallFault}
use Rattle.dist_types.specs.declared.results.AssignJobResult.{AssignJobResult}
use Rattle.core_rules.specs.Log.{Core}
use Rattle.farm_entries.specs.declared.site.Site.{Site as Setup}
use Rattle.farm_script.specs.declared.event.Event.{Event}
use Rattle.farm_entries.specs.declared.entry.Effect.{Effect}
use Rattle.farm_entries.specs.declared.entry.Entry.{Entry}
use Rattle.farm_entries.specs.declared.entry.EntryWord.TheVariants.{Void, Down}
use Rattle.farm_entries.specs.declared.pending.Ask.{Ask}
use Rattle.farm_entries.specs.declared.pending.Ask.TheVariants.{Assign, Report}
use Rattle.farm_entries.specs.declared.pending.Pending.{Pending}
use Rattle.farm_entries.specs.Answers.{IsAnswered}
use Rattle.farm_entries.specs.Begun.{IsCallOf}
use Rattle.farm_entries.specs.Calls.{waiting_at}
use Rattle.farm_entries.specs.Effects.{word_effect, entry_of}
use Rattle.farm_entries.specs.Seen.{core_of}
use Rattle.farm_entries.specs.Served.{IsServerAnswered, beat_effect}
use Rattle.farm_entries.specs.Servers.{server_now}
use Rattle.farm_entries.specs.Settled.{IsOutcome, assignment_end, ReportsIn}
use Rattle.farm_entries.specs.Ways.{Way, way_of, brought_at, to_nothing, to_nobody, to_scheduler, to_server}
use Rattle.farm_entries.specs.Ways.{to_call, to_beat, to_restart}
use Rattle.farm_entries.specs.Weather.{Weather, IsRestarted}

-- a call goes on by its reply, by what it asked
abbrev pub GoesOn : Weather → Setup → List Entry → ℕ → ℕ → Bool → Option (List ℕ) → Ask → Effect → Type 0
GoesOn w setup log at root json reply (Assign t) x =
    (r : Result AssignJobResult CallFault) × IsOutcome reply r
    × (x ≡ assignment_end (core_of setup log) root json at t r)
GoesOn w setup log at root json reply (Report server life told) x =
    ReportsIn w setup life (brought_at log root) root json reply told (server_now setup log server) x

-- the same where that is kept of it, and nothing where nothing is
abbrev pub Follows : Weather → Setup → List Entry → ℕ → Option (List ℕ) → Option Pending → Effect → Type 0
Follows w setup log at reply None x = x ≡ word_effect Void
Follows w setup log at reply (Some p) x = GoesOn w setup log at p.root p.json reply p.ask x

-- the call of entry n goes on by its reply where it waits; where it does not, there is nothing to do
abbrev pub IsSettled : Weather → Setup → List Entry → ℕ → ℕ → Option (List ℕ) → Option Entry → Effect → Type 0
IsSettled w setup log at n reply None x = x ≡ word_effect Void
IsSettled w setup log at n reply (Some e) x = (p : Pending) × IsCallOf setup log n p
    × Follows w setup log at reply (Some p) x

-- what an event does at a moment, where it settles no call, and entry `number` is made
abbrev pub IsServed : Weather → Setup → Core → ℕ → ℕ → Way → Effect → Type 0
IsServed w setup core number at (to_scheduler peer bytes) x = IsAnswered setup core number at peer bytes x
IsServed w setup core number at (to_server s bytes) x = IsServerAnswered setup s number bytes x
IsServed w setup core number at (to_beat s) x = x ≡ beat_effect setup s
IsServed w setup core number at (to_restart s key nonce) x = IsRestarted w s x
IsServed w setup core number at to_nobody x = x ≡ word_effect Down
IsServed w setup core number at to_nothing x = x ≡ word_effect Void
IsServed w setup core number at (to_call n reply) x = ⊥

-- what an event does at a moment, by what it comes to
abbrev pub IsMade : Weather → Setup → List Entry → ℕ → Way → Effect → Type 0
IsMade w setup log at (to_call n reply) x = IsSettled w setup log at n reply (waiting_at log n) x
IsMade w setup log at (to_scheduler peer bytes) x = IsServed w setup (core_of setup log) (length log) at
    (to_scheduler peer bytes) x
IsMade w setup log at (to_server s bytes) x = IsServed w setup (core_of setup log) (length log) at
    (to_server s bytes) x
IsMade w setup log at (to_beat s) x = IsServed w setup (core_of setup log) (length log) at (to_beat s) x
IsMade w setup log at (to_restart s key nonce) x = IsServed w setup (core_of setup log) (length log) at
    (to_restart s key nonce) x
IsMade w setup log at to_nobody x = IsServed w setup (core_of setup log) (length log) at to_nobody x
IsMade w setup log at to_nothing x = IsServed w setup (core_of setup log) (length log) at to_nothing x

-- The entry is next: the event makes it over the entries before it. In calm weather it is the only one.
abbrev pub IsNext : Weather → Setup → List Entry → Event → Entry → Type 0
IsNext w setup log event e = (x : Effect) × IsMade w setup log event.at (way_of setup log event.kind) x
    × (e ≡ entry_of event x)

-- one entry for each event, each next over those before it
abbrev pub EachNext : Weather → Setup → List Entry → List Event → List Entry → Type 0
EachNext w setup log [] [] = Unit {0}
EachNext w setup log (event ∷ events) (e ∷ es) = IsNext w setup log event e
    × EachNext w setup (log ++ e ∷ []) events es
EachNext w setup log [] (e ∷ es) = ⊥
EachNext w setup log (event ∷ events) [] = ⊥

-- the entries are those of a run from none
abbrev pub IsRun : Weather → Setup → List Entry → Type 0
IsRun w setup entries = EachNext w setup [] (map (λ e. e.event) entries) entries
