-- What is next in some weather is next where anything may come.
use Rattle.std.proofs.Common.{◌≡◌, ℕ, Bool, true, false, List, [], ◌∷◌, ◌++◌, drop, Option, Some, None}
use Rattle.std.proofs.Common.{Result, Ok}
use Rattle.std.proofs.Common.{Err}
use Rattle.dist_types.specs.declared.ids.JobId.{JobId}
use Rattle.dist_types.specs.declared.outgoing.CallFault.{CallFault}
use Rattle.dist_types.specs.declared.results.UpdateJobStateResult.{UpdateJobStateResult}
use Rattle.dist_wire.specs.declared.run.RunJobHttpRequest.{RunJobHttpRequest}
use Rattle.build_server.specs.Builds.{Builder, Order}
use Rattle.build_server.specs.Rules.{Finds}
use Rattle.build_server.specs.declared.run.Outcome.{Outcome}
use Rattle.build_server.specs.declared.run.Outcome.TheVariants as outcome
use Rattle.build_server.specs.declared.run.Taken.{Taken}
use Rattle.build_server.specs.declared.run.Taken.TheVariants as taken
use Rattle.farm_script.specs.declared.event.Event.{Event}
use Rattle.farm_entries.specs.declared.site.Site.{Site as Setup}
use Rattle.farm_entries.specs.declared.entry.Effect.{Effect}
use Rattle.farm_entries.specs.declared.entry.Entry.{Entry}
use Rattle.farm_entries.specs.declared.pending.Ask.{Ask}
use Rattle.farm_entries.specs.declared.pending.Ask.TheVariants.{Assign, Report}
use Rattle.farm_entries.specs.declared.pending.Told.{Told}
use Rattle.farm_entries.specs.declared.pending.Told.TheVariants as told
use Rattle.farm_entries.specs.Calls.{waiting_at}
use Rattle.farm_entries.specs.Next.{GoesOn, IsSettled, IsMade, IsNext, EachNext}
use Rattle.farm_entries.specs.Servers.{ServerNow, server_now, is_over}
use Rattle.farm_entries.specs.Settled.{ReadyEnds, StartedEnds, Reports, Lives, ReportsIn}
use Rattle.farm_entries.specs.Ways.{Way, way_of, brought_at, to_nothing, to_nobody, to_scheduler, to_server}
use Rattle.farm_entries.specs.Ways.{to_call}
use Rattle.farm_entries.specs.Ways.{to_beat, to_restart}
use Rattle.farm_entries.specs.Weather.{Outside, Weather, calm, free, between, IsOrdered, Works, IsFree}
use Rattle.farm_entries.specs.Weather.{books_in}

asked_none : (x y : Option Builder) (order : Order) (o : Outcome) → IsOrdered x y taken.None order o
    → o ≡ outcome.None
asked_none None y order o h = absurd h
asked_none (Some b) None order o h = absurd h
asked_none (Some b) (Some c) order o h = let e = h.1 in cc

pub found_none : (a b : Outside) (s : ServerNow) (order : Order) (o : Outcome) (t : Taken)
    → Finds None (books_in s a) (books_in s b) t → IsOrdered a.builder b.builder t order o → o ≡ outcome.None
found_none a b s order o taken.None finds h = asked_none a.builder b.builder order o h
found_none a b s order o (taken.Unlisted tc) finds h = absurd finds
found_none a b s order o (taken.Folder tc) finds h = absurd finds
found_none a b s order o (taken.Read tc archive) finds h = absurd finds

works_free : (w : Weather) (s : ServerNow) (found : Option (List ℕ)) (run : RunJobHttpRequest)
    (inputs : List ℕ) (o : Outcome) → Works w s found run inputs o → IsFree found o
works_free w s (Some tc) run inputs o h = tt
works_free calm s None run inputs o h = h
works_free free s None run inputs o h = h
works_free (between a b) s None run inputs o h = found_none a b s _ o h.taken h.finds h.asked

ready_free : (w : Weather) (s : ServerNow) (root : ℕ) (json : Bool) (job : JobId) (archive : List ℕ)
    (r : Result UpdateJobStateResult CallFault) (x : Effect) → ReadyEnds w s root json job archive r x
    → ReadyEnds free s root json job archive r x
ready_free w s root json job archive (Ok u) x is = (is.0, tt, is.2)
ready_free w s root json job archive (Err f) x is = is

started_free : (w : Weather) (setup : Setup) (s : ServerNow) (root : ℕ) (job : JobId)
    (run : RunJobHttpRequest) (inputs : List ℕ) (r : Result UpdateJobStateResult CallFault) (x : Effect)
    → StartedEnds w setup s root job run inputs r x → StartedEnds free setup s root job run inputs r x
started_free w setup s root job run inputs (Ok u) x is =
    (is.0, works_free w s _ run inputs is.0 is.1, is.2)
started_free w setup s root job run inputs (Err f) x is = is

reports_free : (w : Weather) (setup : Setup) (s : ServerNow) (bytes : List ℕ) (root : ℕ) (json : Bool)
    (reply : Option (List ℕ)) (t : Told) (x : Effect) → Reports w setup s bytes root json reply t x
    → Reports free setup s bytes root json reply t x
reports_free w setup s bytes root json reply (told.Ready job at) x is =
    (is.0, is.1, ready_free w s root json job (drop at bytes) is.0 x is.2)
reports_free w setup s bytes root json reply (told.Started job run at) x is =
    (is.0, is.1, started_free w setup s root job run (drop at bytes) is.0 x is.2)
reports_free w setup s bytes root json reply (told.Complete job outcome) x is = is
reports_free w setup s bytes root json reply told.Heartbeat x is = is

lives_free : (w : Weather) (setup : Setup) (life : ℕ) (s : ServerNow) (bytes : List ℕ) (root : ℕ)
    (json : Bool)
    (reply : Option (List ℕ)) (t : Told) (over : Bool) (x : Effect)
    → Lives w setup life s bytes root json reply t over x
    → Lives free setup life s bytes root json reply t over x
lives_free w setup life s bytes root json reply t true x is = is
lives_free w setup life s bytes root json reply t false x is =
    reports_free w setup s bytes root json reply t x is

pub report_free : (w : Weather) (setup : Setup) (life : ℕ) (bytes : List ℕ) (root : ℕ) (json : Bool)
    (reply : Option (List ℕ)) (t : Told) (o : Option ServerNow) (x : Effect)
    → ReportsIn w setup life bytes root json reply t o x
    → ReportsIn free setup life bytes root json reply t o x
report_free w setup life bytes root json reply t None x is = is
report_free w setup life bytes root json reply t (Some s) x is =
    lives_free w setup life s bytes root json reply t (is_over life s) x is

pub goes_free : (w : Weather) (setup : Setup) (log : List Entry) (at root : ℕ) (json : Bool)
    (reply : Option (List ℕ)) (ask : Ask) (x : Effect) → GoesOn w setup log at root json reply ask x
    → GoesOn free setup log at root json reply ask x
goes_free w setup log at root json reply (Assign t) x is = is
goes_free w setup log at root json reply (Report server life t) x is =
    report_free w setup life (brought_at log root) root json reply t (server_now setup log server) x is

settled_free : (w : Weather) (setup : Setup) (log : List Entry) (at n : ℕ) (reply : Option (List ℕ))
    (o : Option Entry) (x : Effect) → IsSettled w setup log at n reply o x
    → IsSettled free setup log at n reply o x
settled_free w setup log at n reply None x is = is
settled_free w setup log at n reply (Some e) x is =
    (is.0, is.1, goes_free w setup log at is.0.root is.0.json reply is.0.ask x is.2)

pub made_free : (w : Weather) (setup : Setup) (log : List Entry) (at : ℕ) (way : Way) (x : Effect)
    → IsMade w setup log at way x → IsMade free setup log at way x
made_free w setup log at (to_call n reply) x is = settled_free w setup log at n reply (waiting_at log n) x is
made_free w setup log at (to_scheduler peer bytes) x is = is
made_free w setup log at (to_server s bytes) x is = is
made_free w setup log at (to_beat s) x is = is
made_free w setup log at (to_restart s key nonce) x is = (is.0, tt, is.2)
made_free w setup log at to_nobody x is = is
made_free w setup log at to_nothing x is = is

pub next_free : (w : Weather) (setup : Setup) (log : List Entry) (event : Event) (e : Entry)
    → IsNext w setup log event e → IsNext free setup log event e
next_free w setup log event e is =
    (is.0, made_free w setup log event.at (way_of setup log event.kind) is.0 is.1, is.2)

pub each_free : (w : Weather) (setup : Setup) (log : List Entry) (events : List Event) (entries : List Entry)
    → EachNext w setup log events entries → EachNext free setup log events entries
each_free w setup log [] [] each = tt
each_free w setup log (v ∷ vs) (e ∷ es) each =
    (next_free w setup log v e each.0, each_free w setup (log ++ e ∷ []) vs es each.1)
each_free w setup log [] (e ∷ es) each = absurd each
each_free w setup log (v ∷ vs) [] each = absurd each
