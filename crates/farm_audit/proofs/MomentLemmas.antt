-- The core entry of an event has the event's moment.
use Rattle.std.proofs.Common.{◌≡◌, inl, inr, ℕ, Bool, true, false, List, [], ◌∷◌, ◌++◌, Option, Some, None}
use Rattle.std.proofs.Common.{Result, Ok, Err, refl, sym, subst}
use Rattle.std.proofs.lemmas.Bool.{cases_Bool}
use Rattle.dist_types.specs.declared.addr.Addr.{Addr}
use Rattle.dist_types.specs.declared.ids.JobId.{JobId}
use Rattle.dist_types.specs.declared.outgoing.CallFault.{CallFault}
use Rattle.dist_types.specs.declared.results.AssignJobResult.{AssignJobResult}
use Rattle.dist_types.specs.declared.results.UpdateJobStateResult.{UpdateJobStateResult}
use Rattle.dist_wire.specs.declared.run.RunJobHttpRequest.{RunJobHttpRequest}
use Rattle.http_routes.specs.declared.route.SchedRouted.{SchedRouted}
use Rattle.http_routes.specs.declared.route.SchedRouted.TheVariants as asked
use Rattle.http_routes.specs.declared.server_route.ServerRouted.{ServerRouted}
use Rattle.http_routes.specs.declared.server_route.ServerRouted.TheVariants as server_asked
use Rattle.core_rules.specs.Log.{Core}
use Rattle.core_rules.specs.Rule.{rule}
use Rattle.core_rules.specs.Ticket.{Ticket}
use Rattle.core_rules.specs.declared.call.Call.TheVariants as call
use Rattle.core_rules.specs.declared.entry.CoreEntry.{CoreEntry}
use Rattle.core_rules.specs.declared.entry.CoreKind.{CoreKind}
use Rattle.core_rules.specs.declared.entry.CoreKind.TheVariants as core
use Rattle.core_rules.specs.declared.entry.Reserved.TheVariants.{Job, NoRoom, Spent}
use Rattle.build_server.specs.Rules.{assign_verdict}
use Rattle.build_server.specs.declared.fault.ServerFault.{ServerFault}
use Rattle.build_server.specs.declared.run.Outcome.{Outcome}
use Rattle.toolchain_cache.specs.Archives.{Archives}
use Rattle.farm_script.specs.declared.event.Event.{Event}
use Rattle.farm_entries.specs.declared.site.Site.{Site}
use Rattle.farm_entries.specs.declared.entry.Effect.{Effect}
use Rattle.farm_entries.specs.declared.entry.Entry.{Entry}
use Rattle.farm_entries.specs.declared.pending.Ask.{Ask}
use Rattle.farm_entries.specs.declared.pending.Ask.TheVariants.{Assign, Report}
use Rattle.farm_entries.specs.declared.pending.Told.{Told}
use Rattle.farm_entries.specs.declared.pending.Told.TheVariants as told
use Rattle.farm_entries.specs.Answers.{hears, alloc_effect, answer_to, IsAnswered}
use Rattle.farm_entries.specs.Calls.{waiting_at}
use Rattle.farm_entries.specs.Next.{GoesOn, IsSettled, IsMade, IsNext, EachNext}
use Rattle.farm_entries.specs.Seen.{core_of}
use Rattle.farm_entries.specs.Served.{assigned, served, books_of}
use Rattle.farm_entries.specs.Servers.{ServerNow, server_now, is_over}
use Rattle.farm_entries.specs.Settled.{assignment_end, ReadyEnds, StartedEnds, complete_end, Reports, Lives}
use Rattle.farm_entries.specs.Settled.{ReportsIn}
use Rattle.farm_entries.specs.Ways.{Way, way_of, brought_at, to_nothing, to_nobody, to_scheduler, to_server}
use Rattle.farm_entries.specs.Ways.{to_call, to_beat, to_restart}
use Rattle.farm_entries.specs.Weather.{Weather, opened_effect}
use Rattle.farm_audit.proofs.History.{HasMoment, HaveMoments}

-- a core entry that has it
has_moment : (at : ℕ) (o : Option CoreEntry) (made : CoreEntry) → o ≡ Some made → made.now ≡ at → HasMoment at o
has_moment at o made is now = subst (HasMoment at) (sym is) now

-- none
has_none : (at : ℕ) (o : Option CoreEntry) → o ≡ None → HasMoment at o
has_none at o is = subst (HasMoment at) (sym is) tt

-- an effect that is another's
of_effect : (at : ℕ) (x y : Effect) → x ≡ y → HasMoment at y.core → HasMoment at x.core
of_effect at x y is h = subst (λ (z : Effect). HasMoment at z.core) (sym is) h

-- ---- what the scheduler is asked

alloc_core : (s : Core) (number : ℕ) (json : Bool) (tc : List ℕ) (made : CoreEntry) (k : CoreKind)
    → (alloc_effect s number json tc made k).core ≡ Some made
alloc_core s number json tc made (core.Reserve (Job job reg forgiven)) = refl
alloc_core s number json tc made (core.Reserve (NoRoom standing)) = refl
alloc_core s number json tc made (core.Reserve Spent) = refl
alloc_core s number json tc made (core.Commit job state kept) = refl
alloc_core s number json tc made (core.Undo job noted ended) = refl
alloc_core s number json tc made (core.Beat server nonce cpus key pruned reaped replaced is_new) = refl
alloc_core s number json tc made (core.Update server job state given) = refl
alloc_core s number json tc made (core.Status pruned servers cpus jobs) = refl
alloc_core s number json tc made (core.Drain addr nonce on named) = refl

answer_moment : (s : Core) (number at : ℕ) (json : Bool) (what : SchedRouted)
    → HasMoment at (answer_to s number at json what).core
answer_moment s number at json (asked.Alloc tc) =
    let made = rule s (call.Reserve at) in
    has_moment at _ made (alloc_core s number json tc made made.kind) refl
answer_moment s number at json (asked.Beat server beat) =
    elim (cases_Bool (hears beat.num_cpus)) [
      | inl on ↦ has_moment at _ (rule s (call.Beat at server beat.server_nonce beat.num_cpus beat.jwt_key))
          (rw on refl) refl
      | inr off ↦ has_none at _ (rw off refl)
    ]
answer_moment s number at json (asked.Update server job state) = refl
answer_moment s number at json asked.Status = refl
answer_moment s number at json (asked.Drain server wish) = refl
answer_moment s number at json (asked.Done response) = tt

answered_moment : (setup : Site) (s : Core) (number at : ℕ) (peer : Addr) (bytes : List ℕ) (x : Effect)
    → IsAnswered setup s number at peer bytes x → HasMoment at x.core
answered_moment setup s number at peer bytes x is =
    of_effect at x (answer_to s number at is.0.json is.0.what) is.2
    (answer_moment s number at is.0.json is.0.what)

-- ---- settlements

end_moment : (s : Core) (root : ℕ) (json : Bool) (at : ℕ) (t : Ticket) (r : Result AssignJobResult CallFault)
    → HasMoment at (assignment_end s root json at t r).core
end_moment s root json at t (Ok a) = refl
end_moment s root json at t (Err f) = refl

ready_moment : (at : ℕ) (w : Weather) (s : ServerNow) (root : ℕ) (json : Bool) (job : JobId) (archive : List ℕ)
    (r : Result UpdateJobStateResult CallFault) (x : Effect) → ReadyEnds w s root json job archive r x
    → HasMoment at x.core
ready_moment at w s root json job archive (Ok u) x is = of_effect at x _ is.2 tt
ready_moment at w s root json job archive (Err f) x is = of_effect at x _ is tt

started_moment : (at : ℕ) (w : Weather) (setup : Site) (s : ServerNow) (root : ℕ) (job : JobId)
    (run : RunJobHttpRequest) (inputs : List ℕ) (r : Result UpdateJobStateResult CallFault) (x : Effect)
    → StartedEnds w setup s root job run inputs r x → HasMoment at x.core
started_moment at w setup s root job run inputs (Ok u) x is = of_effect at x _ is.2 tt
started_moment at w setup s root job run inputs (Err f) x is = of_effect at x _ is tt

complete_moment : (at : ℕ) (addr : Addr) (root : ℕ) (json : Bool) (job : JobId) (outcome : Outcome)
    (r : Result UpdateJobStateResult CallFault) → HasMoment at (complete_end addr root json job outcome r).core
complete_moment at addr root json job outcome (Ok u) = tt
complete_moment at addr root json job outcome (Err f) = tt

report_moment : (at : ℕ) (w : Weather) (setup : Site) (s : ServerNow) (bytes : List ℕ) (root : ℕ) (json : Bool)
    (reply : Option (List ℕ)) (t : Told) (x : Effect) → Reports w setup s bytes root json reply t x
    → HasMoment at x.core
report_moment at w setup s bytes root json reply (told.Ready job place) x is =
    ready_moment at w s root json job _ is.0 x is.2
report_moment at w setup s bytes root json reply (told.Started job run place) x is =
    started_moment at w setup s root job run _ is.0 x is.2
report_moment at w setup s bytes root json reply (told.Complete job outcome) x is =
    of_effect at x _ is.2 (complete_moment at s.setup.addr root json job outcome is.0)
report_moment at w setup s bytes root json reply told.Heartbeat x is = of_effect at x _ is.2 tt

lives_moment : (at : ℕ) (w : Weather) (setup : Site) (life : ℕ) (s : ServerNow) (bytes : List ℕ) (root : ℕ)
    (json : Bool) (reply : Option (List ℕ)) (t : Told) (over : Bool) (x : Effect)
    → Lives w setup life s bytes root json reply t over x → HasMoment at x.core
lives_moment at w setup life s bytes root json reply t true x is = of_effect at x _ is tt
lives_moment at w setup life s bytes root json reply t false x is =
    report_moment at w setup s bytes root json reply t x is

reports_moment : (at : ℕ) (w : Weather) (setup : Site) (life : ℕ) (bytes : List ℕ) (root : ℕ) (json : Bool)
    (reply : Option (List ℕ)) (t : Told) (o : Option ServerNow) (x : Effect)
    → ReportsIn w setup life bytes root json reply t o x → HasMoment at x.core
reports_moment at w setup life bytes root json reply t None x is = of_effect at x _ is tt
reports_moment at w setup life bytes root json reply t (Some s) x is =
    lives_moment at w setup life s bytes root json reply t (is_over life s) x is

goes_moment : (w : Weather) (setup : Site) (log : List Entry) (at root : ℕ) (json : Bool)
    (reply : Option (List ℕ)) (ask : Ask) (x : Effect) → GoesOn w setup log at root json reply ask x
    → HasMoment at x.core
goes_moment w setup log at root json reply (Assign t) x is =
    of_effect at x _ is.2 (end_moment (core_of setup log) root json at t is.0)
goes_moment w setup log at root json reply (Report server life t) x is =
    reports_moment at w setup life (brought_at log root) root json reply t (server_now setup log server) x is

settled_moment : (w : Weather) (setup : Site) (log : List Entry) (at n : ℕ) (reply : Option (List ℕ))
    (o : Option Entry) (x : Effect) → IsSettled w setup log at n reply o x → HasMoment at x.core
settled_moment w setup log at n reply None x is = of_effect at x _ is tt
settled_moment w setup log at n reply (Some e) x is =
    goes_moment w setup log at is.0.root is.0.json reply is.0.ask x is.2

-- ---- what a build server is asked

assigned_moment : (at : ℕ) (addr : Addr) (number : ℕ) (json : Bool) (job : JobId) (tc : List ℕ)
    (r : Result AssignJobResult ServerFault) → HasMoment at (assigned addr number json job tc r).core
assigned_moment at addr number json job tc (Ok a) = tt
assigned_moment at addr number json job tc (Err e) = tt

served_moment : (at : ℕ) (setup : Site) (s : ServerNow) (number : ℕ) (json : Bool) (what : ServerRouted)
    → HasMoment at (served setup s number json what).core
served_moment at setup s number json (server_asked.Assign job tc) =
    assigned_moment at s.setup.addr number json job tc (assign_verdict (books_of s) job tc)
served_moment at setup s number json (server_asked.Submit job) = tt
served_moment at setup s number json (server_asked.Run job run place) = tt
served_moment at setup s number json (server_asked.Done response) = tt

opened_moment : (at : ℕ) (s : ServerNow) (o : Option Archives) → HasMoment at (opened_effect s o).core
opened_moment at s None = tt
opened_moment at s (Some list) = tt

-- ---- an entry

made_moment : (w : Weather) (setup : Site) (log : List Entry) (at : ℕ) (way : Way) (x : Effect)
    → IsMade w setup log at way x → HasMoment at x.core
made_moment w setup log at (to_call n reply) x is = settled_moment w setup log at n reply (waiting_at log n) x is
made_moment w setup log at (to_scheduler peer bytes) x is =
    answered_moment setup (core_of setup log) _ at peer bytes x is
made_moment w setup log at (to_server s bytes) x is =
    of_effect at x _ is.2 (served_moment at setup s _ is.0.json is.0.what)
made_moment w setup log at (to_beat s) x is = of_effect at x _ is tt
made_moment w setup log at (to_restart s key nonce) x is = of_effect at x _ is.2 (opened_moment at s is.0)
made_moment w setup log at to_nobody x is = of_effect at x _ is tt
made_moment w setup log at to_nothing x is = of_effect at x _ is tt

next_moment : (w : Weather) (setup : Site) (log : List Entry) (event : Event) (e : Entry)
    → IsNext w setup log event e → HasMoment e.event.at e.core
next_moment w setup log event e is =
    subst (λ (d : Entry). HasMoment d.event.at d.core) (sym is.2)
    (made_moment w setup log event.at (way_of setup log event.kind) is.0 is.1)

-- each entry of a run
pub moments : (w : Weather) (setup : Site) (log : List Entry) (events : List Event) (es : List Entry)
    → EachNext w setup log events es → HaveMoments es
moments w setup log [] [] each = tt
moments w setup log (event ∷ events) (e ∷ es) each =
    (next_moment w setup log event e each.0, moments w setup (log ++ e ∷ []) events es each.1)
moments w setup log [] (e ∷ es) each = absurd each
moments w setup log (event ∷ events) [] each = absurd each
