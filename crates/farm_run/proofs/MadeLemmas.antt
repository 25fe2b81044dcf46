-- What each kind of event makes, and what is kept after it.
use Rattle.std.proofs.Common.{◌≡◌, ◌≢◌, ◌⊎◌, inl, inr, ℕ, zero, suc, ◌<◌, ◌^◌, Bool, true, false, ◌&&◌}
use Rattle.std.proofs.Common.{nat_lt, List, [], ◌∷◌, ◌++◌, length, map, take, set, Option, Some, None}
use Rattle.std.proofs.Common.{Result, Ok, Err, refl, sym, ap, subst, ◌∙◌, arith}
use Rattle.std.specs.Prelude.{slice_get}
use Rattle.std.proofs.lemmas.Bool.{cases_eq, ne_eqb}
use Rattle.std.proofs.lemmas.List.{length-set, length-take}
use Rattle.std.proofs.lemmas.Option.{same_Some, slice_get_within}
use Rattle.dist_types.specs.Addr.{◌>>=◌}
use Rattle.dist_types.specs.declared.addr.Addr.{Addr}
use Rattle.dist_types.specs.declared.outgoing.CallFault.{CallFault}
use Rattle.core_rules.proofs.Lists.{end_cut}
use Rattle.core_rules.specs.Log.{Core}
use Rattle.farm_entries.specs.declared.site.Site.{Site as Setup}
use Rattle.farm_script.specs.declared.event.Event.{Event}
use Rattle.farm_entries.specs.declared.entry.Effect.{Effect}
use Rattle.farm_entries.specs.declared.entry.Entry.{Entry}
use Rattle.farm_entries.specs.declared.entry.EntryWord.TheVariants.{Void}
use Rattle.farm_entries.specs.declared.entry.OutCall.{OutCall}
use Rattle.farm_entries.specs.declared.pending.Ask.{Ask}
use Rattle.farm_entries.specs.declared.pending.Ask.TheVariants.{Assign, Report}
use Rattle.farm_entries.specs.declared.pending.Told.{Told}
use Rattle.farm_entries.specs.declared.pending.Told.TheVariants as told
use Rattle.farm_entries.specs.declared.entry.Step.{Step}
use Rattle.farm_entries.specs.declared.entry.StepKind.{StepKind}
use Rattle.farm_entries.specs.declared.entry.StepKind.TheVariants as kinds
use Rattle.farm_stations.specs.Post.{Post as Station, outside_of}
use Rattle.dist_types.specs.declared.ids.JobId.{JobId}
use Rattle.dist_types.specs.declared.results.UpdateJobStateResult.{UpdateJobStateResult}
use Rattle.build_server.specs.declared.run.Outcome.{Outcome}
use Rattle.farm_script.specs.declared.event.EventKind.{EventKind}
use Rattle.farm_script.specs.declared.event.EventKind.TheVariants.{Request, Deliver, Fail, Return, Answer}
use Rattle.farm_script.specs.declared.event.EventKind.TheVariants.{Beat, Restart}
use Rattle.farm_entries.specs.Servers.{ServerNow, restart_by, server_now, is_over}
use Rattle.farm_stations.specs.Stations.{AreStations, HasApart}
use Rattle.farm_laws.proofs.FreeLemmas.{goes_free, next_free}
use Rattle.farm_run.proofs.StandLemmas.{stands_same}
use Rattle.farm_run.specs.declared.pending.Made.{Made}
use Rattle.farm_entries.specs.declared.pending.Pending.{Pending}
use Rattle.farm_entries.specs.Begun.{IsBegunBy, IsFirstCall, IsMadeBy, IsCallOf, Keeps, outcome_of}
use Rattle.farm_entries.specs.Begun.{completion_by, completion_at, completion_of}
use Rattle.farm_entries.specs.Calls.{settles_by, is_void, is_of, settled_at, waiting_at}
use Rattle.farm_entries.specs.Effects.{entry_of, effect_of, word_effect}
use Rattle.farm_entries.specs.Seen.{with_core}
use Rattle.farm_entries.specs.Waiting.{IsWaiting, IsKept, kept_at, AreKept}
use Rattle.farm_run.specs.Stops.{reporter, IsReportOf}
use Rattle.farm_run.specs.Farm.{IsAfter, IsReceived}
use Rattle.farm_run.specs.Farm.{IsMadeSo, IsFarm, Stands}
use Rattle.farm_entries.specs.Passage.{IsMoved}
use Rattle.farm_entries.specs.Weather.{Weather, calm, free}
use Rattle.farm_entries.specs.Next.{GoesOn, Follows, IsServed, IsSettled, IsMade, IsNext}
use Rattle.farm_entries.specs.Seen.{core_log, core_of}
use Rattle.farm_entries.specs.Settled.{complete_end, Lives, ReportsIn}
use Rattle.farm_entries.specs.Ways.{Way, way_of, brought_at, to_nothing, to_nobody, to_scheduler, to_server}
use Rattle.farm_entries.specs.Ways.{to_call, to_beat, to_restart}
use Rattle.farm_laws.proofs.CallLemmas.{waiting-end}
use Rattle.farm_laws.proofs.NextLemmas.{settles_it, way_settles, sound_next, sound_none}
use Rattle.farm_laws.proofs.RunLemmas.{core_of-push, IsRun-push}
use Rattle.farm_run.proofs.WaitLemmas.{call-end, kept-left, kept-settled, kept-push}
use Rattle.farm_laws.proofs.LoudLemmas.{goes_loud}

-- ---- entries that settle nothing

and_false : (b : Bool) → (b && false) ≡ false
and_false true = refl
and_false false = refl

-- the event is to settle nothing
unsettling : (log : List Entry) (e : Entry) → settles_by log e.event.kind ≡ None → (n : ℕ)
    → settled_at n (end_cut log e) ≡ false
unsettling log e none n = rw none (and_false _)

void_off : (a c : Bool) → (a && false && c) ≡ false
void_off true c = refl
void_off false c = refl

-- the entry does nothing
voided : (log : List Entry) (e : Entry) → e.word ≡ Some Void → (n : ℕ) → settled_at n (end_cut log e) ≡ false
voided log e void n = rw void (void_off (nat_lt n (length log)) (is_of n (settles_by log e.event.kind)))

-- what is kept stays
all_kept : (setup : Setup) (log : List Entry) (e : Entry) (ps : List (Option Pending)) → AreKept setup log ps
    → ((n : ℕ) → settled_at n (end_cut log e) ≡ false)
    → (n : ℕ) → n < length log → IsKept setup (log ++ e ∷ []) n (kept_at ps n)
all_kept setup log e ps kept off n lt = kept-left setup log e n (kept_at ps n) lt (off n) (kept.each n)

-- nothing is kept of an entry without a call
nothing_new : (setup : Setup) (log : List Entry) (e : Entry) → e.call ≡ None
    → IsKept setup (log ++ e ∷ []) (length log) None
nothing_new setup log e none = waiting-end log e ∙ ap (λ (o : Option OutCall). o >>= λ c. Some e) none

-- what is kept of the call that an entry makes
new_kept : (setup : Setup) (log : List Entry) (e : Entry) (o : Option Pending)
    → Keeps (IsMadeBy setup log (way_of setup log e.event.kind) (effect_of e)) (effect_of e) o
    → IsKept setup (log ++ e ∷ []) (length log) o
new_kept setup log e None is = nothing_new setup log e is
new_kept setup log e (Some p) is = record {
  entry = e;
  waits = waiting-end log e ∙ ap (λ (o : Option OutCall). o >>= λ c. Some e) is.2;
  call = call-end setup log e p is.0;
}

-- ---- what comes to an address, and what has nothing to do

served_made : (w : Weather) (setup : Setup) (log : List Entry) (at : ℕ) (way : Way) (x : Effect)
    → IsServed w setup (core_of setup log) (length log) at way x → IsMade w setup log at way x
served_made w setup log at (to_scheduler peer bytes) x is = is
served_made w setup log at (to_server s bytes) x is = is
served_made w setup log at (to_beat s) x is = is
served_made w setup log at (to_restart s key nonce) x is = is
served_made w setup log at to_nothing x is = is
served_made w setup log at to_nobody x is = is
served_made w setup log at (to_call n reply) x is = absurd is

begun_made : (w : Weather) (setup : Setup) (log : List Entry) (at : ℕ) (way : Way) (x : Effect)
    (o : Option Pending)
    → IsServed w setup (core_of setup log) (length log) at way x
    → Keeps (IsBegunBy setup (core_log log) (length log) way x) x o → Keeps (IsMadeBy setup log way x) x o
begun_made w setup log at way x None served is = is
begun_made w setup log at (to_scheduler peer bytes) x (Some p) served is = is
begun_made w setup log at (to_server s bytes) x (Some p) served is = is
begun_made w setup log at (to_beat s) x (Some p) served is = is
begun_made w setup log at (to_restart s key nonce) x (Some p) served is = absurd is.0
begun_made w setup log at to_nothing x (Some p) served is = absurd is.0
begun_made w setup log at to_nobody x (Some p) served is = absurd is.0
begun_made w setup log at (to_call n reply) x (Some p) served is = absurd is.0

pub received_made : (w : Weather) (setup : Setup) (s : Core) (log : List Entry) (ps : List (Option Pending))
    (sts new : List Station) (event : Event) (number at : ℕ) (way : Way) (m : Made)
    → IsFarm setup s log ps sts → number ≡ length log → event.at ≡ at → way_of setup log event.kind ≡ way
    → settles_by log event.kind ≡ None
    → IsReceived w setup s number at way m
    → AreStations setup.servers (log ++ entry_of event m.effect ∷ []) new
    → IsMoved setup (entry_of event m.effect) w (map outside_of sts) (map outside_of new)
    → IsMadeSo setup log event (way_of setup log event.kind) ps sts new m
received_made w setup s log ps sts new event number at way m is numbered moment comes none received stand
    moved =
    let one : IsReceived w setup (core_of setup log) number at way m =
    subst (λ (c : Core). IsReceived w setup c number at way m) is.core_is received in
    let two : IsReceived w setup (core_of setup log) (length log) at way m =
    subst (λ (n : ℕ). IsReceived w setup (core_of setup log) n at way m) numbered one in
    let three : IsReceived w setup (core_of setup log) (length log) event.at way m =
    subst (λ (n : ℕ). IsReceived w setup (core_of setup log) (length log) n way m) (sym moment) two in
    let four : IsReceived w setup (core_of setup log) (length log) event.at (way_of setup log event.kind) m =
    subst (λ (v : Way). IsReceived w setup (core_of setup log) (length log) event.at v m) (sym comes) three in
    record {
      weather = w;
      made = served_made w setup log event.at (way_of setup log event.kind) m.effect four.served;
      moved = moved;
      after = record {
        size = is.kept.size;
        old = all_kept setup log (entry_of event m.effect) ps is.kept
            (unsettling log (entry_of event m.effect) none);
        new = new_kept setup log (entry_of event m.effect) m.pending
            (begun_made w setup log event.at (way_of setup log event.kind) m.effect m.pending four.served
            four.kept);
      };
      stations = stand;
    }

-- an event that has nothing to do, and leaves the stations
pub idle_stands : (setup : Setup) (s : Core) (log : List Entry) (ps : List (Option Pending))
    (sts new : List Station) (event : Event) (m : Made)
    → IsFarm setup s log ps sts → way_of setup log event.kind ≡ to_nothing
    → AreStations setup.servers (log ++ entry_of event (word_effect Void) ∷ []) new
    → IsMoved setup (entry_of event (word_effect Void)) calm (map outside_of sts) (map outside_of new)
    → m ≡ record { effect = word_effect Void; pending = None }
    → IsMadeSo setup log event (way_of setup log event.kind) ps sts new m
idle_stands setup s log ps sts new event m is nothing stand moved same =
    let idle : Made = record { effect = word_effect Void; pending = None } in
    let there : IsMadeSo setup log event to_nothing ps sts new idle = record {
      weather = calm;
      made = refl;
      moved = moved;
      after = record {
        size = is.kept.size;
        old = all_kept setup log (entry_of event (word_effect Void)) ps is.kept
            (voided log (entry_of event (word_effect Void)) refl);
        new = nothing_new setup log (entry_of event (word_effect Void)) refl;
      };
      stations = stand;
    } in
    subst (λ (x : Made). IsMadeSo setup log event (way_of setup log event.kind) ps sts new x) (sym same)
    (subst (λ (v : Way). IsMadeSo setup log event v ps sts new idle) (sym nothing) there)

-- an event that has nothing to do, and restarts nothing
pub idle_made : (setup : Setup) (s : Core) (log : List Entry) (ps : List (Option Pending))
    (sts : List Station) (event : Event) (m : Made)
    → IsFarm setup s log ps sts → way_of setup log event.kind ≡ to_nothing
    → ((a : Addr) → restart_by a event.kind ≡ None)
    → m ≡ record { effect = word_effect Void; pending = None }
    → IsMadeSo setup log event (way_of setup log event.kind) ps sts sts m
idle_made setup s log ps sts event m is nothing still same =
    let stand = stands_same setup log sts (word_effect Void) is.stations refl event still in
    idle_stands setup s log ps sts sts event m is nothing stand.0 stand.1 same

-- ---- settlements

get_set_same : {X : Type 0} (xs : List X) (n : ℕ) (a : X) → n < length xs → slice_get (set xs n a) n ≡ Some a
get_set_same [] n a h = absurd (omega arith)
get_set_same (x ∷ xs) zero a h = refl
get_set_same (x ∷ xs) (suc n) a h = get_set_same xs n a (omega arith)

get_set_other : {X : Type 0} (xs : List X) (n m : ℕ) (a : X) → n ≢ m
    → slice_get (set xs n a) m ≡ slice_get xs m
get_set_other [] n m a h = refl
get_set_other (x ∷ xs) zero zero a h = absurd (h refl)
get_set_other (x ∷ xs) zero (suc m) a h = refl
get_set_other (x ∷ xs) (suc n) zero a h = refl
get_set_other (x ∷ xs) (suc n) (suc m) a h = get_set_other xs n m a (λ same. h (ap (λ (k : ℕ). suc k) same))

-- an entry that settles another call leaves this one
other_call : (log : List Entry) (e : Entry) (n m : ℕ) (reply : Option (List ℕ))
    → settles_by log e.event.kind ≡ Some (n, reply) → n ≢ m → settled_at m (end_cut log e) ≡ false
other_call log e n m reply names apart = rw (names, ne_eqb n m apart) (and_false _)

-- after a settlement, or one of a call that does not wait, nothing is kept of the call
after_settled : (setup : Setup) (log : List Entry) (e : Entry) (ps : List (Option Pending)) (n : ℕ)
    (reply : Option (List ℕ)) → AreKept setup log ps
    → settles_by log e.event.kind ≡ Some (n, reply) → (o : Option Pending)
    → IsKept setup (log ++ e ∷ []) (length log) o → (is_void e.word ≡ false)
    ⊎ ((e.word ≡ Some Void) × (kept_at ps n ≡ None)) → IsAfter setup log e (set ps n None) o
after_settled setup log e ps n reply kept names o made how = record {
  size = omega (arith, length-set ps n None, kept.size);
  old = λ m lt. elim (cases_eq n m) [
    | inl same ↦ subst (λ (k : ℕ). IsKept setup (log ++ e ∷ []) k (kept_at (set ps n None) k)) same
        (own (omega (arith, same, lt)))
    | inr apart ↦
        let at : kept_at (set ps n None) m ≡ kept_at ps m = ap (λ (o : Option (Option Pending)). o >>= λ p. p)
        (get_set_other ps n m None apart) in
        subst (λ (o : Option Pending). IsKept setup (log ++ e ∷ []) m o) (sym at)
        (kept-left setup log e m (kept_at ps m) lt (other_call log e n m reply names apart) (kept.each m))
  ];
  new = made;
}
  where
    none_left : n < length log → kept_at (set ps n None) n ≡ None
    none_left lt = ap (λ (o : Option (Option Pending)). o >>= λ p. p)
        (get_set_same ps n None (omega (arith, kept.size)))

    settled : n < length log → (is_void e.word ≡ false) ⊎ ((e.word ≡ Some Void) × (kept_at ps n ≡ None))
        → IsKept setup (log ++ e ∷ []) n None
    settled lt (inl silent) = kept-settled setup log e n lt (settles_it log n reply e lt silent names)
    settled lt (inr void) = kept-left setup log e n None lt (voided log e void.0 n)
        (subst (IsKept setup log n) void.1 (kept.each n))

    own : n < length log → IsKept setup (log ++ e ∷ []) n (kept_at (set ps n None) n)
    own lt = subst (λ (o : Option Pending). IsKept setup (log ++ e ∷ []) n o) (sym (none_left lt))
        (settled lt how)

-- ---- the end of a run is reported once

-- no report of a run's end follows on one
no_second : (addr : Addr) (root : ℕ) (json : Bool) (job : JobId) (outcome : Outcome)
    (r : Result UpdateJobStateResult CallFault) (n : ℕ) (j : Bool) (a : Addr) (life : ℕ)
    → completion_at n j a life (complete_end addr root json job outcome r).step ≡ None
no_second addr root json job outcome (Ok u) n j a life = refl
no_second addr root json job outcome (Err f) n j a life = refl

lives_second : (setup : Setup) (life : ℕ) (s : ServerNow) (bytes : List ℕ) (root : ℕ) (json : Bool)
    (reply : Option (List ℕ)) (job : JobId) (outcome : Outcome) (over : Bool) (x : Effect) (n : ℕ) (j : Bool)
    (a : Addr) (l : ℕ)
    → Lives free setup life s bytes root json reply (told.Complete job outcome) over x
    → completion_at n j a l x.step ≡ None
lives_second setup life s bytes root json reply job outcome true x n j a l is =
    ap (λ (y : Effect). completion_at n j a l y.step) is
lives_second setup life s bytes root json reply job outcome false x n j a l is =
    ap (λ (y : Effect). completion_at n j a l y.step) is.2
    ∙ no_second s.setup.addr root json job outcome is.0 n j a l

report_second : (setup : Setup) (life : ℕ) (bytes : List ℕ) (root : ℕ) (json : Bool) (reply : Option (List ℕ))
    (job : JobId) (outcome : Outcome) (o : Option ServerNow) (x : Effect) (n : ℕ) (j : Bool) (a : Addr)
    (l : ℕ)
    → ReportsIn free setup life bytes root json reply (told.Complete job outcome) o x
    → completion_at n j a l x.step ≡ None
report_second setup life bytes root json reply job outcome None x n j a l is =
    ap (λ (y : Effect). completion_at n j a l y.step) is
report_second setup life bytes root json reply job outcome (Some s) x n j a l is =
    lives_second setup life s bytes root json reply job outcome (is_over life s) x n j a l is

-- what a completion asks
record Completes (p : Pending) : Type 0 where
  addr : Addr
  life : ℕ
  job : JobId
  outcome : Outcome
  asks : p.ask ≡ Report addr life (told.Complete job outcome)

completes_by : (root : ℕ) (json : Bool) (addr : Addr) (life : ℕ) (k : StepKind) (p : Pending)
    → completion_by root json addr life k ≡ Some p → Completes p
completes_by root json addr life (kinds.Ran job ran result) p e =
    record {
      addr = addr;
      life = life;
      job = job;
      outcome = outcome_of ran result;
      asks = sym (ap (λ (q : Pending). q.ask) (same_Some _ p e));
    }
completes_by root json addr life (kinds.Heard as_what) p e = absurd cc
completes_by root json addr life (kinds.Assigned job tc ready) p e = absurd cc
completes_by root json addr life (kinds.Submitted job outcome) p e = absurd cc
completes_by root json addr life (kinds.Finished job) p e = absurd cc
completes_by root json addr life (kinds.Unreported job) p e = absurd cc
completes_by root json addr life (kinds.Opened archives) p e = absurd cc

completes : (q : Pending) (ask : Ask) (step : Option Step) (p : Pending) → completion_of q ask step ≡ Some p
    → Completes p
completes q (Assign u) step p e = absurd cc
completes q (Report addr life t) None p e = absurd cc
completes q (Report addr life t) (Some step) p e = completes_by q.root q.json addr life step.kind p e

-- a call whose settlement tells a run's end is no such report itself
none_after : (setup : Setup) (log : List Entry) (at root : ℕ) (json : Bool) (reply : Option (List ℕ))
    (q first : Pending) (ask : Ask) (x : Effect) (p : Pending)
    → Completes first → first.ask ≡ ask → GoesOn free setup log at root json reply ask x
    → completion_of first ask x.step ≡ Some p → ⊥
none_after setup log at root json reply q first (Assign t) x p c asks goes e = cc
none_after setup log at root json reply q first (Report server life t) x p c asks goes e =
    let same : Report c.addr c.life (told.Complete c.job c.outcome) ≡ Report server life t = sym c.asks ∙ asks
    in
    let kind : told.Complete c.job c.outcome ≡ t = cc in
    let ended : ReportsIn free setup life (brought_at log root) root json reply
    (told.Complete c.job c.outcome)
    (server_now setup log server) x =
    subst (λ (k : Told). ReportsIn free setup life (brought_at log root) root json reply k
    (server_now setup log server) x) (sym kind) goes in
    let none = report_second setup life (brought_at log root) root json reply c.job c.outcome
    (server_now setup log server) x first.root first.json server life ended in
    let two : None ≡ Some p = sym none ∙ e in
    cc

first_way : (setup : Setup) (log : List Entry) (n : ℕ) (entry : Entry) (way : Way) (first : Pending)
    → (Completes first → ⊥) → length (take n log) ≡ n → IsMadeBy setup (take n log) way
    (effect_of entry) first
    → IsBegunBy setup (core_log (take n log)) n way (effect_of entry) first
first_way setup log n entry (to_call m r) first not_it size made =
    absurd (not_it (completes made.first made.first.ask entry.step first made.is))
first_way setup log n entry (to_scheduler peer bytes) first not_it size made =
    subst (λ (k : ℕ). IsBegunBy setup (core_log (take n log)) k (to_scheduler peer bytes)
    (effect_of entry) first) size made
first_way setup log n entry (to_server s bytes) first not_it size made =
    subst (λ (k : ℕ). IsBegunBy setup (core_log (take n log)) k (to_server s bytes) (effect_of entry) first)
    size made
first_way setup log n entry (to_beat s) first not_it size made =
    subst (λ (k : ℕ). IsBegunBy setup (core_log (take n log)) k (to_beat s) (effect_of entry) first) size made
first_way setup log n entry to_nothing first not_it size made = absurd made
first_way setup log n entry to_nobody first not_it size made = absurd made
first_way setup log n entry (to_restart s key nonce) first not_it size made = absurd made

first_call : (setup : Setup) (log : List Entry) (n : ℕ) (first : Pending) → (Completes first → ⊥)
    → IsCallOf setup log n first → IsFirstCall setup log n first
first_call setup log n first not_it is =
    let within : n < length log = slice_get_within log n is.entry is.there in
    let size : length (take n log) ≡ n = omega (arith, length-take n log, within) in
    record {
      entry = is.entry;
      there = is.there;
      begun = first_way setup log n is.entry
          (way_of setup (take n log) is.entry.event.kind) first not_it size is.made;
    }

-- what is kept of the call that a settlement makes
settled_kept : (setup : Setup) (log : List Entry) (at n : ℕ) (reply : Option (List ℕ)) (first : Pending)
    (x : Effect) (o : Option Pending) → IsCallOf setup log n first → Follows free setup log at reply
    (Some first) x
    → Keeps (λ p. completion_of first first.ask x.step ≡ Some p) x o
    → Keeps (IsMadeBy setup log (to_call n reply) x) x o
settled_kept setup log at n reply first x None call goes is = is
settled_kept setup log at n reply first x (Some p) call goes is = (
  record {
    first = first;
    call = first_call setup log n first
        (λ c. none_after setup log at first.root first.json reply first first first.ask x p c refl goes is.0)
        call;
    is = is.0;
  },
  is.1,
  is.2,
)

-- an event that settles a call restarts nothing
pub settling_still : (setup : Setup) (log : List Entry) (k : EventKind) (n : ℕ) (reply : Option (List ℕ))
    → way_of setup log k ≡ to_call n reply → (a : Addr) → restart_by a k ≡ None
settling_still setup log (Request target peer bytes) n reply is a = refl
settling_still setup log (Deliver c) n reply is a = refl
settling_still setup log (Fail c) n reply is a = refl
settling_still setup log (Return d) n reply is a = refl
settling_still setup log (Answer c bytes) n reply is a = refl
settling_still setup log (Beat server) n reply is a = refl
settling_still setup log (Restart server key nonce) n reply is a =
    let names = way_settles setup log (Restart server key nonce) n reply is in
    absurd cc

-- what follows where that is kept of the call
pub settled_by : (setup : Setup) (s : Core) (log : List Entry) (ps : List (Option Pending))
    (sts new : List Station) (event : Event) (n at : ℕ) (reply : Option (List ℕ)) (first : Pending) (m : Made)
    (w : Weather)
    → IsFarm setup s log ps sts → event.at ≡ at → way_of setup log event.kind ≡ to_call n reply
    → kept_at ps n ≡ Some first → Follows w setup log at reply (Some first) m.effect
    → Keeps (λ p. completion_of first first.ask m.effect.step ≡ Some p) m.effect m.pending
    → Stands setup log m.effect w sts new
    → IsMadeSo setup log event (way_of setup log event.kind) (set ps n None) sts new m
settled_by setup s log ps sts new event n at reply first m w is moment comes some follows keeps stands =
    let waits : IsWaiting setup log n first = subst (IsKept setup log n) some (is.kept.each n) in
    let names = way_settles setup log event.kind n reply comes in
    let stand = stands event (settling_still setup log event.kind n reply comes) in
    let goes : Follows w setup log event.at reply (Some first) m.effect =
    subst (λ (k : ℕ). Follows w setup log k reply (Some first) m.effect) (sym moment) follows in
    let freely : Follows free setup log event.at reply (Some first) m.effect =
    goes_free w setup log event.at first.root first.json reply first.ask m.effect goes in
    let made : IsMade w setup log event.at (to_call n reply) m.effect =
    subst (λ (o : Option Entry). IsSettled w setup log event.at n reply o m.effect) (sym waits.waits)
    (first, waits.call, goes) in
    let kept : Keeps (IsMadeBy setup log (to_call n reply) m.effect) m.effect m.pending =
    settled_kept setup log event.at n reply first m.effect m.pending waits.call freely keeps in
    let here : Keeps (IsMadeBy setup log (way_of setup log event.kind) m.effect) m.effect m.pending =
    subst (λ (v : Way). Keeps (IsMadeBy setup log v m.effect) m.effect m.pending) (sym comes) kept in
    record {
      weather = w;
      made = subst (λ (v : Way). IsMade w setup log event.at v m.effect) (sym comes) made;
      moved = stand.1;
      after = after_settled setup log (entry_of event m.effect) ps n reply is.kept names m.pending
          (new_kept setup log (entry_of event m.effect) m.pending here)
          (inl (goes_loud setup log event.at first.root first.json reply first.ask m.effect freely));
      stations = stand.0;
    }

-- a call that is not kept does not wait
pub settled_none : (setup : Setup) (s : Core) (log : List Entry) (ps : List (Option Pending))
    (sts : List Station) (event : Event) (n : ℕ) (reply : Option (List ℕ)) (m : Made)
    → IsFarm setup s log ps sts → way_of setup log event.kind ≡ to_call n reply → kept_at ps n ≡ None
    → m ≡ record { effect = word_effect Void; pending = None }
    → IsMadeSo setup log event (way_of setup log event.kind) (set ps n None) sts sts m
settled_none setup s log ps sts event n reply m is comes none same =
    let x = word_effect Void in
    let waits : waiting_at log n ≡ None = subst (IsKept setup log n) none (is.kept.each n) in
    let names = way_settles setup log event.kind n reply comes in
    let stand = stands_same setup log sts x is.stations refl event
    (settling_still setup log event.kind n reply comes) in
    let made : IsMade calm setup log event.at (to_call n reply) x =
    subst (λ (o : Option Entry). IsSettled calm setup log event.at n reply o x) (sym waits) refl in
    let there : IsMadeSo setup log event (way_of setup log event.kind) (set ps n None) sts sts
    (record { effect = x; pending = None }) = record {
      weather = calm;
      made = subst (λ (v : Way). IsMade calm setup log event.at v x) (sym comes) made;
      moved = stand.1;
      after = after_settled setup log (entry_of event x) ps n reply is.kept names None
          (nothing_new setup log (entry_of event x) refl) (inr (refl, none));
      stations = stand.0;
    } in
    subst (λ (q : Made). IsMadeSo setup log event (way_of setup log event.kind) (set ps n None) sts sts q)
    (sym same) there

-- what is kept of a report tells who makes it
pub report_of : (setup : Setup) (s : Core) (log : List Entry) (ps : List (Option Pending))
    (sts : List Station) (n : ℕ) (p : Pending) (a : Addr) → IsFarm setup s log ps sts
    → kept_at ps n ≡ Some p → reporter p.ask ≡ Some a → IsReportOf setup log n a
report_of setup s log ps sts n p a is some own =
    let waits : IsWaiting setup log n p = subst (IsKept setup log n) some (is.kept.each n) in
    (p, waits.call, own)

-- ---- farms

-- one entry more
pub farm_next : (setup next : Setup) (s new : Core) (log : List Entry) (ps left : List (Option Pending))
    (sts after : List Station) (event : Event) (m : Made)
    → IsFarm setup s log ps sts → IsMadeSo setup log event (way_of setup log event.kind) left sts after m
    → next ≡ setup → new ≡ with_core s m.effect.core
    → IsFarm next new (log ++ entry_of event m.effect ∷ []) (left ++ m.pending ∷ []) after
farm_next setup next s new log ps left sts after event m is made same core-is =
    let e : Entry = entry_of event m.effect in
    let is_next : IsNext free setup log event e =
    next_free made.weather setup log event e (m.effect, made.made, refl) in
    let farm : IsFarm setup new (log ++ e ∷ []) (left ++ m.pending ∷ []) after = record {
      fits = is.fits;
      apart = is.apart;
      run = IsRun-push free setup log e is.run is_next;
      core_is = core-is ∙ ap (λ (c : Core). with_core c m.effect.core) is.core_is ∙ core_of-push setup log e;
      sound = sound_next setup log event e is.fits is.sound is_next;
      kept = kept-push setup log e left m.pending made.after;
      stations = made.stations;
    } in
    subst (λ (t : Setup). IsFarm t new (log ++ e ∷ []) (left ++ m.pending ∷ []) after) (sym same) farm

-- a farm that begins
pub begun_farm : (setup : Setup) (core : Core) (entries : List Entry) (ps : List (Option Pending))
    (sts : List Station) → setup.scheduler.count < 2 ^ 64 → HasApart setup → core ≡ core_of setup []
    → entries ≡ [] → ps ≡ [] → AreStations setup.servers [] sts → IsFarm setup core entries ps sts
begun_farm setup core entries ps sts fits apart is none empty stations =
    let farm : IsFarm setup core [] [] sts = record {
      fits = fits;
      apart = apart;
      run = tt;
      core_is = is;
      sound = sound_none setup;
      kept = record { size = refl; each = λ n. refl };
      stations = stations;
    } in
    subst (λ (es : List Entry). IsFarm setup core es ps sts) (sym none)
    (subst (λ (qs : List (Option Pending)). IsFarm setup core [] qs sts) (sym empty) farm)
