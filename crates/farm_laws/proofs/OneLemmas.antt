-- An event makes one entry, events make one list of entries, and a script's run has one text.
use Rattle.std.proofs.Common.{◌≡◌, ℕ, Bool, true, false, List, [], ◌∷◌, ◌++◌, length, take, drop, Option}
use Rattle.std.proofs.Common.{Some, None, Result, Ok, Err, refl, ap, ◌∙◌, sym, subst}
use Rattle.std.proofs.lemmas.Option.{same_Some}
use Rattle.dist_types.specs.declared.addr.Addr.{Addr}
use Rattle.dist_types.specs.declared.outgoing.CallFault.{CallFault}
use Rattle.dist_types.specs.declared.results.AssignJobResult.{AssignJobResult}
use Rattle.toolchain_cache.specs.Archives.{Archives}
use Rattle.build_server.specs.Books.{held_for}
use Rattle.build_server.specs.declared.run.Outcome.{Outcome}
use Rattle.build_server.specs.declared.submit.Submitted.{Submitted}
use Rattle.core_rules.specs.Log.{Core}
use Rattle.core_rules.specs.Ticket.{Ticket}
use Rattle.core_rules.specs.declared.entry.CoreEntry.{CoreEntry}
use Rattle.http_routes.specs.declared.route.Asked.{Asked}
use Rattle.http_routes.specs.Admission.{equal_admission}
use Rattle.http_routes.proofs.AskLemmas.{one_question}
use Rattle.http_routes.proofs.CallLemmas.{one_assignment, one_answer as one_answer_at}
use Rattle.farm_entries.specs.declared.site.Site.{Site as Setup}
use Rattle.farm_script.specs.declared.event.Event.{Event}
use Rattle.farm_script.proofs.SpelledLemmas.{one_script}
use Rattle.farm_entries.specs.declared.entry.Effect.{Effect}
use Rattle.farm_entries.specs.declared.entry.Entry.{Entry}
use Rattle.farm_entries.specs.declared.pending.Ask.{Ask}
use Rattle.farm_entries.specs.declared.pending.Ask.TheVariants.{Assign, Report}
use Rattle.farm_entries.specs.declared.pending.Told.{Told}
use Rattle.farm_entries.specs.declared.pending.Told.TheVariants as told
use Rattle.farm_entries.specs.declared.entry.StepKind.TheVariants as kinds
use Rattle.dist_types.specs.declared.results.UpdateJobStateResult.{UpdateJobStateResult}
use Rattle.dist_types.specs.declared.results.HeartbeatServerResult.{HeartbeatServerResult}
use Rattle.dist_token.specs.Verdict.{job_verdict}
use Rattle.dist_wire.specs.Reading.{update_at, heard_at}
use Rattle.http_routes.specs.declared.server_route.ServerAsked.{ServerAsked}
use Rattle.http_routes.proofs.ServerLemmas.{one_question as one_asking}
use Rattle.farm_entries.specs.Servers.{ServerNow, server_now, is_over}
use Rattle.farm_entries.specs.Served.{AsksServer, IsServerAnswered, IsReport, served, report_of}
use Rattle.farm_entries.specs.declared.pending.Pending.{Pending}
use Rattle.farm_entries.specs.Answers.{Asks, answer_to, IsAnswered}
use Rattle.farm_entries.specs.Begun.{IsAssignment, IsBegunBy, IsFirstCall, IsCompletion, IsMadeBy, IsCallOf}
use Rattle.farm_entries.specs.Begun.{completion_of}
use Rattle.farm_entries.specs.Calls.{waiting_at}
use Rattle.farm_entries.specs.Effects.{effect_of, entry_of, step_effect}
use Rattle.farm_entries.specs.Next.{GoesOn, Follows, IsSettled, IsMade, IsNext, EachNext}
use Rattle.farm_entries.specs.Printed.{run_text}
use Rattle.farm_entries.specs.RunText.{IsRunText}
use Rattle.farm_entries.specs.Seen.{core_log, core_of, serves}
use Rattle.farm_entries.specs.Settled.{IsOutcome, assignment_end, IsUpdated, IsHeard, ReadyEnds, StartedEnds}
use Rattle.farm_entries.specs.Settled.{submission, running}
use Rattle.farm_entries.specs.Sites.{site_of}
use Rattle.farm_entries.specs.Weather.{Weather, calm, Stores, Works, Opens, opened_effect, IsRestarted}
use Rattle.farm_script.specs.declared.setup.Setup.{Setup as Script}
use Rattle.dist_types.specs.declared.ids.JobId.{JobId}
use Rattle.dist_wire.specs.declared.run.RunJobHttpRequest.{RunJobHttpRequest}
use Rattle.farm_entries.specs.Settled.{complete_end, heard_as, Reports, Lives, ReportsIn}
use Rattle.farm_entries.specs.Ways.{Way, way_of, brought_at, to_nothing, to_nobody, to_scheduler, to_server}
use Rattle.farm_entries.specs.Ways.{to_call, to_beat, to_restart}

pub one_asked : (setup : Setup) (peer : Addr) (bytes : List ℕ) (a b : Asked) → Asks setup peer bytes a
    → Asks setup peer bytes b → a ≡ b
one_asked setup peer bytes a b p q = one_question setup.rules (equal_admission setup.scheduler.client)
    (serves setup.scheduler.auth) bytes peer a b p q

one_answer : (setup : Setup) (core : Core) (number at : ℕ) (peer : Addr) (bytes : List ℕ) (x y : Effect)
    → IsAnswered setup core number at peer bytes x → IsAnswered setup core number at peer bytes y → x ≡ y
one_answer setup core number at peer bytes x y p q =
    p.2 ∙ ap (λ (a : Asked). answer_to core number at a.json a.what)
    (one_asked setup peer bytes p.0 q.0 p.1 q.1) ∙ sym q.2

pub one_server_asked : (s : ServerNow) (bytes : List ℕ) (a b : ServerAsked) → AsksServer s bytes a
    → AsksServer s bytes b → a ≡ b
one_server_asked s bytes a b p q = one_asking (job_verdict s.key) bytes a b p q

one_served : (setup : Setup) (s : ServerNow) (number : ℕ) (bytes : List ℕ) (x y : Effect)
    → IsServerAnswered setup s number bytes x → IsServerAnswered setup s number bytes y → x ≡ y
one_served setup s number bytes x y p q =
    p.2 ∙ ap (λ (a : ServerAsked). served setup s number a.json a.what)
    (one_server_asked s bytes p.0 q.0 p.1 q.1) ∙ sym q.2

-- ---- what is kept

one_reservation : (core : List CoreEntry) (number : ℕ) (j k : Bool) (made : Option CoreEntry) (p q : Pending)
    → j ≡ k → IsAssignment core number j made p → IsAssignment core number k made q → p ≡ q
one_reservation core number j k made p q same a b =
    let one : a.ticket ≡ b.ticket = same_Some a.ticket b.ticket (sym a.reserved ∙ b.reserved) in
    a.is ∙ ap (λ (t : Ticket). record { root = number; json = j; ask = Assign t }) one
    ∙ ap (λ (i : Bool). record { root = number; json = i; ask = Assign b.ticket }) same ∙ sym b.is

one_report : (s : ServerNow) (number : ℕ) (a : ServerAsked) (p q : Pending) → IsReport s number a p
    → IsReport s number a q → p ≡ q
one_report s number a p q x y =
    let one : x.told ≡ y.told = same_Some x.told y.told (sym x.begins ∙ y.begins) in
    x.is ∙ ap (λ (t : Told). report_of number a.json s t) one ∙ sym y.is

one_begun : (setup : Setup) (core : List CoreEntry) (number : ℕ) (way : Way) (x : Effect) (p q : Pending)
    → IsBegunBy setup core number way x p → IsBegunBy setup core number way x q → p ≡ q
one_begun setup core number (to_scheduler peer bytes) x p q a b =
    one_reservation core number a.0.json b.0.json x.core p q
    (ap (λ (c : Asked). c.json) (one_asked setup peer bytes a.0 b.0 a.1 b.1)) a.2 b.2
one_begun setup core number (to_server s bytes) x p q a b =
    let same : b.0 ≡ a.0 = one_server_asked s bytes b.0 a.0 b.1 a.1 in
    one_report s number a.0 p q a.2 (subst (λ (c : ServerAsked). IsReport s number c q) same b.2)
one_begun setup core number (to_beat s) x p q a b = a ∙ sym b
one_begun setup core number to_nothing x p q a b = absurd a
one_begun setup core number to_nobody x p q a b = absurd a
one_begun setup core number (to_call n reply) x p q a b = absurd a
one_begun setup core number (to_restart s key nonce) x p q a b = absurd a

pub one_first : (setup : Setup) (log : List Entry) (n : ℕ) (p q : Pending) → IsFirstCall setup log n p
    → IsFirstCall setup log n q → p ≡ q
one_first setup log n p q a b =
    let same : b.entry ≡ a.entry = same_Some b.entry a.entry (sym b.there ∙ a.there) in
    one_begun setup (core_log (take n log)) n (way_of setup (take n log) a.entry.event.kind)
    (effect_of a.entry) p q a.begun
    (subst (λ (e : Entry). IsBegunBy setup (core_log (take n log)) n (way_of setup (take n log) e.event.kind)
    (effect_of e) q) same b.begun)

one_completion : (setup : Setup) (log : List Entry) (n : ℕ) (x : Effect) (p q : Pending)
    → IsCompletion setup log n x p → IsCompletion setup log n x q → p ≡ q
one_completion setup log n x p q a b =
    let same : b.first ≡ a.first = one_first setup log n b.first a.first b.call a.call in
    same_Some p q (sym a.is ∙ sym (ap (λ (f : Pending). completion_of f f.ask x.step) same) ∙ b.is)

one_made_call : (setup : Setup) (log : List Entry) (way : Way) (x : Effect) (p q : Pending)
    → IsMadeBy setup log way x p → IsMadeBy setup log way x q → p ≡ q
one_made_call setup log (to_call n reply) x p q a b = one_completion setup log n x p q a b
one_made_call setup log (to_scheduler peer bytes) x p q a b = one_begun setup (core_log log) (length log)
    (to_scheduler peer bytes) x p q a b
one_made_call setup log (to_server s bytes) x p q a b = one_begun setup (core_log log) (length log)
    (to_server s bytes) x p q a b
one_made_call setup log (to_beat s) x p q a b = one_begun setup (core_log log) (length log)
    (to_beat s) x p q a b
one_made_call setup log to_nothing x p q a b = absurd a
one_made_call setup log to_nobody x p q a b = absurd a
one_made_call setup log (to_restart s key nonce) x p q a b = absurd a

pub one_call : (setup : Setup) (log : List Entry) (n : ℕ) (p q : Pending) → IsCallOf setup log n p
    → IsCallOf setup log n q → p ≡ q
one_call setup log n p q a b =
    let same : b.entry ≡ a.entry = same_Some b.entry a.entry (sym b.there ∙ a.there) in
    one_made_call setup (take n log) (way_of setup (take n log) a.entry.event.kind)
    (effect_of a.entry) p q a.made
    (subst (λ (e : Entry). IsMadeBy setup (take n log) (way_of setup (take n log) e.event.kind)
    (effect_of e) q) same b.made)

-- ---- settlements

pub one_outcome : (reply : Option (List ℕ)) (a b : Result AssignJobResult CallFault) → IsOutcome reply a
    → IsOutcome reply b → a ≡ b
one_outcome None a b p q = p ∙ sym q
one_outcome (Some bytes) a b p q = one_assignment bytes a b p q

pub one_update : (reply : Option (List ℕ)) (a b : Result UpdateJobStateResult CallFault) → IsUpdated reply a
    → IsUpdated reply b → a ≡ b
one_update None a b p q = p ∙ sym q
one_update (Some bytes) a b p q = one_answer_at update_at bytes a b p q

one_hearing : (reply : Option (List ℕ)) (a b : Result HeartbeatServerResult CallFault) → IsHeard reply a
    → IsHeard reply b → a ≡ b
one_hearing None a b p q = p ∙ sym q
one_hearing (Some bytes) a b p q = one_answer_at heard_at bytes a b p q

-- ---- what comes from outside

-- over the same server the two weathers bring the same
pub record Agrees (v w : Weather) : Type 0 where
  pub stores : (s : ServerNow) (job : JobId) (bytes : List ℕ) (o p : Submitted) → Stores v s job bytes o
      → Stores w s job bytes p → o ≡ p
  pub works : (s : ServerNow) (found : Option (List ℕ)) (run : RunJobHttpRequest) (inputs : List ℕ)
      (o p : Outcome) → Works v s found run inputs o → Works w s found run inputs p → o ≡ p
  pub opens : (s : ServerNow) (o p : Option Archives) → Opens v s o → Opens w s p → o ≡ p

pub calm_agrees : Agrees calm calm
calm_agrees = record {
  stores = λ s job bytes o p a b. a ∙ sym b;
  works = λ s found run inputs o p a b. a ∙ sym b;
  opens = λ s o p a b. a ∙ sym b;
}

module _ (v w : Weather) (agrees : Agrees v w) where
  one_ready : (s : ServerNow) (root : ℕ) (json : Bool) (job : JobId) (archive : List ℕ)
      (r : Result UpdateJobStateResult CallFault) (x y : Effect) → ReadyEnds v s root json job archive r x
      → ReadyEnds w s root json job archive r y → x ≡ y
  one_ready s root json job archive (Ok u) x y a b = a.2
      ∙ ap (submission s.setup.addr root json job) (agrees.stores s job archive a.0 b.0 a.1 b.1) ∙ sym b.2
  one_ready s root json job archive (Err f) x y a b = a ∙ sym b

  one_start : (setup : Setup) (s : ServerNow) (root : ℕ) (job : JobId) (run : RunJobHttpRequest)
      (inputs : List ℕ) (r : Result UpdateJobStateResult CallFault) (x y : Effect)
      → StartedEnds v setup s root job run inputs r x → StartedEnds w setup s root job run inputs r y
      → x ≡ y
  one_start setup s root job run inputs (Ok u) x y a b = a.2
      ∙ ap (running setup s.setup.addr job)
      (agrees.works s (held_for job s.held) run inputs a.0 b.0 a.1 b.1) ∙ sym b.2
  one_start setup s root job run inputs (Err f) x y a b = a ∙ sym b

  one_restart : (s : ServerNow) (x y : Effect) → IsRestarted v s x → IsRestarted w s y → x ≡ y
  one_restart s x y a b = a.2 ∙ ap (opened_effect s) (agrees.opens s a.0 b.0 a.1 b.1) ∙ sym b.2

  one_end : (setup : Setup) (s : ServerNow) (bytes : List ℕ) (root : ℕ) (json : Bool)
      (reply : Option (List ℕ)) (t : Told) (x y : Effect) → Reports v setup s bytes root json reply t x
      → Reports w setup s bytes root json reply t y → x ≡ y
  one_end setup s bytes root json reply (told.Ready job at) x y a b =
      one_ready s root json job (drop at bytes) a.0 x y a.2
      (subst (λ (r : Result UpdateJobStateResult CallFault). ReadyEnds w s root json job (drop at bytes) r y)
      (one_update reply b.0 a.0 b.1 a.1) b.2)
  one_end setup s bytes root json reply (told.Started job run at) x y a b =
      one_start setup s root job run (drop at bytes) a.0 x y a.2
      (subst (λ (r : Result UpdateJobStateResult CallFault).
      StartedEnds w setup s root job run (drop at bytes) r y) (one_update reply b.0 a.0 b.1 a.1) b.2)
  one_end setup s bytes root json reply (told.Complete job outcome) x y a b = a.2
      ∙ ap (complete_end s.setup.addr root json job outcome) (one_update reply a.0 b.0 a.1 b.1) ∙ sym b.2
  one_end setup s bytes root json reply told.Heartbeat x y a b =
      a.2 ∙ ap (λ (r : Result HeartbeatServerResult CallFault). step_effect s.setup.addr
      (kinds.Heard (heard_as r))) (one_hearing reply a.0 b.0 a.1 b.1) ∙ sym b.2

  one_life : (setup : Setup) (life : ℕ) (s : ServerNow) (bytes : List ℕ) (root : ℕ) (json : Bool)
      (reply : Option (List ℕ)) (t : Told) (over : Bool) (x y : Effect)
      → Lives v setup life s bytes root json reply t over x → Lives w setup life s bytes root json reply
      t over y
      → x ≡ y
  one_life setup life s bytes root json reply t true x y a b = a ∙ sym b
  one_life setup life s bytes root json reply t false x y a b =
      one_end setup s bytes root json reply t x y a b

  one_report_end : (setup : Setup) (life : ℕ) (bytes : List ℕ) (root : ℕ) (json : Bool)
      (reply : Option (List ℕ)) (t : Told) (o : Option ServerNow) (x y : Effect)
      → ReportsIn v setup life bytes root json reply t o x → ReportsIn w setup life bytes root json
      reply t o y
      → x ≡ y
  one_report_end setup life bytes root json reply t None x y a b = a ∙ sym b
  one_report_end setup life bytes root json reply t (Some s) x y a b =
      one_life setup life s bytes root json reply t (is_over life s) x y a b

  one_way : (setup : Setup) (log : List Entry) (at root : ℕ) (json : Bool) (reply : Option (List ℕ))
      (ask : Ask) (x y : Effect) → GoesOn v setup log at root json reply ask x
      → GoesOn w setup log at root json reply ask y → x ≡ y
  one_way setup log at root json reply (Assign t) x y a b =
      a.2 ∙ ap (assignment_end (core_of setup log) root json at t) (one_outcome reply a.0 b.0 a.1 b.1)
      ∙ sym b.2
  one_way setup log at root json reply (Report server life t) x y a b = one_report_end setup life
      (brought_at log root) root json reply t (server_now setup log server) x y a b

  one_settled : (setup : Setup) (log : List Entry) (at n : ℕ) (reply : Option (List ℕ)) (o : Option Entry)
      (x y : Effect) → IsSettled v setup log at n reply o x → IsSettled w setup log at n reply o y → x ≡ y
  one_settled setup log at n reply None x y p q = p ∙ sym q
  one_settled setup log at n reply (Some e) x y p q =
      let same : q.0 ≡ p.0 = one_call setup log n q.0 p.0 q.1 p.1 in
      one_way setup log at p.0.root p.0.json reply p.0.ask x y p.2
      (subst (λ (a : Pending). Follows w setup log at reply (Some a) y) same q.2)

  one_made : (setup : Setup) (log : List Entry) (at : ℕ) (way : Way) (x y : Effect) → IsMade v setup log at
      way x
      → IsMade w setup log at way y → x ≡ y
  one_made setup log at (to_scheduler peer bytes) x y p q = one_answer setup (core_of setup log)
      (length log) at peer bytes x y p q
  one_made setup log at (to_call n reply) x y p q =
      one_settled setup log at n reply (waiting_at log n) x y p q
  one_made setup log at (to_server s bytes) x y p q = one_served setup s (length log) bytes x y p q
  one_made setup log at (to_beat s) x y p q = p ∙ sym q
  one_made setup log at (to_restart s key nonce) x y p q = one_restart s x y p q
  one_made setup log at to_nothing x y p q = p ∙ sym q
  one_made setup log at to_nobody x y p q = p ∙ sym q

  -- an event makes one entry
  pub agreed_next : (setup : Setup) (log : List Entry) (event : Event) (a b : Entry)
      → IsNext v setup log event a → IsNext w setup log event b → a ≡ b
  agreed_next setup log event a b p q = p.2
      ∙ ap (entry_of event) (one_made setup log event.at (way_of setup log event.kind) p.0 q.0 p.1 q.1)
      ∙ sym q.2

-- ---- entries

pub one_next : (setup : Setup) (log : List Entry) (event : Event) (a b : Entry)
    → IsNext calm setup log event a
    → IsNext calm setup log event b → a ≡ b
one_next = agreed_next calm calm calm_agrees

pub one_run : (setup : Setup) (log : List Entry) (events : List Event) (xs ys : List Entry)
    → EachNext calm setup log events xs → EachNext calm setup log events ys → xs ≡ ys
one_run setup log [] [] [] p q = refl
one_run setup log (v ∷ vs) (x ∷ xs) (y ∷ ys) p q =
    let same : y ≡ x = one_next setup log v y x q.0 p.0 in
    let rest : EachNext calm setup (log ++ x ∷ []) vs ys =
    subst (λ (z : Entry). EachNext calm setup (log ++ z ∷ []) vs ys) same q.1 in
    ap (λ (z : Entry). z ∷ xs) (sym same) ∙ ap (λ (zs : List Entry). y ∷ zs)
    (one_run setup (log ++ x ∷ []) vs xs ys p.1 rest)
one_run setup log [] (x ∷ xs) ys p q = absurd p
one_run setup log [] [] (y ∷ ys) p q = absurd q
one_run setup log (v ∷ vs) [] ys p q = absurd p
one_run setup log (v ∷ vs) (x ∷ xs) [] p q = absurd q

pub one_text : (bytes a b : List ℕ) → IsRunText bytes a → IsRunText bytes b → a ≡ b
one_text bytes a b p q =
    let both = one_script bytes q.setup p.setup q.events p.events q.says p.says in
    let each : EachNext calm (site_of p.setup) [] p.events q.entries =
    subst (λ (s : Script). EachNext calm (site_of s) [] p.events q.entries) both.0
    (subst (λ (es : List Event). EachNext calm (site_of q.setup) [] es q.entries) both.1 q.each) in
    p.is ∙ ap (run_text (site_of p.setup))
    (one_run (site_of p.setup) [] p.events p.entries q.entries p.each each)
    ∙ ap (λ (s : Script). run_text (site_of s) q.entries) (sym both.0) ∙ sym q.is
