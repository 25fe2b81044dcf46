-- What is kept of the reservations, behind each call.
use Rattle.std.proofs.Common.{◌≡◌, ◌<◌, ◌+◌, ◌%◌, ◌^◌, ℕ, ◌≤◌, Bool, true, false, cond, ◌&&◌, List, [], ◌∷◌, ◌++◌}
use Rattle.std.proofs.Common.{length, Option, Some, None, Result, Ok, Err, refl, sym, ap, subst, ◌∙◌, arith}
use Rattle.std.specs.Option.{option_map}
use Rattle.std.proofs.lemmas.Bool.{le-leb}
use Rattle.dist_types.specs.Addr.{◌>>=◌}
use Rattle.dist_types.specs.declared.addr.Addr.{Addr}
use Rattle.dist_types.specs.declared.ids.JobId.{JobId}
use Rattle.dist_types.specs.declared.results.JobState.{JobState}
use Rattle.dist_types.specs.declared.rules.Rules.{Rules}
use Rattle.dist_types.specs.declared.results.UpdateJobStateResult.{UpdateJobStateResult}
use Rattle.core_rules.specs.declared.error.SchedError.{SchedError}
use Rattle.core_rules.specs.declared.entry.CoreEntry.{CoreEntry}
use Rattle.core_rules.specs.declared.entry.CoreKind.{CoreKind}
use Rattle.core_rules.specs.declared.entry.CoreKind.TheVariants as core
use Rattle.core_rules.specs.declared.entry.Reserved.{Reserved}
use Rattle.core_rules.specs.declared.entry.Reserved.TheVariants as reserve
use Rattle.core_rules.specs.declared.entry.UpdateAnswer.{UpdateAnswer}
use Rattle.core_rules.specs.declared.entry.UpdateAnswer.TheVariants.{Accepted, Unknown, Wrong, Transition}
use Rattle.sched_core.specs.declared.answers.Picked.{Picked}
use Rattle.sched_core.specs.declared.answers.Picked.TheVariants as picked
use Rattle.core_rules.specs.declared.call.Call.{Call}
use Rattle.core_rules.specs.declared.call.Call.TheVariants as call
use Rattle.core_rules.specs.Log.{Core, logged, same_job}
use Rattle.core_rules.specs.Laws.{IsLegal}
use Rattle.core_rules.specs.Reservation.{unspent, spends_by, claims_by, is_started, is_accepted}
use Rattle.core_rules.specs.Rule.{rule, is_among, is_initial}
use Rattle.core_rules.specs.Calls.{number_of}
use Rattle.core_rules.specs.Advance.{advance}
use Rattle.core_rules.specs.Rows.{open_rows}
use Rattle.core_rules.specs.Answers.{verdict, Leaves}
use Rattle.core_rules.specs.declared.error.SchedError.TheVariants as error
use Rattle.std.specs.Prelude.{OnOk, IfErr, IsErrOf}
use Rattle.std.proofs.lemmas.Option.{same_Some}
use Rattle.core_rules.specs.Ticket.{Ticket}
use Rattle.sched_core.specs.Picked.{IsPicked}
use Rattle.core_rules.proofs.StepLemmas.{booked}
use Rattle.core_rules.proofs.FactLemmas.{Facts, JobFacts, facts}
use Rattle.audit.specs.declared.tokens.EmptyTokens.{EmptyTokens}
use Rattle.audit.specs.declared.kept.Kept.{Kept}
use Rattle.audit.specs.Replay.{checked, due_by, is_begun, IsCalled}
use Rattle.audit.specs.Kept.{IsKeptOf, IsTakenBy, ReservesJob, accepted_of}
use Rattle.audit.proofs.RuleLemmas.{among}
use Rattle.audit.proofs.KeptLemmas.{kept_quiet, fresh_begun, follows_on}

-- an entry that spends nothing, makes nothing and begins nothing
quiet : (k : Kept) (s : Core) (e : CoreEntry) → booked s.log e ≡ None → ((j : JobId) → claims_by e.kind j ≡ false)
    → ((j : JobId) → spends_by e.kind j ≡ false) → IsKeptOf k s → IsKeptOf k (logged s e)
quiet k s e no_booking no_claim no_spend kept = kept_quiet k.rows.first k.rows.rows k.held.items
    (record { core = s; built = k.built.items }) e no_booking no_claim no_spend kept

pub kept_beat : (k : Kept) (s new : Core) (now : ℕ) (server : Addr) (nonce cpus : ℕ) (key : List ℕ)
    → new ≡ logged s (rule s (call.Beat now server nonce cpus key)) → IsKeptOf k s → IsKeptOf k new
kept_beat k s new now server nonce cpus key is kept = subst (IsKeptOf k) (sym is)
    (quiet k s (rule s (call.Beat now server nonce cpus key)) refl (λ j. refl) (λ j. refl) kept)

pub kept_status : (k : Kept) (s new : Core) (now : ℕ) → new ≡ logged s (rule s (call.Status now))
    → IsKeptOf k s → IsKeptOf k new
kept_status k s new now is kept = subst (IsKeptOf k) (sym is)
    (quiet k s (rule s (call.Status now)) refl (λ j. refl) (λ j. refl) kept)

pub kept_drain : (k : Kept) (s new : Core) (now : ℕ) (server : Addr) (nonce : ℕ) (on : Bool)
    → new ≡ logged s (rule s (call.Drain now server nonce on)) → IsKeptOf k s → IsKeptOf k new
kept_drain k s new now server nonce on is kept = subst (IsKeptOf k) (sym is)
    (quiet k s (rule s (call.Drain now server nonce on)) refl (λ j. refl) (λ j. refl) kept)

-- ---- update

-- What an update did that was answered so.
pub record IsTold (s new : Core) (made : CoreEntry) (answer : UpdateAnswer) (accepted : Bool) : Type 0 where
  pub is_logged : new ≡ logged s made
  pub says : is_accepted answer ≡ accepted

refused_is : (state : JobState) (answer : UpdateAnswer) (e : SchedError) → Err e ≡ verdict answer state
    → is_accepted answer ≡ false
refused_is state Accepted e is = let clash : Err e ≡ Ok _ = is in absurd cc
refused_is state Unknown e is = refl
refused_is state Wrong e is = refl
refused_is state (Transition from) e is = refl

accepted_is : (state : JobState) (answer : UpdateAnswer) (r : UpdateJobStateResult) → Ok r ≡ verdict answer state
    → is_accepted answer ≡ true
accepted_is state Accepted r is = refl
accepted_is state Unknown r is = let clash : Ok r ≡ Err _ = is in absurd cc
accepted_is state Wrong r is = let clash : Ok r ≡ Err _ = is in absurd cc
accepted_is state (Transition from) r is = let clash : Ok r ≡ Err _ = is in absurd cc

abbrev gives : UpdateJobStateResult → Result UpdateJobStateResult SchedError
gives r = Ok r

abbrev fails : SchedError → Result UpdateJobStateResult SchedError
fails e = Err e

fails_is : (a b : SchedError) → fails a ≡ fails b → a ≡ b
fails_is a b e = cc

pub update_told : (s new : Core) (made : CoreEntry) (state : JobState) (answer : UpdateAnswer)
    (given : Result UpdateJobStateResult SchedError) (accepted : Bool) → OnOk given (new ≡ logged s made)
    → IfErr given (λ e. Leaves e s new made) → ((IsErrOf given error.Memory → ⊥) → given ≡ verdict answer state)
    → Some accepted ≡ accepted_of given → IsTold s new made answer accepted
update_told s new made state answer (Ok r) accepted on err says is = record {
  is_logged = on;
  says = accepted_is state answer r (says (λ h. let clash : gives r ≡ fails error.Memory = h in absurd cc)) ∙ sym (same_Some accepted true is);
}
update_told s new made state answer (Err error.Memory) accepted on err says is = absurd cc
update_told s new made state answer (Err error.IdsSpent) accepted on err says is = record {
  is_logged = err;
  says = refused_is state answer error.IdsSpent (says (λ h. let clash : error.IdsSpent ≡ error.Memory = fails_is error.IdsSpent error.Memory h in absurd cc))
      ∙ sym (same_Some accepted false is);
}
update_told s new made state answer (Err (error.BadCpus n)) accepted on err says is = record {
  is_logged = err;
  says = refused_is state answer (error.BadCpus n)
      (says (λ h. let clash : error.BadCpus n ≡ error.Memory = fails_is (error.BadCpus n) error.Memory h in absurd cc)) ∙ sym (same_Some accepted false is);
}
update_told s new made state answer (Err error.UnknownJob) accepted on err says is = record {
  is_logged = err;
  says = refused_is state answer error.UnknownJob
      (says (λ h. let clash : error.UnknownJob ≡ error.Memory = fails_is error.UnknownJob error.Memory h in absurd cc)) ∙ sym (same_Some accepted false is);
}
update_told s new made state answer (Err error.WrongServer) accepted on err says is = record {
  is_logged = err;
  says = refused_is state answer error.WrongServer
      (says (λ h. let clash : error.WrongServer ≡ error.Memory = fails_is error.WrongServer error.Memory h in absurd cc)) ∙ sym (same_Some accepted false is);
}
update_told s new made state answer (Err (error.BadTransition a b)) accepted on err says is = record {
  is_logged = err;
  says = refused_is state answer (error.BadTransition a b)
      (says (λ h. let clash : error.BadTransition a b ≡ error.Memory = fails_is (error.BadTransition a b) error.Memory h in absurd cc))
      ∙ sym (same_Some accepted false is);
}

-- ---- reserve

-- what a reserve picks, under empty tokens
abbrev pub IsReserved : List CoreEntry → CoreKind → Picked → Type 0
IsReserved log kind p = IsPicked (λ (a : EmptyTokens). a.key.items) (λ a job. []) log kind p

abbrev entry_of : ℕ → Reserved → CoreEntry
entry_of now x = record { now = now; kind = core.Reserve x }

no_room : (k : Kept) (s : Core) (now n : ℕ) (x : Reserved) → IsReserved s.log (core.Reserve x) (picked.NoRoom n)
    → IsKeptOf k s → IsKeptOf k (logged s (entry_of now x))
no_room k s now n (reserve.Job job reg forgiven) is kept = absurd is
no_room k s now n (reserve.NoRoom m) is kept =
    quiet k s (entry_of now (reserve.NoRoom m)) refl (λ j. refl) (λ j. refl) kept
no_room k s now n reserve.Spent is kept = absurd is

pub kept_no_room : (k : Kept) (s new : Core) (now n : ℕ) → new ≡ logged s (rule s (call.Reserve now))
    → IsReserved s.log (rule s (call.Reserve now)).kind (picked.NoRoom n) → IsKeptOf k s → IsKeptOf k new
kept_no_room k s new now n is made kept = subst (IsKeptOf k) (sym is) (no_room k s now n _ made kept)

refused : (k : Kept) (s : Core) (now : ℕ) (x : Reserved) → core.Reserve x ≡ core.Reserve reserve.Spent
    → IsKeptOf k s → IsKeptOf k (logged s (entry_of now x))
refused k s now (reserve.Job job reg forgiven) is kept = absurd cc
refused k s now (reserve.NoRoom n) is kept = absurd cc
refused k s now reserve.Spent is kept = quiet k s (entry_of now reserve.Spent) refl (λ j. refl) (λ j. refl) kept

pub kept_refused : (k : Kept) (s new : Core) (now : ℕ) → new ≡ logged s (rule s (call.Reserve now))
    → (rule s (call.Reserve now)).kind ≡ core.Reserve reserve.Spent → IsKeptOf k s → IsKeptOf k new
kept_refused k s new now is made kept = subst (IsKeptOf k) (sym is) (refused k s now _ made kept)

-- A ticket is of a job that is new.
pub record IsNew (s : Core) (kind : CoreKind) (t : Ticket) : Type 0 where
  pub reserves : ReservesJob kind t.job
  pub number : t.number ≡ length s.log
  pub fresh : is_begun s.log t.job ≡ false
  pub reg : ℕ
  pub id_facts : JobFacts s t.job reg

new_ticket : (s : Core) (x : Reserved) (t : Ticket) → s.start.count < 2 ^ 64 → IsLegal s.start s.log
    → Facts s (core.Reserve x) → IsReserved s.log (core.Reserve x) (picked.Reserved t) → IsNew s (core.Reserve x) t
new_ticket s (reserve.Job job reg forgiven) t fits legal known is =
    let mine : JobFacts s t.job reg = subst (λ (j : JobId). JobFacts s j reg) (sym is.job) known in
    record {
      reserves = sym is.job;
      number = is.number;
      fresh = fresh_begun s t.job reg fits legal mine;
      reg = reg;
      id_facts = mine;
    }
new_ticket s (reserve.NoRoom n) t fits legal known is = absurd is
new_ticket s reserve.Spent t fits legal known is = absurd is

pub picked_ticket : (s : Core) (now : ℕ) (t : Ticket) → s.start.count < 2 ^ 64 → IsLegal s.start s.log
    → IsReserved s.log (rule s (call.Reserve now)).kind (picked.Reserved t)
    → IsNew s (rule s (call.Reserve now)).kind t
picked_ticket s now t fits legal is =
    new_ticket s _ t fits legal (facts s (rule s (call.Reserve now)) (call.Reserve now, tt, refl)) is

pub picked_follows : (k : Kept) (s : Core) (kind : CoreKind) (t : Ticket) → IsNew s kind t → IsKeptOf k s
    → t.job.0 ≡ (k.rows.first + length k.rows.rows) % 2 ^ 64
picked_follows k s kind t is kept = follows_on k.rows.first k.rows.rows k.held.items
    (record { core = s; built = k.built.items }) t.job is.reg kept is.id_facts

-- ---- commit and undo

-- what a spending call leaves
abbrev Spends : Core → Core → Ticket → Call → Type 0
Spends s new t c = new ≡ cond (is_among (unspent s.log) t.number t.job) (logged s (rule s c)) s

spends_is : (s new : Core) (job : JobId) (t : Ticket) (c : Call) → number_of s.log job ≡ Some t.number → t.job ≡ job
    → Spends s new t c → new ≡ logged s (rule s c)
spends_is s new job t c number_is one is =
    is ∙ ap (λ (b : Bool). cond b (logged s (rule s c)) s)
    (subst (λ (j : JobId). is_among (unspent s.log) t.number j ≡ true) (sym one)
    (among (unspent s.log) job t.number number_is))

pub commit_called : (k : Kept) (s new : Core) (now : ℕ) (job : JobId) (state : JobState) (kept : Bool) (t : Ticket)
    → is_initial state ≡ true → IsTakenBy k job s (Some t) → Spends s new t (call.Commit now t.number t.job state)
    → IsCalled true (due_by s now (core.Commit job state kept)) s new
commit_called k s new now job state kept t begins taken is = (
  call.Commit now t.number job state,
  ap (λ (o : Option ℕ). option_map (λ n. call.Commit now n job state) o >>= checked s.start.rules) taken.0
      ∙ ap (λ (b : Bool). cond b (Some (call.Commit now t.number job state)) None) begins,
  subst (λ (j : JobId). new ≡ logged s (rule s (call.Commit now t.number j state))) taken.1
      (spends_is s new job t (call.Commit now t.number t.job state) taken.0 taken.1 is),
)

pub commit_kept : (k : Kept) (s new : Core) (now : ℕ) (job : JobId) (state : JobState) (t : Ticket)
    → IsTakenBy k job s (Some t) → Spends s new t (call.Commit now t.number t.job state) → IsKeptOf k new
commit_kept k s new now job state t taken is =
    let c = call.Commit now t.number t.job state in
    subst (IsKeptOf k) (sym (spends_is s new job t c taken.0 taken.1 is)) (taken.2 (rule s c) taken.1)

pub undo_called : (k : Kept) (s new : Core) (now : ℕ) (job : JobId) (noted : Option ℕ) (ended : Bool) (t : Ticket)
    → IsTakenBy k job s (Some t) → Spends s new t (call.Undo now t.number t.job)
    → IsCalled true (due_by s now (core.Undo job noted ended)) s new
undo_called k s new now job noted ended t taken is = (
  call.Undo now t.number job,
  ap (λ (o : Option ℕ). option_map (λ n. call.Undo now n job) o >>= checked s.start.rules) taken.0,
  subst (λ (j : JobId). new ≡ logged s (rule s (call.Undo now t.number j))) taken.1
      (spends_is s new job t (call.Undo now t.number t.job) taken.0 taken.1 is),
)

pub undo_kept : (k : Kept) (s new : Core) (now : ℕ) (job : JobId) (t : Ticket)
    → IsTakenBy k job s (Some t) → Spends s new t (call.Undo now t.number t.job) → IsKeptOf k new
undo_kept k s new now job t taken is =
    let c = call.Undo now t.number t.job in
    subst (IsKeptOf k) (sym (spends_is s new job t c taken.0 taken.1 is)) (taken.2 (rule s c) taken.1)

pub none_committed : (s : Core) (now : ℕ) (job : JobId) (state : JobState) (kept : Bool)
    → number_of s.log job ≡ None → due_by s now (core.Commit job state kept) ≡ None
none_committed s now job state kept e =
    ap (λ (o : Option ℕ). option_map (λ n. call.Commit now n job state) o >>= checked s.start.rules) e

pub none_undone : (s : Core) (now : ℕ) (job : JobId) (noted : Option ℕ) (ended : Bool)
    → number_of s.log job ≡ None → due_by s now (core.Undo job noted ended) ≡ None
none_undone s now job noted ended e =
    ap (λ (o : Option ℕ). option_map (λ n. call.Undo now n job) o >>= checked s.start.rules) e

-- a commit to another state is none
unfit : (rules : Rules) (o : Option ℕ) (now : ℕ) (job : JobId) (state : JobState) → is_initial state ≡ false
    → (option_map (λ n. call.Commit now n job state) o >>= checked rules) ≡ None
unfit rules None now job state off = refl
unfit rules (Some n) now job state off = ap (λ (b : Bool). cond b (Some (call.Commit now n job state)) None) off

pub none_begun : (s : Core) (now : ℕ) (job : JobId) (state : JobState) (kept : Bool)
    → is_initial state ≡ false → due_by s now (core.Commit job state kept) ≡ None
none_begun s now job state kept off = unfit s.start.rules (number_of s.log job) now job state off

-- ---- beat

pub beat_checked : (rules : Rules) (now : ℕ) (server : Addr) (nonce cpus : ℕ) (key : List ℕ) → 1 ≤ cpus
    → cpus ≤ 4294967295
    → checked rules (call.Beat now server nonce cpus key) ≡ Some (call.Beat now server nonce cpus key)
beat_checked rules now server nonce cpus key low high = rw (le-leb 1 cpus low, le-leb cpus 4294967295 high) refl
