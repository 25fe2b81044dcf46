-- A job is accepted as started at most once, and was ready before.
use Rattle.std.proofs.Common.{◌≡◌, ◌<◌, ◌^◌, Bool, true, false, cond, ◌&&◌, ◌||◌, List, [], ◌∷◌, ◌++◌, map}
use Rattle.std.proofs.Common.{Option, Some, None, refl, ap, ◌∙◌, sym, subst}
use Rattle.std.specs.Prelude.{option_to_list}
use Rattle.std.specs.List.{AllByRecursion, list_any}
use Rattle.std.proofs.lemmas.Bool.{false≢true}
use Rattle.std.proofs.lemmas.List.Elements.{filter_map-append}
use Rattle.dist_types.specs.declared.ids.JobId.{JobId}
use Rattle.dist_types.specs.declared.results.JobState.{JobState}
use Rattle.dist_types.specs.declared.results.JobState.TheVariants.{Pending, Ready, Started, Complete}
use Rattle.core_rules.specs.declared.start.Start.{Start}
use Rattle.core_rules.specs.declared.entry.CoreEntry.{CoreEntry}
use Rattle.core_rules.specs.declared.entry.CoreKind.{CoreKind}
use Rattle.core_rules.specs.declared.entry.CoreKind.TheVariants.{Beat, Reserve, Commit, Undo, Update}
use Rattle.core_rules.specs.declared.entry.CoreKind.TheVariants.{Status, Drain}
use Rattle.core_rules.specs.Log.{same_job, latest, newest}
use Rattle.core_rules.specs.Reservation.{is_accepted, is_started}
use Rattle.core_rules.specs.Job.{Committed, commits, moves_by, moves_of, state_now, state_of, is_open}
use Rattle.core_rules.specs.Job.{open_jobs}
use Rattle.core_rules.specs.Advance.{follows}
use Rattle.core_rules.specs.Laws.{IsRule, IsLegal, IsChain, HasOrder}
use Rattle.core_rules.proofs.LegalLemmas.{core_of, legal_has}
use Rattle.core_rules.proofs.Lists.{list_any-map, list_any-push, cons_nil}
use Rattle.core_rules.proofs.AllLemmas.{and_left, and_right, both, same_job-eq, all-both, all-filter}
use Rattle.core_rules.proofs.AllLemmas.{any-append, any-end, any-weaker, any-all, any-kept, found}
use Rattle.core_rules.proofs.AllLemmas.{each_same}
use Rattle.core_rules.proofs.AllLemmas.{only}
use Rattle.core_rules.proofs.StepLemmas.{committed, grown_commit, commits-push}
use Rattle.core_rules.proofs.FactLemmas.{Facts, facts}
use Rattle.core_rules.proofs.MovedLemmas.{accepted_job}
use Rattle.core_rules.proofs.OnceLemmas.{legal_all}

-- whether an entry accepts that the job is started
abbrev pub starts_by : CoreKind → JobId → Bool
starts_by (Update server job state answer) j = is_started state && is_accepted answer && same_job job j
starts_by other j = false

abbrev starts : JobId → CoreEntry → Bool
starts j e = starts_by e.kind j

is_start : (s : JobState) → is_started s ≡ true → s ≡ Started
is_start Started t = refl
is_start Pending t = absurd (false≢true t)
is_start Ready t = absurd (false≢true t)
is_start Complete t = absurd (false≢true t)

-- ---- a start

-- that a job is this one, and can be started
abbrev startable : JobId → Committed → Bool
startable j c = same_job c.job j && follows (state_now c) Started

-- what an entry starts is an open job that can be started
start_open : (start : Start) (log : List CoreEntry) (k : CoreKind) (j : JobId)
    → Facts (core_of start log) k → starts_by k j ≡ true → list_any (startable j) (open_jobs log) ≡ true
start_open start log (Update server job state answer) j is t =
    let front = and_left (is_started state && is_accepted answer) (same_job job j) t in
    let same : job ≡ j = same_job-eq job j
    (and_right (is_started state && is_accepted answer) (same_job job j) t) in
    let started : state ≡ Started = is_start state (and_left (is_started state) (is_accepted answer) front) in
    let accepted = and_right (is_started state) (is_accepted answer) front in
    subst (λ (s : JobState). list_any (λ c. same_job c.job j && follows (state_now c) s)
    (open_jobs log) ≡ true) started
    (subst (λ (i : JobId). list_any (λ c. same_job c.job i && follows (state_now c) state)
    (open_jobs log) ≡ true) same
    (accepted_job log server job state (ap is_accepted (sym is) ∙ accepted)))
start_open start log (Reserve r) j is t = absurd (false≢true t)
start_open start log (Commit job state kept) j is t = absurd (false≢true t)
start_open start log (Undo job noted ended) j is t = absurd (false≢true t)
start_open start log (Beat server nonce cpus key pruned reaped replaced is_new) j is t =
    absurd (false≢true t)
start_open start log (Status pruned servers cpus n) j is t = absurd (false≢true t)
start_open start log (Drain addr nonce on named) j is t = absurd (false≢true t)

-- an entry that starts a job moves it
start_moves : (k : CoreKind) (j : JobId) → starts_by k j ≡ true → moves_by k j ≡ Some Started
start_moves (Update server job state answer) j t =
    let front = and_left (is_started state && is_accepted answer) (same_job job j) t in
    let same = and_right (is_started state && is_accepted answer) (same_job job j) t in
    let started : state ≡ Started = is_start state (and_left (is_started state) (is_accepted answer) front) in
    let on : (is_accepted answer && same_job job j) ≡ true = both (is_accepted answer) (same_job job j)
    (and_right (is_started state) (is_accepted answer) front) same in
    ap (λ (b : Bool). cond b (Some state) None) on ∙ ap (λ (s : JobState). Some s) started
start_moves (Reserve r) j t = absurd (false≢true t)
start_moves (Commit job state kept) j t = absurd (false≢true t)
start_moves (Undo job noted ended) j t = absurd (false≢true t)
start_moves (Beat server nonce cpus key pruned reaped replaced is_new) j t = absurd (false≢true t)
start_moves (Status pruned servers cpus n) j t = absurd (false≢true t)
start_moves (Drain addr nonce on named) j t = absurd (false≢true t)

-- ---- what was started has started among its moves

abbrev has_started : JobId → Committed → Bool
has_started j c = same_job c.job j && list_any is_started (moves_of c)

abbrev AreMoved : List CoreEntry → Type 0
AreMoved log = (j : JobId) → list_any (starts j) log ≡ true → list_any (has_started j) (commits log) ≡ true

moves-push : (e : CoreEntry) (c : Committed) → moves_of (grown_commit e c) ≡ moves_of c ++ option_to_list
    (moves_by e.kind c.job)
moves-push e c = filter_map-append (λ d. moves_by d.kind c.job) c.later (e ∷ []) ∙ ap (λ ss. moves_of c ++ ss)
    (cons_nil (moves_by e.kind c.job))

grown_started : (e : CoreEntry) (j : JobId) (c : Committed) → has_started j c ≡ true
    → has_started j (grown_commit e c) ≡ true
grown_started e j c t =
    both (same_job c.job j) (list_any is_started (moves_of (grown_commit e c)))
    (and_left (same_job c.job j) (list_any is_started (moves_of c)) t)
    (ap (list_any is_started) (moves-push e c) ∙ any-append is_started (moves_of c)
    (option_to_list (moves_by e.kind c.job))
    (and_right (same_job c.job j) (list_any is_started (moves_of c)) t))

new_started : (e : CoreEntry) (j : JobId) → starts_by e.kind j ≡ true → (c : Committed) → startable j c ≡ true
    → has_started j (grown_commit e c) ≡ true
new_started e j on c t =
    let same = and_left (same_job c.job j) (follows (state_now c) Started) t in
    let moved : moves_by e.kind c.job ≡ Some Started = ap (moves_by e.kind) (same_job-eq c.job j same)
    ∙ start_moves e.kind j on in
    both (same_job c.job j) (list_any is_started (moves_of (grown_commit e c))) same
    (ap (list_any is_started)
    (moves-push e c ∙ ap (λ (o : Option JobState). moves_of c ++ option_to_list o) moved)
    ∙ any-end is_started (moves_of c) Started refl)

pushed : (log : List CoreEntry) (e : CoreEntry) (p q : Committed → Bool)
    → ((c : Committed) → p c ≡ true → q (grown_commit e c) ≡ true) → list_any p (commits log) ≡ true
    → list_any q (commits (log ++ e ∷ [])) ≡ true
pushed log e p q step any =
    ap (list_any q) (commits-push log e)
    ∙ any-append q (map (grown_commit e) (commits log)) (option_to_list (committed log e))
    (list_any-map q (grown_commit e) (commits log) ∙ any-weaker p (λ c. q (grown_commit e c)) step
    (commits log) any)

moved-step : (start : Start) (log : List CoreEntry) (e : CoreEntry) → AreMoved log
    → IsRule (core_of start log) e → AreMoved (log ++ e ∷ [])
moved-step start log e moved is = λ j t. by_test j (list_any (starts j) log) refl
    (sym (list_any-push (starts j) log e) ∙ t)
  where
    by_test : (j : JobId) (b : Bool) → list_any (starts j) log ≡ b
        → (list_any (starts j) log || starts j e) ≡ true
        → list_any (has_started j) (commits (log ++ e ∷ [])) ≡ true
    by_test j true on t = pushed log e (has_started j) (has_started j) (grown_started e j) (moved j on)
    by_test j false off t =
        let on : starts j e ≡ true = ap (λ (b : Bool). b || starts j e) (sym off) ∙ t in
        pushed log e (startable j) (has_started j) (new_started e j on)
        (any-all (startable j) is_open (commits log)
        (start_open start log e.kind j (facts (core_of start log) e is) on))

are_moved : (start : Start) (log : List CoreEntry) → IsLegal start log → AreMoved log
are_moved start log legal = legal_has start AreMoved (λ j t. absurd (false≢true t))
    (moved-step start) log legal

-- ---- the order of states

abbrev is_past : JobState → Bool
is_past Started = true
is_past Complete = true
is_past Pending = false
is_past Ready = false

past_follows : (from to : JobState) → follows from to ≡ true → is_past from ≡ true → is_past to ≡ true
past_follows Started Complete f p = refl
past_follows Started Pending f p = absurd (false≢true f)
past_follows Started Ready f p = absurd (false≢true f)
past_follows Started Started f p = absurd (false≢true f)
past_follows Complete to f p = absurd (false≢true f)
past_follows Pending to f p = absurd (false≢true p)
past_follows Ready to f p = absurd (false≢true p)

chain_past : (from : JobState) (states : List JobState) → IsChain from states → is_past from ≡ true
    → is_past (latest from states) ≡ true
chain_past from [] chain p = p
chain_past from (s ∷ states) chain p = chain_past s states chain.1 (past_follows from s chain.0 p)

chain_started : (from : JobState) (states : List JobState) → IsChain from states
    → list_any is_started states ≡ true → is_past (latest from states) ≡ true
chain_started from [] chain t = absurd (false≢true t)
chain_started from (s ∷ states) chain t = by_test (is_started s) refl (chain_started s states chain.1) t
  where
    by_test : (b : Bool) → is_started s ≡ b
        → (list_any is_started states ≡ true → is_past (latest s states) ≡ true)
        → (b || list_any is_started states) ≡ true → is_past (latest s states) ≡ true
    by_test true on rest t = chain_past s states chain.1 (ap is_past (is_start s on))
    by_test false off rest t = rest t

only_ready : (s : JobState) → follows s Started ≡ true → s ≡ Ready
only_ready Ready f = refl
only_ready Pending f = absurd (false≢true f)
only_ready Started f = absurd (false≢true f)
only_ready Complete f = absurd (false≢true f)

all_unit : (cs : List Committed) → AllByRecursion (λ c. Unit {0}) cs
all_unit [] = tt
all_unit (c ∷ cs) = (tt, all_unit cs)

-- ---- one more entry, which starts a job

module _ (start : Start) (log : List CoreEntry) (e : CoreEntry) (j : JobId) (fits : start.count < 2 ^ 64)
    (legal : IsLegal start log) (is : IsRule (core_of start log) e)
    (on : starts_by e.kind j ≡ true) where
  there : list_any (startable j) (commits log) ≡ true
  there = any-all (startable j) is_open (commits log)
      (start_open start log e.kind j (facts (core_of start log) e is) on)

  -- each commit of the job can be started
  each : AllByRecursion (λ c. same_job c.job j ≡ true → follows (state_now c) Started ≡ true) (commits log)
  each =
      each_same (λ c. c.job) (λ c. follows (state_now c) Started) j (commits log)
      (legal_all start log fits legal).sound.committed
      (any-kept (λ c. Unit {0}) (startable j) (λ c. same_job c.job j) (λ c. follows (state_now c) Started)
      (λ c u h. (
        and_left (same_job c.job j) (follows (state_now c) Started) h,
        and_right (same_job c.job j)
            (follows (state_now c) Started) h,
      )) (commits log) (all_unit (commits log)) there)

  -- it was not started before
  pub once : list_any (starts j) log ≡ true → ⊥
  once before =
      let c = found (λ c. HasOrder c × (same_job c.job j ≡ true → follows (state_now c) Started ≡ true))
      (has_started j) (commits log)
      (all-both HasOrder (λ c. same_job c.job j ≡ true → follows (state_now c) Started ≡ true)
      (λ c. HasOrder c × (same_job c.job j ≡ true → follows (state_now c) Started ≡ true))
      (λ c a b. (a, b)) (commits log) (legal_all start log fits legal).order each)
      (are_moved start log legal j before) in
      let same = and_left (same_job c.0.job j) (list_any is_started (moves_of c.0)) c.2 in
      let past = chain_started c.0.state (moves_of c.0) c.1.0.1
      (and_right (same_job c.0.job j) (list_any is_started (moves_of c.0)) c.2) in
      false≢true (sym (ap is_past (only_ready (state_now c.0) (c.1.1 same))) ∙ past)

  -- it was ready
  pub was_ready : state_of j log ≡ Some Ready
  was_ready =
      let one = only (λ c. c.job) j (commits log) (legal_all start log fits legal).sound.committed
      (any-weaker (startable j) (λ c. same_job c.job j)
      (λ c h. and_left (same_job c.job j) (follows (state_now c) Started) h) (commits log) there) in
      let all : AllByRecursion (λ c. follows (state_now c) Started ≡ true) (one.0 ∷ []) =
      subst (AllByRecursion (λ c. follows (state_now c) Started ≡ true)) one.1
      (all-filter (λ c. same_job c.job j ≡ true → follows (state_now c) Started ≡ true)
      (λ c. follows (state_now c) Started ≡ true) (λ c. same_job c.job j) (λ c h same. h same)
      (commits log) each) in
      ap (λ (cs : List Committed). newest None (map state_now cs)) one.1 ∙ ap (λ (s : JobState). Some s)
      (only_ready (state_now one.0) all.0)
