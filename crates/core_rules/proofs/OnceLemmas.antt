-- In each legal log a reservation is spent at most once and ends at most once, and a job's states leave none
-- out.
use Rattle.std.proofs.Common.{◌≡◌, ℕ, ◌+◌, ◌^◌, ◌<◌, ◌≤◌, List, [], ◌∷◌, ◌++◌, Bool, true, false, cond, not}
use Rattle.std.proofs.Common.{◌&&◌, ◌||◌, map, filter, length, Option, Some, None, refl, ap, ◌∙◌, sym, subst, arith}
use Rattle.std.proofs.Common.{append-nil}
use Rattle.std.specs.Prelude.{◌==◌, option_to_list, count_by, if◌then◌else◌, unwrap_or}
use Rattle.std.specs.List.{AllByRecursion, list_any, filter_map, cons_option}
use Rattle.std.proofs.lemmas.Bool.{false≢true}
use Rattle.std.proofs.lemmas.List.Sums.{sum_by-cons, sum_by_push}
use Rattle.std.proofs.lemmas.List.Elements.{filter_map-append}
use Rattle.core_rules.specs.declared.start.Start.{Start}
use Rattle.core_rules.specs.Cuts.{Cut, cuts}
use Rattle.dist_types.specs.declared.ids.JobId.{JobId}
use Rattle.dist_types.specs.declared.results.JobState.{JobState}
use Rattle.core_rules.proofs.Lists.{followed, cuts_behind-push, end_cut, cons_nil}
use Rattle.core_rules.specs.declared.entry.CoreEntry.{CoreEntry}
use Rattle.core_rules.specs.declared.entry.CoreKind.{CoreKind}
use Rattle.core_rules.specs.declared.entry.CoreKind.TheVariants.{Beat, Reserve, Commit, Undo, Update}
use Rattle.core_rules.specs.declared.entry.CoreKind.TheVariants.{Status, Drain}
use Rattle.core_rules.specs.declared.entry.Reserved.TheVariants.{Job, NoRoom, Spent}
use Rattle.core_rules.specs.declared.rows.ServerRow.{ServerRow}
use Rattle.dist_types.specs.declared.rules.Rules.{Rules}
use Rattle.core_rules.specs.Log.{same_job, names_job, is_this, latest}
use Rattle.core_rules.specs.Reservation.{Booking, booked_by, bookings, unspent, unended, is_unended}
use Rattle.core_rules.specs.Reservation.{is_unspent, spends_by, frees_by, ends_job_by, is_complete}
use Rattle.core_rules.specs.Reservation.{is_accepted, completes_by, reaps_by}
use Rattle.core_rules.specs.Job.{Committed, committed_by, commits, moves_by, moves_of, state_now, is_open}
use Rattle.core_rules.specs.Job.{open_jobs, is_unclosed, closes_by, drops_by, ends_place_by}
use Rattle.core_rules.specs.Rows.{held_of, held_rows}
use Rattle.core_rules.specs.Reap.{reap, is_reaped}
use Rattle.core_rules.specs.Advance.{follows}
use Rattle.core_rules.specs.Rule.{reaped_by}
use Rattle.core_rules.specs.Laws.{IsRule, IsLegal, AreDistinct, IsSpentOnce, IsEndedOnce, IsChain, HasOrder}
use Rattle.core_rules.proofs.LegalLemmas.{core_of, legal_has}
use Rattle.core_rules.proofs.Lists.{list_any-map}
use Rattle.core_rules.proofs.AllLemmas.{and_left, and_right, or_left, or_right, not_true, true_false}
use Rattle.core_rules.proofs.AllLemmas.{is_false, same_job-trans, all-weaker, all-both}
use Rattle.core_rules.proofs.AllLemmas.{all-append, all-map, any-weaker, any-all}
use Rattle.core_rules.proofs.AllLemmas.{found}
use Rattle.core_rules.proofs.AllLemmas.{each_own}
use Rattle.core_rules.proofs.StepLemmas.{bare, bare_commit, held, begun, booked, committed, grown}
use Rattle.core_rules.proofs.StepLemmas.{grown_commit, bookings-push, commits-push, complete-on, or_none}
use Rattle.core_rules.proofs.FactLemmas.{Facts, facts}
use Rattle.core_rules.proofs.SoundLemmas.{jobs}
use Rattle.core_rules.proofs.MovedLemmas.{accepted_job, moved_on}
use Rattle.core_rules.proofs.HeldLemmas.{Sound, IsHeldAt, sound-step, no_sound}

-- spent at most once

-- what an entry spends was unspent
spent_of : (start : Start) (log : List CoreEntry) (k : CoreKind) → Facts (core_of start log) k
    → (x : JobId) → spends_by k x ≡ true → list_any (λ b. same_job b.job x) (unspent log) ≡ true
spent_of start log (Commit job state is_kept) is x t =
    any-weaker (λ b. (b.number == is.0.number) && same_job b.job job) (λ b. same_job b.job x)
    (λ b h. same_job-trans b.job job x (and_right (b.number == is.0.number) (same_job b.job job) h) t)
    (unspent log) is.0.unspent
spent_of start log (Undo job noted was_ended) is x t =
    any-weaker (λ b. (b.number == is.number) && same_job b.job job) (λ b. same_job b.job x)
    (λ b h. same_job-trans b.job job x (and_right (b.number == is.number) (same_job b.job job) h) t)
    (unspent log) is.unspent
spent_of start log (Reserve r) is x t = absurd (false≢true t)
spent_of start log (Beat server nonce cpus key pruned reaped replaced is_new) is x t =
    absurd (false≢true t)
spent_of start log (Update server job state answer) is x t = absurd (false≢true t)
spent_of start log (Status pruned servers cpus n) is x t = absurd (false≢true t)
spent_of start log (Drain addr nonce on named) is x t = absurd (false≢true t)

count_none : {X : Type 0} (p : X → Bool) (xs : List X) → list_any p xs ≡ false → count_by p xs ≡ 0
count_none p [] e = refl
count_none p (x ∷ xs) e = sum_by-cons (λ y. cond (p y) 1 0) x xs ∙ ap (λ b. cond b 1 0 + count_by p xs)
    (or_left (p x) (list_any p xs) e)
    ∙ (let rest : count_by p xs ≡ 0 = count_none p xs (or_right (p x) (list_any p xs) e)
    in omega (arith, rest))

one_more : (b : Bool) (n : ℕ) → n ≤ 1 → (b ≡ true → n ≡ 0) → n + cond b 1 0 ≤ 1
one_more true n le none = let e : n ≡ 0 = none refl in omega (arith, e)
one_more false n le none = omega (arith, le)

spent-grown : (e : CoreEntry) (b : Booking) → IsSpentOnce b
    → (spends_by e.kind b.job ≡ true → is_unspent b ≡ true) → IsSpentOnce (grown e b)
spent-grown e b le none =
    subst (λ n. n ≤ 1) (sym (sum_by_push (λ d. cond (spends_by d.kind b.job) 1 0) b.later e))
    (one_more (spends_by e.kind b.job) (count_by (λ d. spends_by d.kind b.job) b.later) le
    (λ t. count_none (λ d. spends_by d.kind b.job) b.later
    (not_true (list_any (λ d. spends_by d.kind b.job) b.later) (none t))))

new_spent : (k : CoreKind) (number now : ℕ)
    → AllByRecursion IsSpentOnce (option_to_list (booked_by k number now []))
new_spent (Reserve (Job job reg forgiven)) number now = (omega arith, tt)
new_spent (Reserve (NoRoom n)) number now = tt
new_spent (Reserve Spent) number now = tt
new_spent (Beat server nonce cpus key pruned reaped replaced is_new) number now = tt
new_spent (Commit job state is_kept) number now = tt
new_spent (Undo job noted was_ended) number now = tt
new_spent (Update server job state answer) number now = tt
new_spent (Status pruned servers cpus n) number now = tt
new_spent (Drain addr nonce on named) number now = tt

spent-step : (start : Start) (log : List CoreEntry) (e : CoreEntry) → AreDistinct (jobs log)
    → Facts (core_of start log) e.kind → AllByRecursion IsSpentOnce (bookings log)
    → AllByRecursion IsSpentOnce (bookings (log ++ e ∷ []))
spent-step start log e distinct is old =
    subst (AllByRecursion IsSpentOnce) (sym (bookings-push log e))
    (all-append IsSpentOnce (map (grown e) (bookings log)) (option_to_list (booked log e))
    (all-map IsSpentOnce (grown e) (bookings log)
    (all-both IsSpentOnce (λ b. list_any (λ y. same_job y.job b.job) (unspent log) ≡ true
    → is_unspent b ≡ true) (λ b. IsSpentOnce (grown e b))
    (λ b le own. spent-grown e b le (λ t. own (spent_of start log e.kind is b.job t)))
    (bookings log) old (each_own (λ b. b.job) is_unspent (bookings log) distinct)))
    (new_spent e.kind (length log) e.now))

-- ended at most once

or_false : (b : Bool) → (b || false) ≡ true → b ≡ true
or_false true e = refl
or_false false e = e

-- what an entry reaps is unended
reaped_held : (rules : Rules) (log : List CoreEntry) (now nonce : ℕ) (there : Option ServerRow) (x : JobId)
    → names_job (reaped_by rules now nonce (held_rows log) there) x ≡ true
    → list_any (λ b. same_job b.job x) (unended log) ≡ true
reaped_held rules log now nonce None x t = absurd (false≢true t)
reaped_held rules log now nonce (Some row) x t = elim (row.nonce == nonce) as
    (λ b. names_job (if b then reap rules now row.reg (held_rows log) else []) x ≡ true
    → list_any (λ b. same_job b.job x) (unended log) ≡ true) [
      | true ↦ λ h. sym (list_any-map (λ r. same_job r.job x) held_of (unended log))
          ∙ any-all (λ r. same_job r.job x) (is_reaped rules now row.reg) (held_rows log)
          (sym (list_any-map (λ j. same_job j x) (λ r. r.job)
          (filter (is_reaped rules now row.reg) (held_rows log)))
          ∙ h)
      | false ↦ λ h. absurd (false≢true h)
    ] t

-- what an entry ends by its job is unended
ended_held : (start : Start) (log : List CoreEntry) (k : CoreKind) → Sound start log
    → Facts (core_of start log) k → (x : JobId) → ends_job_by k x ≡ true
    → list_any (λ b. same_job b.job x) (unended log) ≡ true
ended_held start log (Undo job noted was_ended) sound is x t =
    let h : (was_ended && same_job job x) ≡ true = or_false (was_ended && same_job job x)
    (or_false ((was_ended && same_job job x) || false) t) in
    any-weaker (λ b. (b.number == is.number) && same_job b.job job) (λ b. same_job b.job x)
    (λ b g. same_job-trans b.job job x (and_right (b.number == is.number) (same_job b.job job) g)
    (and_right was_ended (same_job job x) h)) (unended log)
    (sym is.says_held ∙ and_left was_ended (same_job job x) h)
ended_held start log (Beat server nonce cpus key pruned reaped replaced is_new) sound is x t =
    reaped_held start.rules log is.now nonce _ x (ap (λ js. names_job js x) (sym is.reaped_are)
    ∙ or_false (names_job reaped x) t)
ended_held start log (Update server job state answer) sound is x t =
    let accepted : is_accepted answer ≡ true = and_right (is_complete state) (is_accepted answer)
    (and_left (is_complete state && is_accepted answer) (same_job job x) t) in
    let same : same_job job x ≡ true = and_right (is_complete state && is_accepted answer) (same_job job x) t
    in
    let is_there : list_any (λ c. same_job c.job job) (open_jobs log) ≡ true =
    any-weaker (λ c. same_job c.job job && follows (state_now c) state) (λ c. same_job c.job job)
    (λ c h. and_left (same_job c.job job) (follows (state_now c) state) h) (open_jobs log)
    (accepted_job log server job state (ap is_accepted (sym is) ∙ accepted)) in
    let there : (c : Committed) × IsHeldAt log c × (same_job c.job job ≡ true) = found (IsHeldAt log)
    (λ c. same_job c.job job) (begun log) sound.begun_held
    (list_any-map (λ c. same_job c.job job) bare_commit (open_jobs log) ∙ is_there) in
    sym (list_any-map (λ b. same_job b.job x) bare (unended log))
    ∙ any-weaker (λ b. same_job b.job there.0.job && is_this there.0.reg b.reg) (λ b. same_job b.job x)
    (λ b h. same_job-trans b.job there.0.job x
    (and_left (same_job b.job there.0.job) (is_this there.0.reg b.reg) h)
    (same_job-trans there.0.job job x there.2 same)) (held log) there.1
ended_held start log (Reserve r) sound is x t = absurd (false≢true t)
ended_held start log (Commit job state is_kept) sound is x t = absurd (false≢true t)
ended_held start log (Status pruned servers cpus n) sound is x t = absurd (false≢true t)
ended_held start log (Drain addr nonce on named) sound is x t = absurd (false≢true t)

ended-grown : (e : CoreEntry) (b : Booking) → IsEndedOnce b
    → (ends_job_by e.kind b.job ≡ true → is_unended b ≡ true) → IsEndedOnce (grown e b)
ended-grown e b old unended_is =
    let P : Cut CoreEntry → Type 0 = λ c. list_any (λ d. frees_by d.kind b.job b.reg) c.before ≡ true
    → ends_job_by c.at.kind b.job ≡ false in
    subst (AllByRecursion P) (sym (cuts_behind-push [] b.later e))
    (all-append P (map (followed e) (cuts b.later)) (end_cut b.later e ∷ [])
    (all-map P (followed e) (cuts b.later) old) (
      (λ freed. is_false (ends_job_by e.kind b.job)
          (λ t. true_false (list_any (λ d. frees_by d.kind b.job b.reg) b.later) freed
          (not_true (list_any (λ d. frees_by d.kind b.job b.reg) b.later) (unended_is t)))),
      tt,
    ))

new_ended : (k : CoreKind) (number now : ℕ)
    → AllByRecursion IsEndedOnce (option_to_list (booked_by k number now []))
new_ended (Reserve (Job job reg forgiven)) number now = (tt, tt)
new_ended (Reserve (NoRoom n)) number now = tt
new_ended (Reserve Spent) number now = tt
new_ended (Beat server nonce cpus key pruned reaped replaced is_new) number now = tt
new_ended (Commit job state is_kept) number now = tt
new_ended (Undo job noted was_ended) number now = tt
new_ended (Update server job state answer) number now = tt
new_ended (Status pruned servers cpus n) number now = tt
new_ended (Drain addr nonce on named) number now = tt

ended-step : (start : Start) (log : List CoreEntry) (e : CoreEntry) → Sound start log
    → Facts (core_of start log) e.kind → AllByRecursion IsEndedOnce (bookings log)
    → AllByRecursion IsEndedOnce (bookings (log ++ e ∷ []))
ended-step start log e sound is old =
    subst (AllByRecursion IsEndedOnce) (sym (bookings-push log e))
    (all-append IsEndedOnce (map (grown e) (bookings log)) (option_to_list (booked log e))
    (all-map IsEndedOnce (grown e) (bookings log)
    (all-both IsEndedOnce (λ b. list_any (λ y. same_job y.job b.job) (unended log) ≡ true
    → is_unended b ≡ true) (λ b. IsEndedOnce (grown e b))
    (λ b h own. ended-grown e b h (λ t. own (ended_held start log e.kind sound is b.job t)))
    (bookings log) old (each_own (λ b. b.job) is_unended (bookings log) sound.ids.distinct)))
    (new_ended e.kind (length log) e.now))

-- the order of states

chain-push : (from : JobState) (states : List JobState) (to : JobState) → IsChain from states
    → follows (latest from states) to ≡ true → IsChain from (states ++ to ∷ [])
chain-push from [] to chain step = (step, tt)
chain-push from (s ∷ states) to chain step = (chain.0, chain-push s states to chain.1 step)

chain-option : (from : JobState) (states : List JobState) (o : Option JobState) → IsChain from states
    → ((to : JobState) → o ≡ Some to → follows (latest from states) to ≡ true)
    → IsChain from (states ++ option_to_list o)
chain-option from states None chain step = subst (IsChain from) (sym (append-nil states)) chain
chain-option from states (Some to) chain step = chain-push from states to chain (step to refl)

order-grown : (e : CoreEntry) (c : Committed) → HasOrder c
    → ((to : JobState) → moves_by e.kind c.job ≡ Some to → follows (state_now c) to ≡ true)
    → HasOrder (grown_commit e c)
order-grown e c order step = (
  order.0,
  subst (IsChain c.state) (sym (filter_map-append (λ d. moves_by d.kind c.job) c.later (e ∷ [])
      ∙ ap (λ ss. moves_of c ++ ss) (cons_nil (moves_by e.kind c.job))))
      (chain-option c.state (moves_of c) (moves_by e.kind c.job) order.1 step),
)

new_order : (start : Start) (log : List CoreEntry) (k : CoreKind) (before : List CoreEntry)
    → Facts (core_of start log) k → AllByRecursion HasOrder (option_to_list (committed_by k before []))
new_order start log (Commit job state true) before is = ((is.1, tt), tt)
new_order start log (Commit job state false) before is = tt
new_order start log (Reserve r) before is = tt
new_order start log (Undo job noted was_ended) before is = tt
new_order start log (Beat server nonce cpus key pruned reaped replaced is_new) before is = tt
new_order start log (Update server job state answer) before is = tt
new_order start log (Status pruned servers cpus n) before is = tt
new_order start log (Drain addr nonce on named) before is = tt

order-step : (start : Start) (log : List CoreEntry) (e : CoreEntry)
    → AreDistinct (map (λ c. c.job) (commits log)) → Facts (core_of start log) e.kind
    → AllByRecursion HasOrder (commits log) → AllByRecursion HasOrder (commits (log ++ e ∷ []))
order-step start log e distinct is old =
    subst (AllByRecursion HasOrder) (sym (commits-push log e))
    (all-append HasOrder (map (grown_commit e) (commits log)) (option_to_list (committed log e))
    (all-map HasOrder (grown_commit e) (commits log)
    (all-both HasOrder (λ c. (to : JobState) → moves_by e.kind c.job ≡ Some to
    → follows (state_now c) to ≡ true) (λ c. HasOrder (grown_commit e c)) (order-grown e)
    (commits log) old (moved_on start log e.kind distinct is)))
    (new_order start log e.kind log is))

-- a job whose states follow one another is complete where it was committed so, or an entry says so

first_on : (from : JobState) (o : Option JobState) (states : List JobState)
    → IsChain from (cons_option o states) → (to : JobState) → o ≡ Some to → follows from to ≡ true
first_on from None states chain to e = cc
first_on from (Some state) states chain to e = let same : state ≡ to = cc in subst
    (λ t. follows from t ≡ true) same chain.0

or_assoc : (a b c : Bool) → ((a || b) || c) ≡ (a || (b || c))
or_assoc true b c = refl
or_assoc false b c = refl

chain_complete : (job : JobId) (from : JobState) (later : List CoreEntry)
    → IsChain from (filter_map (λ e. moves_by e.kind job) later)
    → is_complete (latest from (filter_map (λ e. moves_by e.kind job) later))
    ≡ (is_complete from || list_any (λ e. completes_by e.kind job) later)
chain_complete job from [] chain = or_none (is_complete from)
chain_complete job from (e ∷ es) chain = by (moves_by e.kind job) refl chain (λ s on. chain_complete job s es on)
  where
    states : List JobState
    states = filter_map (λ d. moves_by d.kind job) es

    rest : Bool
    rest = list_any (λ d. completes_by d.kind job) es

    moved : (o : Option JobState) → moves_by e.kind job ≡ o → IsChain from (cons_option o states)
        → is_complete (unwrap_or o from) ≡ (is_complete from || completes_by e.kind job)
    moved o is chain = ap (λ x. is_complete (unwrap_or x from)) (sym is) ∙ complete-on e.kind job from
        (λ to h. first_on from o states chain to (sym is ∙ h))

    by : (o : Option JobState) → moves_by e.kind job ≡ o → IsChain from (cons_option o states)
        → ((s : JobState) → IsChain s states → is_complete (latest s states) ≡ (is_complete s || rest))
        → is_complete (latest from (cons_option o states))
        ≡ (is_complete from || (completes_by e.kind job || rest))
    by None is chain later_is = later_is from chain ∙ ap (λ b. b || rest) (moved None is chain)
        ∙ or_assoc (is_complete from) (completes_by e.kind job) rest
    by (Some to) is chain later_is = later_is to chain.1 ∙ ap (λ b. b || rest) (moved (Some to) is chain)
        ∙ or_assoc (is_complete from) (completes_by e.kind job) rest

mixed : (completes reaps ends any_completes any_drops : Bool)
    → (((completes || reaps) || ends) || (any_completes || any_drops))
    ≡ ((completes || any_completes) || ((reaps || ends) || any_drops))
mixed true reaps ends any_completes any_drops = refl
mixed false true ends true any_drops = refl
mixed false true ends false any_drops = refl
mixed false false true true any_drops = refl
mixed false false true false any_drops = refl
mixed false false false any_completes any_drops = refl

any_closes : (job : JobId) (reg : Option ℕ) (es : List CoreEntry)
    → list_any (λ e. closes_by e.kind job reg) es
    ≡ (list_any (λ e. completes_by e.kind job) es || list_any (λ e. drops_by e.kind job reg) es)
any_closes job reg [] = refl
any_closes job reg (e ∷ es) = ap (λ b. closes_by e.kind job reg || b) (any_closes job reg es)
    ∙ mixed (completes_by e.kind job) (reaps_by e.kind job) (ends_place_by e.kind reg)
    (list_any (λ d. completes_by d.kind job) es) (list_any (λ d. drops_by d.kind job reg) es)

neither_over : (was completes drops : Bool)
    → (not (was || completes) && not drops) ≡ (not was && not (completes || drops))
neither_over true completes drops = refl
neither_over false true drops = refl
neither_over false false drops = refl

unclosed_is : (c : Committed) → HasOrder c → is_open c ≡ is_unclosed c
unclosed_is c order =
    ap (λ b. not b && not (list_any (λ e. drops_by e.kind c.job c.reg) c.later))
    (chain_complete c.job c.state c.later order.1)
    ∙ neither_over (is_complete c.state) (list_any (λ e. completes_by e.kind c.job) c.later)
    (list_any (λ e. drops_by e.kind c.job c.reg) c.later)
    ∙ ap (λ b. not (is_complete c.state) && not b) (sym (any_closes c.job c.reg c.later))

-- all of it, by induction over legal logs
pub record Once (start : Start) (log : List CoreEntry) : Type 0 where
  pub sound : Sound start log
  pub spent : AllByRecursion IsSpentOnce (bookings log)
  pub ended : AllByRecursion IsEndedOnce (bookings log)
  pub order : AllByRecursion HasOrder (commits log)

once-step : (start : Start) (log : List CoreEntry) (e : CoreEntry) → Once start log
    → IsRule (core_of start log) e → Once start (log ++ e ∷ [])
once-step start log e once rule_is =
    let is : Facts (core_of start log) e.kind = facts (core_of start log) e rule_is in
    record {
      sound = sound-step start log e once.sound rule_is;
      spent = spent-step start log e once.sound.ids.distinct is once.spent;
      ended = ended-step start log e once.sound is once.ended;
      order = order-step start log e once.sound.committed is once.order;
    }

pub legal_all : (start : Start) (log : List CoreEntry) → start.count < 2 ^ 64 → IsLegal start log
    → Once start log
legal_all start log fits legal = legal_has start (Once start)
    (record { sound = no_sound start fits; spent = tt; ended = tt; order = tt })
    (once-step start) log legal

pub legal_unclosed : (start : Start) (log : List CoreEntry) → start.count < 2 ^ 64 → IsLegal start log
    → AllByRecursion (λ c. is_open c ≡ is_unclosed c) (commits log)
legal_unclosed start log fits legal = all-weaker HasOrder (λ c. is_open c ≡ is_unclosed c) unclosed_is
    (commits log) (legal_all start log fits legal).order
