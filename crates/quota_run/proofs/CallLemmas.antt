-- What the other calls of the scheduler leave is what their outcomes say.
use Rattle.std.proofs.Common.{◌≡◌, ℕ, zero, suc, ◌<◌, ◌⊎◌, inl, inr, List, Bool, true, false, cond, length}
use Rattle.std.proofs.Common.{Option, Some, None, Result, Ok, Err, refl, sym, ap, subst, ◌∙◌, ◌&&◌, arith}
use Rattle.std.specs.Prelude.{nat_eq, nat_le, OnOk, OnErr, IfErr, if◌then◌else◌, ◌↔◌}
use Rattle.std.proofs.lemmas.Bool.{leb-false, lt-leb}
use Rattle.dist_types.specs.declared.addr.Addr.{Addr}
use Rattle.dist_types.specs.declared.fault.Memory.{Memory}
use Rattle.dist_types.specs.declared.ids.JobId.{JobId}
use Rattle.dist_types.specs.declared.results.HeartbeatServerResult.{HeartbeatServerResult}
use Rattle.dist_types.specs.declared.results.JobState.{JobState}
use Rattle.dist_types.specs.declared.results.UpdateJobStateResult.{UpdateJobStateResult}
use Rattle.core_rules.specs.declared.call.Call.{Call}
use Rattle.core_rules.specs.declared.call.Call.TheVariants as core_call
use Rattle.core_rules.specs.declared.entry.CoreEntry.{CoreEntry}
use Rattle.core_rules.specs.declared.error.SchedError.{SchedError}
use Rattle.core_rules.specs.declared.error.SchedError.TheVariants as error
use Rattle.core_rules.specs.Calls.{number_of}
use Rattle.core_rules.specs.Log.{logged}
use Rattle.core_rules.specs.Reservation.{unspent, spends_by}
use Rattle.core_rules.specs.Rule.{rule, is_among}
use Rattle.core_rules.specs.Ticket.{Ticket}
use Rattle.core_rules.proofs.StepLemmas.{booked}
use Rattle.quota.specs.Calls.{Outcome, spent_by, state_if, made, unchanged}
use Rattle.quota.specs.Quota.{Quota, over_core, LeavesOver}
use Rattle.quota.specs.declared.call.QuotaAnswer.{QuotaAnswer}
use Rattle.quota.specs.declared.call.QuotaAnswer.TheVariants as answer
use Rattle.quota.specs.declared.call.QuotaCall.TheVariants as call
use Rattle.quota_run.specs.Answers.{answered, heard_of, updated_of}
use Rattle.quota_run.specs.Hand.{InHand, of_job, IsOf, AreUnspent}
use Rattle.quota_run.specs.Run.{IsMade, IsStep}
use Rattle.quota_run.proofs.AllocLemmas.{IsOutcome, IsSo, step_of}
use Rattle.quota_run.proofs.NumberLemmas.{among}
use Rattle.quota_run.proofs.UnspentLemmas.{quiet, spent, none_spent}

-- ---- commit and undo

-- what was in hand of a job is its unspent reservation
held_one : (log : List CoreEntry) (hand : InHand) (job : JobId) (t : Ticket) → AreUnspent log hand
    → Some t ≡ of_job hand job.0 → (number_of log job ≡ Some t.number) × (t.job ≡ job)
held_one log hand job t are is = subst (IsOf (number_of log job) job) (sym is) (are job)

held_none : (log : List CoreEntry) (hand : InHand) (job : JobId) → AreUnspent log hand
    → None ≡ of_job hand job.0 → number_of log job ≡ None
held_none log hand job are is = subst (IsOf (number_of log job) job) (sym is) (are job)

-- a call that spends a reservation, by its number and its job
abbrev pub Spends : Quota → Quota → (ℕ → JobId → Call) → Ticket → Type 0
Spends q new asked t = new ≡ over_core q (cond (is_among (unspent q.core.log) t.number t.job)
    (logged q.core (rule q.core (asked t.number t.job))) q.core)

spends_is : (q new : Quota) (asked : ℕ → JobId → Call) (job : JobId) (t : Ticket)
    → number_of q.core.log job ≡ Some t.number → t.job ≡ job → Spends q new asked t
    → new ≡ over_core q (logged q.core (rule q.core (asked t.number job)))
spends_is q new asked job t number one is =
    subst (λ j. new ≡ over_core q (logged q.core (rule q.core (asked t.number j)))) one
    (is ∙ ap (λ b. over_core q (cond b (logged q.core (rule q.core (asked t.number t.job))) q.core))
    (subst (λ j. is_among (unspent q.core.log) t.number j ≡ true) (sym one) (among q.core.log job t.number number)))

spent_made : (q new : Quota) (asked : ℕ → JobId → Call) (job : JobId) (t : Ticket) (hand : InHand)
    → AreUnspent q.core.log hand → Some t ≡ of_job hand job.0 → Spends q new asked t
    → IsOutcome (spent_by q (λ n. asked n job) (number_of q.core.log job)) new (answer.Logged (length q.core.log))
spent_made q new asked job t hand are held is =
    let one = held_one q.core.log hand job t are held in
    subst (λ o. IsOutcome (spent_by q (λ n. asked n job) o) new (answer.Logged (length q.core.log))) (sym one.0)
    (spends_is q new asked job t one.0 one.1 is, refl)

none_made : (q : Quota) (asked : ℕ → Call) (job : JobId) (hand : InHand) → AreUnspent q.core.log hand
    → None ≡ of_job hand job.0 → IsOutcome (spent_by q asked (number_of q.core.log job)) q answer.NoReservation
none_made q asked job hand are held =
    subst (λ o. IsOutcome (spent_by q asked o) q answer.NoReservation) (sym (held_none q.core.log hand job are held))
    (refl, refl)

-- the call of a commit, and of an undo
abbrev pub commits : ℕ → Bool → ℕ → JobId → Call
commits now is_ready number job = core_call.Commit now number job (state_if is_ready)

abbrev pub undoes : ℕ → ℕ → JobId → Call
undoes now number job = core_call.Undo now number job

-- what is in hand once the reservation of a job is given out
abbrev pub IsGivenOut : InHand → InHand → JobId → Type 0
IsGivenOut hand after job = (other : ℕ) → of_job after other ≡ cond (nat_eq job.0 other) None (of_job hand other)

pub commit_made : (q new : Quota) (now : ℕ) (is_ready : Bool) (job : JobId) (t : Ticket) (hand : InHand)
    (a : QuotaAnswer) → AreUnspent q.core.log hand → Some t ≡ of_job hand job.0
    → Spends q new (commits now is_ready) t → a ≡ answer.Logged (length q.core.log)
    → IsMade q (call.Commit now job is_ready) new a
commit_made q new now is_ready job t hand a are held is told =
    let so = spent_made q new (commits now is_ready) job t hand are held is in
    record { left = so.0; told = told ∙ so.1 }

pub undo_made : (q new : Quota) (now : ℕ) (job : JobId) (t : Ticket) (hand : InHand) (a : QuotaAnswer)
    → AreUnspent q.core.log hand → Some t ≡ of_job hand job.0 → Spends q new (undoes now) t
    → a ≡ answer.Logged (length q.core.log) → IsMade q (call.Undo now job) new a
undo_made q new now job t hand a are held is told =
    let so = spent_made q new (undoes now) job t hand are held is in
    record { left = so.0; told = told ∙ so.1 }

pub none_committed : (q : Quota) (now : ℕ) (is_ready : Bool) (job : JobId) (hand : InHand) → AreUnspent q.core.log hand
    → None ≡ of_job hand job.0 → IsMade q (call.Commit now job is_ready) q answer.NoReservation
none_committed q now is_ready job hand are held =
    let so = none_made q (λ n. commits now is_ready n job) job hand are held in
    record { left = so.0; told = so.1 }

pub none_undone : (q : Quota) (now : ℕ) (job : JobId) (hand : InHand) → AreUnspent q.core.log hand
    → None ≡ of_job hand job.0 → IsMade q (call.Undo now job) q answer.NoReservation
none_undone q now job hand are held =
    let so = none_made q (λ n. undoes now n job) job hand are held in
    record { left = so.0; told = so.1 }

pub none_kept : (q : Quota) (job : JobId) (hand after : InHand) → AreUnspent q.core.log hand
    → None ≡ of_job hand job.0 → IsGivenOut hand after job → AreUnspent q.core.log after
none_kept q job hand after are held left =
    none_spent q.core.log hand after job (held_none q.core.log hand job are held) are left

pub commit_kept : (q new : Quota) (now : ℕ) (is_ready : Bool) (job : JobId) (t : Ticket) (hand after : InHand)
    → AreUnspent q.core.log hand → Some t ≡ of_job hand job.0 → Spends q new (commits now is_ready) t
    → IsGivenOut hand after job → AreUnspent new.core.log after
commit_kept q new now is_ready job t hand after are held is left =
    let one = held_one q.core.log hand job t are held in
    subst (λ s. AreUnspent s.core.log after) (sym (spends_is q new (commits now is_ready) job t one.0 one.1 is))
    (spent q.core.log (rule q.core (commits now is_ready t.number job)) hand after job refl (λ j. refl) are left)

pub undo_kept : (q new : Quota) (now : ℕ) (job : JobId) (t : Ticket) (hand after : InHand)
    → AreUnspent q.core.log hand → Some t ≡ of_job hand job.0 → Spends q new (undoes now) t
    → IsGivenOut hand after job → AreUnspent new.core.log after
undo_kept q new now job t hand after are held is left =
    let one = held_one q.core.log hand job t are held in
    subst (λ s. AreUnspent s.core.log after) (sym (spends_is q new (undoes now) job t one.0 one.1 is))
    (spent q.core.log (rule q.core (undoes now t.number job)) hand after job refl (λ j. refl) are left)

-- ---- heartbeats, reports and status requests

-- a call that was logged
logged_kept : (q new : Quota) (asked : Call) (hand : InHand) → booked q.core.log (rule q.core asked) ≡ None
    → ((job : JobId) → spends_by (rule q.core asked).kind job ≡ false)
    → new ≡ over_core q (logged q.core (rule q.core asked)) → AreUnspent q.core.log hand → AreUnspent new.core.log hand
logged_kept q new asked hand none off is are =
    subst (λ s. AreUnspent s.core.log hand) (sym is) (quiet q.core.log (rule q.core asked) hand none off are)

pub same_kept : (q new : Quota) (hand : InHand) → new ≡ q → AreUnspent q.core.log hand → AreUnspent new.core.log hand
same_kept q new hand is are = subst (λ s. AreUnspent s.core.log hand) (sym is) are

-- too few processors, or too many
abbrev IsBad : ℕ → Type 0
IsBad cpus = (cpus ≡ 0) ⊎ (4294967295 < cpus)

fits : (cpus : ℕ) → (IsBad cpus → ⊥) → (nat_le 1 cpus && nat_le cpus 4294967295) ≡ true
fits zero good = absurd (good (inl refl))
fits (suc n) good = by (nat_le 1 (suc n)) (nat_le (suc n) 4294967295) refl refl
  where
    by : (low high : Bool) → nat_le 1 (suc n) ≡ low → nat_le (suc n) 4294967295 ≡ high → (low && high) ≡ true
    by true true is was = refl
    by true false is was = absurd (good (inr (leb-false (suc n) 4294967295 was)))
    by false high is was = let less = leb-false 1 (suc n) is in absurd (omega (arith, less))

unfit : (cpus : ℕ) → IsBad cpus → (nat_le 1 cpus && nat_le cpus 4294967295) ≡ false
unfit cpus (inl none) = ap (λ n. nat_le 1 n && nat_le n 4294967295) none
unfit cpus (inr many) = ap (λ b. nat_le 1 cpus && b) (lt-leb cpus 4294967295 many) ∙ and_false (nat_le 1 cpus)
  where
    and_false : (b : Bool) → (b && false) ≡ false
    and_false true = refl
    and_false false = refl

-- what a heartbeat answers
abbrev Heard : Type 0
Heard = Result HeartbeatServerResult SchedError

abbrev says : HeartbeatServerResult → Heard
says x = Ok x

abbrev fails : SchedError → Heard
fails e = Err e

error_is : (a b : SchedError) → fails a ≡ fails b → a ≡ b
error_is a b e = cc

not_both : (x : HeartbeatServerResult) (e : SchedError) → says x ≡ fails e → ⊥
not_both x e is = absurd cc

abbrev beat_call : ℕ → Addr → ℕ → ℕ → List ℕ → Call
beat_call now server nonce cpus key = core_call.Beat now server nonce cpus key

-- what a heartbeat leaves, by whether its processors fit
abbrev beat_by : Quota → Call → Bool → Outcome
beat_by q asked good = if good then made q asked else unchanged q answer.BadCpus

beat_so : (q new : Quota) (asked : Call) (cpus : ℕ) (r : Heard)
    → OnOk r (new ≡ over_core q (logged q.core (rule q.core asked))) → OnErr r (new ≡ q)
    → IfErr r (λ e. (e ≡ error.BadCpus cpus) ⊎ (e ≡ error.Memory))
    → ((r ≡ Err (error.BadCpus cpus)) ↔ IsBad cpus)
    → IsSo (beat_by q asked (nat_le 1 cpus && nat_le cpus 4294967295)) q new (heard_of (length q.core.log) r)
beat_so q new asked cpus (Ok x) on err errors bad =
    subst (λ b. IsOutcome (beat_by q asked b) new (answer.Logged (length q.core.log)))
    (sym (fits cpus (λ b. not_both x (error.BadCpus cpus) (bad.1 b)))) (on, refl)
beat_so q new asked cpus (Err (error.BadCpus n)) on err (inl is) bad =
    subst (λ b. IsOutcome (beat_by q asked b) new answer.BadCpus)
    (sym (unfit cpus (bad.0 (ap (λ e. fails e) is)))) (err, refl)
beat_so q new asked cpus (Err (error.BadCpus n)) on err (inr is) bad = absurd cc
beat_so q new asked cpus (Err error.Memory) on err errors bad = err
beat_so q new asked cpus (Err error.IdsSpent) on err errors bad = err
beat_so q new asked cpus (Err error.UnknownJob) on err errors bad = err
beat_so q new asked cpus (Err error.WrongServer) on err errors bad = err
beat_so q new asked cpus (Err (error.BadTransition a b)) on err errors bad = err

pub beat_step : (q new : Quota) (now : ℕ) (server : Addr) (nonce cpus : ℕ) (key told : List ℕ) (r : Heard)
    (a : Result QuotaAnswer Memory) → told ≡ key
    → OnOk r (new ≡ over_core q (logged q.core (rule q.core (beat_call now server nonce cpus told))))
    → OnErr r (new ≡ q) → IfErr r (λ e. (e ≡ error.BadCpus cpus) ⊎ (e ≡ error.Memory))
    → ((r ≡ Err (error.BadCpus cpus)) ↔ IsBad cpus) → answered a ≡ heard_of (length q.core.log) r
    → IsStep q (call.Beat now server nonce cpus key) new a
beat_step q new now server nonce cpus key told r a same on err errors bad is =
    step_of q new (call.Beat now server nonce cpus key) a (heard_of (length q.core.log) r) is
    (subst (λ k. IsSo (beat_by q (beat_call now server nonce cpus k) (nat_le 1 cpus && nat_le cpus 4294967295)) q new
    (heard_of (length q.core.log) r)) same
    (beat_so q new (beat_call now server nonce cpus told) cpus r on err errors bad))

pub beat_kept : (q new : Quota) (now : ℕ) (server : Addr) (nonce cpus : ℕ) (told : List ℕ) (r : Heard) (hand : InHand)
    → OnOk r (new ≡ over_core q (logged q.core (rule q.core (beat_call now server nonce cpus told))))
    → OnErr r (new ≡ q) → AreUnspent q.core.log hand → AreUnspent new.core.log hand
beat_kept q new now server nonce cpus told (Ok x) hand on err are =
    logged_kept q new (beat_call now server nonce cpus told) hand refl (λ j. refl) on are
beat_kept q new now server nonce cpus told (Err e) hand on err are = same_kept q new hand err are

updated_so : (q new : Quota) (asked : Call) (r : Result UpdateJobStateResult SchedError)
    → OnOk r (new ≡ over_core q (logged q.core (rule q.core asked)))
    → IfErr r (λ e. LeavesOver e q new (rule q.core asked))
    → IsSo (made q asked) q new (updated_of (length q.core.log) r)
updated_so q new asked (Ok x) on err = (on, refl)
updated_so q new asked (Err error.Memory) on err = err
updated_so q new asked (Err error.IdsSpent) on err = (err, refl)
updated_so q new asked (Err (error.BadCpus n)) on err = (err, refl)
updated_so q new asked (Err error.UnknownJob) on err = (err, refl)
updated_so q new asked (Err error.WrongServer) on err = (err, refl)
updated_so q new asked (Err (error.BadTransition a b)) on err = (err, refl)

pub update_step : (q new : Quota) (now : ℕ) (server : Addr) (job : JobId) (state : JobState)
    (r : Result UpdateJobStateResult SchedError) (told : Result QuotaAnswer Memory)
    → OnOk r (new ≡ over_core q (logged q.core (rule q.core (core_call.Update now server job state))))
    → IfErr r (λ e. LeavesOver e q new (rule q.core (core_call.Update now server job state)))
    → answered told ≡ updated_of (length q.core.log) r → IsStep q (call.Update now server job state) new told
update_step q new now server job state r told on err says =
    step_of q new (call.Update now server job state) told (updated_of (length q.core.log) r) says
    (updated_so q new (core_call.Update now server job state) r on err)

update_in : (q new : Quota) (now : ℕ) (server : Addr) (job : JobId) (state : JobState) (o : Option QuotaAnswer)
    (hand : InHand) → IsSo (made q (core_call.Update now server job state)) q new o → AreUnspent q.core.log hand
    → AreUnspent new.core.log hand
update_in q new now server job state None hand so are = same_kept q new hand so are
update_in q new now server job state (Some a) hand so are =
    logged_kept q new (core_call.Update now server job state) hand refl (λ j. refl) so.0 are

pub update_kept : (q new : Quota) (now : ℕ) (server : Addr) (job : JobId) (state : JobState)
    (r : Result UpdateJobStateResult SchedError) (hand : InHand)
    → OnOk r (new ≡ over_core q (logged q.core (rule q.core (core_call.Update now server job state))))
    → IfErr r (λ e. LeavesOver e q new (rule q.core (core_call.Update now server job state)))
    → AreUnspent q.core.log hand → AreUnspent new.core.log hand
update_kept q new now server job state r hand on err are =
    update_in q new now server job state (updated_of (length q.core.log) r) hand
    (updated_so q new (core_call.Update now server job state) r on err) are

pub status_kept : (q new : Quota) (now : ℕ) (hand : InHand)
    → new ≡ over_core q (logged q.core (rule q.core (core_call.Status now))) → AreUnspent q.core.log hand
    → AreUnspent new.core.log hand
status_kept q new now hand is are = logged_kept q new (core_call.Status now) hand refl (λ j. refl) is are
