-- What holds of the reservations, the commits and the open jobs of each legal log.
use Rattle.std.proofs.Common.{◌≡◌, ℕ, ◌+◌, ◌-◌, ◌^◌, ◌%◌, ◌<◌, List, [], ◌∷◌, ◌++◌, false, map, length, refl}
use Rattle.std.proofs.Common.{ap, ◌∙◌, sym, subst, arith, eq-eqb, eqb-true, append-nil, length-append}
use Rattle.std.specs.Prelude.{◌==◌, option_to_list}
use Rattle.std.specs.List.{AllByRecursion}
use Rattle.std.specs.Option.{option_map}
use Rattle.std.proofs.lemmas.List.{length-map, map-append}
use Rattle.dist_types.specs.declared.ids.JobId.{JobId}
use Rattle.core_rules.specs.declared.start.Start.{Start}
use Rattle.core_rules.proofs.Lists.{map-map}
use Rattle.core_rules.specs.declared.entry.CoreEntry.{CoreEntry}
use Rattle.core_rules.specs.declared.entry.CoreKind.{CoreKind}
use Rattle.core_rules.specs.declared.entry.CoreKind.TheVariants.{Beat, Reserve, Commit, Undo, Update}
use Rattle.core_rules.specs.declared.entry.CoreKind.TheVariants.{Status, Drain}
use Rattle.core_rules.specs.declared.entry.Reserved.TheVariants.{Job, NoRoom, Spent}
use Rattle.core_rules.specs.Log.{same_job}
use Rattle.core_rules.specs.Reservation.{booked_by, bookings}
use Rattle.core_rules.specs.Laws.{IsRule, IsLegal, AreDistinct}
use Rattle.core_rules.proofs.LegalLemmas.{core_of, legal_has}
use Rattle.core_rules.proofs.AllLemmas.{true_false, is_false, all-weaker, all-append, distinct-push}
use Rattle.core_rules.proofs.StepLemmas.{bare, taken, booked, taken-push}
use Rattle.core_rules.proofs.FactLemmas.{Facts, JobFacts, facts}

-- ids

-- the id after so many others
abbrev IsId : Start → ℕ → JobId → Type 0
IsId start n job = job.0 ≡ (start.base + (start.count + n)) % 2 ^ 64

abbrev IsGiven : Start → ℕ → JobId → Type 0
IsGiven start n job = (k : ℕ) × (k < n) × IsId start k job

pub record HasIds (start : Start) (jobs : List JobId) : Type 0 where
  pub given : AllByRecursion (IsGiven start (length jobs)) jobs
  pub distinct : AreDistinct jobs
  pub fits : start.count + length jobs < 2 ^ 64

mod_apart : (a b : ℕ) → a < b → b < a + 2 ^ 64 → a % 2 ^ 64 ≡ b % 2 ^ 64 → ⊥
mod_apart a b less near same = omega (arith, less, near, same)

-- an id is none of those before it
fresh_id : (start : Start) (n : ℕ) (j : JobId) → IsId start n j → start.count + n < 2 ^ 64
    → (jobs : List JobId) → AllByRecursion (IsGiven start n) jobs
    → AllByRecursion (λ k. same_job k j ≡ false) jobs
fresh_id start n j id fits [] all = tt
fresh_id start n j id fits (k ∷ jobs) all = (
  is_false (same_job k j) (λ t. mod_apart (start.base + (start.count + all.0.0))
      (start.base + (start.count + n))
      (let lt = all.0.1 in omega (arith, lt)) (let lt = all.0.1 in omega (arith, lt, fits))
      (sym all.0.2 ∙ eqb-true k.0 j.0 t ∙ id)),
  fresh_id start n j id fits jobs all.1,
)

ids-push : (start : Start) (jobs : List JobId) (j : JobId) → HasIds start jobs
    → IsId start (length jobs) j → start.count + length jobs + 1 < 2 ^ 64 → HasIds start (jobs ++ j ∷ [])
ids-push start jobs j ids id fits =
    let longer : length (jobs ++ j ∷ []) ≡ length jobs + 1 = length-append jobs (j ∷ []) in
    let here : length jobs < length (jobs ++ j ∷ []) = omega (arith, longer) in
    record {
      given = all-append (IsGiven start (length (jobs ++ j ∷ []))) jobs (j ∷ [])
          (all-weaker (IsGiven start (length jobs)) (IsGiven start (length (jobs ++ j ∷ [])))
          (λ k g. (g.0, (let lt = g.1 in omega (arith, lt, here)), g.2)) jobs ids.given)
          ((length jobs, here, id), tt);
      distinct = distinct-push jobs j ids.distinct
          (fresh_id start (length jobs) j id (omega (arith, fits)) jobs ids.given);
      fits = omega (arith, longer, fits);
    }

-- the log's ids
abbrev pub jobs : List CoreEntry → List JobId
jobs log = map (λ b. b.job) (bookings log)

taken_jobs : (log : List CoreEntry) → map (λ b. b.job) (taken log) ≡ jobs log
taken_jobs log = map-map (λ b. b.job) bare (bookings log)

job_made : (k : CoreKind) (number now : ℕ) → map (λ b. b.job) (option_to_list (booked_by k number now []))
    ≡ option_to_list (option_map (λ b. b.job) (booked_by k number now []))
job_made (Beat server nonce cpus key pruned reaped replaced is_new) number now = refl
job_made (Reserve (Job job reg forgiven)) number now = refl
job_made (Reserve (NoRoom n)) number now = refl
job_made (Reserve Spent) number now = refl
job_made (Commit job state is_kept) number now = refl
job_made (Undo job noted was_ended) number now = refl
job_made (Update server job state answer) number now = refl
job_made (Status pruned servers cpus n) number now = refl
job_made (Drain addr nonce on named) number now = refl

pub jobs-push : (log : List CoreEntry) (e : CoreEntry) → jobs (log ++ e ∷ []) ≡ jobs log ++ option_to_list
    (option_map (λ b. b.job) (booked log e))
jobs-push log e =
    sym (taken_jobs (log ++ e ∷ [])) ∙ ap (map (λ b. b.job)) (taken-push log e) ∙ map-append (λ b. b.job)
    (taken log) (option_to_list (booked log e))
    ∙ ap (λ js. js ++ map (λ b. b.job) (option_to_list (booked log e))) (taken_jobs log)
    ∙ ap (λ js. jobs log ++ js) (job_made e.kind (length log) e.now)

id_fits : (n : ℕ) → n < 2 ^ 64 → (n == 2 ^ 64 - 1) ≡ false → n + 1 < 2 ^ 64
id_fits n lt other = let ne : n ≡ 2 ^ 64 - 1 → ⊥ = λ e. true_false (n == 2 ^ 64 - 1)
    (eq-eqb n (2 ^ 64 - 1) e) other in omega (arith, lt, ne)

jobs_length : (log : List CoreEntry) → length (jobs log) ≡ length (bookings log)
jobs_length log = length-map (bookings log) (λ b. b.job)

ids_made : (start : Start) (log : List CoreEntry) (k : CoreKind) (number now : ℕ)
    → HasIds start (jobs log) → Facts (core_of start log) k
    → HasIds start (jobs log ++ option_to_list (option_map (λ b. b.job) (booked_by k number now [])))
ids_made start log (Reserve (Job job reg forgiven)) number now ids is =
    let same = jobs_length log in
    ids-push start (jobs log) job ids (is.id ∙ ap (λ n. (start.base + (start.count + n)) % 2 ^ 64) (sym same))
    (let fits = ids.fits in let room = id_fits (start.count + length (bookings log))
    (omega (arith, fits, same)) is.left in omega (arith, room, same))
ids_made start log (Reserve (NoRoom n)) number now ids is = subst (HasIds start)
    (sym (append-nil (jobs log))) ids
ids_made start log (Reserve Spent) number now ids is = subst (HasIds start)
    (sym (append-nil (jobs log))) ids
ids_made start log (Beat server nonce cpus key pruned reaped replaced is_new) number now ids is =
    subst (HasIds start) (sym (append-nil (jobs log))) ids
ids_made start log (Commit job state is_kept) number now ids is = subst (HasIds start)
    (sym (append-nil (jobs log))) ids
ids_made start log (Undo job noted was_ended) number now ids is = subst (HasIds start)
    (sym (append-nil (jobs log))) ids
ids_made start log (Update server job state answer) number now ids is = subst (HasIds start)
    (sym (append-nil (jobs log))) ids
ids_made start log (Status pruned servers cpus n) number now ids is = subst (HasIds start)
    (sym (append-nil (jobs log))) ids
ids_made start log (Drain addr nonce on named) number now ids is = subst (HasIds start)
    (sym (append-nil (jobs log))) ids

pub ids-step : (start : Start) (log : List CoreEntry) (e : CoreEntry) → HasIds start (jobs log)
    → IsRule (core_of start log) e → HasIds start (jobs (log ++ e ∷ []))
ids-step start log e ids is = subst (HasIds start) (sym (jobs-push log e))
    (ids_made start log e.kind (length log) e.now ids (facts (core_of start log) e is))

-- the job of a reserve is none of those before it
pub fresh_job : (start : Start) (log : List CoreEntry) (job : JobId) (reg : ℕ) → HasIds start (jobs log)
    → JobFacts (core_of start log) job reg → AllByRecursion (λ k. same_job k job ≡ false) (jobs log)
fresh_job start log job reg ids is = fresh_id start (length (jobs log)) job
    (is.id ∙ ap (λ n. (start.base + (start.count + n)) % 2 ^ 64) (sym (jobs_length log))) ids.fits (jobs log)
    ids.given

pub no_ids : (start : Start) → start.count < 2 ^ 64 → HasIds start []
no_ids start fits = record { given = tt; distinct = tt; fits = omega (arith, fits) }

pub legal_ids : (start : Start) (log : List CoreEntry) → start.count < 2 ^ 64 → IsLegal start log
    → HasIds start (jobs log)
legal_ids start log fits legal = legal_has start (λ l. HasIds start (jobs l))
    (no_ids start fits) (λ l e ids is. ids-step start l e ids is) log legal

pub legal_distinct : (start : Start) (log : List CoreEntry) → start.count < 2 ^ 64 → IsLegal start log
    → AreDistinct (jobs log)
legal_distinct start log fits legal = (legal_ids start log fits legal).distinct

pub few_bookings : (start : Start) (log : List CoreEntry) → start.count < 2 ^ 64 → IsLegal start log
    → length (bookings log) < 2 ^ 64
few_bookings start log fits legal =
    let ids : HasIds start (jobs log) = legal_ids start log fits legal in
    let small = ids.fits in
    let same : length (jobs log) ≡ length (bookings log) = length-map (bookings log) (λ b. b.job) in
    omega (arith, small, same)
