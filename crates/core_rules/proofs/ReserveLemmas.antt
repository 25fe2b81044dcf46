-- A job has at most one entry that reserves it.
use Rattle.std.proofs.Common.{◌≡◌, ℕ, ◌<◌, ◌^◌, zero, suc, List, [], ◌∷◌, ◌++◌, length, map, Bool, true}
use Rattle.std.proofs.Common.{false, ◌||◌, Option, Some, None, refl, sym, ap, ◌∙◌, subst}
use Rattle.std.specs.Prelude.{slice_get}
use Rattle.std.specs.List.{AllByRecursion, list_any, filter_map, cons_option}
use Rattle.dist_types.specs.declared.ids.JobId.{JobId}
use Rattle.core_rules.specs.declared.start.Start.{Start}
use Rattle.core_rules.specs.declared.entry.CoreEntry.{CoreEntry}
use Rattle.core_rules.specs.declared.entry.CoreKind.{CoreKind}
use Rattle.core_rules.specs.declared.entry.CoreKind.TheVariants.{Reserve, Commit, Undo, Beat, Update, Status}
use Rattle.core_rules.specs.declared.entry.CoreKind.TheVariants.{Drain}
use Rattle.core_rules.specs.declared.entry.Reserved.TheVariants.{Job, NoRoom, Spent}
use Rattle.core_rules.specs.Cuts.{cuts_behind}
use Rattle.core_rules.specs.Laws.{IsLegal, AreDistinct, Reserves}
use Rattle.core_rules.specs.Log.{same_job}
use Rattle.core_rules.specs.Standing.{reserves_job}
use Rattle.core_rules.specs.Reservation.{Booking, booked_by, booked_at}
use Rattle.core_rules.proofs.AllLemmas.{same_job-eq, same_job-refl}
use Rattle.core_rules.proofs.SoundLemmas.{legal_distinct}

some_same : {A : Type 0} (x y : A) → Some x ≡ Some y → x ≡ y
some_same x y e = cc e

abbrev job_of : Booking → JobId
job_of b = b.job

-- the jobs that are reserved
abbrev jobs : List CoreEntry → List CoreEntry → List JobId
jobs front log = map job_of (filter_map booked_at (cuts_behind front log))

-- what an entry reserves stands first
first_job : (k : CoreKind) (number now : ℕ) (later : List CoreEntry) (rest : List Booking) (job : JobId)
    → reserves_job k job ≡ true
    → map job_of (cons_option (booked_by k number now later) rest) ≡ job ∷ map job_of rest
first_job (Reserve (Job j reg forgiven)) number now later rest job is =
    ap (λ x. x ∷ map job_of rest) (same_job-eq j job is)
first_job (Reserve (NoRoom n)) number now later rest job is = absurd (cc is)
first_job (Reserve Spent) number now later rest job is = absurd (cc is)
first_job (Commit j state kept) number now later rest job is = absurd (cc is)
first_job (Undo j noted was_ended) number now later rest job is = absurd (cc is)
first_job (Beat server nonce cpus key pruned reaped replaced is_new) number now later rest job is =
    absurd (cc is)
first_job (Update server j state answer) number now later rest job is = absurd (cc is)
first_job (Status pruned servers cpus n) number now later rest job is = absurd (cc is)
first_job (Drain addr nonce on named) number now later rest job is = absurd (cc is)

-- what follows is among the jobs
job_later : (o : Option Booking) (rest : List Booking) (job : JobId)
    → list_any (λ j. same_job j job) (map job_of rest) ≡ true
    → list_any (λ j. same_job j job) (map job_of (cons_option o rest)) ≡ true
job_later None rest job has = has
job_later (Some b) rest job has = ap (λ c. same_job b.job job || c) has ∙ or_true (same_job b.job job)
  where
    or_true : (c : Bool) → (c || true) ≡ true
    or_true true = refl
    or_true false = refl

distinct_later : (o : Option Booking) (rest : List Booking) → AreDistinct (map job_of (cons_option o rest))
    → AreDistinct (map job_of rest)
distinct_later None rest d = d
distinct_later (Some b) rest d = d.1

has_job : (front log : List CoreEntry) (k : ℕ) (e : CoreEntry) (job : JobId) → slice_get log k ≡ Some e
    → reserves_job e.kind job ≡ true → list_any (λ j. same_job j job) (jobs front log) ≡ true
has_job front [] k e job at is = absurd (cc at)
has_job front (x ∷ xs) zero e job at is =
    ap (list_any (λ j. same_job j job)) (first_job x.kind (length front) x.now xs
    (filter_map booked_at (cuts_behind (front ++ x ∷ []) xs)) job
    (ap (λ d. reserves_job d.kind job) (some_same x e at) ∙ is))
    ∙ ap (λ b. b || list_any (λ j. same_job j job) (jobs (front ++ x ∷ []) xs)) (same_job-refl job)
has_job front (x ∷ xs) (suc k) e job at is =
    job_later (booked_at (record { before = front; at = x; after = xs }))
    (filter_map booked_at (cuts_behind (front ++ x ∷ []) xs)) job
    (has_job (front ++ x ∷ []) xs k e job at is)

none_equal : (js : List JobId) (job : JobId) → AllByRecursion (λ k. same_job k job ≡ false) js
    → list_any (λ j. same_job j job) js ≡ true → ⊥
none_equal [] job apart has = absurd (cc has)
none_equal (j ∷ js) job apart has = none_equal js job apart.1
    (sym (ap (λ b. b || list_any (λ j. same_job j job) js) apart.0) ∙ has)

apart_first : (front xs : List CoreEntry) (x e d : CoreEntry) (k : ℕ) (job : JobId)
    → AreDistinct (jobs front (x ∷ xs)) → x ≡ e → reserves_job e.kind job ≡ true → slice_get xs k ≡ Some d
    → reserves_job d.kind job ≡ true → ⊥
apart_first front xs x e d k job distinct same is at that =
    let rest = filter_map booked_at (cuts_behind (front ++ x ∷ []) xs) in
    let now = subst AreDistinct (first_job x.kind (length front) x.now xs rest job
    (ap (λ y. reserves_job y.kind job) same ∙ is)) distinct in
    none_equal (map job_of rest) job now.0 (has_job (front ++ x ∷ []) xs k d job at that)

one_behind : (front log : List CoreEntry) (q p : ℕ) (e d : CoreEntry) (job : JobId)
    → AreDistinct (jobs front log) → slice_get log q ≡ Some e → reserves_job e.kind job ≡ true
    → slice_get log p ≡ Some d → reserves_job d.kind job ≡ true → q ≡ p
one_behind front [] q p e d job distinct at is there that = absurd (cc at)
one_behind front (x ∷ xs) zero zero e d job distinct at is there that = refl
one_behind front (x ∷ xs) zero (suc p) e d job distinct at is there that =
    absurd (apart_first front xs x e d p job distinct (some_same x e at) is there that)
one_behind front (x ∷ xs) (suc q) zero e d job distinct at is there that =
    absurd (apart_first front xs x d e q job distinct (some_same x d there) that at is)
one_behind front (x ∷ xs) (suc q) (suc p) e d job distinct at is there that =
    ap suc (one_behind (front ++ x ∷ []) xs q p e d job
    (distinct_later (booked_at (record { before = front; at = x; after = xs }))
    (filter_map booked_at (cuts_behind (front ++ x ∷ []) xs)) distinct) at is there that)

pub one_reserve : (start : Start) (log : List CoreEntry) (job : JobId) (place other : ℕ)
    → start.count < 2 ^ 64 → IsLegal start log → Reserves log place job → Reserves log other job
    → place ≡ other
one_reserve start log job place other fits legal one two = one_behind [] log place other one.0 two.0 job
    (legal_distinct start log fits legal) one.1 one.2 two.1 two.2
