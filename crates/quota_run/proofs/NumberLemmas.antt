-- The number of a job's unspent reservation, behind one more entry.
use Rattle.std.proofs.Common.{◌≡◌, ℕ, List, [], ◌∷◌, ◌++◌, Bool, true, false, cond, not, ◌&&◌, filter, map}
use Rattle.std.proofs.Common.{Option, Some, None, refl, sym, ap, ◌∙◌, inl, inr}
use Rattle.std.specs.Prelude.{option_to_list, find, ◌==◌}
use Rattle.std.specs.Option.{option_map}
use Rattle.std.proofs.lemmas.Bool.{cases_Bool}
use Rattle.std.proofs.lemmas.Option.{same_Some}
use Rattle.dist_types.specs.declared.ids.JobId.{JobId}
use Rattle.core_rules.specs.declared.entry.CoreEntry.{CoreEntry}
use Rattle.core_rules.specs.Calls.{number_of}
use Rattle.core_rules.specs.Log.{same_job}
use Rattle.core_rules.specs.Reservation.{Booking, unspent, spends_by}
use Rattle.core_rules.specs.Rule.{is_among}
use Rattle.core_rules.proofs.AllLemmas.{same_job-eq, or_true}
use Rattle.core_rules.proofs.StepLemmas.{bare, free, booked, free_stays, free-push}
use Rattle.std.proofs.lemmas.Cmp.{nat_eq_equiv}

-- of some reservations, the number of the first of a job
abbrev pub number_in : List Booking → JobId → Option ℕ
number_in bs job = option_map (λ b. b.number) (find (λ b. same_job b.job job) bs)

-- by whether the first is of the job
abbrev pub first_in : Bool → Booking → List Booking → JobId → Option ℕ
first_in is b bs job = option_map (λ b. b.number) (cond is (Some b) (find (λ b. same_job b.job job) bs))

number_bare : (bs : List Booking) (job : JobId) → number_in (map bare bs) job ≡ number_in bs job
number_bare [] job = refl
number_bare (b ∷ bs) job = elim (cases_Bool (same_job b.job job)) [
  | inl on ↦ ap (λ v. first_in v (bare b) (map bare bs) job) on ∙ sym (ap (λ v. first_in v b bs job) on)
  | inr off ↦ ap (λ v. first_in v (bare b) (map bare bs) job) off ∙ number_bare bs job
      ∙ sym (ap (λ v. first_in v b bs job) off)
]

number_kept : (q : Booking → Bool) (bs : List Booking) (job : JobId)
    → ((b : Booking) → same_job b.job job ≡ true → q b ≡ true) → number_in (filter q bs) job ≡ number_in bs job
number_kept q [] job keeps = refl
number_kept q (b ∷ bs) job keeps = elim (cases_Bool (same_job b.job job)) [
  | inl on ↦ ap (λ v. number_in (cond v (b ∷ filter q bs) (filter q bs)) job) (keeps b on)
      ∙ ap (λ v. first_in v b (filter q bs) job) on ∙ sym (ap (λ v. first_in v b bs job) on)
  | inr off ↦ elim (q b) as (λ v. number_in (cond v (b ∷ filter q bs) (filter q bs)) job ≡ number_in (b ∷ bs) job) [
    | true ↦ ap (λ v. first_in v b (filter q bs) job) off ∙ number_kept q bs job keeps
        ∙ sym (ap (λ v. first_in v b bs job) off)
    | false ↦ number_kept q bs job keeps ∙ sym (ap (λ v. first_in v b bs job) off)
  ]
]

number_dropped : (q : Booking → Bool) (bs : List Booking) (job : JobId)
    → ((b : Booking) → same_job b.job job ≡ true → q b ≡ false) → number_in (filter q bs) job ≡ None
number_dropped q [] job drops = refl
number_dropped q (b ∷ bs) job drops = elim (cases_Bool (same_job b.job job)) [
  | inl on ↦ ap (λ v. number_in (cond v (b ∷ filter q bs) (filter q bs)) job) (drops b on)
      ∙ number_dropped q bs job drops
  | inr off ↦ elim (q b) as (λ v. number_in (cond v (b ∷ filter q bs) (filter q bs)) job ≡ None) [
    | true ↦ ap (λ v. first_in v b (filter q bs) job) off ∙ number_dropped q bs job drops
    | false ↦ number_dropped q bs job drops
  ]
]

-- the first of two, if it is there
abbrev pub either : Option ℕ → Option ℕ → Option ℕ
either None o = o
either (Some n) o = Some n

number_append : (xs ys : List Booking) (job : JobId)
    → number_in (xs ++ ys) job ≡ either (number_in xs job) (number_in ys job)
number_append [] ys job = refl
number_append (b ∷ bs) ys job = elim (cases_Bool (same_job b.job job)) [
  | inl on ↦ ap (λ v. first_in v b (bs ++ ys) job) on
      ∙ sym (ap (λ v. either (first_in v b bs job) (number_in ys job)) on)
  | inr off ↦ ap (λ v. first_in v b (bs ++ ys) job) off ∙ number_append bs ys job
      ∙ sym (ap (λ v. either (first_in v b bs job) (number_in ys job)) off)
]

number_next : (log : List CoreEntry) (e : CoreEntry) (job : JobId) → number_of (log ++ e ∷ []) job
    ≡ either (number_in (filter (free_stays e) (free log)) job) (number_in (option_to_list (booked log e)) job)
number_next log e job =
    sym (number_bare (unspent (log ++ e ∷ [])) job)
    ∙ ap (λ bs. number_in bs job) (free-push log e)
    ∙ number_append (filter (free_stays e) (free log)) (option_to_list (booked log e)) job

either_none : (o : Option ℕ) → either o None ≡ o
either_none None = refl
either_none (Some n) = refl

-- an entry that spends no reservation of the job leaves the number, or makes the first
number_stays : (log : List CoreEntry) (e : CoreEntry) (job : JobId) → spends_by e.kind job ≡ false
    → number_of (log ++ e ∷ []) job ≡ either (number_of log job) (number_in (option_to_list (booked log e)) job)
number_stays log e job off =
    number_next log e job
    ∙ ap (λ n. either n (number_in (option_to_list (booked log e)) job))
    (number_kept (free_stays e) (free log) job
    (λ b own. ap (λ j. not (spends_by e.kind j)) (same_job-eq b.job job own) ∙ ap not off)
    ∙ number_bare (unspent log) job)

-- an entry that makes no reservation, and spends none of the job
pub number_quiet : (log : List CoreEntry) (e : CoreEntry) (job : JobId) → booked log e ≡ None
    → spends_by e.kind job ≡ false → number_of (log ++ e ∷ []) job ≡ number_of log job
number_quiet log e job none off =
    number_stays log e job off
    ∙ ap (λ o. either (number_of log job) (number_in (option_to_list o) job)) none
    ∙ either_none (number_of log job)

-- an entry that makes no reservation, and spends that of the job
pub number_spent : (log : List CoreEntry) (e : CoreEntry) (job : JobId) → booked log e ≡ None
    → spends_by e.kind job ≡ true → number_of (log ++ e ∷ []) job ≡ None
number_spent log e job none on =
    number_next log e job
    ∙ ap (λ o. either (number_in (filter (free_stays e) (free log)) job) (number_in (option_to_list o) job)) none
    ∙ either_none (number_in (filter (free_stays e) (free log)) job)
    ∙ number_dropped (free_stays e) (free log) job
    (λ b own. ap (λ j. not (spends_by e.kind j)) (same_job-eq b.job job own) ∙ ap not on)

-- an entry that makes a reservation, of the job or of another
pub number_other : (log : List CoreEntry) (e : CoreEntry) (job : JobId) (b : Booking) → booked log e ≡ Some b
    → spends_by e.kind job ≡ false → same_job b.job job ≡ false → number_of (log ++ e ∷ []) job ≡ number_of log job
number_other log e job b made off apart =
    number_stays log e job off
    ∙ ap (λ o. either (number_of log job) (number_in (option_to_list o) job)) made
    ∙ ap (λ v. either (number_of log job) (first_in v b [] job)) apart
    ∙ either_none (number_of log job)

pub number_made : (log : List CoreEntry) (e : CoreEntry) (job : JobId) (b : Booking) → booked log e ≡ Some b
    → spends_by e.kind job ≡ false → same_job b.job job ≡ true → number_of log job ≡ None
    → number_of (log ++ e ∷ []) job ≡ Some b.number
number_made log e job b made off own fresh =
    number_stays log e job off
    ∙ ap (λ n. either n (number_in (option_to_list (booked log e)) job)) fresh
    ∙ ap (λ o. number_in (option_to_list o) job) made
    ∙ ap (λ v. first_in v b [] job) own

-- the reservation that is found is among those
among_in : (bs : List Booking) (job : JobId) (n : ℕ) → number_in bs job ≡ Some n → is_among bs n job ≡ true
among_in [] job n is = absurd cc
among_in (b ∷ bs) job n is = elim (cases_Bool (same_job b.job job)) [
  | inl on ↦
      let at : Some b.number ≡ Some n = sym (ap (λ v. first_in v b bs job) on) ∙ is in
      let one : (b.number == n) ≡ true = ap (λ k. b.number == k) (sym (same_Some b.number n at))
      ∙ nat_eq_equiv.refl b.number in
      rw (one, on) refl
  | inr off ↦
      let rest : number_in bs job ≡ Some n = sym (ap (λ v. first_in v b bs job) off) ∙ is in
      or_true ((b.number == n) && same_job b.job job) _ (among_in bs job n rest)
]

pub among : (log : List CoreEntry) (job : JobId) (n : ℕ) → number_of log job ≡ Some n
    → is_among (unspent log) n job ≡ true
among log job n is = among_in (unspent log) job n is
