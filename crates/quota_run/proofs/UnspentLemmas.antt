-- What is in hand are the unspent reservations of the log, behind one more entry.
use Rattle.std.proofs.Common.{◌≡◌, ℕ, List, [], ◌∷◌, ◌++◌, Bool, true, false, cond, map, filter, Some, None}
use Rattle.std.proofs.Common.{refl, sym, ap, subst, ◌∙◌}
use Rattle.std.specs.Prelude.{option_to_list, nat_eq}
use Rattle.std.specs.List.{AllByRecursion}
use Rattle.dist_types.specs.declared.ids.JobId.{JobId}
use Rattle.core_rules.specs.declared.entry.CoreEntry.{CoreEntry}
use Rattle.core_rules.specs.Calls.{number_of}
use Rattle.core_rules.specs.Laws.{AreDistinct}
use Rattle.core_rules.specs.Log.{same_job}
use Rattle.core_rules.specs.Reservation.{Booking, bookings, is_unspent, spends_by}
use Rattle.core_rules.specs.Ticket.{Ticket}
use Rattle.core_rules.proofs.AllLemmas.{same_job-eq, other_job-sym, all-unmap}
use Rattle.core_rules.proofs.StepLemmas.{booked, grown, bookings-push}
use Rattle.quota_run.specs.Hand.{InHand, of_job, IsOf, AreUnspent}
use Rattle.quota_run.proofs.NumberLemmas.{number_in, first_in, number_quiet, number_spent, number_other, number_made}

-- an entry that makes no reservation and spends none
pub quiet : (log : List CoreEntry) (e : CoreEntry) (hand : InHand) → booked log e ≡ None
    → ((job : JobId) → spends_by e.kind job ≡ false) → AreUnspent log hand → AreUnspent (log ++ e ∷ []) hand
quiet log e hand none off are job = subst (λ n. IsOf n job (of_job hand job.0))
    (sym (number_quiet log e job none (off job))) (are job)

-- an entry that spends the reservation of a job, which is given out of hand
pub spent : (log : List CoreEntry) (e : CoreEntry) (hand new : InHand) (job : JobId) → booked log e ≡ None
    → ((other : JobId) → spends_by e.kind other ≡ same_job job other) → AreUnspent log hand
    → ((other : ℕ) → of_job new other ≡ cond (nat_eq job.0 other) None (of_job hand other))
    → AreUnspent (log ++ e ∷ []) new
spent log e hand new job none spends are left other = by (same_job job other) refl
  where
    by : (v : Bool) → same_job job other ≡ v → IsOf (number_of (log ++ e ∷ []) other) other (of_job new other.0)
    by true own = subst (λ o. IsOf (number_of (log ++ e ∷ []) other) other o)
        (sym (left other.0 ∙ ap (λ v. cond v None (of_job hand other.0)) own))
        (number_spent log e other none (spends other ∙ own))
    by false apart = subst (λ o. IsOf (number_of (log ++ e ∷ []) other) other o)
        (sym (left other.0 ∙ ap (λ v. cond v None (of_job hand other.0)) apart))
        (subst (λ n. IsOf n other (of_job hand other.0))
        (sym (number_quiet log e other none (spends other ∙ apart))) (are other))

-- a job without one is given out of hand
pub none_spent : (log : List CoreEntry) (hand new : InHand) (job : JobId) → number_of log job ≡ None
    → AreUnspent log hand → ((other : ℕ) → of_job new other ≡ cond (nat_eq job.0 other) None (of_job hand other))
    → AreUnspent log new
none_spent log hand new job none are left other = by (same_job job other) refl
  where
    by : (v : Bool) → same_job job other ≡ v → IsOf (number_of log other) other (of_job new other.0)
    by true own = subst (λ o. IsOf (number_of log other) other o)
        (sym (left other.0 ∙ ap (λ v. cond v None (of_job hand other.0)) own))
        (ap (number_of log) (sym (same_job-eq job other own)) ∙ none)
    by false apart = subst (λ o. IsOf (number_of log other) other o)
        (sym (left other.0 ∙ ap (λ v. cond v None (of_job hand other.0)) apart)) (are other)

-- nothing is in hand, and nothing was made
pub no_log : (log : List CoreEntry) (hand : InHand) → log ≡ [] → ((job : ℕ) → of_job hand job ≡ None)
    → AreUnspent log hand
no_log log hand none empty job = subst (λ o. IsOf (number_of log job) job o) (sym (empty job.0))
    (ap (λ l. number_of l job) none)

-- nothing is taken in hand
pub same_hand : (log : List CoreEntry) (hand new : InHand) → ((job : ℕ) → of_job new job ≡ of_job hand job)
    → AreUnspent log hand → AreUnspent log new
same_hand log hand new same are job = subst (λ o. IsOf (number_of log job) job o) (sym (same job.0)) (are job)

-- an entry that makes a reservation, which is taken in hand
pub reserved : (log : List CoreEntry) (e : CoreEntry) (hand new : InHand) (t : Ticket) (b : Booking)
    → booked log e ≡ Some b → b.job ≡ t.job → b.number ≡ t.number → ((job : JobId) → spends_by e.kind job ≡ false)
    → number_of log b.job ≡ None → AreUnspent log hand
    → ((job : ℕ) → of_job new job ≡ cond (nat_eq t.job.0 job) (Some t) (of_job hand job))
    → AreUnspent (log ++ e ∷ []) new
reserved log e hand new t b made same number off fresh are added other = by (same_job t.job other) refl
  where
    of_it : same_job b.job other ≡ same_job t.job other
    of_it = ap (λ j. same_job j other) same

    by : (v : Bool) → same_job t.job other ≡ v → IsOf (number_of (log ++ e ∷ []) other) other (of_job new other.0)
    by true own = subst (λ o. IsOf (number_of (log ++ e ∷ []) other) other o)
        (sym (added other.0 ∙ ap (λ v. cond v (Some t) (of_job hand other.0)) own)) (
          number_made log e other b made (off other) (of_it ∙ own)
              (ap (number_of log) (sym (same_job-eq b.job other (of_it ∙ own))) ∙ fresh) ∙ ap Some number,
          same_job-eq t.job other own,
        )
    by false apart = subst (λ o. IsOf (number_of (log ++ e ∷ []) other) other o)
        (sym (added other.0 ∙ ap (λ v. cond v (Some t) (of_job hand other.0)) apart))
        (subst (λ n. IsOf n other (of_job hand other.0))
        (sym (number_other log e other b made (off other) (of_it ∙ apart))) (are other))

-- ---- the job of a new reservation is new

all_end : (P : JobId → Type 0) (bs : List Booking) (b : Booking)
    → AllByRecursion P (map (λ b. b.job) (bs ++ b ∷ [])) → P b.job
all_end P [] b all = all.0
all_end P (x ∷ xs) b all = all_end P xs b all.1

distinct_end : (bs : List Booking) (b : Booking) → AreDistinct (map (λ b. b.job) (bs ++ b ∷ []))
    → AllByRecursion (λ (x : Booking). same_job x.job b.job ≡ false) bs
distinct_end [] b all = tt
distinct_end (x ∷ xs) b all = (
  other_job-sym b.job x.job (all_end (λ k. same_job k x.job ≡ false) xs b all.0),
  distinct_end xs b all.1,
)

not_first : (b : Booking) (bs : List Booking) (job : JobId) → same_job b.job job ≡ false → number_in bs job ≡ None
    → number_in (b ∷ bs) job ≡ None
not_first b bs job off none = ap (λ v. first_in v b bs job) off ∙ none

none_in : (q : Booking → Bool) (bs : List Booking) (job : JobId)
    → AllByRecursion (λ (x : Booking). same_job x.job job ≡ false) bs → number_in (filter q bs) job ≡ None
none_in q [] job all = refl
none_in q (b ∷ bs) job all =
    elim (q b) as (λ v. number_in (cond v (b ∷ filter q bs) (filter q bs)) job ≡ None) [
      | true ↦ not_first b (filter q bs) job all.0 (none_in q bs job all.1)
      | false ↦ none_in q bs job all.1
    ]

pub fresh : (log : List CoreEntry) (e : CoreEntry) (b : Booking) → booked log e ≡ Some b
    → AreDistinct (map (λ b. b.job) (bookings (log ++ e ∷ []))) → number_of log b.job ≡ None
fresh log e b made all =
    let they : bookings (log ++ e ∷ []) ≡ map (grown e) (bookings log) ++ b ∷ [] =
    bookings-push log e ∙ ap (λ o. map (grown e) (bookings log) ++ option_to_list o) made in
    none_in is_unspent (bookings log) b.job
    (all-unmap (λ (x : Booking). same_job x.job b.job ≡ false) (grown e) (bookings log)
    (distinct_end (map (grown e) (bookings log)) b
    (subst (λ bs. AreDistinct (map (λ b. b.job) bs)) they all)))
