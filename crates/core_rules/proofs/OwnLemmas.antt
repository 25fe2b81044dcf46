-- Reservations that are unspent stay so, unless an entry spends their job; and no two have one job.
use Rattle.std.proofs.Common.{◌≡◌, ℕ, ◌<◌, ◌^◌, ◌==◌, Bool, true, false, ◌&&◌, List, [], ◌∷◌, ◌++◌, length}
use Rattle.std.proofs.Common.{filter, Some, refl, sym, ap, ◌∙◌, subst, append-nil, append_assoc}
use Rattle.std.specs.Prelude.{option_to_list}
use Rattle.std.specs.List.{list_any, AllByRecursion}
use Rattle.std.proofs.lemmas.Bool.{eq-eqb, eqb-true, and_parts}
use Rattle.dist_types.specs.declared.ids.JobId.{JobId}
use Rattle.core_rules.specs.declared.start.Start.{Start}
use Rattle.core_rules.specs.declared.entry.CoreEntry.{CoreEntry}
use Rattle.core_rules.specs.declared.entry.Reserved.TheVariants.{Job}
use Rattle.core_rules.specs.declared.entry.CoreKind.TheVariants.{Reserve}
use Rattle.core_rules.specs.Log.{same_job}
use Rattle.core_rules.specs.Reservation.{Booking, bookings, is_unspent, unspent, spends_by}
use Rattle.core_rules.specs.Rule.{is_among}
use Rattle.core_rules.specs.Laws.{IsLegal, IsLegalBehind}
use Rattle.core_rules.proofs.AllLemmas.{both, same_job-refl, same_job-sym, same_job-trans, same_job-eq}
use Rattle.core_rules.proofs.AllLemmas.{any-append, any-end, any-kept, any-all, found, own_only, not_false}
use Rattle.core_rules.proofs.Lists.{list_any-map}
use Rattle.core_rules.proofs.SoundLemmas.{legal_distinct}
use Rattle.core_rules.proofs.StepLemmas.{bare, free, booked, free_stays, free-push}

-- the reservation of that number and job
abbrev is_it : ℕ → JobId → Booking → Bool
is_it number job b = (b.number == number) && same_job b.job job

free_is : (log : List CoreEntry) (number : ℕ) (job : JobId) → is_among (unspent log) number job ≡ list_any
    (is_it number job) (free log)
free_is log number job = sym (list_any-map (is_it number job) bare (unspent log))

every : {X : Type 0} (xs : List X) → AllByRecursion (λ x. Unit {0}) xs
every [] = tt
every (x ∷ xs) = (tt, every xs)

stays : (e : CoreEntry) (number : ℕ) (job : JobId) → spends_by e.kind job ≡ false → (b : Booking)
    → is_it number job b ≡ true → free_stays e b ≡ true
stays e number job apart b is =
    let same : b.job ≡ job = same_job-eq b.job job (and_parts (b.number == number) (same_job b.job job) is).1
    in
    not_false (spends_by e.kind b.job) (ap (spends_by e.kind) same ∙ apart)

-- an entry that does not spend the job leaves its reservation unspent
pub own-kept : (log : List CoreEntry) (e : CoreEntry) (number : ℕ) (job : JobId)
    → is_among (unspent log) number job ≡ true → spends_by e.kind job ≡ false
    → is_among (unspent (log ++ e ∷ [])) number job ≡ true
own-kept log e number job own apart =
    free_is (log ++ e ∷ []) number job
    ∙ ap (list_any (is_it number job)) (free-push log e)
    ∙ any-append (is_it number job) (filter (free_stays e) (free log)) (option_to_list (booked log e))
    (any-kept (λ b. Unit {0}) (is_it number job) (is_it number job) (free_stays e)
    (λ b u is. (is, stays e number job apart b is)) (free log) (every (free log))
    (sym (free_is log number job) ∙ own))

-- nor do several such entries
pub own-through : (log entries : List CoreEntry) (number : ℕ) (job : JobId)
    → is_among (unspent log) number job ≡ true → AllByRecursion (λ e. spends_by e.kind job ≡ false) entries
    → is_among (unspent (log ++ entries)) number job ≡ true
own-through log [] number job own apart = subst (λ l. is_among (unspent l) number job ≡ true)
    (sym (append-nil log)) own
own-through log (e ∷ es) number job own apart = subst (λ l. is_among (unspent l) number job ≡ true)
    (append_assoc log (e ∷ []) es)
    (own-through (log ++ e ∷ []) es number job (own-kept log e number job own apart.0) apart.1)

-- a reservation that an entry makes is unspent
pub own-made : (log : List CoreEntry) (e : CoreEntry) (job : JobId) (reg : ℕ) (forgiven : List ℕ)
    → e.kind ≡ Reserve (Job job reg forgiven)
    → is_among (unspent (log ++ e ∷ [])) (length log) job ≡ true
own-made log e job reg forgiven is =
    let made : booked log e ≡ Some
    (record { number = length log; now = e.now; job = job; reg = reg; later = [] }) =
    ap (λ k. booked log (record { now = e.now; kind = k })) is in
    free_is (log ++ e ∷ []) (length log) job
    ∙ ap (list_any (is_it (length log) job))
    (free-push log e ∙ ap (λ o. filter (free_stays e) (free log) ++ option_to_list o) made)
    ∙ any-end (is_it (length log) job) (filter (free_stays e) (free log))
    (record { number = length log; now = e.now; job = job; reg = reg; later = [] })
    (both (length log == length log) (same_job job job) (eq-eqb (length log) (length log) refl)
    (same_job-refl job))

-- reservations with one job have one number
pub one_number : (start : Start) (log : List CoreEntry) (a b : ℕ) (j k : JobId) → start.count < 2 ^ 64
    → IsLegal start log
    → is_among (unspent log) a j ≡ true → is_among (unspent log) b k ≡ true → same_job k j ≡ true → a ≡ b
one_number start log a b j k fits legal first second same =
    let xs = bookings log in
    let x = found (λ x. AllByRecursion (λ y. same_job y.job x.job ≡ true → y ≡ x) xs) (is_it a j) xs
    (own_only (λ b. b.job) xs (legal_distinct start log fits legal))
    (any-all (is_it a j) is_unspent xs first) in
    let y = found (λ y. same_job y.job x.0.job ≡ true → y ≡ x.0) (is_it b k) xs x.1
    (any-all (is_it b k) is_unspent xs second) in
    let xp = and_parts (x.0.number == a) (same_job x.0.job j) x.2 in
    let yp = and_parts (y.0.number == b) (same_job y.0.job k) y.2 in
    let one : y.0 ≡ x.0 = y.1
    (same_job-trans y.0.job k x.0.job yp.1
    (same_job-trans k j x.0.job same (same_job-sym x.0.job j xp.1))) in
    sym (eqb-true x.0.number a xp.0) ∙ ap (λ (z : Booking). z.number) (sym one) ∙ eqb-true y.0.number b yp.0

-- a front of a legal log is legal
legal_part : (start : Start) (front xs ys : List CoreEntry) → IsLegalBehind start front (xs ++ ys)
    → IsLegalBehind start front xs
legal_part start front [] ys legal = tt
legal_part start front (x ∷ xs) ys legal =
    (legal.0, legal_part start (front ++ x ∷ []) xs ys legal.1)

pub legal_front : (start : Start) (xs ys : List CoreEntry) → IsLegal start (xs ++ ys)
    → IsLegal start xs
legal_front start xs ys legal = legal_part start [] xs ys legal
