-- What a reserve for a client leaves is what its outcome says.
use Rattle.std.proofs.Common.{◌≡◌, ℕ, List, [], ◌∷◌, ◌++◌, true, false, cond, length, map}
use Rattle.std.proofs.Common.{Option, Some, None, Result, Ok, Err, refl, sym, ap, subst, ◌∙◌}
use Rattle.std.specs.Prelude.{◌==◌, slice_get}
use Rattle.std.proofs.lemmas.Option.{same_Some}
use Rattle.dist_types.specs.declared.fault.Memory.{Memory}
use Rattle.core_rules.specs.declared.entry.CoreEntry.{CoreEntry}
use Rattle.core_rules.specs.declared.entry.CoreKind.TheVariants.{Reserve}
use Rattle.core_rules.specs.declared.entry.Reserved.{Reserved}
use Rattle.core_rules.specs.declared.entry.Reserved.TheVariants as reserve
use Rattle.core_rules.specs.declared.error.SchedError.TheVariants as error
use Rattle.core_rules.specs.Laws.{IsLawful, AreDistinct}
use Rattle.core_rules.specs.Reservation.{Booking, booked_by, bookings}
use Rattle.sched_core.specs.Picked.{IsReservedAs}
use Rattle.sched_core.specs.declared.answers.Picked.{Picked}
use Rattle.sched_core.specs.declared.answers.Picked.TheVariants as picked
use Rattle.quota.specs.Asked.{full_at, refusal_at, refusal, IsReserveAt, ByRefusal, IsReserveFor}
use Rattle.quota.specs.Calls.{Outcome, alloc_by, outcome}
use Rattle.quota.specs.Clients.{Client, place_of}
use Rattle.quota.specs.Quota.{Quota, held_at}
use Rattle.quota.specs.declared.call.QuotaAnswer.{QuotaAnswer}
use Rattle.quota.specs.declared.call.QuotaCall.{QuotaCall}
use Rattle.quota.specs.declared.call.QuotaCall.TheVariants as call
use Rattle.quota.specs.declared.fault.QuotaFault.{QuotaFault}
use Rattle.quota.specs.declared.fault.QuotaFault.TheVariants as fault
use Rattle.quota.specs.declared.picked.QuotaPicked.{QuotaPicked}
use Rattle.quota.specs.declared.picked.QuotaPicked.TheVariants as quota
use Rattle.quota_run.specs.Answers.{answered, answer_of, refused_of, ticket_in}
use Rattle.quota_run.specs.Hand.{InHand, of_job, AreUnspent, with_ticket}
use Rattle.quota_run.specs.Run.{IsMade, IsStep}
use Rattle.quota.proofs.PickedLemmas.{reserved_of}
use Rattle.quota_run.proofs.UnspentLemmas.{quiet, same_hand, reserved, fresh}

-- ---- a reserve for a client

-- a refusal by the limits is none of the scheduler's answers
abbrev IsPlain : Option QuotaPicked → Type 0
IsPlain None = Unit {0}
IsPlain (Some (quota.Picked p)) = ⊥
IsPlain (Some other) = Unit {0}

plain_at : (held : ℕ) (o : Option Client) → IsPlain (full_at held o)
plain_at held None = tt
plain_at held (Some client) =
    elim (held == client.limit) as (λ v. IsPlain (cond v (Some (quota.Full held client.limit)) None)) [
      | true ↦ tt
      | false ↦ tt
    ]

plain_by : (q : Quota) (o : Option ℕ) → IsPlain (refusal_at q o)
plain_by q None = tt
plain_by q (Some place) = plain_at (held_at q place) (slice_get q.clients place)

-- what was asked was made, and answered so
abbrev pub IsOutcome : Outcome → Quota → QuotaAnswer → Type 0
IsOutcome o new told = (new ≡ o.left) × (told ≡ o.told)

abbrev gives : QuotaPicked → Result QuotaPicked QuotaFault
gives p = Ok p

abbrev fails : QuotaFault → Result QuotaPicked QuotaFault
fails f = Err f

gives_is : (a b : QuotaPicked) → gives a ≡ gives b → a ≡ b
gives_is a b e = cc

clash : (f : QuotaFault) (p : QuotaPicked) → fails f ≡ gives p → ⊥
clash f p e = absurd cc

-- a reserve as it is said of the state, by why it is refused and where its client stands
abbrev Asked : {A : Type 0} → (A → List ℕ) → (A → ℕ → List ℕ) → ℕ → Option QuotaPicked → Option ℕ → Quota → Quota
    → Result QuotaPicked QuotaFault → Type 0
Asked key_of token_for now why place old new r =
    ByRefusal why old new r (IsReserveAt key_of token_for now place old new r)

picked_by : {A : Type 0} (key_of : A → List ℕ) (token_for : A → ℕ → List ℕ) (now : ℕ) (why : Option QuotaPicked)
    (place : Option ℕ) (old new : Quota) (p : QuotaPicked) → IsPlain why
    → Asked key_of token_for now why place old new (Ok p)
    → IsOutcome (alloc_by why old now place) new (answer_of (length old.core.log) p)
picked_by key_of token_for now (Some (quota.Picked q)) place old new p plain is = absurd plain
picked_by key_of token_for now (Some (quota.Full held limit)) place old new p plain is =
    (is.0, ap (answer_of (length old.core.log)) (gives_is p (quota.Full held limit) is.1))
picked_by key_of token_for now (Some quota.NoClient) place old new p plain is =
    (is.0, ap (answer_of (length old.core.log)) (gives_is p quota.NoClient is.1))
picked_by key_of token_for now None None old new p plain is = absurd is
picked_by key_of token_for now None (Some place) old new (quota.Picked q) plain is = (is.0, refl)
picked_by key_of token_for now None (Some place) old new (quota.Full held limit) plain is = absurd is
picked_by key_of token_for now None (Some place) old new quota.NoClient plain is = absurd is

-- a reserve that is answered
pub picked_made : {A : Type 0} (key_of : A → List ℕ) (token_for : A → ℕ → List ℕ) (now : ℕ) (name : List ℕ)
    (old new : Quota) (p : QuotaPicked) (a : QuotaAnswer) → IsReserveFor key_of token_for now name old new (Ok p)
    → a ≡ answer_of (length old.core.log) p → IsMade old (call.Alloc now name) new a
picked_made key_of token_for now name old new p a is told =
    let so = picked_by key_of token_for now (refusal old name) (place_of old.clients name) old new p
    (plain_by old (place_of old.clients name)) is in
    record { left = so.0; told = told ∙ so.1 }

abbrev entry : ℕ → Reserved → CoreEntry
entry now x = record { now = now; kind = Reserve x }

reserve_hand : {A : Type 0} (key_of : A → List ℕ) (token_for : A → ℕ → List ℕ) (log : List CoreEntry) (now : ℕ)
    (x : Reserved) (p : Picked) (hand after : InHand) → IsReservedAs key_of token_for log x (Some p)
    → AreDistinct (map (λ b. b.job) (bookings (log ++ entry now x ∷ []))) → AreUnspent log hand
    → ((job : ℕ) → of_job after job ≡ with_ticket (ticket_in (quota.Picked p)) hand job)
    → AreUnspent (log ++ entry now x ∷ []) after
reserve_hand key_of token_for log now (reserve.Job job reg forgiven) (picked.Reserved r) hand after is ids are added =
    let b : Booking = record { number = length log; now = now; job = job; reg = reg; later = [] } in
    reserved log (entry now (reserve.Job job reg forgiven)) hand after r b refl (sym is.job) (sym is.number)
    (λ j. refl) (fresh log (entry now (reserve.Job job reg forgiven)) b refl ids) are added
reserve_hand key_of token_for log now (reserve.NoRoom m) (picked.NoRoom n) hand after is ids are added =
    quiet log (entry now (reserve.NoRoom m)) after refl (λ j. refl) (same_hand log hand after added are)
reserve_hand key_of token_for log now (reserve.Job job reg forgiven) (picked.NoRoom n) hand after is ids are added =
    absurd is
reserve_hand key_of token_for log now (reserve.NoRoom m) (picked.Reserved r) hand after is ids are added = absurd is
reserve_hand key_of token_for log now reserve.Spent (picked.Reserved r) hand after is ids are added = absurd is
reserve_hand key_of token_for log now reserve.Spent (picked.NoRoom n) hand after is ids are added = absurd is

refused_hand : (old new : Quota) (p w : QuotaPicked) (hand after : InHand) → ticket_in w ≡ None → new ≡ old
    → gives p ≡ gives w → AreUnspent old.core.log hand
    → ((job : ℕ) → of_job after job ≡ with_ticket (ticket_in p) hand job) → AreUnspent new.core.log after
refused_hand old new p w hand after none same is are added =
    subst (λ q. AreUnspent q.core.log after) (sym same) (same_hand old.core.log hand after
    (λ job. added job ∙ ap (λ o. with_ticket o hand job) (ap ticket_in (gives_is p w is) ∙ none)) are)

picked_in : {A : Type 0} (key_of : A → List ℕ) (token_for : A → ℕ → List ℕ) (now : ℕ) (why : Option QuotaPicked)
    (place : Option ℕ) (old new : Quota) (p : QuotaPicked) (hand after : InHand) → IsPlain why
    → Asked key_of token_for now why place old new (Ok p) → IsLawful new.core.log → AreUnspent old.core.log hand
    → ((job : ℕ) → of_job after job ≡ with_ticket (ticket_in p) hand job) → AreUnspent new.core.log after
picked_in key_of token_for now (Some (quota.Picked q)) place old new p hand after plain is lawful are added =
    absurd plain
picked_in key_of token_for now (Some (quota.Full held limit)) place old new p hand after plain is lawful are added =
    refused_hand old new p (quota.Full held limit) hand after refl is.0 is.1 are added
picked_in key_of token_for now (Some quota.NoClient) place old new p hand after plain is lawful are added =
    refused_hand old new p quota.NoClient hand after refl is.0 is.1 are added
picked_in key_of token_for now None None old new p hand after plain is lawful are added = absurd is
picked_in key_of token_for now None (Some place) old new (quota.Picked q) hand after plain is lawful are added =
    subst (λ s. AreUnspent s.core.log after) (sym is.0)
    (reserve_hand key_of token_for old.core.log now (reserved_of old.core now) q hand after is.1
    (subst (λ s. IsLawful s.core.log) is.0 lawful).ids are added)
picked_in key_of token_for now None (Some place) old new (quota.Full held limit) hand after plain is lawful are added =
    absurd is
picked_in key_of token_for now None (Some place) old new quota.NoClient hand after plain is lawful are added =
    absurd is

pub picked_hand : {A : Type 0} (key_of : A → List ℕ) (token_for : A → ℕ → List ℕ) (now : ℕ) (name : List ℕ)
    (old new : Quota) (p : QuotaPicked) (hand after : InHand)
    → IsReserveFor key_of token_for now name old new (Ok p) → IsLawful new.core.log → AreUnspent old.core.log hand
    → ((job : ℕ) → of_job after job ≡ with_ticket (ticket_in p) hand job) → AreUnspent new.core.log after
picked_hand key_of token_for now name old new p hand after is lawful are added =
    picked_in key_of token_for now (refusal old name) (place_of old.clients name) old new p hand after
    (plain_by old (place_of old.clients name)) is lawful are added

-- ---- what is told, unless memory ran out

-- what was asked was made, or memory ran out and nothing changed
abbrev pub IsSo : Outcome → Quota → Quota → Option QuotaAnswer → Type 0
IsSo o old new None = new ≡ old
IsSo o old new (Some told) = IsOutcome o new told

pub step_of : (old new : Quota) (asked : QuotaCall) (r : Result QuotaAnswer Memory) (o : Option QuotaAnswer)
    → answered r ≡ o → IsSo (outcome old asked) old new o → IsStep old asked new r
step_of old new asked (Ok a) None e so = absurd cc
step_of old new asked (Ok a) (Some b) e so = record { left = so.0; told = same_Some a b e ∙ so.1 }
step_of old new asked (Err m) None e so = so
step_of old new asked (Err m) (Some b) e so = absurd cc

refused_by : {A : Type 0} (key_of : A → List ℕ) (token_for : A → ℕ → List ℕ) (now : ℕ) (why : Option QuotaPicked)
    (place : Option ℕ) (old new : Quota) (f : QuotaFault) → Asked key_of token_for now why place old new (Err f)
    → IsSo (alloc_by why old now place) old new (refused_of (length old.core.log) f)
refused_by key_of token_for now (Some w) place old new f is = absurd (clash f w is.1)
refused_by key_of token_for now None None old new f is = absurd is
refused_by key_of token_for now None (Some place) old new fault.Memory is = is
refused_by key_of token_for now None (Some place) old new (fault.Core error.IdsSpent) is = (is.0, refl)
refused_by key_of token_for now None (Some place) old new (fault.Core error.Memory) is = absurd is
refused_by key_of token_for now None (Some place) old new (fault.Core (error.BadCpus n)) is = absurd is
refused_by key_of token_for now None (Some place) old new (fault.Core error.UnknownJob) is = absurd is
refused_by key_of token_for now None (Some place) old new (fault.Core error.WrongServer) is = absurd is
refused_by key_of token_for now None (Some place) old new (fault.Core (error.BadTransition a b)) is = absurd is
refused_by key_of token_for now None (Some place) old new (fault.DuplicateClient n) is = absurd is

-- a reserve that is refused
pub refused_step : {A : Type 0} (key_of : A → List ℕ) (token_for : A → ℕ → List ℕ) (now : ℕ) (name : List ℕ)
    (old new : Quota) (f : QuotaFault) (r : Result QuotaAnswer Memory)
    → IsReserveFor key_of token_for now name old new (Err f) → answered r ≡ refused_of (length old.core.log) f
    → IsStep old (call.Alloc now name) new r
refused_step key_of token_for now name old new f r is told =
    step_of old new (call.Alloc now name) r (refused_of (length old.core.log) f) told
    (refused_by key_of token_for now (refusal old name) (place_of old.clients name) old new f is)

spent_out : (log : List CoreEntry) (now : ℕ) (x : Reserved) (hand : InHand) → Reserve x ≡ Reserve reserve.Spent
    → AreUnspent log hand → AreUnspent (log ++ entry now x ∷ []) hand
spent_out log now x hand is are =
    quiet log (entry now x) hand (ap (λ k. booked_by k (length log) now []) is) (λ j. refl) are

refused_in : {A : Type 0} (key_of : A → List ℕ) (token_for : A → ℕ → List ℕ) (now : ℕ) (why : Option QuotaPicked)
    (place : Option ℕ) (old new : Quota) (f : QuotaFault) (hand : InHand)
    → Asked key_of token_for now why place old new (Err f) → AreUnspent old.core.log hand
    → AreUnspent new.core.log hand
refused_in key_of token_for now (Some w) place old new f hand is are = absurd (clash f w is.1)
refused_in key_of token_for now None None old new f hand is are = absurd is
refused_in key_of token_for now None (Some place) old new fault.Memory hand is are =
    subst (λ s. AreUnspent s.core.log hand) (sym is) are
refused_in key_of token_for now None (Some place) old new (fault.Core error.IdsSpent) hand is are =
    subst (λ s. AreUnspent s.core.log hand) (sym is.0)
    (spent_out old.core.log now (reserved_of old.core now) hand is.1 are)
refused_in key_of token_for now None (Some place) old new (fault.Core error.Memory) hand is are = absurd is
refused_in key_of token_for now None (Some place) old new (fault.Core (error.BadCpus n)) hand is are = absurd is
refused_in key_of token_for now None (Some place) old new (fault.Core error.UnknownJob) hand is are = absurd is
refused_in key_of token_for now None (Some place) old new (fault.Core error.WrongServer) hand is are = absurd is
refused_in key_of token_for now None (Some place) old new (fault.Core (error.BadTransition a b)) hand is are = absurd is
refused_in key_of token_for now None (Some place) old new (fault.DuplicateClient n) hand is are = absurd is

pub refused_kept : {A : Type 0} (key_of : A → List ℕ) (token_for : A → ℕ → List ℕ) (now : ℕ) (name : List ℕ)
    (old new : Quota) (f : QuotaFault) (hand : InHand) → IsReserveFor key_of token_for now name old new (Err f)
    → AreUnspent old.core.log hand → AreUnspent new.core.log hand
refused_kept key_of token_for now name old new f hand is are =
    refused_in key_of token_for now (refusal old name) (place_of old.clients name) old new f hand is are
