-- What is kept of the reservations, after one more entry of the log.
use Rattle.std.proofs.Common.{◌≡◌, ℕ, ◌+◌, ◌<◌, List, [], ◌∷◌, ◌++◌, Bool, not}
use Rattle.std.proofs.Common.{◌&&◌, map}
use Rattle.std.proofs.Common.{filter, length, refl, ap, ◌∙◌, sym, subst, arith}
use Rattle.std.proofs.Common.{length-append, append-nil}
use Rattle.std.specs.Prelude.{option_to_list}
use Rattle.std.specs.List.{AllByRecursion}
use Rattle.std.proofs.lemmas.List.{map-append}
use Rattle.std.proofs.lemmas.List.Elements.{filter-append}
use Rattle.dist_types.specs.declared.ids.JobId.{JobId}
use Rattle.core_rules.specs.declared.entry.CoreEntry.{CoreEntry}
use Rattle.core_rules.specs.declared.entry.CoreKind.{CoreKind}
use Rattle.core_rules.specs.declared.entry.CoreKind.TheVariants.{Beat, Reserve, Commit, Undo, Update}
use Rattle.core_rules.specs.declared.entry.CoreKind.TheVariants.{Status, Drain}
use Rattle.core_rules.specs.declared.entry.Reserved.TheVariants.{Job, NoRoom, Spent}
use Rattle.core_rules.specs.Laws.{AreRising}
use Rattle.core_rules.specs.Next.{place_of_booking}
use Rattle.core_rules.specs.Reservation.{bookings, unended, booked_by, frees_by}
use Rattle.core_rules.proofs.AllLemmas.{all-append, all-map, all-weaker}
use Rattle.core_rules.proofs.Lists.{map-map, filter-map, filter-filter}
use Rattle.core_rules.proofs.RisingLemmas.{rising-push}
use Rattle.core_rules.proofs.StepLemmas.{bare, held, booked, grown, held_stays, bookings-push, held-push}
use Rattle.quota.specs.Holdings.{Owned, owned_after, owner_of}
use Rattle.quota.specs.Kept.{Agree, place_of_owned}
use Rattle.quota.specs.Quota.{owner_by}
use Rattle.quota.proofs.KeptWords.{owned_new}

-- whether an entry leaves a reservation of these unended
abbrev leaves : CoreKind → (ℕ × JobId) × ℕ → Bool
leaves kind p = not (frees_by kind p.0.1 p.1)

new_is : (k : CoreKind) (number now client : ℕ) → map place_of_owned (owned_new k number client) ≡ map
    place_of_booking (option_to_list (booked_by k number now []))
new_is (Beat server nonce cpus key pruned reaped replaced is_new) number now client = refl
new_is (Reserve (Job job reg forgiven)) number now client = refl
new_is (Reserve (NoRoom n)) number now client = refl
new_is (Reserve Spent) number now client = refl
new_is (Commit job state kept) number now client = refl
new_is (Undo job noted was_ended) number now client = refl
new_is (Update server job state answer) number now client = refl
new_is (Status pruned servers cpus jobs) number now client = refl
new_is (Drain addr nonce on named) number now client = refl

-- the new one is unended
new_unended : (k : CoreKind) (number client : ℕ) → filter (λ o. o.unended) (owned_new k number client)
    ≡ owned_new k number client
new_unended (Beat server nonce cpus key pruned reaped replaced is_new) number client = refl
new_unended (Reserve (Job job reg forgiven)) number client = refl
new_unended (Reserve (NoRoom n)) number client = refl
new_unended (Reserve Spent) number client = refl
new_unended (Commit job state kept) number client = refl
new_unended (Undo job noted was_ended) number client = refl
new_unended (Update server job state answer) number client = refl
new_unended (Status pruned servers cpus jobs) number client = refl
new_unended (Drain addr nonce on named) number client = refl

-- and has the number of the entry
new_rising : (ns : List ℕ) (k : CoreKind) (number client : ℕ) → AreRising ns
    → AllByRecursion (λ m. m < number) ns
    → AreRising (ns ++ map (λ o. o.number) (owned_new k number client))
new_rising ns (Reserve (Job job reg forgiven)) number client rising below = rising-push ns number rising below
new_rising ns (Beat server nonce cpus key pruned reaped replaced is_new) number client rising below =
    subst AreRising (sym (append-nil ns)) rising
new_rising ns (Reserve (NoRoom n)) number client rising below = subst AreRising (sym (append-nil ns)) rising
new_rising ns (Reserve Spent) number client rising below = subst AreRising (sym (append-nil ns)) rising
new_rising ns (Commit job state kept) number client rising below =
    subst AreRising (sym (append-nil ns)) rising
new_rising ns (Undo job noted was_ended) number client rising below =
    subst AreRising (sym (append-nil ns)) rising
new_rising ns (Update server job state answer) number client rising below =
    subst AreRising (sym (append-nil ns)) rising
new_rising ns (Status pruned servers cpus jobs) number client rising below =
    subst AreRising (sym (append-nil ns)) rising
new_rising ns (Drain addr nonce on named) number client rising below =
    subst AreRising (sym (append-nil ns)) rising

new_below : (k : CoreKind) (number client : ℕ) → AllByRecursion (λ o. o.number < number + 1)
    (owned_new k number client)
new_below (Beat server nonce cpus key pruned reaped replaced is_new) number client = tt
new_below (Reserve (Job job reg forgiven)) number client = (omega arith, tt)
new_below (Reserve (NoRoom n)) number client = tt
new_below (Reserve Spent) number client = tt
new_below (Commit job state kept) number client = tt
new_below (Undo job noted was_ended) number client = tt
new_below (Update server job state answer) number client = tt
new_below (Status pruned servers cpus jobs) number client = tt
new_below (Drain addr nonce on named) number client = tt

-- the reservations after an entry, with the one that it makes
abbrev pub next_owned : List Owned → CoreEntry → ℕ → ℕ → List Owned
next_owned owned e number client = map (owned_after e.kind) owned ++ owned_new e.kind number client

made_next : (log : List CoreEntry) (owned : List Owned) (e : CoreEntry) (client : ℕ) → Agree log owned
    → map place_of_owned (next_owned owned e (length log) client) ≡ map place_of_booking (bookings (log ++
    e ∷ []))
made_next log owned e client agree =
    map-append place_of_owned (map (owned_after e.kind) owned) (owned_new e.kind (length log) client)
    ∙ ap (λ l. l ++ map place_of_owned (owned_new e.kind (length log) client))
    (map-map place_of_owned (owned_after e.kind) owned ∙ agree.made
    ∙ sym (map-map place_of_booking (grown e) (bookings log)))
    ∙ ap (λ l. map place_of_booking (map (grown e) (bookings log)) ++ l)
    (new_is e.kind (length log) e.now client)
    ∙ sym (map-append place_of_booking (map (grown e) (bookings log)) (option_to_list (booked log e)))
    ∙ ap (map place_of_booking) (sym (bookings-push log e))

-- of the unended ones those stay that the entry leaves
stay_next : (e : CoreEntry) (owned : List Owned) → map place_of_owned
    (filter (λ o. o.unended) (map (owned_after e.kind) owned))
    ≡ filter (leaves e.kind) (map place_of_owned (filter (λ o. o.unended) owned))
stay_next e owned =
    ap (map place_of_owned) (filter-map (λ o. o.unended) (owned_after e.kind) owned)
    ∙ map-map place_of_owned (owned_after e.kind) (filter (λ o. o.unended && leaves e.kind (place_of_owned
    o)) owned)
    ∙ ap (map place_of_owned) (filter-filter (λ o. leaves e.kind (place_of_owned o)) (λ o. o.unended) owned)
    ∙ sym (filter-map (leaves e.kind) place_of_owned (filter (λ o. o.unended) owned))

-- the same of the log's
stay_held : (log : List CoreEntry) (e : CoreEntry) → map place_of_booking (unended (log ++ e ∷ []))
    ≡ filter (leaves e.kind) (map place_of_booking (unended log)) ++ map place_of_booking
    (option_to_list (booked log e))
stay_held log e =
    sym (map-map place_of_booking bare (unended (log ++ e ∷ [])))
    ∙ ap (map place_of_booking) (held-push log e)
    ∙ map-append place_of_booking (filter (held_stays e) (held log)) (option_to_list (booked log e))
    ∙ ap (λ l. l ++ map place_of_booking (option_to_list (booked log e)))
    (sym (filter-map (leaves e.kind) place_of_booking (held log))
    ∙ ap (filter (leaves e.kind)) (map-map place_of_booking bare (unended log)))

unended_next : (log : List CoreEntry) (owned : List Owned) (e : CoreEntry) (client : ℕ) → Agree log owned
    → map place_of_owned (filter (λ o. o.unended) (next_owned owned e (length log) client))
    ≡ map place_of_booking (unended (log ++ e ∷ []))
unended_next log owned e client agree =
    ap (map place_of_owned) (filter-append (λ o. o.unended) (map (owned_after e.kind) owned)
    (owned_new e.kind (length log) client))
    ∙ map-append place_of_owned (filter (λ o. o.unended) (map (owned_after e.kind) owned))
    (filter (λ o. o.unended) (owned_new e.kind (length log) client))
    ∙ ap (λ l. l ++ map place_of_owned (filter (λ o. o.unended) (owned_new e.kind (length log) client)))
    (stay_next e owned ∙ ap (filter (leaves e.kind)) agree.unended_are)
    ∙ ap (λ l. filter (leaves e.kind) (map place_of_booking (unended log)) ++ l)
    (ap (map place_of_owned) (new_unended e.kind (length log) client) ∙ new_is e.kind (length log) e.now
    client)
    ∙ sym (stay_held log e)

-- after one more entry all of it is the log's again
pub agree_next : (log : List CoreEntry) (owned : List Owned) (e : CoreEntry) (client : ℕ) → Agree log owned
    → Agree (log ++ e ∷ []) (next_owned owned e (length log) client)
agree_next log owned e client agree = record {
  made = made_next log owned e client agree;
  unended_are = unended_next log owned e client agree;
  rising = subst AreRising
      (ap (λ l. l ++ map (λ o. o.number) (owned_new e.kind (length log) client))
      (sym (map-map (λ o. o.number) (owned_after e.kind) owned))
      ∙ sym (map-append (λ o. o.number) (map (owned_after e.kind) owned)
      (owned_new e.kind (length log) client)))
      (new_rising (map (λ o. o.number) owned) e.kind (length log) client agree.rising
      (all-map (λ m. m < length log) (λ o. o.number) owned agree.below));
  below = subst (λ n. AllByRecursion (λ o. o.number < n) (next_owned owned e (length log) client))
      (sym (length-append log (e ∷ [])))
      (all-append (λ o. o.number < length log + 1) (map (owned_after e.kind) owned)
      (owned_new e.kind (length log) client)
      (all-map (λ o. o.number < length log + 1) (owned_after e.kind) owned
      (all-weaker (λ o. o.number < length log) (λ o. o.number < length log + 1) (λ o lt. omega (arith, lt))
      owned agree.below))
      (new_below e.kind (length log) client));
}

-- nothing is kept of an empty log
pub agree_none : Agree [] []
agree_none = record { made = refl; unended_are = refl; rising = tt; below = tt }

-- an entry that makes no reservation
pub agree_after : (log : List CoreEntry) (owned : List Owned) (e : CoreEntry) → Agree log owned
    → owned_new e.kind (length log) 0 ≡ [] → Agree (log ++ e ∷ []) (map (owned_after e.kind) owned)
agree_after log owned e agree none = subst (Agree (log ++ e ∷ []))
    (ap (λ l. map (owned_after e.kind) owned ++ l) none ∙ append-nil (map (owned_after e.kind) owned))
    (agree_next log owned e 0 agree)

-- the owner of the one that is made
pub new_owner : (number client : ℕ) (k : CoreKind) → map owner_of (owned_new k number client)
    ≡ owner_by k number client
new_owner number client (Beat server nonce cpus key pruned reaped replaced is_new) = refl
new_owner number client (Reserve (Job job reg forgiven)) = refl
new_owner number client (Reserve (NoRoom n)) = refl
new_owner number client (Reserve Spent) = refl
new_owner number client (Commit job state kept) = refl
new_owner number client (Undo job noted was_ended) = refl
new_owner number client (Update server job state answer) = refl
new_owner number client (Status pruned servers cpus jobs) = refl
new_owner number client (Drain addr nonce on named) = refl
