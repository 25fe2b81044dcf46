-- Where the reservations of the books are, and the new one.
use Rattle.std.proofs.Common.{◌≡◌, ℕ, List, [], ◌∷◌, ◌++◌, map, length, refl, ap, sym, subst}
use Rattle.std.specs.Prelude.{option_to_list}
use Rattle.std.specs.List.{AllByRecursion}
use Rattle.std.specs.Option.{option_map}
use Rattle.core_rules.specs.declared.entry.CoreEntry.{CoreEntry}
use Rattle.core_rules.specs.declared.entry.CoreKind.{CoreKind}
use Rattle.core_rules.specs.declared.entry.CoreKind.TheVariants.{Beat, Reserve, Commit, Undo, Update, Status}
use Rattle.core_rules.specs.declared.entry.CoreKind.TheVariants.{Drain}
use Rattle.core_rules.specs.declared.entry.Reserved.TheVariants.{Job, NoRoom, Spent}
use Rattle.core_rules.specs.Reservation.{booked_by as reserved_by}
use Rattle.core_rules.specs.Rows.{servers_of}
use Rattle.core_rules.proofs.AllLemmas.{all-weaker, all-append, all-map}
use Rattle.core_rules.proofs.KeptLemmas.{IsAtRowBy, NewJob, new_job, rows_addressed}
use Rattle.core_rules.proofs.PlaceLemmas.{address-stays, place-stays, place-new}
use Rattle.reservations.specs.declared.booked.BookedRow.{BookedRow}
use Rattle.reservations.specs.Booked.{booked_new}
use Rattle.sched_core.specs.Books.{IsBookedAt, booked_by}
use Rattle.reservations.specs.Booked.{booked_after}

-- the new reservation is at the registration that its number says, and at its address
pub booked_new_at : (log : List CoreEntry) (now : ℕ) (k : CoreKind) → IsAtRowBy k (servers_of log)
    → AllByRecursion (IsBookedAt (log ++ record { now = now; kind = k } ∷ []))
    (option_to_list (booked_by k (servers_of log) (length log) now))
booked_new_at log now (Reserve (Job job reg forgiven)) at =
    let e : CoreEntry = record { now = now; kind = Reserve (Job job reg forgiven) } in
    let new : NewJob log (length log) now job reg (servers_of log) = new_job log (length log) now job reg
    (servers_of log) (rows_addressed log) at in
    subst (λ o. AllByRecursion (IsBookedAt (log ++ e ∷ [])) (option_to_list (option_map booked_new o)))
    (sym new.is) (
      (
        place-new log e (record { number = length log; now = now; job = job; reg = reg; later = [] }) refl,
        address-stays log e reg new.server new.there,
      ),
      tt,
    )
booked_new_at log now (Reserve (NoRoom n)) at = tt
booked_new_at log now (Reserve Spent) at = tt
booked_new_at log now (Beat server nonce cpus key pruned reaped replaced is_new) at = tt
booked_new_at log now (Commit job state kept) at = tt
booked_new_at log now (Undo job noted was_ended) at = tt
booked_new_at log now (Update server job state answer) at = tt
booked_new_at log now (Status pruned servers cpus n) at = tt
booked_new_at log now (Drain addr nonce on named) at = tt

-- each reservation stays where it is
pub booked-placed : (bs : List BookedRow) (log : List CoreEntry) (e : CoreEntry)
    → IsAtRowBy e.kind (servers_of log)
    → AllByRecursion (IsBookedAt log) bs → AllByRecursion (IsBookedAt (log ++ e ∷ []))
    (map (booked_after e) bs ++ option_to_list (booked_by e.kind (servers_of log) (length log) e.now))
booked-placed bs log e at all =
    all-append (IsBookedAt (log ++ e ∷ [])) (map (booked_after e) bs)
    (option_to_list (booked_by e.kind (servers_of log) (length log) e.now))
    (all-map (IsBookedAt (log ++ e ∷ [])) (booked_after e) bs
    (all-weaker (IsBookedAt log) (λ b. IsBookedAt (log ++ e ∷ []) (booked_after e b))
    (λ b h. (place-stays log e b.number b.reg h.0, address-stays log e b.reg b.server h.1)) bs all))
    (booked_new_at log e.now e.kind at)

-- the job of the new reservation
pub booked_job : (log : List CoreEntry) (k : CoreKind) (number now : ℕ) → IsAtRowBy k (servers_of log)
    → option_map (λ b. b.job) (booked_by k (servers_of log) number now)
    ≡ option_map (λ b. b.job) (reserved_by k number now [])
booked_job log (Reserve (Job job reg forgiven)) number now at =
    ap (λ o. option_map (λ b. b.job) (option_map booked_new o))
    (new_job log number now job reg (servers_of log) (rows_addressed log) at).is
booked_job log (Reserve (NoRoom n)) number now at = refl
booked_job log (Reserve Spent) number now at = refl
booked_job log (Beat server nonce cpus key pruned reaped replaced is_new) number now at = refl
booked_job log (Commit job state kept) number now at = refl
booked_job log (Undo job noted was_ended) number now at = refl
booked_job log (Update server job state answer) number now at = refl
booked_job log (Status pruned servers cpus n) number now at = refl
booked_job log (Drain addr nonce on named) number now at = refl
