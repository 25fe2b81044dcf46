-- The address and the key of a registration, and the place of a reservation: once known, they stay.
use Rattle.std.proofs.Common.{◌≡◌, ℕ, List, [], ◌∷◌, ◌++◌, Bool, not, map, filter, length, Option, Some, None}
use Rattle.std.proofs.Common.{refl, ap, ◌∙◌, sym, subst}
use Rattle.std.specs.Prelude.{option_to_list}
use Rattle.std.specs.List.{AllByRecursion}
use Rattle.std.specs.Option.{option_map}
use Rattle.std.proofs.lemmas.Option.{cond_some}
use Rattle.dist_types.specs.declared.addr.Addr.{Addr}
use Rattle.core_rules.proofs.Lists.{map-same, end_cut}
use Rattle.core_rules.specs.declared.entry.CoreEntry.{CoreEntry}
use Rattle.core_rules.specs.declared.entry.CoreKind.{CoreKind}
use Rattle.core_rules.specs.declared.entry.CoreKind.TheVariants.{Beat, Reserve, Commit, Undo, Update}
use Rattle.core_rules.specs.declared.entry.CoreKind.TheVariants.{Status, Drain}
use Rattle.core_rules.specs.declared.entry.Reserved.TheVariants.{Job, NoRoom, Spent}
use Rattle.core_rules.specs.Standing.{Registered, registered_by, registered_at, standing, ends_by}
use Rattle.core_rules.specs.Standing.{address_of}
use Rattle.core_rules.specs.Standing.{key_at}
use Rattle.core_rules.specs.Reservation.{Booking, booked_by, booked_at}
use Rattle.core_rules.specs.Rule.{place_at}
use Rattle.core_rules.proofs.StandingLemmas.{grown, registered-grown, standing-push}
use Rattle.core_rules.proofs.StepLemmas as step
use Rattle.core_rules.proofs.AllLemmas.{all-step}
use Rattle.core_rules.proofs.GrowLemmas.{Numbered, asked-stays, asked-new, grow_has}

pub registration_number : (k : CoreKind) (now : ℕ) (log : List CoreEntry) (at : CoreEntry) (g : Registered)
    → registered_by k now log at [] ≡ Some g → g.reg ≡ length log
registration_number (Beat server nonce cpus key pruned reaped replaced is_new) now log at g e = let h =
    cond_some is_new _ _ e in ap (λ (x : Registered). x.reg) (sym h.1)
registration_number (Reserve r) now log at g e = cc
registration_number (Commit job state kept) now log at g e = cc
registration_number (Undo job noted was_ended) now log at g e = cc
registration_number (Update server job state answer) now log at g e = cc
registration_number (Status pruned servers cpus jobs) now log at g e = cc
registration_number (Drain addr nonce on named) now log at g e = cc

abbrev pub registered_numbered : Numbered registered_at (λ g. g.reg)
registered_numbered = record {
  grow = grown;
  made = λ e c. registered-grown c.at.kind c.at.now c.before c.at c.after e;
  same = λ e g. refl;
  at_end = λ log e g is. registration_number e.kind e.now log e g is;
}

pub reservation_number : (k : CoreKind) (number now : ℕ) (b : Booking) → booked_by k number now [] ≡ Some b
    → b.number ≡ number
reservation_number (Reserve (Job job reg forgiven)) number now b e =
    let made : Booking = record { number = number; now = now; job = job; reg = reg; later = [] } in
    let same : made ≡ b = cc in ap (λ (x : Booking). x.number) (sym same)
reservation_number (Reserve (NoRoom n)) number now b e = cc
reservation_number (Reserve Spent) number now b e = cc
reservation_number (Beat server nonce cpus key pruned reaped replaced is_new) number now b e = cc
reservation_number (Commit job state kept) number now b e = cc
reservation_number (Undo job noted was_ended) number now b e = cc
reservation_number (Update server job state answer) number now b e = cc
reservation_number (Status pruned servers cpus jobs) number now b e = cc
reservation_number (Drain addr nonce on named) number now b e = cc

abbrev pub booked_numbered : Numbered booked_at (λ b. b.number)
booked_numbered = record {
  grow = step.grown;
  made = λ e c. step.booked-grown c.at.kind (length c.before) c.at.now c.after e;
  same = λ e b. refl;
  at_end = λ log e b is. reservation_number e.kind (length log) e.now b is;
}

-- an address stays
pub address-stays : (log : List CoreEntry) (e : CoreEntry) (reg : ℕ) (server : Addr)
    → address_of log reg ≡ Some server → address_of (log ++ e ∷ []) reg ≡ Some server
address-stays log e reg server is = asked-stays registered_at (λ g. g.reg) (λ g. g.server) registered_numbered
    (λ d g. refl) log e reg server is

-- a key stays
pub key-stays : (log : List CoreEntry) (e : CoreEntry) (reg : ℕ) (key : List ℕ) → key_at log reg ≡ Some key
    → key_at (log ++ e ∷ []) reg ≡ Some key
key-stays log e reg key is = asked-stays registered_at (λ g. g.reg) (λ g. g.key) registered_numbered
    (λ d g. refl) log e reg key is

-- a reservation's place stays
pub place-stays : (log : List CoreEntry) (e : CoreEntry) (number reg : ℕ) → place_at log number ≡ Some reg
    → place_at (log ++ e ∷ []) number ≡ Some reg
place-stays log e number reg is = asked-stays booked_at (λ b. b.number) (λ b. b.reg) booked_numbered
    (λ d b. refl) log e number reg is

-- and a new one has it
pub place-new : (log : List CoreEntry) (e : CoreEntry) (b : Booking) → booked_at (end_cut log e) ≡ Some b
    → place_at (log ++ e ∷ []) b.number ≡ Some b.reg
place-new log e b is = asked-new booked_at (λ b. b.number) (λ b. b.reg) booked_numbered
    (λ d b. refl) log e b is

-- a registration that stands, with its address and key
abbrev card : Registered → (ℕ × Addr) × List ℕ
card g = ((g.reg, g.server), g.key)

abbrev card_stays : CoreEntry → (ℕ × Addr) × List ℕ → Bool
card_stays e c = not (ends_by e.kind c.0.0)

cards-push : (log : List CoreEntry) (e : CoreEntry) → map card (standing (log ++ e ∷ [])) ≡ filter
    (card_stays e) (map card (standing log)) ++ option_to_list
    (option_map card (registered_at (end_cut log e)))
cards-push log e =
    standing-push card (λ l d c. c) card_stays (λ d g. refl) (λ l d g whole up. refl) log e
    ∙ ap (λ cs. cs ++ option_to_list (option_map card (registered_at (end_cut log e))))
    (map-same (λ c. c) (λ c. refl) (filter (card_stays e) (map card (standing log))))

abbrev IsCard : List CoreEntry → (ℕ × Addr) × List ℕ → Type 0
IsCard log c = (address_of log c.0.0 ≡ Some c.0.1) × (key_at log c.0.0 ≡ Some c.1)

-- each registration that stands has its own address and key
pub cards_are : (log : List CoreEntry) → AllByRecursion (λ g. (address_of log g.reg ≡ Some g.server)
    × (key_at log g.reg ≡ Some g.key)) (standing log)
cards_are log = unmap (standing log)
    (grow_has (λ l. AllByRecursion (IsCard l) (map card (standing l))) tt step_card log)
  where
    unmap : (gs : List Registered) → AllByRecursion (IsCard log) (map card gs)
        → AllByRecursion (λ g. (address_of log g.reg ≡ Some g.server) × (key_at log g.reg ≡ Some g.key)) gs
    unmap [] all = tt
    unmap (g ∷ gs) all = (all.0, unmap gs all.1)

    new : (l : List CoreEntry) (e : CoreEntry) (o : Option Registered) → registered_at (end_cut l e) ≡ o
        → AllByRecursion (IsCard (l ++ e ∷ [])) (option_to_list (option_map card o))
    new l e None is = tt
    new l e (Some g) is = (
      (
        asked-new registered_at (λ g. g.reg) (λ g. g.server) registered_numbered (λ d g. refl) l e g is,
        asked-new registered_at (λ g. g.reg) (λ g. g.key) registered_numbered (λ d g. refl) l e g is,
      ),
      tt,
    )

    step_card : (l : List CoreEntry) (e : CoreEntry) → AllByRecursion (IsCard l) (map card (standing l))
        → AllByRecursion (IsCard (l ++ e ∷ [])) (map card (standing (l ++ e ∷ [])))
    step_card l e all = subst (AllByRecursion (IsCard (l ++ e ∷ []))) (sym (cards-push l e))
        (all-step (IsCard l) (IsCard (l ++ e ∷ [])) (card_stays e)
        (option_map card (registered_at (end_cut l e)))
        (λ c h t. (address-stays l e c.0.0 c.0.1 h.0, key-stays l e c.0.0 c.1 h.1))
        (new l e (registered_at (end_cut l e)) refl) (map card (standing l)) all)
