-- A reserve for a listed client: it is never told that it is none, and what it reserves is unspent.
use Rattle.std.proofs.Common.{◌≡◌, ℕ, ◌<◌, Bool, true, false, cond, List, [], ◌∷◌, ◌++◌, length, Option, Some}
use Rattle.std.proofs.Common.{None, Result, Ok, Err, refl, sym, ap, ◌∙◌, subst}
use Rattle.std.specs.Prelude.{is_some, slice_get, position, ◌==◌}
use Rattle.std.specs.Str.{bytes_eq}
use Rattle.std.proofs.lemmas.List.Quantifiers.{position-Some}
use Rattle.core_rules.specs.Answers.{IsTicket}
use Rattle.core_rules.specs.Log.{logged}
use Rattle.core_rules.specs.Reservation.{unspent}
use Rattle.core_rules.specs.Rule.{rule, is_among}
use Rattle.core_rules.specs.Ticket.{Ticket}
use Rattle.core_rules.specs.declared.call.Call.TheVariants as call
use Rattle.core_rules.specs.declared.entry.CoreEntry.{CoreEntry}
use Rattle.core_rules.specs.declared.entry.CoreKind.{CoreKind}
use Rattle.core_rules.specs.declared.entry.CoreKind.TheVariants as core
use Rattle.core_rules.specs.declared.entry.Reserved.TheVariants.{Job, NoRoom, Spent}
use Rattle.core_rules.proofs.OwnLemmas.{own-made}
use Rattle.dist_types.specs.declared.ids.JobId.{JobId}
use Rattle.sched_core.specs.Picked.{IsPicked}
use Rattle.sched_core.specs.declared.answers.Picked.{Picked as Pick}
use Rattle.sched_core.specs.declared.answers.Picked.TheVariants as picked
use Rattle.scheduler_steps.specs.Settling.{is_own}
use Rattle.quota.specs.Asked.{full_at, refusal_at, refusal, IsReserveAt, ByRefusal, IsReserveFor}
use Rattle.quota.specs.Clients.{Client, place_of}
use Rattle.quota.specs.Quota.{Quota, held_at, logged_for}
use Rattle.quota.specs.declared.fault.QuotaFault.{QuotaFault}
use Rattle.quota.specs.declared.picked.QuotaPicked.{QuotaPicked}
use Rattle.quota.specs.declared.picked.QuotaPicked.TheVariants.{Picked, Full, NoClient}
use Rattle.quota.proofs.ListLemmas.{got_some}

-- ---- why a client is refused

abbrev refuses : QuotaPicked → Bool
refuses (Picked p) = false
refuses other = true

by_limit : (held limit : ℕ) (b : Bool) (why : QuotaPicked) → cond b (Some (Full held limit)) None ≡ Some why
    → why ≡ Full held limit
by_limit held limit true why is = cc
by_limit held limit false why is = absurd cc

full_refuses : (held : ℕ) (c : Option Client) (why : QuotaPicked) → full_at held c ≡ Some why
    → refuses why ≡ true
full_refuses held None why is = let same : why ≡ NoClient = cc in ap refuses same
full_refuses held (Some c) why is = ap refuses (by_limit held c.limit (held == c.limit) why is)

refusal_refuses : (q : Quota) (place : Option ℕ) (why : QuotaPicked) → refusal_at q place ≡ Some why
    → refuses why ≡ true
refusal_refuses q None why is = let same : why ≡ NoClient = cc in ap refuses same
refusal_refuses q (Some place) why is = full_refuses (held_at q place) (slice_get q.clients place) why is

-- a listed client is there
there : (clients : List Client) (name : List ℕ) (place : ℕ) → place_of clients name ≡ Some place
    → (c : Client) × (slice_get clients place ≡ Some c)
there clients name place is =
    got_some clients place (position-Some (λ c. bytes_eq name c.name) clients place
    (record { name = []; limit = 0 }) is).0

not_absent : (held : ℕ) (c : Option Client) (x : Client) → c ≡ Some x → full_at held c ≡ Some NoClient → ⊥
not_absent held c x is refused =
    let full : NoClient ≡ Full held x.limit = by_limit held x.limit (held == x.limit) NoClient
    (subst (λ o. full_at held o ≡ Some NoClient) is refused) in
    absurd cc

listed_there : (q : Quota) (name : List ℕ) (place : Option ℕ) → place_of q.clients name ≡ place
    → is_some place ≡ true → refusal_at q place ≡ Some NoClient → ⊥
listed_there q name None is some refused = absurd cc
listed_there q name (Some place) is some refused =
    let at = there q.clients name place is in
    not_absent (held_at q place) (slice_get q.clients place) at.0 at.1 refused

same_answer : (a b : QuotaPicked) → ◌≡◌ {A = Result QuotaPicked QuotaFault} (Ok a) (Ok b) → a ≡ b
same_answer a b is = cc

absent : (key_of : List ℕ → List ℕ) (token_for : List ℕ → ℕ → List ℕ) (now : ℕ) (name : List ℕ)
    (old new : Quota) → is_some (place_of old.clients name) ≡ true
    → IsReserveFor key_of token_for now name old new (Ok NoClient) → ⊥
absent key_of token_for now name old new listed reserved = by_refusal (refusal old name) refl reserved
  where
    by_place : (place : Option ℕ) → IsReserveAt key_of token_for now place old new (Ok NoClient) → ⊥
    by_place None is = is
    by_place (Some place) is = is

    by_refusal : (why : Option QuotaPicked) → refusal old name ≡ why
        → ByRefusal why old new (Ok NoClient)
        (IsReserveAt key_of token_for now (place_of old.clients name) old new (Ok NoClient)) → ⊥
    by_refusal None is reserved = by_place (place_of old.clients name) reserved
    by_refusal (Some why) is reserved =
        listed_there old name (place_of old.clients name) refl listed
        (is ∙ ap (λ (w : QuotaPicked). Some w) (sym (same_answer NoClient why reserved.1)))

pub never_absent : (key_of : List ℕ → List ℕ) (token_for : List ℕ → ℕ → List ℕ) (now : ℕ) (name : List ℕ)
    (old new : Quota) (answer : Result QuotaPicked QuotaFault) → is_some (place_of old.clients name) ≡ true
    → answer ≡ Ok NoClient → IsReserveFor key_of token_for now name old new answer → ⊥
never_absent key_of token_for now name old new answer listed is reserved =
    absent key_of token_for now name old new listed
    (subst (λ a. IsReserveFor key_of token_for now name old new a) is reserved)

-- ---- what is reserved

-- the scheduler with the entry that was made for the client in a place, and what that picked
record Made (key_of : List ℕ → List ℕ) (token_for : List ℕ → ℕ → List ℕ) (now : ℕ) (old new : Quota) (p : Pick)
    : Type 0 where
  place : ℕ
  left : new ≡ logged_for old place (rule old.core (call.Reserve now))
  picks : IsPicked key_of token_for old.core.log (rule old.core (call.Reserve now)).kind p

reserve_made : (key_of : List ℕ → List ℕ) (token_for : List ℕ → ℕ → List ℕ) (now : ℕ) (name : List ℕ)
    (old new : Quota) (p : Pick) → IsReserveFor key_of token_for now name old new (Ok (Picked p))
    → Made key_of token_for now old new p
reserve_made key_of token_for now name old new p reserved = by_refusal (refusal old name) refl reserved
  where
    by_place : (place : Option ℕ) → IsReserveAt key_of token_for now place old new (Ok (Picked p))
        → Made key_of token_for now old new p
    by_place None is = absurd is
    by_place (Some place) is = record { place = place; left = is.0; picks = is.1 }

    by_refusal : (why : Option QuotaPicked) → refusal old name ≡ why
        → ByRefusal why old new (Ok (Picked p))
        (IsReserveAt key_of token_for now (place_of old.clients name) old new (Ok (Picked p)))
        → Made key_of token_for now old new p
    by_refusal None is reserved = by_place (place_of old.clients name) reserved
    by_refusal (Some why) is reserved =
        let same : Picked p ≡ why = same_answer (Picked p) why reserved.1 in
        let refused : refuses why ≡ true = refusal_refuses old (place_of old.clients name) why is in
        let none : false ≡ true = ap refuses same ∙ refused in
        absurd cc

-- the job that an entry reserves for a ticket
record Reserving (key_of : List ℕ → List ℕ) (token_for : List ℕ → ℕ → List ℕ) (log : List CoreEntry)
    (kind : CoreKind) (r : Ticket) : Type 0 where
  job : JobId
  reg : ℕ
  forgiven : List ℕ
  is : kind ≡ core.Reserve (Job job reg forgiven)
  ticket : IsTicket key_of token_for log job reg r

reserving : (key_of : List ℕ → List ℕ) (token_for : List ℕ → ℕ → List ℕ) (log : List CoreEntry)
    (kind : CoreKind) (r : Ticket) → IsPicked key_of token_for log kind (picked.Reserved r)
    → Reserving key_of token_for log kind r
reserving key_of token_for log (core.Reserve (Job job reg forgiven)) r is =
    record { job = job; reg = reg; forgiven = forgiven; is = refl; ticket = is }
reserving key_of token_for log (core.Reserve (NoRoom n)) r is = absurd is
reserving key_of token_for log (core.Reserve Spent) r is = absurd is
reserving key_of token_for log (core.Commit job state kept) r is = absurd is
reserving key_of token_for log (core.Undo job noted ended) r is = absurd is
reserving key_of token_for log (core.Beat server nonce cpus key pruned reaped replaced is_new) r is = absurd is
reserving key_of token_for log (core.Update server job state answer) r is = absurd is
reserving key_of token_for log (core.Status pruned servers cpus jobs) r is = absurd is
reserving key_of token_for log (core.Drain server nonce on reg) r is = absurd is

-- a reservation that was just made is unspent
pub reserved_own : (key_of : List ℕ → List ℕ) (token_for : List ℕ → ℕ → List ℕ) (now : ℕ) (name : List ℕ)
    (old new : Quota) (r : Ticket) (answer : Result QuotaPicked QuotaFault)
    → answer ≡ Ok (Picked (picked.Reserved r)) → IsReserveFor key_of token_for now name old new answer
    → is_own new.core r ≡ true
reserved_own key_of token_for now name old new r answer is reserved =
    let m = reserve_made key_of token_for now name old new (picked.Reserved r)
    (subst (λ a. IsReserveFor key_of token_for now name old new a) is reserved) in
    let e = rule old.core (call.Reserve now) in
    let j = reserving key_of token_for old.core.log e.kind r m.picks in
    let own : is_among (unspent (old.core.log ++ e ∷ [])) (length old.core.log) j.job ≡ true =
    own-made old.core.log e j.job j.reg j.forgiven j.is in
    ap (λ (q : Quota). is_own q.core r) m.left
    ∙ (ap (λ n. is_among (unspent (old.core.log ++ e ∷ [])) n r.job) j.ticket.number
    ∙ (ap (λ (k : JobId). is_among (unspent (old.core.log ++ e ∷ [])) (length old.core.log) k) j.ticket.job ∙ own))
