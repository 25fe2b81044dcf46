-- What a reserve for a client answers, and what it leaves.
use Rattle.std.specs.Prelude.{◌≡◌, ℕ, List, ◌==◌, Option, Some, None, if◌then◌else◌, Result, Ok, Err}
use Rattle.std.specs.Prelude.{slice_get}
use Rattle.sched_core.specs.Picked.{IsPicked}
use Rattle.core_rules.specs.declared.call.Call.TheVariants as call
use Rattle.core_rules.specs.declared.entry.CoreKind.TheVariants.{Reserve}
use Rattle.core_rules.specs.declared.entry.Reserved.TheVariants.{Spent}
use Rattle.core_rules.specs.declared.error.SchedError.{SchedError}
use Rattle.core_rules.specs.declared.error.SchedError.TheVariants as error
use Rattle.core_rules.specs.Rule.{rule}
use Rattle.quota.specs.Clients.{Client, place_of}
use Rattle.quota.specs.Quota.{Quota, held_at, logged_for}
use Rattle.quota.specs.declared.fault.QuotaFault.{QuotaFault}
use Rattle.quota.specs.declared.fault.QuotaFault.TheVariants as fault
use Rattle.quota.specs.declared.picked.QuotaPicked.{QuotaPicked}
use Rattle.quota.specs.declared.picked.QuotaPicked.TheVariants.{Picked, Full, NoClient}

-- a client that holds so many is refused where it may hold no more
abbrev pub full_at : ℕ → Option Client → Option QuotaPicked
full_at held None = Some NoClient
full_at held (Some client) = if held == client.limit then Some (Full held client.limit) else None

-- the same of the client in that place, if there is one
abbrev pub refusal_at : Quota → Option ℕ → Option QuotaPicked
refusal_at q None = Some NoClient
refusal_at q (Some place) = full_at (held_at q place) (slice_get q.clients place)

-- Why the client of that name gets no reservation, if it gets none: it is not listed, or holds as many as it
-- may.
abbrev pub refusal : Quota → List ℕ → Option QuotaPicked
refusal q name = refusal_at q (place_of q.clients name)

-- a reserve for the client in that place makes the rule's entry, and answers what that says: what was
-- picked, or
-- that the ids are spent; or memory ran out, and nothing changed
abbrev pub IsReserve : {A : Type 0} → (A → List ℕ) → (A → ℕ → List ℕ) → ℕ → ℕ → Quota → Quota
    → Result QuotaPicked QuotaFault → Type 0
IsReserve key_of token_for now place old new (Ok (Picked p)) =
    (new ≡ logged_for old place (rule old.core (call.Reserve now)))
    × IsPicked key_of token_for old.core.log (rule old.core (call.Reserve now)).kind p
IsReserve key_of token_for now place old new (Err (fault.Core error.IdsSpent)) =
    (new ≡ logged_for old place (rule old.core (call.Reserve now)))
    × ((rule old.core (call.Reserve now)).kind ≡ Reserve Spent)
IsReserve key_of token_for now place old new (Err fault.Memory) = new ≡ old
IsReserve key_of token_for now place old new other = ⊥

-- the same, if the client is listed
abbrev pub IsReserveAt : {A : Type 0} → (A → List ℕ) → (A → ℕ → List ℕ) → ℕ → Option ℕ → Quota → Quota
    → Result QuotaPicked QuotaFault → Type 0
IsReserveAt key_of token_for now None old new answer = ⊥
IsReserveAt key_of token_for now (Some place) old new answer = IsReserve key_of token_for now place old new
    answer

-- what is refused is told and changes nothing, and all else is a reserve
abbrev pub ByRefusal : Option QuotaPicked → Quota → Quota → Result QuotaPicked QuotaFault → Type 0 → Type 0
ByRefusal (Some why) old new answer Else = (new ≡ old) × (answer ≡ Ok why)
ByRefusal None old new answer Else = Else

-- A reserve for the client of that name.
abbrev pub IsReserveFor : {A : Type 0} → (A → List ℕ) → (A → ℕ → List ℕ) → ℕ → List ℕ → Quota → Quota
    → Result QuotaPicked QuotaFault → Type 0
IsReserveFor key_of token_for now name old new answer =
    ByRefusal (refusal old name) old new answer
    (IsReserveAt key_of token_for now (place_of old.clients name) old new answer)

-- a refusal of the scheduler as a fault: want of memory is told as such
abbrev pub fault_of : SchedError → QuotaFault
fault_of error.Memory = fault.Memory
fault_of e = fault.Core e
