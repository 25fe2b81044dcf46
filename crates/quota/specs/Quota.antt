-- What contracts see of a scheduler with quotas, and how many reservations a client holds.
use Rattle.std.specs.Prelude.{◌≡◌, ◌≤◌, ℕ, List, [], ◌∷◌, ◌++◌, length, map, Bool, ◌&&◌, ◌==◌, Option}
use Rattle.std.specs.Prelude.{Some}
use Rattle.std.specs.Prelude.{count_by, slice_get}
use Rattle.std.specs.List.{list_any}
use Rattle.std.specs.Option.{option_map}
use Rattle.core_rules.specs.declared.entry.CoreEntry.{CoreEntry}
use Rattle.core_rules.specs.declared.entry.CoreKind.{CoreKind}
use Rattle.core_rules.specs.declared.entry.CoreKind.TheVariants.{Reserve}
use Rattle.core_rules.specs.declared.entry.Reserved.TheVariants.{Job}
use Rattle.core_rules.specs.declared.error.SchedError.{SchedError}
use Rattle.core_rules.specs.declared.error.SchedError.TheVariants as error
use Rattle.core_rules.specs.Log.{Core, logged}
use Rattle.core_rules.specs.Reservation.{bookings, unended}
use Rattle.quota.specs.Clients.{Client, place_of}

-- whose a reservation is: the number of the entry that made it, and the place of the client that it was
-- made for
pub record Owner : Type 0 where
  pub number : ℕ
  pub client : ℕ

-- The scheduler, its clients, and the owner of each reservation that was ever made, in order.
pub record Quota : Type 0 where
  pub core : Core
  pub clients : List Client
  pub owners : List Owner

-- whether the reservation of that number was made for the client in that place
abbrev pub owns : List Owner → ℕ → ℕ → Bool
owns owners client number = list_any (λ o. (o.number == number) && (o.client == client)) owners

-- how many reservations the client in that place holds: the unended ones that it owns
abbrev pub held_at : Quota → ℕ → ℕ
held_at q client = count_by (λ b. owns q.owners client b.number) (unended q.core.log)

-- how many the client of that name holds, if it is listed
abbrev pub held_of : Quota → List ℕ → Option ℕ
held_of q name = option_map (held_at q) (place_of q.clients name)

-- each reservation that was ever made has one owner, in the order of their making
abbrev pub AreOwned : Quota → Type 0
AreOwned q = map (λ o. o.number) q.owners ≡ map (λ b. b.number) (bookings q.core.log)

-- no client holds more than it may
abbrev pub IsWithin : Quota → Type 0
IsWithin q = (place : ℕ) (c : Client) → slice_get q.clients place ≡ Some c → held_at q place ≤ c.limit

-- the same clients and owners, over another scheduler
abbrev pub over_core : Quota → Core → Quota
over_core q core = record q { core = core }

-- the owner of the reservation that an entry of this number makes for a client, if it makes one
abbrev pub owner_by : CoreKind → ℕ → ℕ → List Owner
owner_by (Reserve (Job job reg forgiven)) number client = record { number = number; client = client } ∷ []
owner_by other number client = []

-- the scheduler once an entry was made for the client in that place
abbrev pub logged_for : Quota → ℕ → CoreEntry → Quota
logged_for q client e = record {
  core = logged q.core e;
  clients = q.clients;
  owners = q.owners ++ owner_by e.kind (length q.core.log) client;
}

-- what a refused call leaves: want of memory leaves all as it was, and every other refusal is logged
abbrev pub LeavesOver : SchedError → Quota → Quota → CoreEntry → Type 0
LeavesOver error.Memory old new made = new ≡ old
LeavesOver other old new made = new ≡ over_core old (logged old.core made)
