-- The clients, each with how many reservations it may hold at one time.
use Rattle.std.specs.Prelude.{◌≡◌, ℕ, List, ◌∷◌, ◌++◌, length, map, position, Option, is_some, true}
use Rattle.std.specs.Str.{bytes_eq}
use Rattle.core_rules.specs.Laws.{AreDifferent}
use Rattle.quota.specs.declared.fault.QuotaFault.{QuotaFault}
use Rattle.quota.specs.declared.fault.QuotaFault.TheVariants.{DuplicateClient, Core, Memory}

-- a client: its name, and how many reservations it may hold
pub record Client : Type 0 where
  pub name : List ℕ
  pub limit : ℕ

-- the client of that name and limit
abbrev pub client_of : List ℕ → ℕ → Client
client_of name limit = record { name = name; limit = limit }

-- the names of some clients
abbrev pub names_of : List Client → List (List ℕ)
names_of clients = map (λ c. c.name) clients

-- the place of the client of that name, from 0, if it is listed
abbrev pub place_of : List Client → List ℕ → Option ℕ
place_of clients name = position (λ c. bytes_eq name c.name) clients

-- no name stands twice
abbrev pub AreNamedOnce : List Client → Type 0
AreNamedOnce clients = AreDifferent (names_of clients)

-- The name in that place is the first that an earlier one equals: those before it differ, and one
-- of them is the same.
pub record IsFirstRepeat (clients : List Client) (place : ℕ) : Type 0 where
  pub before : List Client
  pub at : Client
  pub behind : List Client
  pub are : clients ≡ before ++ at ∷ behind
  pub in_place : length before ≡ place
  pub differ : AreNamedOnce before
  pub repeats : is_some (place_of before at.name) ≡ true

-- why a list of clients is refused: a name stands twice, or memory ran out
abbrev pub IsRefused : List Client → QuotaFault → Type 0
IsRefused clients (DuplicateClient place) = IsFirstRepeat clients place
IsRefused clients Memory = Unit {0}
IsRefused clients (Core e) = ⊥
