-- What lemmas say of what is kept.
use Rattle.std.proofs.Common.{◌≡◌, ◌<◌, ℕ, List, [], ◌∷◌, map, Option, Some, None, true, false}
use Rattle.std.specs.Prelude.{slice_get}
use Rattle.core_rules.specs.Log.{Core}
use Rattle.core_rules.specs.declared.entry.CoreEntry.{CoreEntry}
use Rattle.core_rules.specs.declared.entry.CoreKind.{CoreKind}
use Rattle.core_rules.specs.declared.entry.CoreKind.TheVariants.{Reserve}
use Rattle.core_rules.specs.declared.entry.Reserved.TheVariants.{Job}
use Rattle.quota.specs.Clients.{Client}
use Rattle.quota.specs.Holdings.{Owned, count_of, owner_of}
use Rattle.quota.specs.Quota.{Quota}
use Rattle.quota.specs.declared.rows.OwnedRow.{OwnedRow}

-- the client in that place has less unended reservations than it may
abbrev pub IsBelow : List Client → List Owned → ℕ → Type 0
IsBelow clients owned place = (c : Client) → slice_get clients place ≡ Some c → count_of owned place < c.limit

-- what contracts see of the three together
abbrev pub quota_of : Core → List Client → List Owned → Quota
quota_of core clients owned = record { core = core; clients = clients; owners = map owner_of owned }

-- the reservation that an entry of this number makes for a client, as it is kept
abbrev pub owned_new : CoreKind → ℕ → ℕ → List Owned
owned_new (Reserve (Job job reg forgiven)) number client =
    record { number = number; job = job; reg = reg; client = client; unended = true } ∷ []
owned_new other number client = []

-- an entry makes no reservation
abbrev pub MakesNone : Option CoreEntry → Type 0
MakesNone None = Unit {0}
MakesNone (Some e) = (number client : ℕ) → owned_new e.kind number client ≡ []

-- a row once it is ended
abbrev pub row_ended : OwnedRow → OwnedRow
row_ended row = record row { unended = false }
