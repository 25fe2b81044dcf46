-- The reservations of one registration, and the list that is kept of their places.
use Rattle.std.specs.Prelude.{◌≡◌, ◌<◌, ℕ, zero, suc, List, [], ◌∷◌, length, map, filter, Bool, true}
use Rattle.std.specs.Prelude.{false}
use Rattle.std.specs.Prelude.{◌-◌, not, ◌&&◌, ◌==◌, Option, Some, None, if◌then◌else◌, slice_get, is_some}
use Rattle.std.specs.Prelude.{◌+◌, ◌*◌, nat_le}
use Rattle.std.specs.List.{AllByRecursion}
use Rattle.dist_types.specs.declared.ids.JobId.{JobId}
use Rattle.row_index.specs.Lists.{list_at}
use Rattle.reservations.specs.declared.booked.BookedRow.{BookedRow}
use Rattle.core_rules.specs.Log.{names, names_job, is_this, same_job}
use Rattle.reservations.specs.Booked.{open_part_of}

-- a reservation is unended and at the registration
abbrev pub is_own : ℕ → BookedRow → Bool
is_own n b = b.unended && (b.reg == n)

-- the same of a reservation that may be there
abbrev pub is_own_in : ℕ → Option BookedRow → Bool
is_own_in n None = false
is_own_in n (Some b) = is_own n b

-- the same of the reservation in a place
abbrev pub is_own_at : ℕ → List BookedRow → ℕ → Bool
is_own_at n bs place = is_own_in n (slice_get bs place)

-- a reservation that may be there, where it is unended and at the registration
abbrev pub own_part_of : ℕ → Option BookedRow → Option BookedRow
own_part_of n None = None
own_part_of n (Some b) = if is_own n b then Some b else None

-- the same of the reservation in a place
abbrev pub own_row_at : ℕ → List BookedRow → ℕ → Option BookedRow
own_row_at n bs place = own_part_of n (slice_get bs place)

-- the places of the unended reservations at a registration
abbrev pub own_places : ℕ → List BookedRow → List ℕ
own_places n [] = []
own_places n (b ∷ bs) = if is_own n b then 0 ∷ map suc (own_places n bs) else map suc (own_places n bs)

-- the list has the places of all unended reservations at the registration, in order, and perhaps others
abbrev pub IsOwnList : ℕ → List BookedRow → List ℕ → Type 0
IsOwnList n bs list = AllByRecursion (λ p. p < length bs) list
    × (filter (is_own_at n bs) list ≡ own_places n bs)

-- the same of the list of each registration
abbrev pub AreOwn : List BookedRow → List (ℕ × List ℕ) → Type 0
AreOwn bs lists = (n : ℕ) → IsOwnList n bs (list_at lists n)

-- the list of a registration with so many unended reservations, once there is room for one more: where it has
-- twice as many places and eight, those that are ended are dropped
abbrev pub swept_list : ℕ → List BookedRow → ℕ → List ℕ → List ℕ
swept_list n bs load list = if nat_le (2 * load + 8) (length list) then filter (is_own_at n bs) list else list

-- whether the job of a reservation is open
abbrev pub is_open_row : BookedRow → Bool
is_open_row b = is_some (open_part_of b)

-- what ends reservations

-- a reservation once it is ended
abbrev pub ended_row : BookedRow → BookedRow
ended_row b = record b { unended = false }

-- a reservation once those at a registration are ended
abbrev pub ended_at : ℕ → BookedRow → BookedRow
ended_at n b = record b { unended = b.unended && not (b.reg == n) }

-- a reservation once those at some registrations are ended
abbrev pub ended_at_all : List ℕ → BookedRow → BookedRow
ended_at_all numbers b = record b { unended = b.unended && not (names numbers b.reg) }

-- a reservation once those at a registration, if there is one, are ended
abbrev pub ended_if : Option ℕ → BookedRow → BookedRow
ended_if number b = record b { unended = b.unended && not (is_this number b.reg) }

-- a reservation once that of a job is ended
abbrev pub ended_job : JobId → BookedRow → BookedRow
ended_job job b = record b { unended = b.unended && not (same_job b.job job) }

-- a reservation once those of some jobs are ended
abbrev pub ended_jobs : List JobId → BookedRow → BookedRow
ended_jobs jobs b = record b { unended = b.unended && not (names_job jobs b.job) }

-- the reservations once the one in a place is ended, where it is at the registration
abbrev pub ended_in : ℕ → ℕ → List BookedRow → List BookedRow
ended_in n place [] = []
ended_in n zero (b ∷ bs) = ended_at n b ∷ bs
ended_in n (suc place) (b ∷ bs) = b ∷ ended_in n place bs

-- the same of some places
abbrev pub ended_in_all : ℕ → List ℕ → List BookedRow → List BookedRow
ended_in_all n [] bs = bs
ended_in_all n (p ∷ ps) bs = ended_in_all n ps (ended_in n p bs)

-- room

-- the registration for whose list there is room, where there is room for a row too
abbrev pub room_for : Bool → Option ℕ → Option ℕ
room_for true ready = ready
room_for false ready = None
