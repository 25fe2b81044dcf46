-- The open reservations of a cache.
use Rattle.std.specs.Prelude.{◌≡◌, ℕ, ◌+◌, ◌<◌, ◌^◌, Bool, true, false, ◌==◌, ◌&&◌, not, if◌then◌else◌, List}
use Rattle.std.specs.Prelude.{[], ◌∷◌, ◌++◌, Option, Some, None, filter, map, sum_by}
use Rattle.std.specs.List.{list_any, AllByRecursion}
use Rattle.std.specs.Str.{bytes_eq}
use Rattle.folders.specs.Files.{Files, file_at}
use Rattle.folders.specs.Held.{Lacks}
use Rattle.listed_files.specs.Key.{is_key, temp_name}

-- What a cache keeps of an entry that is being added: a number, a key, the size announced, the path of its
-- temporary file, and whether that is sure to be there: no commit of it failed in a call of the folder or for
-- want of memory.
pub record Reservation : Type 0 where
  pub number : ℕ
  pub key : List ℕ
  pub size : ℕ
  pub temp : List ℕ
  pub sure : Bool

-- an entry that is being added, as its holder has it: a number, a key, and the size announced
pub record AddEntry : Type 0 where
  pub number : ℕ
  pub key : List ℕ
  pub size : ℕ

-- whether a reservation is the entry's: number, key and size are its own
abbrev pub is_of : AddEntry → Reservation → Bool
is_of e r = r.number == e.number && r.size == e.size && bytes_eq e.key r.key

-- an entry is pending where an open reservation is its own
abbrev pub is_pending : AddEntry → List Reservation → Bool
is_pending e pending = list_any (is_of e) pending

-- whether the temporary file of an entry is sure to be there
abbrev pub is_sure : AddEntry → List Reservation → Bool
is_sure e pending = list_any (λ r. is_of e r && r.sure) pending

-- the path of the temporary file of an entry, if it is pending
abbrev pub temp_of : AddEntry → List Reservation → Option (List ℕ)
temp_of e [] = None
temp_of e (r ∷ rs) = if is_of e r then Some r.temp else temp_of e rs

-- the sum of the sizes announced
abbrev pub held_size : List Reservation → ℕ
held_size pending = sum_by (λ r. r.size) pending

-- whether one has this number
abbrev pub has : ℕ → List Reservation → Bool
has n pending = list_any (λ r. r.number == n) pending

-- a reservation of a key, with its temporary file under a root
pub record IsReserved (root : List ℕ) (r : Reservation) : Type 0 where
  pub key : is_key r.key ≡ true
  pub number : r.number < 2 ^ 64
  pub temp : r.temp ≡ root ++ temp_name r.number

abbrev pub AllReserved : List ℕ → List Reservation → Type 0
AllReserved root pending = AllByRecursion (IsReserved root) pending

-- without those of this number
abbrev pub without_number : ℕ → List Reservation → List Reservation
without_number n pending = filter (λ r. not (r.number == n)) pending

-- none has this number, and each number below is taken
pub record IsLeastFree (n : ℕ) (pending : List Reservation) : Type 0 where
  pub free : has n pending ≡ false
  pub least : (m : ℕ) → m < n → has m pending ≡ true

-- a reservation whose temporary file is not sure to be there any more, where it has this number
abbrev pub doubted : ℕ → Reservation → Reservation
doubted n r = record r { sure = r.sure && not (r.number == n) }

-- the same of all reservations
abbrev pub unsure : ℕ → List Reservation → List Reservation
unsure n pending = map (doubted n) pending

-- the numbers of reservations differ
abbrev pub NumbersDiffer : List Reservation → Type 0
NumbersDiffer [] = Unit {0}
NumbersDiffer (r ∷ rs) = (has r.number rs ≡ false) × NumbersDiffer rs

-- closing the reservation of a pending entry gives its size back
abbrev pub GivesBack : Type 0
GivesBack = (e : AddEntry) (pending : List Reservation) → NumbersDiffer pending → is_pending e pending ≡ true
    → held_size (without_number e.number pending) + e.size ≡ held_size pending

-- the temporary files that are sure to be there are
abbrev pub AllSure : Files → List Reservation → Type 0
AllSure files pending = AllByRecursion (λ r. r.sure ≡ true → ¬ (Lacks r.temp files)) pending

-- the temporary file of each reservation is as it was
abbrev pub KeepsReserved : List Reservation → Files → Files → Type 0
KeepsReserved pending old new = AllByRecursion (λ r. file_at new r.temp ≡ file_at old r.temp) pending
