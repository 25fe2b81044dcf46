-- What the scheduler keeps beside its log, and what one entry does to it.
use Rattle.std.specs.Prelude.{◌≡◌, ◌≤◌, ◌<◌, ℕ, ◌+◌, ◌-◌, ◌*◌, ◌^◌, max, List, [], ◌++◌, length, map}
use Rattle.std.specs.Prelude.{filter, Bool, IsSome, ◌∷◌}
use Rattle.std.specs.Prelude.{true, ◌&&◌, ◌==◌, Option, Some, None, if◌then◌else◌}
use Rattle.std.specs.Prelude.{option_to_list, nat_eq, ◌%◌}
use Rattle.std.specs.List.{AllByRecursion, list_any}
use Rattle.std.specs.Option.{option_map}
use Rattle.row_index.specs.Lookup.{value_at}
use Rattle.core_rules.specs.declared.start.Start.{Start}
use Rattle.core_rules.specs.declared.entry.CoreEntry.{CoreEntry}
use Rattle.core_rules.specs.declared.entry.CoreKind.{CoreKind}
use Rattle.core_rules.specs.declared.entry.CoreKind.TheVariants.{Beat, Reserve}
use Rattle.core_rules.specs.declared.entry.Reserved.{Reserved}
use Rattle.core_rules.specs.declared.entry.Reserved.TheVariants.{Job}
use Rattle.core_rules.specs.declared.rows.ServerRow.{ServerRow}
use Rattle.reservations.specs.declared.booked.BookedRow.{BookedRow}
use Rattle.core_rules.specs.Next.{UnspentRow}
use Rattle.reservations.specs.Booked.{booked_new, booked_after, held_view, unspent_view, open_view}
use Rattle.core_rules.specs.Log.{is_this, names}
use Rattle.core_rules.specs.Standing.{Registered, standing, ends_by, address_of}
use Rattle.core_rules.specs.Reservation.{bookings, unspent, frees_by}
use Rattle.core_rules.specs.Rows.{servers_of, held_rows, open_rows}
use Rattle.core_rules.specs.Rule.{place_at}
use Rattle.core_rules.specs.Laws.{IsLegal, AreDistinct}
use Rattle.sched_core.specs.Most.{most_standing}
use Rattle.core_rules.specs.Next.{job_by, place_of_booking, place_of_unspent, row_by, settled}
use Rattle.core_rules.specs.Next.{unspent_by, unspent_stays}

-- the rows of the registrations that stand

-- a row with one reservation less, where it is at that registration
abbrev pub row_lowered : ℕ → ServerRow → ServerRow
row_lowered reg row = record row { load = if reg == row.reg then row.load - 1 else row.load }

-- the registration of a reservation, if there is one, where an entry ends it
abbrev pub lowered_in : CoreKind → Option BookedRow → Option ℕ
lowered_in kind None = None
lowered_in kind (Some b) = if b.unended && frees_by kind b.job b.reg then Some b.reg else None

-- the keys of the registrations that stand

-- the number of a registration, and its key
abbrev pub key_of : Registered → ℕ × List ℕ
key_of g = (g.reg, g.key)

-- the keys of the registrations that stand, each with its number
abbrev pub key_list : List CoreEntry → List (ℕ × List ℕ)
key_list log = map key_of (standing log)

-- what key is under each number, if one is
abbrev pub Keys : Type 0
Keys = ℕ → Option (List ℕ)

-- the key of each registration that stands, which its own heartbeat carried, under its number
abbrev pub keys_of : List CoreEntry → Keys
keys_of log n = value_at nat_eq n (key_list log)

-- the keys of the authorizers that are kept under numbers
abbrev pub kept_by : {A : Type 0} → (A → List ℕ) → List (ℕ × A) → Keys
kept_by own_key entries n = option_map own_key (value_at nat_eq n entries)

-- each registration of these rows has a key
abbrev pub HaveKeys : List ServerRow → Keys → Type 0
HaveKeys rows keys = (n : ℕ) → list_any (λ r. r.reg == n) rows ≡ true → IsSome (keys n)

-- what is kept of a log: the number of its next entry, the registrations that stand, and their keys
pub record IsKeptOf (log : List CoreEntry) (next : ℕ) (kept_rows : List ServerRow) (kept_keys : Keys)
    : Type 0 where
  pub number : next ≡ length log
  pub rows : kept_rows ≡ servers_of log
  pub keys : kept_keys ≡ keys_of log

-- those keys, and one more, if there is one
abbrev pub with_key : Option (ℕ × List ℕ) → Keys → Keys
with_key None keys n = keys n
with_key (Some k) keys n = if nat_eq k.0 n then Some k.1 else keys n

-- those keys without the ones under those numbers
abbrev pub without : List ℕ → Keys → Keys
without numbers keys n = if names numbers n then None else keys n

-- the same without the one under a number, if there is a number
abbrev pub without_this : Option ℕ → Keys → Keys
without_this number keys n = if is_this number n then None else keys n

-- the same without those of the registrations that an entry ends
abbrev pub ended_keys : CoreKind → Keys → Keys
ended_keys kind keys n = if ends_by kind n then None else keys n

-- the key that an entry of this number brings
abbrev pub key_by : CoreKind → ℕ → Option (ℕ × List ℕ)
key_by (Beat server nonce cpus key pruned reaped replaced is_new) number = if is_new then Some (number, key)
    else None
key_by other number = None

-- the reservations, one row each

-- the reservation that an entry of this number makes, where its registration is one of the rows
abbrev pub booked_by : CoreKind → List ServerRow → ℕ → ℕ → Option BookedRow
booked_by kind rows number now = option_map booked_new (job_by kind rows number now)

-- what is kept, as lists

-- The registrations that stand, by rising number, and the reservations, in the order of their reserving.
pub record Lists : Type 0 where
  pub rows : List ServerRow
  pub booked : List BookedRow

-- those of an empty log
abbrev pub no_lists : Lists
no_lists = record { rows = []; booked = [] }

-- What contracts see of the books: the lists, the id of the first job, whether there is room for one
-- registration more, the registration at which there is room for one reservation more, if there is one, and
-- how many places the registrations stand in, with the least number above all of them.
pub record Kept : Type 0 where
  pub lists : Lists
  pub first : ℕ
  pub has_row_room : Bool
  pub job_room : Option ℕ
  pub places : ℕ
  pub top : ℕ

-- the lists after an entry of this number

-- the rows: those that stay, and the one that is made
abbrev pub rows_next : Lists → CoreEntry → ℕ → List ServerRow
rows_next lists e number = settled e (held_view lists.booked) (open_view lists.booked) lists.rows
    ++ option_to_list (row_by e.kind number e.now)

-- the reservations: those that were made before, and the one that is made
abbrev pub booked_next : Lists → CoreEntry → ℕ → List BookedRow
booked_next lists e number = map (booked_after e) lists.booked
    ++ option_to_list (booked_by e.kind lists.rows number e.now)

-- the unspent ones among them: those that stay so, and the one that is made
abbrev pub unspent_next : Lists → CoreEntry → ℕ → List UnspentRow
unspent_next lists e number = filter (unspent_stays e.kind) (unspent_view lists.booked) ++ option_to_list
    (unspent_by (job_by e.kind lists.rows number e.now))

-- both
abbrev pub lists_next : Lists → CoreEntry → ℕ → Lists
lists_next lists e number = record {
  rows = rows_next lists e number;
  booked = booked_next lists e number;
}

-- room

-- a heartbeat that says new adds a registration
abbrev pub MayRegister : CoreKind → Type 0
MayRegister (Beat server nonce cpus key pruned reaped replaced is_new) = is_new ≡ true
MayRegister other = ⊥

-- an entry is of a call that makes no registration and no reservation
abbrev pub MakesNothing : CoreKind → Type 0
MakesNothing (Beat server nonce cpus key pruned reaped replaced is_new) = ⊥
MakesNothing (Reserve reserved) = ⊥
MakesNothing other = Unit {0}

-- there is room for the reservation that a reserve makes
abbrev pub HasRoomFor : Reserved → Option ℕ → Type 0
HasRoomFor (Job job reg forgiven) room = room ≡ Some reg
HasRoomFor other room = Unit {0}

-- there is room for the reservation that an entry makes
abbrev pub HasJobRoom : CoreKind → Option ℕ → Type 0
HasJobRoom (Reserve reserved) room = HasRoomFor reserved room
HasJobRoom other room = Unit {0}

-- all of it

-- one list and another that has the same elements, each as often, in whatever order
abbrev pub AreReordered : {X : Type 0} → List X → List X → Type 0
AreReordered [] ys = ys ≡ []
AreReordered {X} (x ∷ xs) ys = (front : List X) × (rest : List X) × (ys ≡ front ++ x ∷ rest)
    × AreReordered xs (front ++ rest)

-- a reservation is at the registration that its number says, and at its address
abbrev pub IsBookedAt : List CoreEntry → BookedRow → Type 0
IsBookedAt log b = (place_at log b.number ≡ Some b.reg) × (address_of log b.reg ≡ Some b.server)

-- The books are the log's. The open jobs are in the order of their reserving, and in the log in that of their
-- commits.
pub record AreBooks (books : Lists) (kept_keys : Keys) (log : List CoreEntry) : Type 0 where
  pub rows : books.rows ≡ servers_of log
  pub keys : kept_keys ≡ keys_of log
  pub jobs : map (λ b. b.job) books.booked ≡ map (λ b. b.job) (bookings log)
  pub made : length books.booked ≡ length (bookings log)
  pub apart : AreDistinct (map (λ b. b.job) books.booked)
  pub held : held_view books.booked ≡ held_rows log
  pub unspent : map place_of_unspent (unspent_view books.booked) ≡ map place_of_booking (unspent log)
  pub open_ones : AreReordered (open_view books.booked) (open_rows log)
  pub placed : AllByRecursion (IsBookedAt log) books.booked

-- The books are the log's, and each entry of the log is the core rule's. The log has room for each unspent
-- reservation to be spent. The reservations begin with the first id that the log gives. The registrations
-- stand in no more places than twice the most that ever stood at one time, and their numbers are of the log.
pub record IsState (start : Start) (kept : Kept) (kept_keys : Keys) (log : List CoreEntry)
    (log_len log_capacity : ℕ) : Type 0 where
  pub books : AreBooks kept.lists kept_keys log
  pub fits : start.count < 2 ^ 64
  pub legal : IsLegal start log
  pub log_room : log_len + length (unspent_view kept.lists.booked) ≤ log_capacity
  pub first : kept.first ≡ (start.base + start.count) % 2 ^ 64
  pub top : kept.top ≤ length log
  pub places : kept.places ≤ 2 * max 1 (most_standing log)
