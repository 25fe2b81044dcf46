-- Whose the reservations are, as it is kept, and what one entry makes of them and ends.
use Rattle.std.specs.Prelude.{◌≡◌, ◌<◌, ◌+◌, ◌-◌, ◌==◌, ℕ, List, [], ◌∷◌, ◌++◌, length, map, Bool}
use Rattle.std.specs.Prelude.{true, false}
use Rattle.std.specs.Prelude.{not, ◌&&◌, Option, Some, None, if◌then◌else◌, count_by, slice_get}
use Rattle.std.specs.Prelude.{slice_index_or, set}
use Rattle.dist_types.specs.declared.ids.JobId.{JobId}
use Rattle.core_rules.specs.declared.entry.CoreKind.{CoreKind}
use Rattle.core_rules.specs.Log.{same_job, names, names_job, is_this}
use Rattle.core_rules.specs.Reservation.{frees_by}
use Rattle.quota.specs.Quota.{Owner}
use Rattle.quota.specs.declared.rows.OwnedRow.{OwnedRow}
use Rattle.quota.specs.declared.rows.Share.{Share}

-- A reservation: its number, its job, its registration, the place of its client, and whether nothing ended
-- it.
pub record Owned : Type 0 where
  pub number : ℕ
  pub job : JobId
  pub reg : ℕ
  pub client : ℕ
  pub unended : Bool

-- What contracts see of them: the id of the first job, the reservations in the order of their making, how
-- many
-- clients there are, and whether there is room for one reservation more.
pub record Held : Type 0 where
  pub first : ℕ
  pub owned : List Owned
  pub clients : ℕ
  pub has_room : Bool

-- What contracts see of where shares are looked for: the newest of each registration, and whether there is
-- room for one more.
pub record Placed : Type 0 where
  pub newest : List (ℕ × ℕ)
  pub has_room : Bool

-- whose a reservation is
abbrev pub owner_of : Owned → Owner
owner_of o = record { number = o.number; client = o.client }

-- how many unended reservations a client has
abbrev pub count_of : List Owned → ℕ → ℕ
count_of owned client = count_by (λ o. o.unended && (o.client == client)) owned

-- a reservation after an entry
abbrev pub owned_after : CoreKind → Owned → Owned
owned_after kind o = record o { unended = o.unended && not (frees_by kind o.job o.reg) }

-- what ends reservations: a job's own, some jobs', those at a registration, if there is one, and at some
abbrev pub ended_job : JobId → Owned → Owned
ended_job job o = record o { unended = o.unended && not (same_job job o.job) }

abbrev pub ended_jobs : List JobId → Owned → Owned
ended_jobs jobs o = record o { unended = o.unended && not (names_job jobs o.job) }

abbrev pub ended_at : ℕ → Owned → Owned
ended_at reg o = record o { unended = o.unended && not (reg == o.reg) }

abbrev pub ended_if : Option ℕ → Owned → Owned
ended_if reg o = record o { unended = o.unended && not (is_this reg o.reg) }

abbrev pub ended_at_all : List ℕ → Owned → Owned
ended_at_all regs o = record o { unended = o.unended && not (names regs o.reg) }

-- how they are kept: rows, each of which names a share, which is what one client has at one registration

-- the reservation of a row whose share is this, if there is one
abbrev pub owned_by : Option Share → OwnedRow → Owned
owned_by None row =
    record { number = row.number; job = row.job; reg = 0; client = 0; unended = false }
owned_by (Some share) row = record {
  number = row.number;
  job = row.job;
  reg = share.reg;
  client = share.client;
  unended = row.unended && not share.over;
}

-- the reservation of a row
abbrev pub owned_in : List Share → OwnedRow → Owned
owned_in shares row = owned_by (slice_get shares row.share) row

-- the reservations of some rows
abbrev pub owned_of : List OwnedRow → List Share → List Owned
owned_of rows shares = map (owned_in shares) rows

-- a share once it is ended
abbrev pub share_ended : Share → Share
share_ended share = record share { count = 0; over = true }

-- a share of that registration is ended, and every other stays
abbrev pub share_ended_at : ℕ → Share → Share
share_ended_at reg share = if reg == share.reg then share_ended share else share

-- how many unended rows have the share in a place
abbrev pub count_in : List OwnedRow → ℕ → ℕ
count_in rows place = count_by (λ r. r.unended && (r.share == place)) rows

-- Among the registrations of the shares before that place, the newest share of this one, if there is one.
abbrev pub IsNewest : ℕ → ℕ → List ℕ → Option ℕ → Type 0
IsNewest reg bound regs None = (i n : ℕ) → i < bound → slice_get regs i ≡ Some n → (reg == n) ≡ false
IsNewest reg bound regs (Some at) = (at < bound) × (slice_get regs at ≡ Some reg)
    × ((i n : ℕ) → at < i → i < bound → slice_get regs i ≡ Some n → (reg == n) ≡ false)

-- the registrations of some shares
abbrev pub regs_of : List Share → List ℕ
regs_of shares = map (λ s. s.reg) shares

-- each share names the newest one before it at its registration
abbrev pub AreLinked : List Share → Type 0
AreLinked shares = (place : ℕ) (s : Share) → slice_get shares place ≡ Some s
    → IsNewest s.reg place (regs_of shares) s.before

-- Each row has a share and each share a client. A share counts its unended rows, where it is not over, and
-- what
-- each client holds is counted.
pub record AreCounted (rows : List OwnedRow) (shares : List Share) (held : List ℕ) : Type 0 where
  pub placed : (place : ℕ) (r : OwnedRow) → slice_get rows place ≡ Some r → r.share < length shares
  pub listed : (place : ℕ) (s : Share) → slice_get shares place ≡ Some s → s.client < length held
  pub counted : (place : ℕ) (s : Share) → slice_get shares place ≡ Some s
      → s.count ≡ (if s.over then 0 else count_in rows place)
  pub held_are : (client n : ℕ) → slice_get held client ≡ Some n → n ≡ count_of (owned_of rows shares) client

-- All that is kept of the reservations, with the newest share of each registration.
pub record AreKept (rows : List OwnedRow) (shares : List Share) (newest : ℕ → Option ℕ) (held : List ℕ)
    : Type 0 where
  pub linked : AreLinked shares
  pub newest_are : (reg : ℕ) → IsNewest reg (length shares) (regs_of shares) (newest reg)
  pub counted : AreCounted rows shares held

-- a share with one reservation less, unless it is over; and how many its client has less
abbrev pub share_lowered : Share → Share
share_lowered share = record share { count = share.count - 1 }

abbrev pub lowered_by : Share → ℕ
lowered_by share = if share.over then 0 else 1

-- The share in a place is changed, and its client holds so many less.
pub record TakesFrom (change : Share → Share) (less : Share → ℕ) (shares after : List Share)
    (held left : List ℕ) (place : ℕ) : Type 0 where
  pub share : Share
  pub at : slice_get shares place ≡ Some share
  pub changed : after ≡ set shares place (change share)
  pub lowered : left ≡ set held share.client (slice_index_or held share.client 0 - less share)

-- the fields of a share that never change
abbrev pub is_of : ℕ → ℕ → Share → Bool
is_of reg client share = (share.reg == reg) && (share.client == client) && not share.over

-- each share has a client
abbrev pub AreListed : List Share → List ℕ → Type 0
AreListed shares held = (place : ℕ) (s : Share) → slice_get shares place ≡ Some s → s.client < length held

-- of a share its registration and the one before it
abbrev pub link_of : Share → ℕ × Option ℕ
link_of share = (share.reg, share.before)

-- a reservation once it is ended
abbrev pub owned_ended : Owned → Owned
owned_ended o = record o { unended = false }

-- a share with one reservation more, and one that is new
abbrev pub share_raised : Share → Share
share_raised share = record share { count = share.count + 1 }

abbrev pub share_new : ℕ → ℕ → Option ℕ → Share
share_new reg client before =
    record { reg = reg; client = client; count = 0; before = before; over = false }

-- the newest share of each registration
abbrev pub AreNewest : List Share → (ℕ → Option ℕ) → Type 0
AreNewest shares newest = (reg : ℕ) → IsNewest reg (length shares) (regs_of shares) (newest reg)

-- no share more, or one, behind the one that it names
abbrev pub new_shares : ℕ → ℕ → Option (Option ℕ) → List Share
new_shares reg client None = []
new_shares reg client (Some before) = share_new reg client before ∷ []

-- the shares are as they were, or have one more, without a reservation
abbrev pub IsGrown : List Share → List Share → ℕ → ℕ → Type 0
IsGrown old new reg client = (more : Option (Option ℕ)) × (new ≡ old ++ new_shares reg client more)

-- a reservation where its job's is ended, if it is
abbrev pub ended_job_if : Bool → JobId → Owned → Owned
ended_job_if ends job o = record o { unended = o.unended && not (ends && same_job job o.job) }
