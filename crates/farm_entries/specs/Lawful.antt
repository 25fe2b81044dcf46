-- What every run has.
use Rattle.std.specs.Prelude.{◌≡◌, ℕ, List, take, map, true}
use Rattle.std.specs.Prelude.{Some}
use Rattle.std.specs.List.{AllByRecursion}
use Rattle.core_rules.specs.declared.start.Start.{Start}
use Rattle.core_rules.specs.Reservation.{bookings, unspent}
use Rattle.core_rules.specs.Job.{commits, open_jobs}
use Rattle.core_rules.specs.Standing.{standing}
use Rattle.core_rules.specs.Rule.{is_among}
use Rattle.core_rules.specs.Laws.{IsLegal, AreDistinct, IsHeldOnce, HasOrder, IsBounded}
use Rattle.core_rules.specs.Ticket.{Ticket}
use Rattle.core_rules.specs.declared.entry.CoreEntry.{CoreEntry}
use Rattle.farm_entries.specs.declared.site.Site.{Site as Setup}
use Rattle.farm_script.specs.declared.event.Event.{Event}
use Rattle.farm_entries.specs.declared.entry.Entry.{Entry}
use Rattle.farm_entries.specs.Calls.{waiting_at}
use Rattle.farm_entries.specs.Next.{IsNext}
use Rattle.farm_entries.specs.Seen.{ids_start, core_log}
use Rattle.farm_entries.specs.Tickets.{ticket_at}
use Rattle.farm_entries.specs.Weather.{calm}

-- the core log is legal, and the reservation of each call that waits is unspent
pub record IsSound (setup : Setup) (log : List Entry) : Type 0 where
  pub legal : IsLegal (ids_start setup) (core_log log)
  pub own : (n : ℕ) (w : Entry) (t : Ticket) → waiting_at log n ≡ Some w → ticket_at log n ≡ Some t
      → is_among (unspent (core_log log)) t.number t.job ≡ true

-- Each core entry is the core rule's over those before it; so different reservations have different jobs,
-- each open job has exactly one unended reservation, at a registration that stands, the states of a committed
-- job begin with pending or ready and leave none out from there on, and a registration with c processors has
-- a load of at most c + 1 + c/8.
pub record IsLawful (start : Start) (log : List CoreEntry) : Type 0 where
  pub legal : IsLegal start log
  pub ids : AreDistinct (map (λ b. b.job) (bookings log))
  pub held : AllByRecursion (λ c. IsHeldOnce log c.job) (open_jobs log)
  pub states : AllByRecursion HasOrder (commits log)
  pub loads : AllByRecursion (IsBounded log) (standing log)

-- after each front of the entries
abbrev pub AreLawful : Setup → List Entry → Type 0
AreLawful setup entries = (n : ℕ) → IsLawful (ids_start setup)
    (core_log (take n entries))

-- each event, whatever it is, has a next entry in calm weather
abbrev pub HasNext : Setup → List Entry → Type 0
HasNext setup log = (event : Event) → (e : Entry) × IsNext calm setup log event e
