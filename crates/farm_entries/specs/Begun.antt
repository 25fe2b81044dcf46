-- What is kept of a call, told by the entry that made it.
use Rattle.std.specs.Prelude.{◌≡◌, ℕ, List, length, take, slice_get, Bool, false, Option, Some, None}
use Rattle.dist_types.specs.declared.addr.Addr.{Addr}
use Rattle.dist_types.specs.declared.results.BuildResult.{BuildResult}
use Rattle.http_routes.specs.declared.route.Asked.{Asked}
use Rattle.http_routes.specs.declared.server_route.ServerAsked.{ServerAsked}
use Rattle.core_rules.specs.Ticket.{Ticket}
use Rattle.core_rules.specs.declared.entry.CoreEntry.{CoreEntry}
use Rattle.build_server.specs.declared.run.Outcome.{Outcome}
use Rattle.build_server.specs.declared.run.Outcome.TheVariants as outcome
use Rattle.build_server.specs.declared.run.Ran.{Ran}
use Rattle.build_server.specs.declared.run.Ran.TheVariants as ran
use Rattle.farm_entries.specs.declared.site.Site.{Site as Setup}
use Rattle.farm_entries.specs.declared.entry.Effect.{Effect}
use Rattle.farm_entries.specs.declared.entry.Entry.{Entry}
use Rattle.farm_entries.specs.declared.entry.OutCall.{OutCall}
use Rattle.farm_entries.specs.declared.entry.Step.{Step}
use Rattle.farm_entries.specs.declared.entry.StepKind.{StepKind}
use Rattle.farm_entries.specs.declared.entry.StepKind.TheVariants as step
use Rattle.farm_entries.specs.declared.pending.Ask.{Ask}
use Rattle.farm_entries.specs.declared.pending.Ask.TheVariants.{Assign, Report}
use Rattle.farm_entries.specs.declared.pending.Pending.{Pending}
use Rattle.farm_entries.specs.declared.pending.Told.TheVariants as told
use Rattle.farm_entries.specs.Answers.{Asks}
use Rattle.farm_entries.specs.Effects.{effect_of}
use Rattle.farm_entries.specs.Seen.{core_log}
use Rattle.farm_entries.specs.Served.{AsksServer, IsReport, report_of}
use Rattle.farm_entries.specs.Tickets.{ticket_of}
use Rattle.farm_entries.specs.Ways.{Way, way_of, to_nothing, to_nobody, to_scheduler, to_server, to_call}
use Rattle.farm_entries.specs.Ways.{to_beat}
use Rattle.farm_entries.specs.Ways.{to_restart}

-- the call that asks for a job's assignment, with the reservation that the core entry made; its reply goes to
-- the entry that made it
pub record IsAssignment (core : List CoreEntry) (number : ℕ) (json : Bool) (made : Option CoreEntry)
    (p : Pending) : Type 0 where
  pub ticket : Ticket
  pub reserved : ticket_of core made ≡ Some ticket
  pub is : p ≡ record { root = number; json = json; ask = Assign ticket }

-- by what the event of entry `number` came to, and what it did, where that settled no call
abbrev pub IsBegunBy : Setup → List CoreEntry → ℕ → Way → Effect → Pending → Type 0
IsBegunBy setup core number (to_scheduler peer bytes) x p = (a : Asked) × Asks setup peer bytes a
    × IsAssignment core number a.json x.core p
IsBegunBy setup core number (to_server s bytes) x p = (a : ServerAsked) × AsksServer s bytes a
    × IsReport s number a p
IsBegunBy setup core number (to_beat s) x p = p ≡ report_of number false s told.Heartbeat
IsBegunBy setup core number to_nothing x p = ⊥
IsBegunBy setup core number to_nobody x p = ⊥
IsBegunBy setup core number (to_call n reply) x p = ⊥
IsBegunBy setup core number (to_restart s key nonce) x p = ⊥

-- what is kept of the call of entry n, where that settled no call
pub record IsFirstCall (setup : Setup) (log : List Entry) (n : ℕ) (p : Pending) : Type 0 where
  pub entry : Entry
  pub there : slice_get log n ≡ Some entry
  pub begun : IsBegunBy setup (core_log (take n log)) n (way_of setup (take n log) entry.event.kind)
      (effect_of entry) p

-- how a run went, as its step tells it
abbrev pub outcome_of : Ran → Option BuildResult → Outcome
outcome_of ran.None result = outcome.None
outcome_of (ran.Unlisted tc) result = outcome.Unlisted tc
outcome_of (ran.Folder tc) result = outcome.Folder tc
outcome_of (ran.Built tc) (Some result) = outcome.Built tc result
outcome_of (ran.Built tc) None = outcome.None
outcome_of (ran.Refused tc) result = outcome.Refused tc

-- what is kept of the report of a run's end: the run's own, with how it went
abbrev pub completion_by : ℕ → Bool → Addr → ℕ → StepKind → Option Pending
completion_by root json addr life (step.Ran job ran result) =
    Some (record {
      root = root;
      json = json;
      ask = Report addr life (told.Complete job (outcome_of ran result));
    })
completion_by root json addr life (step.Heard as_what) = None
completion_by root json addr life (step.Assigned job tc ready) = None
completion_by root json addr life (step.Submitted job outcome) = None
completion_by root json addr life (step.Finished job) = None
completion_by root json addr life (step.Unreported job) = None
completion_by root json addr life (step.Opened archives) = None

abbrev pub completion_at : ℕ → Bool → Addr → ℕ → Option Step → Option Pending
completion_at root json addr life None = None
completion_at root json addr life (Some step) = completion_by root json addr life step.kind

abbrev pub completion_of : Pending → Ask → Option Step → Option Pending
completion_of p (Assign t) step = None
completion_of p (Report addr life told) step = completion_at p.root p.json addr life step

-- The report of a run's end is made where the run's Started is settled: its reply goes where that call's
-- would have gone.
pub record IsCompletion (setup : Setup) (log : List Entry) (n : ℕ) (x : Effect) (p : Pending) : Type 0 where
  pub first : Pending
  pub call : IsFirstCall setup log n first
  pub is : completion_of first first.ask x.step ≡ Some p

-- what is kept of the call that an event's effect makes, over the entries before it
abbrev pub IsMadeBy : Setup → List Entry → Way → Effect → Pending → Type 0
IsMadeBy setup log (to_call n reply) x p = IsCompletion setup log n x p
IsMadeBy setup log (to_scheduler peer bytes) x p = IsBegunBy setup (core_log log) (length log)
    (to_scheduler peer bytes) x p
IsMadeBy setup log (to_server s bytes) x p = IsBegunBy setup (core_log log) (length log)
    (to_server s bytes) x p
IsMadeBy setup log (to_beat s) x p = IsBegunBy setup (core_log log) (length log) (to_beat s) x p
IsMadeBy setup log to_nothing x p = ⊥
IsMadeBy setup log to_nobody x p = ⊥
IsMadeBy setup log (to_restart s key nonce) x p = ⊥

-- what is kept of the call of entry n
pub record IsCallOf (setup : Setup) (log : List Entry) (n : ℕ) (p : Pending) : Type 0 where
  pub entry : Entry
  pub there : slice_get log n ≡ Some entry
  pub made : IsMadeBy setup (take n log) (way_of setup (take n log) entry.event.kind) (effect_of entry) p

-- what is kept where an effect makes a call, and nothing where it makes none
abbrev pub Keeps : (Pending → Type 0) → Effect → Option Pending → Type 0
Keeps IsBegun x None = x.call ≡ None
Keeps IsBegun x (Some p) = IsBegun p × (c : OutCall) × (x.call ≡ Some c)
