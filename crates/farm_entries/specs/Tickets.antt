-- The reservations that entries make.
use Rattle.std.specs.Prelude.{ℕ, List, length, take, slice_get, Option, Some, None}
use Rattle.dist_types.specs.Addr.{◌>>=◌}
use Rattle.dist_token.specs.Token.{token_text, job_claims_text}
use Rattle.core_rules.specs.Standing.{address_of, key_at}
use Rattle.core_rules.specs.Ticket.{Ticket}
use Rattle.core_rules.specs.declared.entry.CoreEntry.{CoreEntry}
use Rattle.core_rules.specs.declared.entry.CoreKind.{CoreKind}
use Rattle.core_rules.specs.declared.entry.CoreKind.TheVariants as core
use Rattle.core_rules.specs.declared.entry.Reserved.TheVariants.{Job, NoRoom, Spent}
use Rattle.farm_entries.specs.declared.entry.Entry.{Entry}
use Rattle.farm_entries.specs.Seen.{core_log}

-- the reservation that a core entry of this kind makes behind a log: at its registration's address, with the
-- job's token under the key of the registration's own heartbeat
abbrev pub ticket_by : List CoreEntry → CoreKind → Option Ticket
ticket_by log (core.Reserve (Job job reg forgiven)) = do
  server ← address_of log reg
  key ← key_at log reg
  Some (record {
    number = length log;
    job = job;
    server = server;
    reg = reg;
    auth = token_text key (job_claims_text job.0);
  })
ticket_by log (core.Reserve (NoRoom standing)) = None
ticket_by log (core.Reserve Spent) = None
ticket_by log other = None

-- the same where there is one
abbrev pub ticket_of : List CoreEntry → Option CoreEntry → Option Ticket
ticket_of log None = None
ticket_of log (Some e) = ticket_by log e.kind

-- the reservation that the entry of that number made
abbrev pub ticket_at : List Entry → ℕ → Option Ticket
ticket_at log n = slice_get log n >>= λ e. ticket_of (core_log (take n log)) e.core
