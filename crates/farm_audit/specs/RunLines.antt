-- The lines of a run, as a farm prints it.
use Rattle.std.specs.Prelude.{ℕ, ◌+◌, List, [], ◌∷◌, ◌++◌, length, map, Option, Some, None, false}
use Rattle.std.specs.List.{flat_map}
use Rattle.dist_types.specs.declared.addr.Addr.{Addr}
use Rattle.dist_types.specs.declared.ids.JobId.{JobId}
use Rattle.core_rules.specs.Reservation.{Booking, is_claimed}
use Rattle.core_rules.specs.Job.{state_of}
use Rattle.core_rules.specs.Rows.{servers_of, unended_by_id}
use Rattle.core_rules.specs.declared.rows.ServerRow.{ServerRow}
use Rattle.core_rules.specs.declared.entry.CoreEntry.{CoreEntry}
use Rattle.farm_entries.specs.declared.site.Site.{Site}
use Rattle.farm_entries.specs.Printed.{core_count, ids_given, version_of}
use Rattle.farm_entries.specs.Seen.{core_log}
use Rattle.farm_entries.specs.Servers.{ServerNow, server_of}
use Rattle.farm_entries.specs.declared.entry.Entry.{Entry}
use Rattle.farm_entries.specs.declared.entry.StepKind.{StepKind}
use Rattle.farm_entries.specs.declared.entry.StepKind.TheVariants.{Ran}
use Rattle.farm_entries.specs.declared.entry.Step.{Step}
use Rattle.farm_entries.specs.declared.entry.OutCall.{OutCall}
use Rattle.farm_entries.specs.declared.entry.Reply.{Reply}
use Rattle.farm_entries.specs.declared.entry.EntryWord.{EntryWord}
use Rattle.run_lines.specs.declared.line.RunLine.{RunLine}
use Rattle.run_lines.specs.declared.line.RunLine.TheVariants as line
use Rattle.audit.specs.Keyless.{keyless}

-- ---- an entry

-- its core entry, of that number; no key is shown
abbrev pub core_lines : ℕ → Option CoreEntry → List RunLine
core_lines number None = []
core_lines number (Some e) = line.Core number (keyless e.kind) ∷ []

-- what is shown of a step: not what a build gave
abbrev pub shown : StepKind → StepKind
shown (Ran job went result) = Ran job went None
shown other = other

abbrev pub step_lines : Option Step → List RunLine
step_lines None = []
step_lines (Some s) = line.Step s.server (shown s.kind) ∷ []

abbrev pub call_lines : Option OutCall → List RunLine
call_lines None = []
call_lines (Some c) = line.Call c.target c.bytes ∷ []

abbrev pub reply_lines : Option Reply → List RunLine
reply_lines None = []
reply_lines (Some r) = line.Reply r.to r.bytes ∷ []

abbrev pub word_lines : Option EntryWord → List RunLine
word_lines None = []
word_lines (Some w) = line.Word w ∷ []

-- an entry of that number, whose core entry, if it has one, has that other number
abbrev pub entry_lines : ℕ → ℕ → Entry → List RunLine
entry_lines number core_number e =
    line.Entry number e.event ∷ core_lines core_number e.core ++ step_lines e.step ++ call_lines e.call
    ++ reply_lines e.reply ++ word_lines e.word

-- entries, the first of which has that number, and so many core entries before it
abbrev pub entries_lines : ℕ → ℕ → List Entry → List RunLine
entries_lines number core_number [] = []
entries_lines number core_number (e ∷ es) =
    entry_lines number core_number e ++ entries_lines (number + 1) (core_number + core_count e.core) es

-- ---- the books

-- a registration that stands; whether it drains is not shown
abbrev pub row_line : ServerRow → RunLine
row_line row = line.Server (record row { draining = false })

-- a reservation that is unended
abbrev pub booking_line : Booking → RunLine
booking_line b = line.Job b.job b.reg (state_of b.job b.later) (is_claimed b)

-- a job that a server holds
abbrev pub held_line : Addr → JobId × List ℕ → RunLine
held_line addr p = line.Held addr p.0 p.1

-- an archive of a server
abbrev pub archive_line : Addr → List ℕ × ℕ → RunLine
archive_line addr p = line.Archive addr p.0 p.1

-- what a server keeps
abbrev pub server_lines : ServerNow → List RunLine
server_lines s = map (held_line s.setup.addr) s.held ++ map (archive_line s.setup.addr) s.archives

-- what stands after the whole log
abbrev pub standing_lines : Site → List Entry → List RunLine
standing_lines setup entries =
    map row_line (servers_of (core_log entries)) ++ map booking_line (unended_by_id (core_log entries))
    ++ flat_map (λ s. server_lines (server_of s entries)) setup.servers ++ line.End ∷ []

abbrev pub books_lines : Site → List Entry → List RunLine
books_lines setup entries =
    line.Books ∷ line.Ids setup.scheduler.base (ids_given setup.scheduler (core_log entries))
    ∷ standing_lines setup entries

-- ---- the whole run

abbrev pub run_lines : Site → List Entry → List RunLine
run_lines setup entries =
    line.Run (version_of setup.rules) (length entries) ∷ entries_lines 0 0 entries ++ books_lines setup entries
