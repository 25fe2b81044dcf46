-- The order of the lines of a printed run: the first line, the entries, the books and the last line.
use Rattle.std.specs.Prelude.{ℕ, ◌==◌, nat_lt, Bool, true, false, if◌then◌else◌, Option, Some, None}
use Rattle.run_lines.specs.declared.line.RunLine.{RunLine}
use Rattle.run_lines.specs.declared.line.RunLine.TheVariants as line
use Rattle.audit.specs.declared.order.Place.{Place}
use Rattle.audit.specs.declared.order.Place.TheVariants.{Top, Entries, Ids, Servers, Jobs, Stores, Over}

-- the first line, which stands at the top; behind it no part of an entry may stand
abbrev pub at_top : Place → Option Place
at_top Top = Some (Entries 6)
at_top other = None

-- the line of an event, whose entry has the number that is due
abbrev pub entry_behind : Place → ℕ → ℕ → Option Place
entry_behind (Entries part) seen number = if number == seen then Some (Entries 0) else None
entry_behind other seen number = None

-- a part of an entry, behind an earlier part
abbrev pub part_behind : Place → ℕ → Option Place
part_behind (Entries last) part = if nat_lt last part then Some (Entries part) else None
part_behind other part = None

-- the books stand behind the entries
abbrev pub books_behind : Place → Option Place
books_behind (Entries part) = Some Ids
books_behind other = None

-- then the ids
abbrev pub ids_behind : Place → Option Place
ids_behind Ids = Some Servers
ids_behind other = None

-- then the registrations
abbrev pub server_behind : Place → Option Place
server_behind Servers = Some Servers
server_behind other = None

-- then the jobs
abbrev pub job_behind : Place → Option Place
job_behind Servers = Some Jobs
job_behind Jobs = Some Jobs
job_behind other = None

-- then what the build servers hold and keep, in whatever order
abbrev pub store_behind : Place → Option Place
store_behind Servers = Some Stores
store_behind Jobs = Some Stores
store_behind Stores = Some Stores
store_behind other = None

-- then the last line
abbrev pub end_behind : Place → Option Place
end_behind Servers = Some Over
end_behind Jobs = Some Over
end_behind Stores = Some Over
end_behind other = None

-- where the text is behind a line more, if the line may stand there; so many entries stand before
abbrev pub next : Place → ℕ → RunLine → Option Place
next place seen (line.Run version entries) = at_top place
next place seen (line.Entry number e) = entry_behind place seen number
next place seen (line.Core number kind) = part_behind place 1
next place seen (line.Step server kind) = part_behind place 2
next place seen (line.Call target bytes) = part_behind place 3
next place seen (line.Reply to bytes) = part_behind place 4
next place seen (line.Word w) = part_behind place 5
next place seen line.Books = books_behind place
next place seen (line.Ids base count) = ids_behind place
next place seen (line.Server row) = server_behind place
next place seen (line.Job job reg state claimed) = job_behind place
next place seen (line.Held server job tc) = store_behind place
next place seen (line.Archive server tc bytes) = store_behind place
next place seen line.End = end_behind place

-- behind the last line
abbrev pub is_over : Place → Bool
is_over Over = true
is_over other = false
