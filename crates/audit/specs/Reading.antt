-- Reading a printed run line by line: what is kept of it to be judged, or the first line outside the grammar.
use Rattle.std.specs.Prelude.{◌≡◌, ℕ, ◌+◌, ◌-◌, ◌==◌, ◌&&◌, nat_le, Bool, true, false, if◌then◌else◌, List, []}
use Rattle.std.specs.Prelude.{◌∷◌, ◌++◌, length, slice_index, Option, Some, None, Result, Ok, Err}
use Rattle.std.specs.Option.{option_map}
use Rattle.dist_types.specs.Addr.{◌>>=◌}
use Rattle.dist_types.specs.declared.ids.JobId.{JobId}
use Rattle.core_rules.specs.declared.entry.CoreKind.{CoreKind}
use Rattle.core_rules.specs.declared.entry.CoreKind.TheVariants as core
use Rattle.core_rules.specs.declared.entry.Reserved.TheVariants as reserve
use Rattle.line_program.specs.Limits.{max_run_bytes}
use Rattle.line_program.specs.Pieces.{pieces, text_of}
use Rattle.run_lines.specs.Lines.{run_line_at}
use Rattle.run_lines.specs.declared.line.RunLine.{RunLine}
use Rattle.run_lines.specs.declared.line.RunLine.TheVariants as line
use Rattle.farm_entries.specs.declared.entry.StepKind.{StepKind}
use Rattle.farm_entries.specs.declared.entry.StepKind.TheVariants as step
use Rattle.build_server.specs.declared.run.Ran.{Ran}
use Rattle.build_server.specs.declared.run.Ran.TheVariants as ran
use Rattle.audit.specs.declared.mark.Mark.{Mark}
use Rattle.audit.specs.declared.mark.Mark.TheVariants as mark
use Rattle.audit.specs.declared.mark.Book.{Book}
use Rattle.audit.specs.declared.mark.Book.TheVariants as book
use Rattle.audit.specs.declared.order.Place.{Place}
use Rattle.audit.specs.declared.order.Place.TheVariants.{Top}
use Rattle.audit.specs.declared.reading.Reading.{Reading}
use Rattle.audit.specs.Order.{next, is_over}

-- what was read so far
pub record Read : Type 0 where
  pub place : Place
  pub version : ℕ
  pub entries : ℕ
  pub seen : ℕ
  pub at : ℕ
  pub made : ℕ
  pub marks : List Mark
  pub ids_line : ℕ
  pub base : ℕ
  pub count : ℕ
  pub books : List Book

-- the same, of the Rust struct
abbrev pub read_of : Reading → Read
read_of r = record {
  place = r.place;
  version = r.version;
  entries = r.entries;
  seen = r.seen;
  at = r.at;
  made = r.made;
  marks = r.marks.items;
  ids_line = r.ids_line;
  base = r.base;
  count = r.count;
  books = r.books.items;
}

-- how many reservations a core entry makes
abbrev pub makes : CoreKind → ℕ
makes (core.Reserve (reserve.Job job reg forgiven)) = 1
makes other = 0

-- the job that a run built, or whose builder refused it
abbrev pub ran_in : JobId → Ran → Option JobId
ran_in job (ran.Built tc) = Some job
ran_in job (ran.Refused tc) = Some job
ran_in job other = None

-- the same of a step
abbrev pub built_in : StepKind → Option JobId
built_in (step.Ran job how result) = ran_in job how
built_in other = None

-- with a core entry, at the moment of its event
abbrev pub with_kind : ℕ → ℕ → CoreKind → Read → Read
with_kind number core_number kind r = record r {
  marks = r.marks ++ mark.Core number core_number (record { now = r.at; kind = kind }) ∷ [];
  made = r.made + makes kind;
}

-- with a build, if there is one
abbrev pub with_built : ℕ → Option JobId → Read → Read
with_built number None r = r
with_built number (Some job) r = record r { marks = r.marks ++ mark.Built number job ∷ [] }

-- with a line of the books
abbrev pub with_book : Book → Read → Read
with_book b r = record r { books = r.books ++ b ∷ [] }

-- with what the line of this number says
abbrev pub with_line : ℕ → RunLine → Read → Read
with_line number (line.Run version entries) r = record r { version = version; entries = entries }
with_line number (line.Entry n e) r = record r { at = e.at; seen = r.seen + 1 }
with_line number (line.Core n kind) r = with_kind number n kind r
with_line number (line.Step server kind) r = with_built number (built_in kind) r
with_line number (line.Call target bytes) r = r
with_line number (line.Reply to bytes) r = r
with_line number (line.Word w) r = r
with_line number line.Books r = r
with_line number (line.Ids base count) r = record r { ids_line = number; base = base; count = count }
with_line number (line.Server row) r = with_book (book.Server row) r
with_line number (line.Job job reg state claimed) r = with_book (book.Job job reg state claimed) r
with_line number (line.Held server job tc) r = r
with_line number (line.Archive server tc bytes) r = r
with_line number line.End r = r

-- it ends by a line end
abbrev pub is_ended : List ℕ → Bool
is_ended p = slice_index p (length p - 1) == 10

-- within the limit, and ended
abbrev pub fits : ℕ → List ℕ → Bool
fits room p = nat_le (length p) room && is_ended p

-- behind a line that may stand there
abbrev pub placed : ℕ → Read → RunLine → Option Place → Option Read
placed number r l place = option_map (λ p. record (with_line number l r) { place = p }) place

-- what was read with one line more, if it is in the grammar
abbrev pub take_line : ℕ → ℕ → Read → List ℕ → Option Read
take_line number room r p =
    if fits room p then (run_line_at (text_of p) >>= λ l. placed number r l (next r.place r.seen l)) else None

-- whether a line was taken, and what was read then
abbrev pub IsTaken : Bool → Option Read → Read → Type 0
IsTaken true o r = o ≡ Some r
IsTaken false o r = o ≡ None

-- at the end the last line is there, or the number after the last is told, and the entries are as many as
-- line 1 says
abbrev pub finished : ℕ → Read → Result Read ℕ
finished number r = if is_over r.place then (if r.seen == r.entries then Ok r else Err 1) else Err number

-- the next step behind a line that was taken, or the number of that which was not
abbrev pub read_then : ℕ → Option Read → (Read → Result Read ℕ) → Result Read ℕ
read_then number None f = Err number
read_then number (Some r) f = f r

-- what was read with the lines from this number on, with so much room left, or the first that is not in the
-- grammar
unfoldable pub read_from : ℕ → ℕ → Read → List (List ℕ) → Result Read ℕ
read_from number room r [] = finished number r
read_from number room r (p ∷ ps) = read_then number (take_line number room r p)
    (λ s. read_from (number + 1) (room - length p) s ps)

-- at the start
abbrev pub nothing_read : Read
nothing_read = record {
  place = Top;
  version = 0;
  entries = 0;
  seen = 0;
  at = 0;
  made = 0;
  marks = [];
  ids_line = 0;
  base = 0;
  count = 0;
  books = [];
}

-- what is to be judged of a text, or the number of its first line outside the grammar
abbrev pub read : List ℕ → Result Read ℕ
read bytes = read_from 1 max_run_bytes nothing_read (pieces bytes)

-- what a function answered is what reading gives
abbrev pub IsReadAnswer : Result Reading ℕ → Result Read ℕ → Type 0
IsReadAnswer (Ok r) given = given ≡ Ok (read_of r)
IsReadAnswer (Err n) given = given ≡ Err n
