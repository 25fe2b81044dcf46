-- The verdict on a text.
use Rattle.std.specs.Prelude.{ℕ, ◌+◌, ◌-◌, ◌==◌, nat_lt, if◌then◌else◌, List, [], Option, Some, None, Result, Ok, Err}
use Rattle.dist_types.specs.declared.rules.Rules.{Rules}
use Rattle.dist_types.specs.declared.rules.Rules.TheVariants.{One, Two}
use Rattle.audit.specs.declared.verdict.Verdict.{Verdict}
use Rattle.audit.specs.declared.verdict.Verdict.TheVariants.{Holds, Refused}
use Rattle.line_program.specs.declared.why.Why.{Why}
use Rattle.line_program.specs.declared.why.Why.TheVariants.{Text, Core, Books}
use Rattle.audit.specs.Reading.{Read, read}
use Rattle.audit.specs.Replay.{Judged, judge_all}
use Rattle.audit.specs.Books.{due_books, first_wrong}

-- the rules of a version
abbrev pub rules_of : ℕ → Rules
rules_of version = if version == 1 then One else Two

-- where the ids begin: as many are given before as line `ids` says, less those that the entries give
abbrev pub start_of : Read → Judged
start_of r = record {
  core = record {
    start = record { base = r.base; count = r.count - r.made; rules = rules_of r.version };
    log = [];
  };
  built = [];
}

-- by the books: the lines behind the ids stand one after the other
abbrev pub by_books : ℕ → Option ℕ → Verdict
by_books ids_line None = Holds
by_books ids_line (Some place) = Refused (ids_line + 1 + place) Books

-- by the core entries and the builds, and then by the books
abbrev pub by_marks : Read → Result Judged (ℕ × Why) → Verdict
by_marks r (Err x) = Refused x.0 x.1
by_marks r (Ok j) = by_books r.ids_line (first_wrong r.books (due_books j.core.log))

-- what was read is judged; more ids than were given are refused before all else
abbrev pub on_read : Read → Verdict
on_read r = if nat_lt r.count r.made then Refused r.ids_line Core else by_marks r (judge_all (start_of r) r.marks)

-- the text is read, and judged
abbrev pub by_reading : Result Read ℕ → Verdict
by_reading (Err line) = Refused line Text
by_reading (Ok r) = on_read r

-- the verdict on a text: outside the grammar before the core entries and the builds, and these before the books
abbrev pub verdict : List ℕ → Verdict
verdict text = by_reading (read text)
