-- How a reader judges a line over what it read before.
use Rattle.std.specs.Prelude.{ℕ, Bool, if◌then◌else◌, List, Option, Some, None, Result, Ok, Err}
use Rattle.line_program.specs.Lines.{Judge}
use Rattle.line_program.specs.declared.fault.FarmFault.{FarmFault}
use Rattle.line_program.specs.declared.fault.FarmFault.TheVariants as fault

-- What a text says, and what it says where addresses may have scopes; over what was read, whether a line is out of its
-- place, whether its address stands before, and whether its ids meet earlier ones; and what is read with it.
pub record Reader (L S : Type 0) : Type 0 where
  pub line_at : List ℕ → Option L
  pub scoped_at : List ℕ → Option L
  pub misplaced : S → L → Bool
  pub duplicate : S → L → Bool
  pub overlapping : S → L → Bool
  pub with_line : S → L → S

-- what was read, with a line more, or why that line is faulty
abbrev pub onto : {L S : Type 0} → Reader L S → ℕ → S → L → Result S FarmFault
onto reader number r l =
    if reader.misplaced r l then Err (fault.BadLine number)
    else if reader.duplicate r l then Err (fault.DuplicateAddress number)
    else if reader.overlapping r l then Err (fault.OverlappingIds number)
    else Ok (reader.with_line r l)

-- why a line is faulty that is one for scopes alone, or none
abbrev pub fault_of : {L S : Type 0} → Reader L S → ℕ → S → Option L → FarmFault
fault_of reader number r None = fault.BadLine number
fault_of reader number r (Some l) =
    if reader.misplaced r l then fault.BadLine number else fault.ScopedAddress number

-- what was read, with what the line says, or why it is faulty
abbrev pub judged : {L S : Type 0} → Reader L S → ℕ → S → Option L → Option L → Result S FarmFault
judged reader number r (Some l) any = onto reader number r l
judged reader number r None any = Err (fault_of reader number r any)

-- what was read, with a line of this text more, or why it is faulty
abbrev pub judge_by : {L S : Type 0} → Reader L S → Judge S
judge_by reader number r text = judged reader number r (reader.line_at text) (reader.scoped_at text)
