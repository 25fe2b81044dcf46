-- A program over lines: what its runs are, what it does with its input, and what its status answers.
use Rattle.std.specs.Prelude.{◌≡◌, ◌≢◌, ◌⊎◌, ℕ, ◌<◌, ◌≤◌, List, [], ◌∷◌, length, Option, IfSome, Result, Ok, Err, ⊤}
use Rattle.dist_types.specs.Cause.{Rose}
use Rattle.dist_types.specs.Content.{Added, Began, Taken, IsAtEnd}
use Rattle.line_program.specs.declared.fault.FarmFault.{FarmFault}
use Rattle.line_program.specs.declared.fault.FarmFault.TheVariants as fault
use Rattle.line_program.specs.Input.{IsReadWhole, IsReadInPart}
use Rattle.line_program.specs.Limits.{bytes_read}
use Rattle.line_program.specs.Report.{IsTold}
use Rattle.line_program.specs.Side.{Side}

-- What the runs of a program are: what stands in front of its faults; the cause and the number of an input's first
-- faulty line; the text of the run of an input that has none; a text that out has a front of where it failed; and a
-- text that was added to out where memory ran out, if out is not as it was.
pub record Runs : Type 1 where
  pub name : List ℕ
  pub first_faulty : List ℕ → FarmFault → Type 0
  pub whole : List ℕ → List ℕ → Type 0
  pub begun : List ℕ → List ℕ → Type 0
  pub left : Option (List ℕ) → List ℕ → Type 0

-- no line of the input is faulty
abbrev pub IsFaultless : Runs → List ℕ → Type 0
IsFaultless r bytes = (f : FarmFault) → r.first_faulty bytes f → ⊥

-- These bytes of an input are all of it, or reach one byte past the limit: that is judged as all of it.
abbrev pub IsEnough : List ℕ → Option (List ℕ) → Type 0
IsEnough bytes content = (rest : Option (List ℕ)) × Taken bytes content rest
    × ((length bytes ≡ bytes_read) ⊎ IsAtEnd rest)

-- why there was no run: that is the first faulty line, or, where input does not tell its bytes, that of some input;
-- and out is as it was
abbrev pub IsRefused : Runs → FarmFault → Option (List ℕ) → Side → Side → Type 0
IsRefused r f content out out_after = (out_after ≡ out) × IfSome content (λ bytes. r.first_faulty bytes f)
    × ((bytes : List ℕ) × r.first_faulty bytes f)

-- What came of an input that was read. The text of its run was written, and no more; or a fault has its cause: the
-- first faulty line is named; out failed, and has a front of a text; or memory ran out, and out is as it was, or has
-- what the program may leave there.
abbrev pub HasRun : Runs → Result ⊤ FarmFault → Option (List ℕ) → Side → Side → Type 0
HasRun r (Ok x) content out out_after = (out_after.faults ≡ out.faults)
    × IfSome content (λ bytes. IsFaultless r bytes
    × ((text : List ℕ) × r.whole bytes text × Added text out.content out_after.content))
HasRun r (Err (fault.BadLine n)) content out out_after = IsRefused r (fault.BadLine n) content out out_after
HasRun r (Err (fault.ScopedAddress n)) content out out_after =
    IsRefused r (fault.ScopedAddress n) content out out_after
HasRun r (Err (fault.DuplicateAddress n)) content out out_after =
    IsRefused r (fault.DuplicateAddress n) content out out_after
HasRun r (Err (fault.OverlappingIds n)) content out out_after =
    IsRefused r (fault.OverlappingIds n) content out out_after
HasRun r (Err fault.WriteFault) content out out_after = Rose out.faults out_after.faults
    × IfSome content (λ bytes. IsFaultless r bytes
    × ((text : List ℕ) × r.begun bytes text × Began text out.content out_after.content))
HasRun r (Err fault.Memory) content out out_after = (out_after.faults ≡ out.faults)
    × ((out_after ≡ out) ⊎ ((text : List ℕ) × r.left content text × Added text out.content out_after.content))
HasRun r (Err other) content out out_after = ⊥

-- Input is read whole, before a line is judged. Or reading failed, or memory ran out; then it was read in part at most.
abbrev pub IsRun : Runs → Result ⊤ FarmFault → Side → Side → Side → Side → Type 0
IsRun r (Err fault.ReadFault) input input_after out out_after = Rose input.faults input_after.faults
    × (out_after ≡ out) × IsReadInPart input input_after
IsRun r (Err fault.Memory) input input_after out out_after = (input_after.faults ≡ input.faults)
    × IsReadInPart input input_after × HasRun r (Err fault.Memory) input.content out out_after
IsRun r result input input_after out out_after = IsReadWhole input input_after
    × HasRun r result input.content out out_after

-- a call of the program: its words, and input and out before and after it
pub record Called : Type 0 where
  pub words : List (List ℕ)
  pub input : Side
  pub input_after : Side
  pub out : Side
  pub out_after : Side

-- the call with these words that finds these sides and leaves those
abbrev pub call : List (List ℕ) → Side → Side → Side → Side → Called
call words input out input_after out_after = record {
  words = words;
  input = input;
  input_after = input_after;
  out = out;
  out_after = out_after;
}

-- The words are judged first: no word may stand behind the program's name. Then the input is read and run.
abbrev pub IsDoneBy : Runs → List (List ℕ) → Result ⊤ FarmFault → Called → Type 0
IsDoneBy r (name ∷ []) result c = IsRun r result c.input c.input_after c.out c.out_after
IsDoneBy r other result c = (result ≡ Err fault.Usage) × (c.input_after ≡ c.input) × (c.out_after ≡ c.out)

abbrev pub IsDone : Runs → Result ⊤ FarmFault → Called → Type 0
IsDone r result c = IsDoneBy r c.words result c

-- What the status answers: 0 where the text of the run was written, and then errs is as it was; else a fault that has
-- its cause is told. Want of memory for the text of a faulty line is told as that.
pub record IsAnswered (r : Runs) (answer : ℕ) (c : Called) (errs errs_after : Side) : Type 0 where
  pub done : answer ≡ 0 → IsDone r (Ok tt) c × (errs_after ≡ errs)
  pub told : 0 < answer → (f : FarmFault) × IsDone r (Err f) c × IsTold r.name f answer errs errs_after

-- this status, or that of want of memory or of a fault of input, out or errs
abbrev pub IsAmong : ℕ → ℕ → Type 0
IsAmong answer n = (answer ≡ n) ⊎ (answer ≡ 3) ⊎ (answer ≡ 4) ⊎ (answer ≡ 5)

-- All that a call of the program says. There is no status above 5. A fault of input comes before what its bytes say,
-- and out and errs fail in no status but 5. Where a line is faulty it is 1, and where none is it is 0, without want of
-- memory and faults.
pub record IsOutcome (r : Runs) (answer : ℕ) (c : Called) (errs errs_after : Side) : Type 0 where
  pub answered : IsAnswered r answer c errs errs_after
  pub statuses : answer ≤ 5
  pub order : answer ≢ 4 → answer ≢ 5 → c.input_after.faults ≡ c.input.faults
  pub counts : answer ≢ 5 → (c.out_after.faults ≡ c.out.faults) × (errs_after.faults ≡ errs.faults)
  pub faulty : length c.words ≡ 1
      → IfSome c.input.content (λ bytes. (f : FarmFault) → r.first_faulty bytes f → IsAmong answer 1)
  pub faultless : length c.words ≡ 1
      → IfSome c.input.content (λ bytes. IsFaultless r bytes → IsAmong answer 0)
