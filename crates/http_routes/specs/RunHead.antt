-- The body of a request to run a job: a head, behind its length, and the inputs.
use Rattle.std.specs.Prelude.{◌≡◌, ℕ, ◌+◌, ◌<◌, ◌^◌, ◌==◌, List, ◌++◌, length, if◌then◌else◌, true, false}
use Rattle.std.specs.Prelude.{Option, Some, None, Result, Ok}
use Rattle.std.specs.Int.{w32, from_be_bytes, to_be_bytes}
use Rattle.dist_wire.specs.Reading.{exactly_at, run_at}
use Rattle.dist_wire.specs.Spelling.{SpellsRun}
use Rattle.dist_wire.specs.Written.{run_text}
use Rattle.dist_wire.specs.declared.run.RunJobHttpRequest.{RunJobHttpRequest}
use Rattle.http_head.specs.Text.{◌⧺◌}
use Rattle.http_routes.specs.declared.refusal.Refusal.{Refusal}
use Rattle.http_routes.specs.declared.refusal.Refusal.TheVariants.{BadRunHead}
use Rattle.http_routes.specs.Steps.{◌>>=◌, unless_none}

-- The body is a length of four bytes, the high byte first, a head of that many bytes that is one spelling of
-- the run and nothing more, and the inputs, which begin at that place.
pub record IsRunBody (body : List ℕ) (run : RunJobHttpRequest) (at : ℕ) (inputs : List ℕ) : Type 0 where
  pub head : List ℕ
  pub fits : length head < 2 ^ 32
  pub spelled : SpellsRun run head
  pub parts : body ≡ to_be_bytes w32 (length head) ++ (head ++ inputs)
  pub place : at ≡ 4 + length head

-- ---- as it is written

-- the body that is written
unfoldable pub run_body : RunJobHttpRequest → List ℕ → List ℕ
run_body run inputs = to_be_bytes w32 (length (run_text run)) ⧺ run_text run ⧺ inputs

-- ---- as it is read

-- the number that the bytes tell, the high byte first
abbrev pub told_length : Option (List ℕ × List ℕ) → Option (ℕ × List ℕ)
told_length None = None
told_length (Some parts) = Some (from_be_bytes w32 parts.0, parts.1)

-- the length in front, and what follows it
unfoldable pub length_at : List ℕ → Option (ℕ × List ℕ)
length_at bytes = told_length (exactly_at 4 bytes)

-- the run, where nothing is left behind it
abbrev pub alone : Option (RunJobHttpRequest × List ℕ) → Option RunJobHttpRequest
alone None = None
alone (Some parts) = if length parts.1 == 0 then Some parts.0 else None

-- the run that the head is
unfoldable pub run_alone : List ℕ → Option RunJobHttpRequest
run_alone head = alone (run_at head)

-- the run, and where the inputs begin, or the refusal: whether the body has the four bytes of a length
unfoldable pub run_in : List ℕ → Result (RunJobHttpRequest × ℕ) Refusal
run_in body = do
  told ← unless_none (BadRunHead false) (length_at body)
  parts ← unless_none (BadRunHead true) (exactly_at told.0 told.1)
  run ← unless_none (BadRunHead true) (run_alone parts.0)
  Ok (run, 4 + told.0)
