-- What the command has to do: what its words ask for, or tell a fault.
use Rattle.std.specs.Prelude.{◌≡◌, ◌⊎◌, ℕ, ◌<◌, List, Option, Some, None, IfSome, Result, Ok, Err, ⊤}
use Rattle.std.specs.Prelude.{codes}
use Rattle.rand_core.specs.Stream.{Stream}
use Rattle.dist_types.specs.Cause.{Rose}
use Rattle.dist_types.specs.Content.{Added, Began, Recorded, KeptOrRecorded}
use Rattle.dist_types.specs.declared.fault.Failed.{Failed}
use Rattle.dist_config.specs.Serve.{scheduler_call, server_call}
use Rattle.dist_config.specs.declared.serve.ServeCall.{ServeCall}
use Rattle.line_program.specs.declared.fault.ConfigCause.TheVariants.{Key}
use Rattle.line_program.specs.declared.fault.FarmFault.{FarmFault}
use Rattle.line_program.specs.declared.fault.FarmFault.TheVariants.{Usage, WriteFault, BadConfig, ServeFault, Memory}
use Rattle.line_program.specs.Program.{Runs, IsRun}
use Rattle.line_program.specs.Report.{IsTold}
use Rattle.line_program.specs.Side.{Side}
use Rattle.farm_script.specs.FirstFaulty.{IsFirstFaulty}
use Rattle.command_line.specs.declared.files.NamedFile.{NamedFile}
use Rattle.command_line.specs.declared.command.Command.{Command}
use Rattle.command_line.specs.declared.command.Command.TheVariants as command
use Rattle.command_line.specs.declared.command.AuthSubcommand.{AuthSubcommand}
use Rattle.command_line.specs.Asked.{Invocation, asked_by}
use Rattle.command_line.specs.Parsed.{IsParsed}
use Rattle.command_line.specs.Line.{auth_line, stream_left}
use Rattle.farm_entries.specs.RunText.{IsRunText}
use Rattle.farm_storm.specs.Summary.{IsStormText}
use Rattle.farm.specs.Audited.{IsAuditRun}

-- what stands in front of each fault
abbrev pub program_name : List ℕ
program_name = codes "sccache-dist"

-- ---- what a call meets

-- the record of what serves, where it is told, and its count of faults
pub record Serving : Type 0 where
  pub calls : Option (List ServeCall)
  pub faults : ℕ

-- all but errs, as a moment finds it
pub record Moment : Type 0 where
  pub input : Side
  pub out : Side
  pub files : Option (List NamedFile)
  pub file_faults : ℕ
  pub random : Stream
  pub serve : Serving

-- what serves, by what it tells
abbrev pub serving : {A : Type 0} → (A → Option (List ServeCall)) → (A → ℕ) → A → Serving
serving calls faults a = record { calls = calls a; faults = faults a }

-- the moment at which these are found
abbrev pub moment : Side → Side → Option (List NamedFile) → ℕ → Stream → Serving → Moment
moment input out files file_faults random serve = record {
  input = input;
  out = out;
  files = files;
  file_faults = file_faults;
  random = random;
  serve = serve;
}

-- the same where no file is read
abbrev pub fileless : Side → Side → Stream → Serving → Moment
fileless input out random serve = moment input out None 0 random serve

-- a call of the command: its words, and what it meets, before and after it
pub record Called : Type 0 where
  pub words : List (List ℕ)
  pub before : Moment
  pub after : Moment

-- ---- the run of a script

-- The runs of the farm command. Nothing is written before every event was carried out: where memory ran out, out is as
-- it was.
abbrev pub farm_runs : Runs
farm_runs = record {
  name = program_name;
  first_faulty = IsFirstFaulty;
  whole = IsRunText;
  begun = IsRunText;
  left = λ content text. ⊥;
}

-- Input is read whole, before a line is judged; nothing is written before every line was. The text of the
-- script's run was written; or a fault has its cause. Where reading failed or memory ran out, input was read
-- in part at most.
abbrev pub IsFarmRun : Result ⊤ FarmFault → Side → Side → Side → Side → Type 0
IsFarmRun result input input_after out out_after = IsRun farm_runs result input input_after out out_after

-- ---- the storm

-- The summary of the storm of so many events was written; or a front of it, and out failed.
abbrev pub IsStormRun : ℕ → Result ⊤ FarmFault → Side → Side → Type 0
IsStormRun n (Ok x) out out_after = (text : List ℕ) × IsStormText n text
    × Added text out.content out_after.content × (out_after.faults ≡ out.faults)
IsStormRun n (Err WriteFault) out out_after = (text : List ℕ) × IsStormText n text
    × Began text out.content out_after.content × Rose out.faults out_after.faults
IsStormRun n (Err Memory) out out_after = out_after ≡ out
IsStormRun n (Err other) out out_after = ⊥

-- ---- keys and tokens

-- The line of the command was written; or a front of it, and out failed; and the random words that it takes were
-- drawn. Or its key is not base64url, and none was. Where memory ran out, nothing was written, and what the line
-- takes was drawn or nothing.
abbrev pub IsAuthRun : AuthSubcommand → Result ⊤ FarmFault → Stream → Stream → Side → Side → Type 0
IsAuthRun auth (Ok x) random random_after out out_after = (line : List ℕ)
    × (auth_line auth random ≡ Some line) × (random_after ≡ stream_left auth random)
    × Added line out.content out_after.content × (out_after.faults ≡ out.faults)
IsAuthRun auth (Err WriteFault) random random_after out out_after = (line : List ℕ)
    × (auth_line auth random ≡ Some line) × (random_after ≡ stream_left auth random)
    × Began line out.content out_after.content × Rose out.faults out_after.faults
IsAuthRun auth (Err (BadConfig (Key key))) random random_after out out_after = (auth_line auth random ≡ None)
    × (key ≡ codes "secret_key") × (random_after ≡ random) × (out_after ≡ out)
IsAuthRun auth (Err Memory) random random_after out out_after = (out_after ≡ out)
    × ((random_after ≡ random) ⊎ (random_after ≡ stream_left auth random))
IsAuthRun auth (Err other) random random_after out out_after = ⊥

-- ---- serving

-- The configuration was handed on once, and what serves answered Ok; or it failed, and counted that.
abbrev pub IsStarted : (Result (Unit {0}) Failed → ServeCall) → Result ⊤ FarmFault → Serving → Serving
    → Type 0
IsStarted row (Ok x) serve serve_after = Recorded (row (Ok tt)) serve.calls serve_after.calls
    × (serve_after.faults ≡ serve.faults)
IsStarted row (Err ServeFault) serve serve_after = Rose serve.faults serve_after.faults × (e : Failed)
    × KeptOrRecorded (row (Err e)) serve.calls serve_after.calls
IsStarted row (Err other) serve serve_after = ⊥

-- ---- the whole call

-- A command was carried out, or met a fault; what it does not use is as it was.
abbrev pub IsCarriedOut : Command → Result ⊤ FarmFault → Moment → Moment → Type 0
IsCarriedOut command.Farm result before after =
    IsFarmRun result before.input after.input before.out after.out × (after.random ≡ before.random)
    × (after.serve ≡ before.serve)
IsCarriedOut command.Audit result before after =
    IsAuditRun result before.input after.input before.out after.out × (after.random ≡ before.random)
    × (after.serve ≡ before.serve)
IsCarriedOut (command.Storm n) result before after =
    IsStormRun n result before.out after.out × (after.input ≡ before.input) × (after.random ≡ before.random)
    × (after.serve ≡ before.serve)
IsCarriedOut (command.Auth auth) result before after =
    IsAuthRun auth result before.random after.random before.out after.out × (after.input ≡ before.input)
    × (after.serve ≡ before.serve)
IsCarriedOut (command.Scheduler config) result before after =
    IsStarted (scheduler_call config) result before.serve after.serve × (after.input ≡ before.input)
    × (after.out ≡ before.out) × (after.random ≡ before.random)
IsCarriedOut (command.Server config) result before after =
    IsStarted (server_call config) result before.serve after.serve × (after.input ≡ before.input)
    × (after.out ≡ before.out) × (after.random ≡ before.random)

-- nothing but files may have been read
pub record IsUntouched (before after : Moment) : Type 0 where
  pub input : after.input ≡ before.input
  pub out : after.out ≡ before.out
  pub random : after.random ≡ before.random
  pub serve : after.serve ≡ before.serve

-- no command is there: the words' own fault is told
abbrev pub IsUnparsed : Invocation → Result ⊤ FarmFault → Moment → Moment → Type 0
IsUnparsed what (Ok x) before after = ⊥
IsUnparsed what (Err f) before after = IsParsed what (Err f) before.files before.file_faults after.file_faults
    × IsUntouched before after

-- The command that is asked for over the files was carried out, or met a fault.
pub record IsWorked (what : Invocation) (result : Result ⊤ FarmFault) (before after : Moment) : Type 0 where
  pub command : Command
  pub parsed : IsParsed what (Ok command) before.files before.file_faults after.file_faults
  pub carried_out : IsCarriedOut command result before after

-- that words name no command, or that memory ran out
abbrev pub IsUsage : Result ⊤ FarmFault → Type 0
IsUsage (Ok x) = ⊥
IsUsage (Err f) = (f ≡ Usage) ⊎ (f ≡ Memory)

-- The words are judged first. Where they stand in no row that is the fault, unless memory ran out, and
-- nothing was touched. Else the configuration that they name is read, and then the command is carried out.
abbrev pub IsDoneBy : Option Invocation → Result ⊤ FarmFault → Moment → Moment → Type 0
IsDoneBy None result before after = IsUsage result × IsUntouched before after
    × (after.file_faults ≡ before.file_faults)
IsDoneBy (Some what) result before after = IsUnparsed what result before after
    ⊎ IsWorked what result before after

abbrev pub IsDone : Result ⊤ FarmFault → Called → Type 0
IsDone result c = IsDoneBy (asked_by c.words) result c.before c.after

-- ---- what is told

-- What the status answers: 0 where what the words ask for was done, and then errs is as it was; else a fault
-- that has its cause is told.
pub record IsAnswered (answer : ℕ) (c : Called) (errs errs_after : Side) : Type 0 where
  pub done : answer ≡ 0 → IsDone (Ok tt) c × (errs_after ≡ errs)
  pub told : 0 < answer → (f : FarmFault) × IsDone (Err f) c
      × IsTold program_name f answer errs errs_after
