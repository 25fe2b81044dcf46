-- One build of a job that was taken out, and its end.
use Rattle.std.specs.Prelude.{◌≡◌, ◌≢◌, ◌≤◌, ℕ, Bool, true, false, List, Option, Some, None, Result, Ok, Err}
use Rattle.std.specs.Prelude.{OnOk}
use Rattle.sha2.specs.Sha256.{sha256}
use Rattle.dist_types.specs.Builder.{Built, built_row}
use Rattle.dist_types.specs.Cause.{Rose}
use Rattle.dist_types.specs.Content.{Recorded, KeptOrRecorded}
use Rattle.dist_types.specs.declared.builder.BuildFault.{BuildFault}
use Rattle.dist_types.specs.declared.builder.BuildFault.TheVariants as build
use Rattle.dist_types.specs.declared.command.CompileCommand.{CompileCommand}
use Rattle.dist_types.specs.declared.fault.Memory as want
use Rattle.dist_types.specs.declared.results.BuildResult.{BuildResult}
use Rattle.dist_types.specs.declared.results.JobComplete.{JobComplete}
use Rattle.dist_types.specs.declared.results.RunJobResult.{RunJobResult}
use Rattle.dist_types.specs.declared.results.RunJobResult.TheVariants as answer
use Rattle.build_server.specs.Rules.{Update, fault_of}
use Rattle.dist_types.specs.declared.builder.BuildCause.TheVariants as cause
use Rattle.build_server.specs.declared.fault.ServerFault.{ServerFault}
use Rattle.build_server.specs.declared.fault.ServerFault.TheVariants as fault
use Rattle.build_server.specs.declared.run.Taken.{Taken}
use Rattle.build_server.specs.declared.run.Taken.TheVariants as taken
use Rattle.build_server.specs.declared.run.Outcome.{Outcome}
use Rattle.build_server.specs.declared.run.Outcome.TheVariants as outcome
use Rattle.build_server.specs.declared.run.Ran.{Ran}
use Rattle.build_server.specs.declared.run.Ran.TheVariants as ran

-- what a run asks for: the command, the names of the outputs, and the inputs
pub record Order : Type 0 where
  pub command : CompileCommand
  pub outputs : List (List ℕ)
  pub inputs : List ℕ

-- what a builder tells: its record, and its count of refusals
pub record Builder : Type 0 where
  pub rows : Option (List Built)
  pub refusals : ℕ

abbrev pub builder_of : {B : Type 0} → (B → Option (List Built)) → (B → ℕ) → B → Builder
builder_of built refusals b = record { rows = built b; refusals = refusals b }

-- the row of a build in an archive
abbrev pub row_for : List ℕ → List ℕ → Order → Result BuildResult BuildFault → Built
row_for tc archive order heard = built_row tc (sha256 archive) order.command order.outputs order.inputs heard

-- The builder was called once: one row more, which is left out at most where memory ran out. It refused
-- only where its count rose.
pub record IsBuilt (tc archive : List ℕ) (order : Order) (heard : Result BuildResult BuildFault)
    (old new : Builder) : Type 0 where
  pub row : heard ≢ Err build.Memory → Recorded (row_for tc archive order heard) old.rows new.rows
  pub memory : heard ≡ Err build.Memory → KeptOrRecorded (row_for tc archive order heard) old.rows new.rows
  pub steady : OnOk heard (new.refusals ≡ old.refusals)
  pub uncounted : heard ≡ Err build.Memory → new.refusals ≡ old.refusals
  pub later : old.refusals ≤ new.refusals
  pub cause : heard ≡ Err build.Refused → Rose old.refusals new.refusals

-- what the builder's answer makes of a run; want of memory gives back what was taken out
abbrev pub outcome_of : List ℕ → List ℕ → Result BuildResult BuildFault → Result Outcome (Taken × want.Memory)
outcome_of tc archive (Ok built) = Ok (outcome.Built tc built)
outcome_of tc archive (Err build.Refused) = Ok (outcome.Refused tc)
outcome_of tc archive (Err build.Memory) = Err (taken.Read tc archive, record {})

-- a build in an archive that was read
pub record BuildsIn (tc archive : List ℕ) (order : Order) (old new : Builder)
    (result : Result Outcome (Taken × want.Memory)) : Type 0 where
  pub heard : Result BuildResult BuildFault
  pub built : IsBuilt tc archive order heard old new
  pub gives : result ≡ outcome_of tc archive heard

-- The builder is called once where the archive was read, and nowhere else.
abbrev pub Builds : Taken → Order → Builder → Builder → Result Outcome (Taken × want.Memory) → Type 0
Builds taken.None order old new result = (new ≡ old) × (result ≡ Ok outcome.None)
Builds (taken.Unlisted tc) order old new result = (new ≡ old) × (result ≡ Ok (outcome.Unlisted tc))
Builds (taken.Folder tc) order old new result = (new ≡ old) × (result ≡ Ok (outcome.Folder tc))
Builds (taken.Read tc archive) order old new result = BuildsIn tc archive order old new result

-- whether an archive was read
abbrev pub is_due : Taken → Bool
is_due taken.None = false
is_due (taken.Unlisted tc) = false
is_due (taken.Folder tc) = false
is_due (taken.Read tc archive) = true

-- what a run comes to whose build, where one is due, is answered so
abbrev pub outcome_by : Taken → Result BuildResult BuildFault → Result Outcome (Taken × want.Memory)
outcome_by taken.None heard = Ok outcome.None
outcome_by (taken.Unlisted tc) heard = Ok (outcome.Unlisted tc)
outcome_by (taken.Folder tc) heard = Ok (outcome.Folder tc)
outcome_by (taken.Read tc archive) heard = outcome_of tc archive heard

-- what is said of a run that is done
abbrev pub ran_of : Outcome → Ran
ran_of outcome.None = ran.None
ran_of (outcome.Unlisted tc) = ran.Unlisted tc
ran_of (outcome.Folder tc) = ran.Folder tc
ran_of (outcome.Built tc built) = ran.Built tc
ran_of (outcome.Refused tc) = ran.Refused tc

-- what a build gave
abbrev pub built_of : Outcome → Option BuildResult
built_of (outcome.Built tc built) = Some built
built_of other = None

-- what a build gave, as a run's answer
abbrev pub complete_of : BuildResult → JobComplete
complete_of built = record { output = built.output; outputs = built.outputs }

-- what a run answers whose Complete was accepted
abbrev pub run_answer : Outcome → Result RunJobResult ServerFault
run_answer outcome.None = Ok answer.JobNotFound
run_answer (outcome.Unlisted tc) = Err (fault.BuildFailed cause.Unlisted)
run_answer (outcome.Folder tc) = Err (fault.BuildFailed cause.Folder)
run_answer (outcome.Built tc built) = Ok (answer.Complete (complete_of built))
run_answer (outcome.Refused tc) = Err (fault.BuildFailed cause.Refused)

-- what a run answers, by what the scheduler answered to Complete: where that is not accepted the outcome is
-- hidden
abbrev pub ended : Outcome → Update → Result RunJobResult ServerFault
ended outcome (Ok x) = run_answer outcome
ended outcome (Err e) = Err (fault_of e)
