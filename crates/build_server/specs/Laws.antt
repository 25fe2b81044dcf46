-- What follows for a reader from what a running server's calls leave.
use Rattle.std.specs.Prelude.{◌≡◌, ◌≢◌, ◌≤◌, ◌<◌, ◌⊎◌, ◌++◌, [], ◌∷◌, ℕ, List, length, Option, IfSome, Result}
use Rattle.std.specs.Prelude.{Ok, Err, OnOk}
use Rattle.std.specs.Option.{option_map}
use Rattle.dist_types.specs.Builder.{built_row}
use Rattle.dist_types.specs.Cause.{Rose}
use Rattle.dist_types.specs.Content.{Recorded}
use Rattle.dist_types.specs.Outgoing.{Updated, Peer, updated_row}
use Rattle.dist_types.specs.declared.builder.BuildFault.{BuildFault}
use Rattle.dist_types.specs.declared.builder.BuildFault.TheVariants as build
use Rattle.dist_types.specs.declared.dialer.Asked.{Asked}
use Rattle.dist_types.specs.declared.ids.JobId.{JobId}
use Rattle.dist_types.specs.declared.results.BuildResult.{BuildResult}
use Rattle.dist_types.specs.declared.results.JobState.TheVariants.{Ready, Started, Complete}
use Rattle.dist_types.specs.declared.results.RunJobResult.{RunJobResult}
use Rattle.dist_types.specs.declared.results.RunJobResult.TheVariants as run
use Rattle.dist_types.specs.declared.results.SubmitToolchainResult.{SubmitToolchainResult}
use Rattle.dist_types.specs.declared.results.UpdateJobStateResult.{UpdateJobStateResult}
use Rattle.build_server.specs.Books.{Books}
use Rattle.build_server.specs.Builds.{Order, Builder, complete_of}
use Rattle.dist_types.specs.declared.results.SubmitToolchainResult.TheVariants.{CannotCache}
use Rattle.build_server.specs.Rows.{Reports, Reading, Ends, IsSubmitOn, IsRunOn}
use Rattle.build_server.specs.Rules.{Update}
use Rattle.dist_types.specs.declared.builder.BuildCause.TheVariants as cause
use Rattle.build_server.specs.declared.fault.ServerFault.{ServerFault}
use Rattle.build_server.specs.declared.fault.ServerFault.TheVariants as fault

-- the builder's record has one row more, where it is told: a build of this order, in some archive, with
-- this answer
pub record HasBuilt (order : Order) (heard : Result BuildResult BuildFault) (old new : Builder) : Type 0 where
  pub toolchain : List ℕ
  pub digest : List ℕ
  pub row : Recorded (built_row toolchain digest order.command order.outputs order.inputs heard) old.rows
      new.rows

-- The builder's record has no row more, or one, of this order.
abbrev pub MayHaveBuilt : Order → Builder → Builder → Type 0
MayHaveBuilt order old new = (new.rows ≡ old.rows)
    ⊎ ((heard : Result BuildResult BuildFault) × HasBuilt order heard old new)

-- What a run's answer says of its builder: Complete is what the builder's one new row gave, Refused is
-- where that row refused, and elsewhere the builder has no new row; an update that was not accepted, and
-- want of memory, hide what was built, which was one build at most.
abbrev pub AnswersBuild : Order → Builder → Builder → Result RunJobResult ServerFault → Type 0
AnswersBuild order old new (Ok run.JobNotFound) = new ≡ old
AnswersBuild order old new (Ok (run.Complete x)) =
    (built : BuildResult) × (x ≡ complete_of built) × HasBuilt order (Ok built) old new
AnswersBuild order old new (Err (fault.BuildFailed cause.Refused)) =
    HasBuilt order (Err build.Refused) old new × Rose old.refusals new.refusals
AnswersBuild order old new (Err (fault.BuildFailed other)) = new ≡ old
AnswersBuild order old new (Err (fault.UpdateFailed e)) = MayHaveBuilt order old new
AnswersBuild order old new (Err fault.Memory) = MayHaveBuilt order old new
AnswersBuild order old new (Err (fault.AlreadyAssigned job)) = ⊥

-- these rows more, in order, where they are told
abbrev pub RecordedAll : List Updated → Option (List Updated) → Option (List Updated) → Type 0
RecordedAll more old new = new ≡ option_map (λ rows. rows ++ more) old

-- one Started row that was accepted, and then one Complete row with this answer
abbrev pub ReportedBoth : JobId → Update → Reports → Reports → Type 0
ReportedBoth job complete old new = (started : UpdateJobStateResult)
    × RecordedAll (updated_row job.0 Started (Ok started) ∷ updated_row job.0 Complete complete ∷ [])
    old.rows new.rows

-- What a run's answer says of its reports: where it is told how the run went, Started and Complete were
-- accepted; where an update was not accepted, it is the one that is told, and the last. Of want of memory
-- nothing is said but that the rows are a front of these.
abbrev pub AnswersReports : JobId → Reports → Reports → Result RunJobResult ServerFault → Type 0
AnswersReports job old new (Ok x) = (complete : UpdateJobStateResult) × ReportedBoth job (Ok complete) old new
AnswersReports job old new (Err (fault.BuildFailed c)) =
    (complete : UpdateJobStateResult) × ReportedBoth job (Ok complete) old new
AnswersReports job old new (Err (fault.UpdateFailed e)) =
    RecordedAll (updated_row job.0 Started (Err e) ∷ []) old.rows new.rows
    ⊎ ReportedBoth job (Err e) old new
AnswersReports job old new (Err fault.Memory) =
    (new.rows ≡ old.rows) ⊎ ((started : Update)
    × RecordedAll (updated_row job.0 Started started ∷ []) old.rows new.rows)
    ⊎ ((complete : Update) × ReportedBoth job complete old new)
AnswersReports job old new (Err (fault.AlreadyAssigned j)) = ⊥

-- a run's answer is what its rows say
pub record RunIsTold (job : JobId) (order : Order) (before after : Reports) (builder built : Builder)
    (answer : Result RunJobResult ServerFault) : Type 0 where
  pub build : AnswersBuild order builder built answer
  pub reports : AnswersReports job before after answer

abbrev pub RunsAreTold : (Peer → Updated → Asked → Type 0) → Type 0
RunsAreTold says = (job : JobId) (order : Order) (kept turned : Option Books) (before after : Reports)
    (builder built : Builder) (answer : Result RunJobResult ServerFault)
    → IsRunOn says job order kept turned before after builder built answer
    → RunIsTold job order before after builder built answer

-- What a submission's answer says of its report: UpdateFailed exactly where the one Ready row was not
-- accepted.
abbrev pub AnswersReady : JobId → Reports → Reports → Result SubmitToolchainResult ServerFault → Type 0
AnswersReady job old new (Ok x) = (ready : UpdateJobStateResult)
    × RecordedAll (updated_row job.0 Ready (Ok ready) ∷ []) old.rows new.rows
AnswersReady job old new (Err (fault.UpdateFailed e)) =
    RecordedAll (updated_row job.0 Ready (Err e) ∷ []) old.rows new.rows
AnswersReady job old new (Err fault.Memory) = (new.rows ≡ old.rows)
    ⊎ ((ready : Update) × RecordedAll (updated_row job.0 Ready ready ∷ []) old.rows new.rows)
AnswersReady job old new (Err (fault.BuildFailed c)) = ⊥
AnswersReady job old new (Err (fault.AlreadyAssigned j)) = ⊥

-- What a submission's answer says of its reader. Where the count of faults changed, a read failed: the answer
-- is CannotCache, whatever is held, and nothing is stored. So it is where the reader tells that more than
-- 1,073,741,824 bytes were left, unless Ready was not accepted or memory ran out. Where it tells that no more
-- were left, and no read failed, what the submission ended with is all of it.
pub record AnswersReading (job : JobId) (kept turned : Option Books) (old new : Reading)
    (answer : Result SubmitToolchainResult ServerFault) : Type 0 where
  pub failed : new.faults ≢ old.faults → (answer ≡ Ok CannotCache) × (turned ≡ kept)
  pub long : IfSome old.left (λ left. 1073741824 < length left
      → OnOk answer (answer ≡ Ok CannotCache) × (turned ≡ kept))
  pub whole : IfSome old.left (λ left. length left ≤ 1073741824 → ¬ Rose old.faults new.faults
      → OnOk answer ((ready : UpdateJobStateResult) × Ends job (Ok ready) left kept turned answer))

-- a submission's answer is what its row and its reader say
pub record SubmissionIsTold (job : JobId) (kept turned : Option Books) (before after : Reports)
    (old new : Reading) (answer : Result SubmitToolchainResult ServerFault) : Type 0 where
  pub ready : AnswersReady job before after answer
  pub reading : AnswersReading job kept turned old new answer

abbrev pub SubmissionsAreTold : (Peer → Updated → Asked → Type 0) → Type 0
SubmissionsAreTold says = (job : JobId) (kept turned : Option Books) (before after : Reports)
    (old new : Reading)
    (answer : Result SubmitToolchainResult ServerFault)
    → IsSubmitOn says job kept turned before after old new answer
    → SubmissionIsTold job kept turned before after old new answer
