-- A build, question by question.
use Rattle.std.specs.Prelude.{◌≡◌, ◌⊎◌, ◌≤◌, ◌<◌, ◌^◌, ℕ, List, length, Result, Ok, Err}
use Rattle.dist_types.specs.Cause.{counted}
use Rattle.dist_types.specs.declared.builder.BuildFault.{BuildFault}
use Rattle.dist_types.specs.declared.builder.BuildFault.TheVariants as build
use Rattle.dist_types.specs.declared.fault.Memory as want
use Rattle.dist_types.specs.declared.outgoing.CallFault.{CallFault}
use Rattle.dist_types.specs.declared.results.BuildResult.{BuildResult}
use Rattle.dist_types.specs.declared.results.RunJobResult.{RunJobResult}
use Rattle.dist_types.specs.declared.results.SubmitToolchainResult.{SubmitToolchainResult}
use Rattle.dist_wire.specs.Reading.{ran_at, submit_at}
use Rattle.dist_wire.specs.Written.{run_text}
use Rattle.dist_wire.specs.declared.run.RunJobHttpRequest.{RunJobHttpRequest}
use Rattle.http_head.specs.WrittenRequest.{request_text}
use Rattle.exec_builder.specs.Asking.{Dialing, Asks}
use Rattle.exec_builder.specs.Pause.{paused_more}
use Rattle.exec_builder.specs.Questions.{run_question, archive_question}
use Rattle.exec_builder.specs.Said.{said_of, brought_of, answer_of}
use Rattle.exec_builder.specs.declared.executor.Executor.{Executor}
use Rattle.exec_builder.specs.declared.said.Said.{Said}
use Rattle.exec_builder.specs.declared.said.Said.TheVariants.{Built, Unknown, Refused, Gone}
use Rattle.exec_builder.specs.declared.said.Brought.{Brought}
use Rattle.exec_builder.specs.declared.said.Brought.TheVariants as brought

-- what is to be built: the archive and its id, the command with the names of the outputs, and the inputs
pub record Job : Type 0 where
  pub id : List ℕ
  pub archive : List ℕ
  pub run : RunJobHttpRequest
  pub inputs : List ℕ

-- what a build comes to, or that memory ran out
abbrev pub End : Type 0
End = Result Said want.Memory

-- the executor was asked that, and what it answers to a question to run is said
pub record AsksRun (e : Executor) (request : List ℕ) (said : End) (old new : Dialing) : Type 0 where
  pub answer : Result RunJobResult CallFault
  pub asks : Asks ran_at e request answer old new
  pub says : said ≡ said_of answer

-- the executor was asked that, and what it answers to an archive is said
pub record AsksArchive (e : Executor) (request : List ℕ) (said : Result Brought want.Memory)
    (old new : Dialing) : Type 0 where
  pub answer : Result SubmitToolchainResult CallFault
  pub asks : Asks submit_at e request answer old new
  pub says : said ≡ brought_of answer

-- the archive was brought to the executor
abbrev pub Brings : Executor → List ℕ → List ℕ → Result Brought want.Memory → Dialing → Dialing → Type 0
Brings e id archive said old new = AsksArchive e (request_text (archive_question e id archive)) said old new

-- what follows an archive that was brought: where it was taken, the same is asked again
abbrev pub AfterBrought : Executor → List ℕ → Result Brought want.Memory → End → Dialing → Dialing → Type 0
AfterBrought e request (Ok brought.Taken) end old new = AsksRun e request end old new
AfterBrought e request (Ok brought.Refused) end old new = (end ≡ Ok Refused) × (new ≡ old)
AfterBrought e request (Ok brought.Gone) end old new = (end ≡ Ok Gone) × (new ≡ old)
AfterBrought e request (Err memory) end old new = (end ≡ Err memory) × (new ≡ old)

-- the archive was brought, and what followed
pub record BringsFirst (e : Executor) (id archive request : List ℕ) (end : End) (old new : Dialing)
    : Type 0 where
  pub said : Result Brought want.Memory
  pub between : Dialing
  pub brings : Brings e id archive said old between
  pub follows : AfterBrought e request said end between new

-- what follows the first question: where the archive is not known it is brought, once; all else is the end
abbrev pub AfterFirst : Executor → List ℕ → List ℕ → List ℕ → End → End → Dialing → Dialing → Type 0
AfterFirst e id archive request (Ok Unknown) end old new = BringsFirst e id archive request end old new
AfterFirst e id archive request (Ok (Built built)) end old new = (end ≡ Ok (Built built)) × (new ≡ old)
AfterFirst e id archive request (Ok Refused) end old new = (end ≡ Ok Refused) × (new ≡ old)
AfterFirst e id archive request (Ok Gone) end old new = (end ≡ Ok Gone) × (new ≡ old)
AfterFirst e id archive request (Err memory) end old new = (end ≡ Err memory) × (new ≡ old)

-- the executor was asked that, and what followed
pub record AsksFirst (e : Executor) (id archive request : List ℕ) (end : End) (old new : Dialing) : Type 0 where
  pub first : End
  pub between : Dialing
  pub asks : AsksRun e request first old between
  pub follows : AfterFirst e id archive request first end between new

-- the bytes of the question to run a job
abbrev pub run_request : Executor → Job → List ℕ
run_request e job = request_text (run_question e job.id job.run job.inputs)

-- A build: the executor was asked to run the job; or command and names have 2^32 bytes or more, and nobody was
-- asked; or memory ran out before that.
abbrev pub Builds : Executor → Job → End → Dialing → Dialing → Type 0
Builds e job end old new =
    ((length (run_text job.run) < 2 ^ 32) × AsksFirst e job.id job.archive (run_request e job) end old new)
    ⊎ ((2 ^ 32 ≤ length (run_text job.run)) × (end ≡ Ok Refused) × (new ≡ old))
    ⊎ ((end ≡ Err (record {})) × (new ≡ old))

-- what a builder is, as it is told: whom it asks, what its dialer tells, for how long it held answers back, and
-- how often it refused
pub record Builder : Type 0 where
  pub executor : Executor
  pub dialing : Dialing
  pub paused : ℕ
  pub refusals : ℕ

-- the answer of a build to its end, or that memory ran out
abbrev pub answer_to : End → Result BuildResult BuildFault
answer_to (Ok said) = answer_of said
answer_to (Err memory) = Err build.Memory

-- for how long answers were held back, with this one: 30,000 milliseconds more where no reply came
abbrev pub paused_with : End → ℕ → ℕ
paused_with (Ok Gone) paused = paused_more 30000 paused
paused_with (Ok (Built built)) paused = paused
paused_with (Ok Unknown) paused = paused
paused_with (Ok Refused) paused = paused
paused_with (Err memory) paused = paused

-- the count of refusals behind an answer
abbrev pub refusals_with : Result BuildResult BuildFault → ℕ → ℕ
refusals_with (Ok built) refusals = refusals
refusals_with (Err build.Refused) refusals = counted refusals
refusals_with (Err build.Memory) refusals = refusals

-- The executor was asked for that job, and what it said is the answer: held back where no reply came, and counted
-- where it is a refusal.
pub record IsBuiltBy (job : Job) (answer : Result BuildResult BuildFault) (old new : Builder) : Type 0 where
  pub end : End
  pub builds : Builds old.executor job end old.dialing new.dialing
  pub gives : answer ≡ answer_to end
  pub held : new.paused ≡ paused_with end old.paused
  pub counts : new.refusals ≡ refusals_with answer old.refusals
  pub same : new.executor ≡ old.executor
