-- What the answer to a question says of a build.
use Rattle.std.specs.Prelude.{◌≡◌, ℕ, ◌==◌, if◌then◌else◌, Result, Ok, Err}
use Rattle.dist_types.specs.declared.builder.BuildFault.{BuildFault}
use Rattle.dist_types.specs.declared.builder.BuildFault.TheVariants as build
use Rattle.dist_types.specs.declared.fault.Memory as want
use Rattle.dist_types.specs.declared.outgoing.CallFault.{CallFault}
use Rattle.dist_types.specs.declared.outgoing.CallFault.TheVariants as call
use Rattle.dist_types.specs.declared.results.BuildResult.{BuildResult}
use Rattle.dist_types.specs.declared.results.RunJobResult.{RunJobResult}
use Rattle.dist_types.specs.declared.results.RunJobResult.TheVariants as answer
use Rattle.dist_types.specs.declared.results.SubmitToolchainResult.{SubmitToolchainResult}
use Rattle.dist_types.specs.declared.results.SubmitToolchainResult.TheVariants as submit
use Rattle.exec_builder.specs.declared.said.Said.{Said}
use Rattle.exec_builder.specs.declared.said.Said.TheVariants.{Built, Unknown, Refused, Gone}
use Rattle.exec_builder.specs.declared.said.Brought.{Brought}
use Rattle.exec_builder.specs.declared.said.Brought.TheVariants as brought

-- what the answer to the question to run says: 404 says that the archive is not known, a command that was run what
-- it gave, and all else is a refusal
abbrev pub said_of : Result RunJobResult CallFault → Result Said want.Memory
said_of (Ok (answer.Complete c)) = Ok (Built (record { output = c.output; outputs = c.outputs }))
said_of (Ok answer.JobNotFound) = Ok Refused
said_of (Err (call.Status code)) = if code == 404 then Ok Unknown else Ok Refused
said_of (Err call.Unreadable) = Ok Refused
said_of (Err (call.BadState state)) = Ok Refused
said_of (Err call.Lost) = Ok Gone
said_of (Err call.Memory) = Err (record {})

-- what the answer to an archive says
abbrev pub brought_of : Result SubmitToolchainResult CallFault → Result Brought want.Memory
brought_of (Ok submit.Success) = Ok brought.Taken
brought_of (Ok submit.JobNotFound) = Ok brought.Refused
brought_of (Ok submit.CannotCache) = Ok brought.Refused
brought_of (Err (call.Status code)) = Ok brought.Refused
brought_of (Err call.Unreadable) = Ok brought.Refused
brought_of (Err (call.BadState state)) = Ok brought.Refused
brought_of (Err call.Lost) = Ok brought.Gone
brought_of (Err call.Memory) = Err (record {})

-- the answer of a build
abbrev pub answer_of : Said → Result BuildResult BuildFault
answer_of (Built built) = Ok built
answer_of Unknown = Err build.Refused
answer_of Refused = Err build.Refused
answer_of Gone = Err build.Refused
