-- Which refusals a client's calls answer.
use Rattle.std.specs.Prelude.{◌≡◌, ◌⊎◌}
use Rattle.dist_types.specs.declared.toolchain_error.ToolchainError.{ToolchainError}
use Rattle.http_head.specs.declared.error.HttpError.{HttpError}
use Rattle.http_head.specs.declared.error.HttpError.TheVariants.{ParseError, HeadTooLong, Status, BadBase}
use Rattle.http_head.specs.declared.error.HttpError.TheVariants.{LinkFault, NotLocal, Memory, Packager, Local}

-- of a call that goes on with its reply: none came, it is none or holds no message, or it tells another status;
-- or memory ran out
abbrev pub IsReplyError : HttpError → Type 0
IsReplyError ParseError = Unit {0}
IsReplyError (Status code body) = Unit {0}
IsReplyError LinkFault = Unit {0}
IsReplyError Memory = Unit {0}
IsReplyError other = ⊥

-- of a call to the scheduler: its URL is no `http` URL; or the same
abbrev pub IsSchedulerError : HttpError → Type 0
IsSchedulerError e = (e ≡ BadBase) ⊎ IsReplyError e

-- of a call that brings an archive: the client has none, or its toolchains refused; or the same
abbrev pub IsSubmitError : HttpError → Type 0
IsSubmitError e = (e ≡ NotLocal) ⊎ (((refusal : ToolchainError) × (e ≡ Local refusal)) ⊎ IsReplyError e)

-- of a call that runs a job: its head is too long, or the packager refused; or the same
abbrev pub IsRunError : HttpError → Type 0
IsRunError e = (e ≡ HeadTooLong) ⊎ ((e ≡ Packager) ⊎ IsReplyError e)
