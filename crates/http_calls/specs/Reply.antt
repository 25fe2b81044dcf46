-- What the reply to a client's call says.
use Rattle.std.specs.Prelude.{◌≡◌, ℕ, List, Option, Result, Ok, Err}
use Rattle.std.specs.Borrow.{Bor}
use Rattle.dist_types.specs.declared.fault.Failed.{Failed}
use Rattle.http_head.specs.declared.error.HttpError.{HttpError}
use Rattle.http_head.specs.declared.error.HttpError.TheVariants.{LinkFault}
use Rattle.http_routes.specs.CallReply.{Reads}

-- a call goes on: its answer is what the reply says, or LinkFault where none came
abbrev pub Resumes : {M : Type 0} → (List ℕ → Option (M × List ℕ)) → Result (Bor (List ℕ)) Failed
    → Result M HttpError → Type 0
Resumes at (Ok bytes) answer = Reads at bytes.now answer
Resumes at (Err failed) answer = answer ≡ Err LinkFault
