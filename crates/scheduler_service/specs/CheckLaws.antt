-- What the chosen check refuses whatever the moment is no answer of it accepts.
use Rattle.std.proofs.Common.{◌≡◌, ℕ, true, List, Option, Result, ap, ◌∙◌}
use Rattle.std.specs.Prelude.{⊤, is_err}
use Rattle.dist_types.specs.declared.dialer.Asked.{Asked}
use Rattle.dist_types.specs.declared.token_error.TokenError.{TokenError}
use Rattle.scheduler_service.specs.declared.checks.ClientCheck.{ClientCheck}
use Rattle.scheduler_service.specs.declared.checks.ClientCheck.TheVariants.{Fixed, Forwarded}
use Rattle.scheduler_service.specs.Checks.{may_answer, refuses}

pub refusals : {D : Type 0} (asked : D → Option (List Asked)) (faults : D → ℕ) (check : ClientCheck D) (now : ℕ)
    (token : List ℕ) (answer : Result ⊤ TokenError) (new : ClientCheck D)
    → may_answer asked faults check now token answer new → refuses check token ≡ true → is_err answer ≡ true
refusals asked faults (Fixed old) now token answer (Fixed new) says refused = ap (λ a. is_err a) says.1 ∙ refused
refusals asked faults (Fixed old) now token answer (Forwarded new) says refused = absurd says
refusals asked faults (Forwarded old) now token answer new says refused = absurd cc
