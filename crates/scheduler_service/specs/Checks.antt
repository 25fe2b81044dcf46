-- What the checks that a configuration chooses answer: what the chosen one does.
use Rattle.std.specs.Prelude.{◌≡◌, ℕ, Bool, false, List, Option, Result, ⊤}
use Rattle.std.specs.Result.{result_ok}
use Rattle.dist_types.specs.declared.addr.Addr.{Addr}
use Rattle.dist_types.specs.declared.dialer.Asked.{Asked}
use Rattle.dist_types.specs.declared.token_error.TokenError.{TokenError}
use Rattle.dist_token.specs.Checks.{equal_verdict, equal_refuses, fixed_shown}
use Rattle.dist_token.specs.Forwarded.{MayAnswer, forwarding_shown}
use Rattle.dist_token.specs.ProxyViews.{seen}
use Rattle.dist_token.specs.Verdict.{server_verdict, plain_server}
use Rattle.scheduler_service.specs.declared.checks.ServerCheck.{ServerCheck}
use Rattle.scheduler_service.specs.declared.checks.ServerCheck.TheVariants.{Plain, Signed}
use Rattle.scheduler_service.specs.declared.checks.ClientCheck.{ClientCheck}
use Rattle.scheduler_service.specs.declared.checks.ClientCheck.TheVariants.{Fixed, Forwarded}

-- the one server that a token is accepted for
abbrev pub server_of : ServerCheck → List ℕ → Option Addr
server_of (Plain shared) token = plain_server shared token
server_of (Signed key) token = result_ok (server_verdict key token)

-- which answer the check of a client's token may give; the check stays of its kind
abbrev pub may_answer : {D : Type 0} → (D → Option (List Asked)) → (D → ℕ) → ClientCheck D → ℕ → List ℕ
    → Result ⊤ TokenError → ClientCheck D → Type 0
may_answer asked faults (Fixed old) now token answer (Fixed new) = (new ≡ old)
    × (answer ≡ equal_verdict old token)
may_answer asked faults (Fixed old) now token answer (Forwarded new) = ⊥
may_answer asked faults (Forwarded old) now token answer (Fixed new) = ⊥
may_answer asked faults (Forwarded old) now token answer (Forwarded new) =
    MayAnswer (seen asked faults old) now token answer (seen asked faults new)

-- the text that a refused client is shown
abbrev pub shown : {D : Type 0} → ClientCheck D → TokenError → List ℕ
shown (Fixed check) e = fixed_shown
shown (Forwarded check) e = forwarding_shown

-- whether it refuses a token whatever the moment is: the check of one token any other
abbrev pub refuses : {D : Type 0} → ClientCheck D → List ℕ → Bool
refuses (Fixed text) token = equal_refuses text token
refuses (Forwarded check) token = false
