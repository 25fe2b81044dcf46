-- What the check of listed names refuses whatever the moment is no answer of it accepts.
use Rattle.std.proofs.Common.{◌≡◌, ℕ, true, List, Result, ap, ◌∙◌}
use Rattle.std.specs.Prelude.{⊤, is_err}
use Rattle.dist_types.specs.declared.token_error.TokenError.{TokenError}
use Rattle.quota.specs.Clients.{Client}
use Rattle.quota_service.specs.Listed.{listed_verdict, listed_refuses}

pub listed_refusals : (check : List Client) (now : ℕ) (token : List ℕ) (answer : Result ⊤ TokenError)
    (new : List Client)
    → (new ≡ check) × (answer ≡ listed_verdict check token) → listed_refuses check token ≡ true
    → is_err answer ≡ true
listed_refusals check now token answer new says refused = ap (λ a. is_err a) says.1 ∙ refused
