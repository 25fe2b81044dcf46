-- What a check refuses at any moment no answer accepts.
use Rattle.std.proofs.Common.{◌≡◌, ℕ, true, false, List, Result, ap, ◌∙◌}
use Rattle.std.specs.Prelude.{⊤, is_err}
use Rattle.dist_types.specs.declared.token_error.TokenError.{TokenError}
use Rattle.dist_token.specs.Checks.{equal_verdict, equal_refuses}

-- of the check of one token
pub equal_refusals : (text : List ℕ) (now : ℕ) (token : List ℕ) (answer : Result ⊤ TokenError) (new : List ℕ)
    → (new ≡ text) × (answer ≡ equal_verdict text token) → equal_refuses text token ≡ true
    → is_err answer ≡ true
equal_refusals text now token answer new says refused = ap (λ a. is_err a) says.1 ∙ refused

-- of one that refuses none so
pub none_refused : (answer : Result ⊤ TokenError) → false ≡ true → is_err answer ≡ true
none_refused answer refused = absurd cc
