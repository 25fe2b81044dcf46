-- The check of clients that takes each listed name as a token.
use Rattle.std.specs.Prelude.{ℕ, Bool, List, Option, Some, None, Result, Ok, Err, is_err, ⊤}
use Rattle.dist_types.specs.declared.token_error.TokenError.{TokenError}
use Rattle.dist_types.specs.declared.token_error.TokenError.TheVariants.{FixedMismatch}
use Rattle.quota.specs.Clients.{Client, place_of}

-- what it answers to a token, by the place of the client of that name, if there is one
abbrev pub verdict_at : Option ℕ → Result ⊤ TokenError
verdict_at None = Err FixedMismatch
verdict_at (Some place) = Ok tt

-- a mismatch exactly where no client has that name
abbrev pub listed_verdict : List Client → List ℕ → Result ⊤ TokenError
listed_verdict clients token = verdict_at (place_of clients token)

-- whether it refuses a token, which is so at any moment
abbrev pub listed_refuses : List Client → List ℕ → Bool
listed_refuses clients token = is_err (listed_verdict clients token)
