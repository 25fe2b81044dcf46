-- What an answer says of the tests that gave it.
use Rattle.std.proofs.Common.{◌≡◌, ℕ, List, [], ◌∷◌, Bool, true, false, Option, Some, None, Ok, Err}
use Rattle.std.proofs.Common.{option_and_then, ok_or, refl, ap, cond}
use Rattle.std.specs.Prelude.{⊤, Result}
use Rattle.dist_types.specs.declared.token_error.TokenError.{TokenError}
use Rattle.dist_token.specs.Verdict.{and_then, three, Parts}

pub and_then-ok : {T U : Type 0} (r : Result T TokenError) (next : T → Result U TokenError) (y : U)
    → and_then r next ≡ Ok y → (x : T) × (r ≡ Ok x) × (next x ≡ Ok y)
and_then-ok (Ok x) next y h = (x, refl, h)
and_then-ok (Err e) next y h = absurd (cc)

pub ok_or-ok : {T : Type 0} (o : Option T) (e : TokenError) (x : T) → ok_or o e ≡ Ok x → o ≡ Some x
ok_or-ok None e x h = absurd (cc)
ok_or-ok (Some y) e x h = let same : y ≡ x = cc in ap Some same

pub option_and_then-some : {T U : Type 0} (o : Option T) (next : T → Option U) (y : U)
    → option_and_then next o ≡ Some y → (x : T) × (o ≡ Some x) × (next x ≡ Some y)
option_and_then-some None next y h = absurd (cc)
option_and_then-some (Some x) next y h = (x, refl, h)

-- a test that refuses where it fails
abbrev pub passes_if : Bool → TokenError → Result ⊤ TokenError
passes_if b e = cond b (Ok tt) (Err e)

pub tested-ok : (b : Bool) (e : TokenError) (x : ⊤) → passes_if b e ≡ Ok x → b ≡ true
tested-ok true e x h = refl
tested-ok false e x h = absurd (cc)

pub three-some : (parts : List (List ℕ)) (p : Parts) → three parts ≡ Some p
    → parts ≡ p.header ∷ p.claims ∷ p.mac ∷ []
three-some [] p h = absurd (cc)
three-some (a ∷ []) p h = absurd (cc)
three-some (a ∷ b ∷ []) p h = absurd (cc)
three-some (a ∷ b ∷ c ∷ []) p h = let same : record { header = a; claims = b; mac = c } ≡ p =
    cc in ap (λ (q : Parts). q.header ∷ q.claims ∷ q.mac ∷ []) same
three-some (a ∷ b ∷ c ∷ d ∷ rest) p h = absurd (cc)
