-- All that a source has left, read to its end.
use Rattle.std.proofs.Common.{◌≡◌, ◌<◌, ◌≤◌, ℕ, List, ◌++◌, length, Option, Some, None, IfSome, sym, ap, subst}
use Rattle.std.proofs.Common.{◌∙◌, append-nil, arith}
use Rattle.dist_types.specs.Content.{Taken, IsAtEnd}

-- what was read is all that was left
pub all_read : (v : List ℕ) (old new : Option (List ℕ)) → Taken v old new → IsAtEnd new
    → IfSome old (λ told. told ≡ v)
all_read v old None t e = subst (λ o. IfSome o (λ told. told ≡ v)) (sym t) tt
all_read v old (Some rest) t e =
    subst (λ o. IfSome o (λ told. told ≡ v)) (sym t) (ap (λ (r : List ℕ). v ++ r) e ∙ append-nil v)

-- so no more than the limit was
pub no_longer : (P : Type 0) (limit : ℕ) (v : List ℕ) (old : Option (List ℕ)) → IfSome old (λ told. told ≡ v)
    → length v ≤ limit → IfSome old (λ told. limit < length told → P)
no_longer P limit v None same short = tt
no_longer P limit v (Some told) same short =
    λ past. let e : length told ≡ length v = ap length same in absurd (omega (arith, past, short, e))

-- where more was left, that is so
pub longer : (P : Type 0) (limit : ℕ) (old : Option (List ℕ)) → IfSome old (λ told. limit < length told)
    → IfSome old (λ told. length told ≤ limit → P)
longer P limit None long = tt
longer P limit (Some told) long = λ short. absurd (omega (arith, long, short))

-- what holds whatever was left
pub whatever : {P : List ℕ → Type 0} (old : Option (List ℕ)) → ((told : List ℕ) → P told) → IfSome old P
whatever None h = tt
whatever (Some told) h = h told
