-- The check of listed names, by the place of the name.
use Rattle.std.proofs.Common.{◌≡◌, ℕ, Bool, true, false, not, Option, Some, None, Ok, Err, refl}
use Rattle.std.specs.Prelude.{is_some, is_err, option_map}
use Rattle.dist_types.specs.declared.token_error.TokenError.TheVariants.{FixedMismatch}
use Rattle.quota_service.specs.Listed.{verdict_at}

-- a name that has a number is listed
pub some_mapped : (f : ℕ → ℕ) (o : Option ℕ) → is_some (option_map f o) ≡ is_some o
some_mapped f None = refl
some_mapped f (Some place) = refl

pub refused_unlisted : (o : Option ℕ) → not (is_some o) ≡ is_err (verdict_at o)
refused_unlisted None = refl
refused_unlisted (Some place) = refl

pub lets_listed : (o : Option ℕ) → is_some o ≡ true → Ok tt ≡ verdict_at o
lets_listed None is = absurd cc
lets_listed (Some place) is = refl

pub shuts_unlisted : (o : Option ℕ) → is_some o ≡ false → Err FixedMismatch ≡ verdict_at o
shuts_unlisted None is = refl
shuts_unlisted (Some place) is = absurd cc
