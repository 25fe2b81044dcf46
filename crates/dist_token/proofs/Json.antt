-- JSON in bytes that may not be UTF-8.
use Rattle.std.proofs.Common.{◌≡◌, ℕ, List, Bool, true, false, cond, None, Option, refl}
use Rattle.std.specs.Str.{IsUtf8, is_utf8}
use Rattle.std.proofs.lemmas.Str.{IsUtf8-from_is_utf8, is_utf8-from_IsUtf8}
use Rattle.serde_json.specs.Data.{Data}
use Rattle.serde_json.specs.Read.{read}
use Rattle.dist_token.specs.Verdict.{json_of}

pub json_of-utf8 : (bytes : List ℕ) → IsUtf8 bytes → json_of bytes ≡ read bytes
json_of-utf8 bytes h = rw (is_utf8-from_IsUtf8 bytes h)

none_at : (b : Bool) (o : Option Data) → (b ≡ true → ⊥) → cond b o None ≡ None
none_at true o h = absurd (h refl)
none_at false o h = refl

pub json_of_none : (bytes : List ℕ) → ¬ IsUtf8 bytes → json_of bytes ≡ None
json_of_none bytes h = none_at (is_utf8 bytes) (read bytes) (λ e. h (IsUtf8-from_is_utf8 bytes e))
