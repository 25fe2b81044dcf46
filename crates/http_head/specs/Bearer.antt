-- The token that a request shows.
use Rattle.std.specs.Prelude.{ℕ, List, if◌then◌else◌, Option, Some, None, codes, bytes_eq}
use Rattle.dist_types.specs.Addr.{◌>>=◌, cut_at}

-- the token, where the text is `Bearer`, a space and the token
unfoldable pub token_in : Option (List ℕ) → Option (List ℕ)
token_in text = do
  given ← text
  parts ← cut_at 32 given
  if bytes_eq parts.0 (codes "Bearer") then Some parts.1 else None
