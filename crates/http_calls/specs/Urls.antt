-- Absolute paths joined to a base, and what a request says of a URL.
use Rattle.std.specs.Prelude.{◌≡◌, ℕ, ◌<◌, true, List, ◌∷◌, length, All, None, IsUtf8, codes}
use Rattle.std.specs.List.{list_all}
use Rattle.http_head.specs.WrittenRequest.{is_visible}
use Rattle.url.specs.declared.scheme.SchemeType.TheVariants.{SpecialNotFile}
use Rattle.url.specs.Parts.{Parts}
use Rattle.url.specs.Path.{IsSegment, join_segments}
use Rattle.http_routes.specs.Builder.{target_of, host_of}

-- the scheme is `http`
abbrev pub IsHttp : Parts → Type 0
IsHttp url = url.scheme ≡ codes "http"

-- a path of segments, each behind a slash, of which the first is not empty, so that it does not read as a
-- host
pub record IsAbsolutePath (path : List ℕ) : Type 0 where
  pub first : List ℕ
  pub others : List (List ℕ)
  pub some : 0 < length first
  pub each : All (IsSegment SpecialNotFile) (first ∷ others)
  pub joined : path ≡ join_segments (first ∷ others)

-- the URL with that path, and with no query and no fragment
abbrev pub at_path : Parts → List ℕ → Parts
at_path url path = record url { path = path; query = None; fragment = None }

-- ---- what a request says of a URL

-- the target is a text that is not empty, and target and host have no control byte and no space
pub record IsClean (url : Parts) : Type 0 where
  pub some : 0 < length (target_of url)
  pub text : IsUtf8 (target_of url)
  pub target : list_all is_visible (target_of url) ≡ true
  pub host : list_all is_visible (host_of url) ≡ true
