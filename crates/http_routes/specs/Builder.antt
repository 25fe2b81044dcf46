-- What a request says of the URL that it is built for.
use Rattle.std.specs.Prelude.{ℕ, List, [], ◌∷◌, ◌++◌, Option, Some, None, unwrap_or}
use Rattle.std.specs.Fmt.{decimal}
use Rattle.url.specs.Host.{host_text}
use Rattle.url.specs.Parts.{Parts, host_or_empty}

-- `?` and the query, where there is one
abbrev pub query_text : Option (List ℕ) → List ℕ
query_text None = []
query_text (Some query) = 63 ∷ query

-- the target
abbrev pub target_of : Parts → List ℕ
target_of url = url.path ++ query_text url.query

-- the host and the port, which is 80 where the URL names none
abbrev pub host_of : Parts → List ℕ
host_of url = host_text (host_or_empty url) ++ (58 ∷ decimal (unwrap_or url.port 80))
