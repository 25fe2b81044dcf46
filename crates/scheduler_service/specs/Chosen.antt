-- The checks of tokens that a configuration chooses.
use Rattle.std.specs.Prelude.{◌≡◌, ℕ, List, Option, Some, None, option_map, codes}
use Rattle.dist_types.specs.declared.dialer.Asked.{Asked}
use Rattle.dist_token.specs.ProxyViews.{seen}
use Rattle.dist_token.specs.Verdict.{bytes_of}
use Rattle.dist_config.specs.declared.config.ClientAuth.{ClientAuth}
use Rattle.dist_config.specs.declared.config.ClientAuth.TheVariants as client
use Rattle.dist_config.specs.declared.config.ServerAuth.{ServerAuth}
use Rattle.dist_config.specs.declared.config.ServerAuth.TheVariants as server
use Rattle.scheduler_service.specs.declared.checks.ServerCheck.{ServerCheck}
use Rattle.scheduler_service.specs.declared.checks.ServerCheck.TheVariants.{Plain, Signed}
use Rattle.scheduler_service.specs.declared.checks.ClientCheck.{ClientCheck}
use Rattle.scheduler_service.specs.declared.checks.ClientCheck.TheVariants.{Fixed, Forwarded}

-- the check of servers' tokens: by the shared token, or under the key that a text in base64url says, if any
abbrev pub server_check_of : ServerAuth → Option ServerCheck
server_check_of server.Insecure = Some (Plain (codes "dangerously_insecure_server"))
server_check_of (server.Token shared) = Some (Plain shared)
server_check_of (server.JwtHS256 key) = option_map Signed (bytes_of key)

-- The check of clients' tokens: by the shared token; or by asking at the URL, where an accepted token is kept
-- for the seconds that are given, and none is kept yet.
abbrev pub IsChosen : {D : Type 0} → (D → Option (List Asked)) → (D → ℕ) → ClientAuth → ClientCheck D → Type 0
IsChosen asked faults client.Insecure (Fixed token) = token ≡ codes "dangerously_insecure_client"
IsChosen asked faults (client.Token shared) (Fixed token) = token ≡ shared
IsChosen asked faults (client.ProxyToken url secs) (Forwarded check) = ((seen asked faults check).url ≡ url)
    × ((seen asked faults check).cache_secs ≡ secs)
    × ((token : List ℕ) → (seen asked faults check).moment_of token ≡ None)
IsChosen asked faults client.Insecure (Forwarded check) = ⊥
IsChosen asked faults (client.Token shared) (Forwarded check) = ⊥
IsChosen asked faults (client.ProxyToken url secs) (Fixed token) = ⊥
