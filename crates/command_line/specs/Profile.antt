-- The profile of configurations, over the TOML table that a file is.
use Rattle.std.specs.Prelude.{ℕ, Bool, false, List, [], ◌∷◌, if◌then◌else◌, Option, Some, None}
use Rattle.std.specs.Prelude.{option_and_then, option_map, unwrap_or, ok_or, Result, Ok, Err, ⊤, codes}
use Rattle.std.specs.Str.{bytes_eq, is_utf8}
use Rattle.toml.specs.Data.{Data, as_table, Members, get_member}
use Rattle.toml.specs.Parse.{parse_document}
use Rattle.url.specs.Parts.{Parts}
use Rattle.dist_types.specs.Addr.{addr_text, same_addr}
use Rattle.dist_types.specs.declared.addr.Addr.{Addr}
use Rattle.dist_types.specs.declared.token_error.TokenError.{TokenError}
use Rattle.dist_token.specs.Token.{plain_text}
use Rattle.dist_token.specs.Verdict.{extracted}
use Rattle.dist_config.specs.declared.config.ClientAuth.{ClientAuth}
use Rattle.dist_config.specs.declared.config.ClientAuth.TheVariants as client
use Rattle.dist_config.specs.declared.config.ServerAuth.{ServerAuth}
use Rattle.dist_config.specs.declared.config.ServerAuth.TheVariants as server
use Rattle.dist_config.specs.declared.config.SchedulerConfig.{SchedulerConfig}
use Rattle.dist_config.specs.declared.config.ServerConfig.{ServerConfig}
use Rattle.line_program.specs.declared.fault.ConfigCause.{ConfigCause}
use Rattle.line_program.specs.declared.fault.ConfigCause.TheVariants.{NotToml, Key}
use Rattle.command_line.specs.Told.{◌>>=◌, needed}
use Rattle.command_line.specs.Unknown.{least_unknown}
use Rattle.command_line.specs.Values.{has_only, text_at, address_at, http_url_at, optional_number_at}
use Rattle.command_line.specs.Values.{rules_at, is_secret}

-- each key is known, or the least that is not, in byte order, is the bad one
abbrev pub known_or : Option (List ℕ) → Result ⊤ ConfigCause
known_or None = Ok tt
known_or (Some key) = Err (Key key)

abbrev pub known : List (List ℕ) → Members → Result ⊤ ConfigCause
known keys table = known_or (least_unknown keys table)

-- what is said where no other key stands in the table
abbrev pub alone : {A : Type 0} → List (List ℕ) → Members → Option A → Option A
alone keys table said = if has_only keys table then said else None

-- what a table says, by the text at its key `type`
abbrev pub by_type : {A : Type 0} → (List ℕ → Members → Option A) → Members → Option A
by_type reads table = option_and_then (λ kind. reads kind table) (text_at (codes "type") table)

abbrev pub typed_at : {A : Type 0} → (List ℕ → Members → Option A) → List ℕ → Members → Option A
typed_at reads key table = option_and_then (by_type reads) (option_and_then as_table (get_member key table))

-- ---- the scheduler's tables

abbrev pub proxied : Option Parts → Option (Option ℕ) → Option ClientAuth
proxied url secs = option_and_then (λ u. option_map (λ s. client.ProxyToken u s) secs) url

unfoldable pub client_auth_of : List ℕ → Members → Option ClientAuth
client_auth_of kind table =
    if bytes_eq kind (codes "DANGEROUSLY_INSECURE") then alone (codes "type" ∷ []) table
    (Some client.Insecure)
    else if bytes_eq kind (codes "token") then alone (codes "type" ∷ codes "token" ∷ []) table
    (option_map (λ t. client.Token t) (text_at (codes "token") table))
    else if bytes_eq kind (codes "proxy_token")
    then alone (codes "type" ∷ codes "url" ∷ codes "cache_secs" ∷ []) table
    (proxied (http_url_at (codes "url") table) (optional_number_at (codes "cache_secs") table))
    else None

-- a signing key, which stays in base64url
abbrev pub signing : List ℕ → Option ServerAuth
signing text = if is_secret text then Some (server.JwtHS256 text) else None

unfoldable pub server_auth_of : List ℕ → Members → Option ServerAuth
server_auth_of kind table =
    if bytes_eq kind (codes "DANGEROUSLY_INSECURE") then alone (codes "type" ∷ []) table
    (Some server.Insecure)
    else if bytes_eq kind (codes "token") then alone (codes "type" ∷ codes "token" ∷ []) table
    (option_map (λ t. server.Token t) (text_at (codes "token") table))
    else if bytes_eq kind (codes "jwt_hs256") then alone (codes "type" ∷ codes "secret_key" ∷ []) table
    (option_and_then signing (text_at (codes "secret_key") table))
    else None

-- ---- the build server's tables

-- the one builder that there is
unfoldable pub builder_of : List ℕ → Members → Option ⊤
builder_of kind table = if bytes_eq kind (codes "echo") then alone (codes "type" ∷ []) table (Some tt)
    else None

-- a signed token whose server is this one
abbrev pub names_server : Addr → Result Addr TokenError → Bool
names_server address (Ok named) = same_addr named address
names_server address (Err e) = false

abbrev pub own_token : Addr → List ℕ → Option (List ℕ)
own_token address token = if names_server address (extracted token) then Some token else None

-- the token that a server of this address shows to the scheduler
unfoldable pub scheduler_auth_of : Addr → List ℕ → Members → Option (List ℕ)
scheduler_auth_of address kind table =
    if bytes_eq kind (codes "DANGEROUSLY_INSECURE") then alone (codes "type" ∷ []) table
    (Some (plain_text (addr_text address) (codes "dangerously_insecure_server")))
    else if bytes_eq kind (codes "token") then alone (codes "type" ∷ codes "token" ∷ []) table
    (option_map (plain_text (addr_text address)) (text_at (codes "token") table))
    else if bytes_eq kind (codes "jwt_token") then alone (codes "type" ∷ codes "token" ∷ []) table
    (option_and_then (own_token address) (text_at (codes "token") table))
    else None

-- an address, or the other one where there is no value
abbrev pub address_or : Addr → Option Data → List ℕ → Members → Option Addr
address_or other None key table = Some other
address_or other (Some value) key table = address_at key table

-- ---- the two files

abbrev pub scheduler_keys : List (List ℕ)
scheduler_keys = codes "public_addr" ∷ codes "client_auth" ∷ codes "server_auth" ∷ codes "rules" ∷ []

unfoldable pub scheduler_in : Members → Result SchedulerConfig ConfigCause
scheduler_in table = do
  _ ← known scheduler_keys table
  public_addr ← needed (codes "public_addr") (address_at (codes "public_addr") table)
  client_auth ← needed (codes "client_auth") (typed_at client_auth_of (codes "client_auth") table)
  server_auth ← needed (codes "server_auth") (typed_at server_auth_of (codes "server_auth") table)
  rules ← needed (codes "rules") (rules_at (codes "rules") table)
  Ok (record {
    public_addr = public_addr;
    client_auth = client_auth;
    server_auth = server_auth;
    rules = rules;
  })

abbrev pub server_keys : List (List ℕ)
server_keys = codes "builder" ∷ codes "cache_dir" ∷ codes "public_addr" ∷ codes "bind_address" ∷ codes
    "scheduler_url" ∷ codes "scheduler_auth"
    ∷ codes "toolchain_cache_size" ∷ []

unfoldable pub server_in : Members → Result ServerConfig ConfigCause
server_in table = do
  _ ← known server_keys table
  _ ← needed (codes "builder") (typed_at builder_of (codes "builder") table)
  cache_dir ← needed (codes "cache_dir") (text_at (codes "cache_dir") table)
  public_addr ← needed (codes "public_addr") (address_at (codes "public_addr") table)
  bind_address ← needed (codes "bind_address")
      (address_or public_addr (get_member (codes "bind_address") table) (codes "bind_address") table)
  scheduler_url ← needed (codes "scheduler_url") (http_url_at (codes "scheduler_url") table)
  scheduler_auth ← needed (codes "scheduler_auth")
      (typed_at (scheduler_auth_of public_addr) (codes "scheduler_auth") table)
  size ← needed (codes "toolchain_cache_size") (optional_number_at (codes "toolchain_cache_size") table)
  Ok (record {
    cache_dir = cache_dir;
    public_addr = public_addr;
    bind_address = bind_address;
    scheduler_url = scheduler_url;
    scheduler_auth = scheduler_auth;
    toolchain_cache_size = unwrap_or size 10737418240;
  })

-- ---- from bytes

-- the text that bytes are, where they are UTF-8
abbrev pub text_in : List ℕ → Option (List ℕ)
text_in bytes = if is_utf8 bytes then Some bytes else None

-- the table that a text is as TOML
abbrev pub document_in : List ℕ → Result Members ConfigCause
document_in text = ok_or (parse_document text) NotToml

-- the table that bytes are as TOML
abbrev pub document_or : Option (List ℕ) → Result Members ConfigCause
document_or None = Err NotToml
document_or (Some text) = document_in text

abbrev pub table_in : List ℕ → Result Members ConfigCause
table_in bytes = document_or (text_in bytes)

-- the configuration that the bytes of a file say, or why they say none
abbrev pub scheduler_config_in : List ℕ → Result SchedulerConfig ConfigCause
scheduler_config_in bytes = table_in bytes >>= scheduler_in

abbrev pub server_config_in : List ℕ → Result ServerConfig ConfigCause
server_config_in bytes = table_in bytes >>= server_in
