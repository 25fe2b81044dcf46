-- Which command words ask for: the rows of the command line.
use Rattle.std.specs.Prelude.{ℕ, ◌/◌, ◌%◌, List, [], ◌∷◌, Bool, ◌&&◌, ◌==◌, is_some, nat_le, if◌then◌else◌}
use Rattle.std.specs.Prelude.{Option, Some, None, option_map, option_and_then, codes}
use Rattle.std.specs.Str.{bytes_eq}
use Rattle.std.specs.Str.Parse.{without_leading_plus, digits_value}
use Rattle.dist_types.specs.Addr.{addr_in, is_digits, is_plain}
use Rattle.dist_types.specs.declared.addr.Addr.{Addr}
use Rattle.command_line.specs.Options.{Said, options_in}

-- what is asked for
pub data Invocation : Type 0 where
  -- the run of a script
  farm : Invocation
  -- so many random bytes in base64url
  random : ℕ → Invocation
  -- the token of a server under a key in base64url, or under that of the file of this name
  token_under : Addr → List ℕ → Invocation
  token_of : Addr → List ℕ → Invocation
  -- a scheduler, or a build server, of the file of this name
  scheduler : List ℕ → Invocation
  server : List ℕ → Invocation
  -- the storm of so many events
  storm : ℕ → Invocation
  -- the audit of a printed run
  audit : Invocation

-- a number of bits: an optional plus and at least one digit, a multiple of 8 from 64 to 4096
abbrev pub is_length : ℕ → Bool
is_length n = nat_le 64 n && nat_le n 4096 && (n % 8 == 0)

unfoldable pub bits_in : List ℕ → Option ℕ
bits_in text =
    if is_digits (without_leading_plus text) && is_length (digits_value 10 (without_leading_plus text))
    then Some (digits_value 10 (without_leading_plus text)) else None

-- a number of events: digits with no zero before others, up to 100000
unfoldable pub events_in : List ℕ → Option ℕ
events_in text = if is_plain text && nat_le (digits_value 10 text) 100000 then Some (digits_value 10 text)
    else None

-- ---- rows, by what stands behind the words of the command

abbrev pub farm_row : List (List ℕ) → Option Invocation
farm_row [] = Some farm
farm_row (word ∷ words) = None

abbrev pub audit_row : List (List ℕ) → Option Invocation
audit_row [] = Some audit
audit_row (word ∷ words) = None

abbrev pub storm_row : List (List ℕ) → Option Invocation
storm_row [] = None
storm_row (word ∷ []) = option_map storm (events_in word)
storm_row (word ∷ next ∷ words) = None

abbrev pub key_row : List (List ℕ) → Option Invocation
key_row [] = Some (random 32)
key_row (word ∷ words) = None

abbrev pub shared_length : Option (List ℕ) → Option ℕ
shared_length None = Some 256
shared_length (Some text) = bits_in text

-- no option but the number of bits
abbrev pub shared_by : Said → Option Invocation
shared_by said =
    if is_some said.server then None
    else if is_some said.secret_key then None
    else if is_some said.config then None
    else option_map (λ bits. random (bits / 8)) (shared_length said.bits)

-- exactly one source of the key
abbrev pub keyed : Addr → Option (List ℕ) → Option (List ℕ) → Option Invocation
keyed address None None = None
keyed address (Some key) None = Some (token_under address key)
keyed address None (Some path) = Some (token_of address path)
keyed address (Some key) (Some path) = None

abbrev pub token_for : Option (List ℕ) → Option (List ℕ) → Option (List ℕ) → Option Invocation
token_for None key path = None
token_for (Some text) key path = option_and_then (λ address. keyed address key path) (addr_in text)

abbrev pub token_by : Said → Option Invocation
token_by said = if is_some said.bits then None else token_for said.server said.secret_key said.config

-- no option but the file
abbrev pub file_of : Said → Option (List ℕ)
file_of said =
    if is_some said.bits then None
    else if is_some said.server then None
    else if is_some said.secret_key then None
    else said.config

abbrev pub auth_row : List (List ℕ) → Option Invocation
auth_row [] = None
auth_row (word ∷ words) =
    if bytes_eq word (codes "generate-jwt-hs256-key") then key_row words
    else if bytes_eq word (codes "generate-shared-token") then option_and_then shared_by (options_in words)
    else if bytes_eq word (codes "generate-jwt-hs256-server-token") then option_and_then token_by
    (options_in words)
    else None

abbrev pub command_row : List (List ℕ) → Option Invocation
command_row [] = None
command_row (word ∷ words) =
    if bytes_eq word (codes "farm") then farm_row words
    else if bytes_eq word (codes "auth") then auth_row words
    else if bytes_eq word (codes "scheduler")
    then option_map scheduler (option_and_then file_of (options_in words))
    else if bytes_eq word (codes "server") then option_map server (option_and_then file_of (options_in words))
    else if bytes_eq word (codes "storm") then storm_row words
    else if bytes_eq word (codes "audit") then audit_row words
    else None

-- the first word is the program's name
abbrev pub asked_by : List (List ℕ) → Option Invocation
asked_by [] = None
asked_by (name ∷ words) = command_row words
