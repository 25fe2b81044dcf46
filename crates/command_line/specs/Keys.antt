-- Which key of a configuration file is told as the bad one, and that none is.
use Rattle.std.specs.Prelude.{◌≡◌, ◌≢◌, ℕ, pos, List, [], ◌∷◌, Bool, if◌then◌else◌, Option, Some, None, is_some}
use Rattle.std.specs.Prelude.{option_and_then, Result, Ok, Err, codes}
use Rattle.toml.specs.Data.{Data, integer, Members, get_member}
use Rattle.dist_types.specs.declared.rules.Rules.{Rules}
use Rattle.dist_types.specs.declared.rules.Rules.TheVariants.{One, Two}
use Rattle.line_program.specs.declared.fault.ConfigCause.{ConfigCause}
use Rattle.line_program.specs.declared.fault.ConfigCause.TheVariants.{Key}
use Rattle.command_line.specs.Profile.{typed_at, client_auth_of, server_auth_of, builder_of}
use Rattle.command_line.specs.Profile.{scheduler_auth_of, address_or, scheduler_keys, server_keys}
use Rattle.command_line.specs.Unknown.{least_unknown}
use Rattle.command_line.specs.Values.{text_at, address_at, http_url_at, optional_number_at, rules_at}

-- the keys of a file in the order of the profile, each with whether the table has its value there
abbrev pub KeyRows : Type 0
KeyRows = List (List ℕ × Bool)

-- the first of them that is missing, or has another value
abbrev pub first_bad : KeyRows → Option (List ℕ)
first_bad [] = None
first_bad (row ∷ rows) = if row.1 then first_bad rows else Some row.0

-- the bad key: the least unknown one, and where there is none the first of the known ones that is bad
abbrev pub bad_key : Option (List ℕ) → KeyRows → Option (List ℕ)
bad_key None rows = first_bad rows
bad_key (Some unknown) rows = Some unknown

-- where no key is bad, a configuration is said; and else that key is told
abbrev pub Tells : {A : Type 0} → Option (List ℕ) → Result A ConfigCause → Type 0
Tells {A} None verdict = (config : A) × (verdict ≡ Ok config)
Tells (Some key) verdict = verdict ≡ Err (Key key)

-- the keys of a scheduler's file
abbrev pub scheduler_rows : Members → KeyRows
scheduler_rows table =
    (codes "public_addr", is_some (address_at (codes "public_addr") table))
    ∷ (codes "client_auth", is_some (typed_at client_auth_of (codes "client_auth") table))
    ∷ (codes "server_auth", is_some (typed_at server_auth_of (codes "server_auth") table))
    ∷ (codes "rules", is_some (rules_at (codes "rules") table)) ∷ []

abbrev pub scheduler_bad : Members → Option (List ℕ)
scheduler_bad table = bad_key (least_unknown scheduler_keys table) (scheduler_rows table)

-- The keys of a build server's file. Its address is looked at before the two keys whose values it is part of.
abbrev pub server_rows : Members → KeyRows
server_rows table =
    (codes "builder", is_some (typed_at builder_of (codes "builder") table))
    ∷ (codes "cache_dir", is_some (text_at (codes "cache_dir") table))
    ∷ (codes "public_addr", is_some (address_at (codes "public_addr") table))
    ∷ (
      codes "bind_address",
      is_some (option_and_then (λ a. address_or a
          (get_member (codes "bind_address") table) (codes "bind_address") table)
          (address_at (codes "public_addr") table)),
    )
    ∷ (codes "scheduler_url", is_some (http_url_at (codes "scheduler_url") table))
    ∷ (
      codes "scheduler_auth",
      is_some (option_and_then
          (λ a. typed_at (scheduler_auth_of a) (codes "scheduler_auth") table)
          (address_at (codes "public_addr") table)),
    )
    ∷ (codes "toolchain_cache_size", is_some (optional_number_at (codes "toolchain_cache_size") table)) ∷ []

abbrev pub server_bad : Members → Option (List ℕ)
server_bad table = bad_key (least_unknown server_keys table) (server_rows table)

-- No value at the key of the rules is version 1, and the numbers 1 and 2 are their versions; no other value is
-- one.
abbrev pub IsRulesAt : Option Data → Option Rules → Type 0
IsRulesAt None rules = rules ≡ Some One
IsRulesAt (Some value) None = (value ≢ integer (pos 1)) × (value ≢ integer (pos 2))
IsRulesAt (Some value) (Some One) = value ≡ integer (pos 1)
IsRulesAt (Some value) (Some Two) = value ≡ integer (pos 2)
