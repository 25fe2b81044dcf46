-- What a key of a TOML table says.
use Rattle.std.specs.Prelude.{ℕ, List, pos, Bool, false, not, ◌==◌, ◌&&◌, is_some, length, if◌then◌else◌}
use Rattle.std.specs.Prelude.{Option, Some, None, option_and_then, codes}
use Rattle.std.specs.Str.{bytes_eq}
use Rattle.std.specs.Result.{result_ok}
use Rattle.toml.specs.Data.{Data, integer, as_str, as_table, Members, get_member}
use Rattle.url.specs.Parser.{parse_url}
use Rattle.url.specs.Parts.{Parts}
use Rattle.dist_types.specs.Addr.{addr_in}
use Rattle.dist_types.specs.declared.addr.Addr.{Addr}
use Rattle.dist_types.specs.declared.rules.Rules.{Rules}
use Rattle.dist_types.specs.declared.rules.Rules.TheVariants.{One, Two}
use Rattle.dist_token.specs.Verdict.{bytes_of}
use Rattle.command_line.specs.Unknown.{least_unknown}

-- each key is one of these
abbrev pub has_only : List (List ℕ) → Members → Bool
has_only known table = not (is_some (least_unknown known table))

-- the text at a key
abbrev pub text_at : List ℕ → Members → Option (List ℕ)
text_at key table = option_and_then as_str (get_member key table)

-- the address at a key
abbrev pub address_at : List ℕ → Members → Option Addr
address_at key table = option_and_then addr_in (text_at key table)

-- the URL that a text says, whose scheme is http
abbrev pub http_alone : Parts → Option Parts
http_alone url = if bytes_eq url.scheme (codes "http") then Some url else None

abbrev pub http_url_in : List ℕ → Option Parts
http_url_in text = option_and_then http_alone (result_ok (parse_url None text))

abbrev pub http_url_at : List ℕ → Members → Option Parts
http_url_at key table = option_and_then http_url_in (text_at key table)

-- a whole number that is at least 0, or none where there is no value
abbrev pub optional_number : Option Data → Option (Option ℕ)
optional_number None = Some None
optional_number (Some (integer (pos n))) = Some (Some n)
optional_number (Some other) = None

abbrev pub optional_number_at : List ℕ → Members → Option (Option ℕ)
optional_number_at key table = optional_number (get_member key table)

-- the version of the rules that a number names, and the first where there is none
abbrev pub rules_in : Option ℕ → Option Rules
rules_in None = Some One
rules_in (Some n) = if n == 1 then Some One else if n == 2 then Some Two else None

abbrev pub rules_at : List ℕ → Members → Option Rules
rules_at key table = option_and_then rules_in (optional_number_at key table)

-- whether a text is base64url of 32 bytes
abbrev pub is_key_of_32 : Option (List ℕ) → Bool
is_key_of_32 None = false
is_key_of_32 (Some bytes) = length bytes == 32

abbrev pub is_secret : List ℕ → Bool
is_secret text = is_key_of_32 (bytes_of text)
