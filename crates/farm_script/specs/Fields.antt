-- The fields of a line, each read from one word.
use Rattle.std.specs.Prelude.{ℕ, ◌+◌, ◌-◌, ◌*◌, ◌==◌, ◌&&◌, ◌||◌, nat_eq, nat_lt, nat_le, Bool, if◌then◌else◌}
use Rattle.std.specs.Prelude.{List, [], ◌∷◌, length, slice_index, Option, Some, None, Result, Ok, Err, codes}
use Rattle.std.specs.Prelude.{ℤ, pos, negsuc}
use Rattle.std.specs.Char.{is_ascii_digit}
use Rattle.std.specs.List.{list_all}
use Rattle.std.specs.Str.{is_utf8}
use Rattle.std.specs.Cmp.Lexicographic.{pointwise}
use Rattle.hex.specs.Hex.{decode_of}
use Rattle.dist_types.specs.declared.addr.Addr.{Addr}
use Rattle.dist_types.specs.declared.addr.Addr.TheVariants.{V4}
use Rattle.dist_types.specs.Addr.{◌>>=◌, addr_in, is_scoped}
use Rattle.farm_script.specs.declared.lines.Scopes.{Scopes}
use Rattle.farm_script.specs.declared.lines.Scopes.TheVariants.{Refused, Taken}
use Rattle.farm_script.specs.Words.{is_visible}

-- a number with one more digit, below 2 ^ 64
abbrev pub append_digit : ℕ → ℕ → Option ℕ
append_digit n c = if is_ascii_digit c && nat_lt (n * 10 + (c - 48)) 18446744073709551616
    then Some (n * 10 + (c - 48)) else None

-- a number with more digits
unfoldable pub digits_on : ℕ → List ℕ → Option ℕ
digits_on n [] = Some n
digits_on n (c ∷ cs) = append_digit n c >>= λ m. digits_on m cs

-- digits without a leading zero, below 2 ^ 64
abbrev pub number_at : List ℕ → Option ℕ
number_at t = if (length t == 0) || (nat_lt 1 (length t) && (slice_index t 0 == 48)) then None
    else digits_on 0 t

-- a number from 1 to 2 ^ 31, below 0
abbrev pub below_zero : ℕ → Option ℤ
below_zero n = if nat_le 1 n && nat_le n 2147483648 then Some (negsuc (n - 1)) else None

-- a number below 2 ^ 31
abbrev pub from_zero : ℕ → Option ℤ
from_zero n = if nat_le n 2147483647 then Some (pos n) else None

-- an exit code: a number, with a dash before it where it is below 0
unfoldable pub code_at : List ℕ → Option ℤ
code_at [] = None
code_at (c ∷ cs) = if c == 45 then (number_at cs >>= below_zero) else (number_at (c ∷ cs) >>= from_zero)

-- visible bytes that say an address
abbrev pub addr_at : List ℕ → Option Addr
addr_at t = if list_all is_visible t then addr_in t else None

-- what stands in the place of a scoped address, which is none
abbrev pub nowhere : Addr
nowhere = V4 (0 ∷ 0 ∷ 0 ∷ 0 ∷ []) 0

-- visible bytes that say an address, with or without a scope
abbrev pub any_addr_at : List ℕ → Option Addr
any_addr_at t = if list_all is_visible t then (if is_scoped t then Some nowhere else addr_in t) else None

-- an address, where scopes are refused or taken
abbrev pub host_at : Scopes → List ℕ → Option Addr
host_at Refused t = addr_at t
host_at Taken t = any_addr_at t

-- 1 to 1,024 visible bytes
abbrev pub is_token : List ℕ → Bool
is_token t = nat_le 1 (length t) && nat_le (length t) 1024 && list_all is_visible t

-- a token stands for itself
abbrev pub token_at : List ℕ → Option (List ℕ)
token_at t = if is_token t then Some t else None

-- what was answered, without the cause of a refusal
abbrev pub ok_of : {A E : Type 0} → Result A E → Option A
ok_of (Ok x) = Some x
ok_of (Err e) = None

-- pairs of hex digits, at least one, or a dash for no bytes
abbrev pub hex_at : List ℕ → Option (List ℕ)
hex_at t = if pointwise nat_eq t (codes "-") then Some [] else if length t == 0 then None
    else ok_of (decode_of t)

-- 1 to 1,024 bytes
abbrev pub as_key : List ℕ → Option (List ℕ)
as_key bytes = if nat_le 1 (length bytes) && nat_le (length bytes) 1024 then Some bytes else None

-- hex of 1 to 1,024 bytes
abbrev pub key_at : List ℕ → Option (List ℕ)
key_at t = hex_at t >>= as_key

-- the bytes of a text
abbrev pub as_name : List ℕ → Option (List ℕ)
as_name bytes = if is_utf8 bytes then Some bytes else None

-- hex of the bytes of a text
abbrev pub name_at : List ℕ → Option (List ℕ)
name_at t = hex_at t >>= as_name
