-- The options behind a command: `--name VALUE` or `--name=VALUE`, each once, in any order.
use Rattle.std.specs.Prelude.{ℕ, List, [], ◌∷◌, ◌++◌, Bool, true, false, not, ◌==◌, if◌then◌else◌, Option}
use Rattle.std.specs.Prelude.{Some, None, option_map, option_and_then, codes}
use Rattle.std.specs.List.{list_all, list_any}
use Rattle.std.specs.Str.{bytes_eq}
use Rattle.clap.specs.Lexer.{long_of}
use Rattle.command_line.specs.declared.option_words.Options.{Options}

-- the options that there are
abbrev pub option_names : List (List ℕ)
option_names = codes "bits" ∷ codes "server" ∷ codes "secret-key" ∷ codes "config" ∷ []

abbrev pub is_among : List (List ℕ) → List ℕ → Bool
is_among names name = list_any (λ n. bytes_eq n name) names

-- what was said: the options with their values, in order
abbrev pub Pairs : Type 0
Pairs = List (List ℕ × List ℕ)

abbrev pub has_option : List ℕ → Pairs → Bool
has_option name pairs = list_any (λ p. bytes_eq p.0 name) pairs

-- the same with a value more, where the option has none so far
abbrev pub with_option : Pairs → List ℕ → List ℕ → Option Pairs
with_option pairs name value = if has_option name pairs then None else Some (pairs ++ (name, value) ∷ [])

-- ---- words

abbrev pub is_empty : List ℕ → Bool
is_empty [] = true
is_empty (byte ∷ rest) = false

-- `--name`, or `--name=value` with a value that is not empty
abbrev pub is_option_word : Option (List ℕ × Option (List ℕ)) → Bool
is_option_word None = false
is_option_word (Some (name, None)) = true
is_option_word (Some (name, Some value)) = not (is_empty value)

-- A word that may stand in a row: it is not empty, and where it has two or more bytes and begins with `-`,
-- it is `--name`, or `--name=value` with a value that is not empty.
abbrev pub may_stand : List ℕ → Bool
may_stand [] = false
may_stand (byte ∷ []) = true
may_stand (byte ∷ next ∷ rest) = if byte == 45 then is_option_word (long_of (byte ∷ next ∷ rest)) else true

-- a value that is a word of its own: one of two or more bytes does not begin with `-`
abbrev pub is_value : List ℕ → Bool
is_value [] = false
is_value (byte ∷ []) = true
is_value (byte ∷ next ∷ rest) = not (byte == 45)

-- ---- one word after the other

-- what was said so far, and the option whose value is the next word
pub record State : Type 0 where
  pub pairs : Pairs
  pub waiting : Option (List ℕ)

abbrev pub complete : Pairs → State
complete pairs = record { pairs = pairs; waiting = None }

-- a word that begins an option of these names
abbrev pub begun : List (List ℕ) → Pairs → Option (List ℕ × Option (List ℕ)) → Option State
begun names pairs None = None
begun names pairs (Some (name, None)) =
    if is_among names name then Some (record { pairs = pairs; waiting = Some name }) else None
begun names pairs (Some (name, Some value)) =
    if is_among names name then option_map complete (with_option pairs name value) else None

-- a word that is the value of an option
abbrev pub completed : Pairs → List ℕ → List ℕ → Option State
completed pairs name word = if is_value word then option_map complete (with_option pairs name word) else None

-- one more word
abbrev pub stepped : List (List ℕ) → Pairs → Option (List ℕ) → List ℕ → Option State
stepped names pairs None word = begun names pairs (long_of word)
stepped names pairs (Some name) word = completed pairs name word

-- at the end no option waits
abbrev pub ended : Pairs → Option (List ℕ) → Option Pairs
ended pairs None = Some pairs
ended pairs (Some name) = None

abbrev pub pairs_from : List (List ℕ) → State → List (List ℕ) → Option Pairs
pairs_from names s [] = ended s.pairs s.waiting
pairs_from names s (word ∷ words) =
    option_and_then (λ next. pairs_from names next words) (stepped names s.pairs s.waiting word)

-- ---- by name

-- what the options of a command say
pub record Said : Type 0 where
  pub bits : Option (List ℕ)
  pub server : Option (List ℕ)
  pub secret_key : Option (List ℕ)
  pub config : Option (List ℕ)

-- the same, of the Rust struct
abbrev pub said_of : Options → Said
said_of o = record {
  bits = option_map (λ t. t.now) o.bits;
  server = option_map (λ t. t.now) o.server;
  secret_key = option_map (λ t. t.now) o.secret_key;
  config = option_map (λ t. t.now) o.config;
}

abbrev pub value_of : List ℕ → Pairs → Option (List ℕ)
value_of name [] = None
value_of name (p ∷ pairs) = if bytes_eq p.0 name then Some p.1 else value_of name pairs

abbrev pub said_by : Pairs → Said
said_by pairs = record {
  bits = value_of (codes "bits") pairs;
  server = value_of (codes "server") pairs;
  secret_key = value_of (codes "secret-key") pairs;
  config = value_of (codes "config") pairs;
}

-- What the options that these words are say: each word may stand, and is part of one.
abbrev pub options_in : List (List ℕ) → Option Said
options_in words =
    if list_all may_stand words then option_map said_by (pairs_from option_names (complete []) words)
    else None
