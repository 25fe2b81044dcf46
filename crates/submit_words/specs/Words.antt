-- What the program's words ask for.
use Rattle.std.specs.Prelude.{ℕ, List, [], ◌∷◌, Bool, ◌&&◌, ◌||◌, not, ◌==◌, nat_le, nat_lt, length}
use Rattle.std.specs.Prelude.{Option, Some, None, if◌then◌else◌, option_map, option_and_then, codes, unwrap_or}
use Rattle.std.specs.Prelude.{slice_index, take, drop, ◌+◌, ◌<◌, ◌^◌, ◌++◌}
use Rattle.std.specs.Str.{bytes_eq}
use Rattle.std.specs.Str.Parse.{digits_value}
use Rattle.std.specs.Char.{is_ascii_digit}
use Rattle.std.specs.List.{list_all}
use Rattle.clap.specs.Lexer.{name_and_value}
use Rattle.submit_words.specs.Options.{Said, options_in}

-- where the clients' token stands: in a word, or in the file of this name
pub data Token : Type 0 where
  by_word : List ℕ → Token
  by_file : List ℕ → Token

-- a name and what belongs to it: a variable's value, or an output's file
abbrev pub Pair : Type 0
Pair = List ℕ × List ℕ

-- a job: whom is asked for it, what is run, and how often and how long it is asked for
pub record Job : Type 0 where
  pub scheduler : List ℕ
  pub token : Token
  pub archive : List ℕ
  pub cache : Option (List ℕ)
  pub executable : List ℕ
  pub arguments : List (List ℕ)
  pub cwd : List ℕ
  pub variables : List Pair
  pub input : Option (List ℕ)
  pub outputs : List Pair
  pub tries : ℕ
  pub seconds : Option ℕ
  pub verbose : Bool
  pub json : Bool

-- what is asked for: the words, the version, or a job
pub data Invocation : Type 0 where
  help : Invocation
  version : Invocation
  job : Job → Invocation

-- ---- the first `--`

abbrev pub is_dashes : List ℕ → Bool
is_dashes word = bytes_eq word (codes "--")

-- the words in front of it, and those behind it if it stands
abbrev pub front_from : List (List ℕ) → List (List ℕ) → List (List ℕ)
front_from before [] = before
front_from before (w ∷ words) = if is_dashes w then before else front_from (before ++ w ∷ []) words

abbrev pub front_of : List (List ℕ) → List (List ℕ)
front_of words = front_from [] words

abbrev pub command_of : List (List ℕ) → Option (List (List ℕ))
command_of [] = None
command_of (w ∷ words) = if is_dashes w then Some words else command_of words

-- the same by its place, if it has one
abbrev pub front_at : {X : Type 0} → Option ℕ → List X → List X
front_at None words = words
front_at (Some i) words = take i words

abbrev pub command_at : {X : Type 0} → Option ℕ → List X → Option (List X)
command_at None words = None
command_at (Some i) words = Some (drop (i + 1) words)

abbrev pub IsWithin : {X : Type 0} → Option ℕ → List X → Type 0
IsWithin None words = Unit {0}
IsWithin (Some i) words = i < length words

-- ---- values

abbrev pub is_digits : List ℕ → Bool
is_digits text = nat_lt 0 (length text) && list_all is_ascii_digit text

-- digits with no zero before others
abbrev pub is_plain : List ℕ → Bool
is_plain text = is_digits text && (not (slice_index text 0 == 48) || length text == 1)

-- the number of 64 bits that they say
unfoldable pub plain_in : List ℕ → Option ℕ
plain_in text =
    if is_plain text && nat_lt (digits_value 10 text) (2 ^ 64) then Some (digits_value 10 text) else None

-- a number from 1 to the most
abbrev pub within : ℕ → ℕ → Option ℕ
within most n = if nat_le 1 n && nat_le n most then Some n else None

abbrev pub number_in : ℕ → List ℕ → Option ℕ
number_in most text = option_and_then (within most) (plain_in text)

-- how often: 5 times where nothing is said, else 1 to 100
abbrev pub tries_in : Option (List ℕ) → Option ℕ
tries_in None = Some 5
tries_in (Some text) = number_in 100 text

-- how many seconds: with no limit where nothing is said, else 1 to 86400
abbrev pub seconds_in : Option (List ℕ) → Option (Option ℕ)
seconds_in None = Some None
seconds_in (Some text) = option_map Some (number_in 86400 text)

-- `NAME=VALUE`, with a name; the value is all behind the first `=`
abbrev pub pair_of : List ℕ → Option (List ℕ) → Option Pair
pair_of [] value = None
pair_of (byte ∷ name) None = None
pair_of (byte ∷ name) (Some value) = Some (byte ∷ name, value)

abbrev pub variable_in : List ℕ → Option Pair
variable_in text = pair_of (name_and_value text).0 (name_and_value text).1

-- `NAME=FILE`, with a name and a file; `NAME` alone is the file's too
abbrev pub output_of : List ℕ → Option (List ℕ) → Option Pair
output_of [] file = None
output_of (byte ∷ name) None = Some (byte ∷ name, byte ∷ name)
output_of (byte ∷ name) (Some []) = None
output_of (byte ∷ name) (Some (next ∷ file)) = Some (byte ∷ name, next ∷ file)

abbrev pub output_in : List ℕ → Option Pair
output_in text = output_of (name_and_value text).0 (name_and_value text).1

-- what each says behind those before, if each says something
abbrev pub each_from : (List ℕ → Option Pair) → List Pair → List (List ℕ) → Option (List Pair)
each_from f before [] = Some before
each_from f before (x ∷ xs) = option_and_then (λ pair. each_from f (before ++ pair ∷ []) xs) (f x)

abbrev pub each : (List ℕ → Option Pair) → List (List ℕ) → Option (List Pair)
each f texts = each_from f [] texts

-- exactly one of both
abbrev pub token_of : Option (List ℕ) → Option (List ℕ) → Option Token
token_of None None = None
token_of (Some text) None = Some (by_word text)
token_of None (Some name) = Some (by_file name)
token_of (Some text) (Some name) = None

-- an executable with its arguments
abbrev pub run_of : Option (List (List ℕ)) → Option (List ℕ × List (List ℕ))
run_of None = None
run_of (Some []) = None
run_of (Some (executable ∷ arguments)) = Some (executable, arguments)

-- ---- a job

-- whom is asked, under which token, with which archive, and what is run
pub record Asked : Type 0 where
  pub scheduler : List ℕ
  pub token : Token
  pub archive : List ℕ
  pub run : List ℕ × List (List ℕ)

abbrev pub asked_of : Said → Option (List (List ℕ)) → Option Asked
asked_of said command =
    option_and_then (λ scheduler.
    option_and_then (λ token.
    option_and_then (λ archive.
    option_map (λ run. record { scheduler = scheduler; token = token; archive = archive; run = run })
    (run_of command)) said.archive) (token_of said.token said.token_file)) said.scheduler

-- its variables and outputs, and how often and how long it is asked for
pub record Terms : Type 0 where
  pub variables : List Pair
  pub outputs : List Pair
  pub tries : ℕ
  pub seconds : Option ℕ

abbrev pub terms_of : Said → Option Terms
terms_of said =
    option_and_then (λ variables.
    option_and_then (λ outputs.
    option_and_then (λ tries.
    option_map (λ seconds. record { variables = variables; outputs = outputs; tries = tries; seconds = seconds })
    (seconds_in said.max_time)) (tries_in said.tries)) (each output_in said.output)) (each variable_in said.env)

abbrev pub joined : Said → Asked → Terms → Job
joined said asked terms = record {
  scheduler = asked.scheduler;
  token = asked.token;
  archive = asked.archive;
  cache = said.cache;
  executable = asked.run.0;
  arguments = asked.run.1;
  cwd = unwrap_or said.cwd (codes "/");
  variables = terms.variables;
  input = said.input;
  outputs = terms.outputs;
  tries = terms.tries;
  seconds = terms.seconds;
  verbose = said.verbose;
  json = said.json;
}

abbrev pub job_of : Said → Option (List (List ℕ)) → Option Job
job_of said command = option_and_then (λ asked. option_map (joined said asked) (terms_of said)) (asked_of said command)

-- ---- all words

abbrev pub invocation_of : Said → Option (List (List ℕ)) → Option Invocation
invocation_of said command =
    if said.help then Some help
    else if said.version then Some version
    else option_map job (job_of said command)

-- the options, and the command behind them
abbrev pub invocation_with : List (List ℕ) → Option (List (List ℕ)) → Option Invocation
invocation_with front command = option_and_then (λ said. invocation_of said command) (options_in front)

-- the words behind the program's name
abbrev pub invocation_in : List (List ℕ) → Option Invocation
invocation_in words = invocation_with (front_of words) (command_of words)

-- What the words ask for; the first is the program's name.
abbrev pub asked_by : List (List ℕ) → Option Invocation
asked_by [] = None
asked_by (name ∷ words) = invocation_in words
