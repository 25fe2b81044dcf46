-- The options: what the kit's clap reads of the words in front of the command.
use Rattle.std.specs.Prelude.{ℕ, List, [], ◌∷◌, Bool, true, false, Option, Some, None, map, codes, unwrap_or}
use Rattle.std.specs.Option.{option_map_or}
use Rattle.std.specs.Prelude.{option_map}
use Rattle.std.specs.Str.{bytes_eq}
use Rattle.clap.specs.Faults.{fault_of}
use Rattle.clap.specs.Kinds.{Kinds}
use Rattle.clap.specs.Simple.{App, matches_of, new_app, new_rule, on_top, with_rule}
use Rattle.clap.specs.Walk.{Row, Rule, all_of, first_of}
use Rattle.clap.specs.declared.builder.action.ArgAction.TheVariants.{Append, SetTrue}
use Rattle.submit_words.specs.declared.options.Options.{Options}

-- an option with one value; one that may come again; and one with none
abbrev pub option_rule : List ℕ → Rule
option_rule name = record (new_rule name) { long = Some name }

abbrev pub list_rule : List ℕ → Rule
list_rule name = record (new_rule name) { long = Some name; action = Some Append }

abbrev pub flag_rule : List ℕ → Rule
flag_rule name = record (new_rule name) { long = Some name; action = Some SetTrue }

-- a command with no program's name before its words, and no flag for help but its own
abbrev pub bare_app : App
bare_app = on_top (λ s. record s { no_binary_name = true; disable_help_flag = true })
    (new_app (codes "dist_submit"))

-- whom is asked, under which token
abbrev pub with_client : App → App
with_client a = with_rule (with_rule a (option_rule (codes "scheduler"))) (option_rule (codes "token"))

-- which files are read and kept
abbrev pub with_files : App → App
with_files a = with_rule (with_rule (with_rule a (option_rule (codes "token-file")))
    (option_rule (codes "archive"))) (option_rule (codes "cache"))

-- what is run
abbrev pub with_run : App → App
with_run a = with_rule (with_rule (with_rule (with_rule a (option_rule (codes "cwd"))) (list_rule (codes "env")))
    (option_rule (codes "input"))) (list_rule (codes "output"))

-- how often and how long a job is asked for
abbrev pub with_limits : App → App
with_limits a = with_rule (with_rule a (option_rule (codes "tries"))) (option_rule (codes "max-time"))

-- what is shown
abbrev pub with_flags : App → App
with_flags a = with_rule (with_rule (with_rule (with_rule a (flag_rule (codes "verbose")))
    (flag_rule (codes "json"))) (flag_rule (codes "help"))) (flag_rule (codes "version"))

-- the program's options
abbrev pub submit_app : App
submit_app = with_flags (with_limits (with_run (with_files (with_client bare_app))))

-- what the options say
pub record Said : Type 0 where
  pub scheduler : Option (List ℕ)
  pub token : Option (List ℕ)
  pub token_file : Option (List ℕ)
  pub archive : Option (List ℕ)
  pub cache : Option (List ℕ)
  pub cwd : Option (List ℕ)
  pub env : List (List ℕ)
  pub input : Option (List ℕ)
  pub output : List (List ℕ)
  pub tries : Option (List ℕ)
  pub max_time : Option (List ℕ)
  pub verbose : Bool
  pub json : Bool
  pub help : Bool
  pub version : Bool

-- a flag's value is `true` where it stands
abbrev pub is_set : Option (List ℕ) → Bool
is_set value = option_map_or (λ text. bytes_eq text (codes "true")) value false

abbrev pub said_in : List Row → Said
said_in rows = record {
  scheduler = first_of (codes "scheduler") rows;
  token = first_of (codes "token") rows;
  token_file = first_of (codes "token-file") rows;
  archive = first_of (codes "archive") rows;
  cache = first_of (codes "cache") rows;
  cwd = first_of (codes "cwd") rows;
  env = unwrap_or (all_of (codes "env") rows) [];
  input = first_of (codes "input") rows;
  output = unwrap_or (all_of (codes "output") rows) [];
  tries = first_of (codes "tries") rows;
  max_time = first_of (codes "max-time") rows;
  verbose = is_set (first_of (codes "verbose") rows);
  json = is_set (first_of (codes "json") rows);
  help = is_set (first_of (codes "help") rows);
  version = is_set (first_of (codes "version") rows);
}

-- where clap finds no fault
abbrev pub unless_faulty : Kinds → Said → Option Said
unless_faulty [] said = Some said
unless_faulty (kind ∷ kinds) said = None

-- What the words say as the program's options: what clap matches, where it finds no fault in them.
abbrev pub options_in : List (List ℕ) → Option Said
options_in words = unless_faulty (fault_of submit_app words) (said_in (matches_of submit_app words))

-- the same, of the Rust struct
abbrev pub said_of : Options → Said
said_of o = record {
  scheduler = option_map (λ t. t.now) o.scheduler;
  token = option_map (λ t. t.now) o.token;
  token_file = option_map (λ t. t.now) o.token_file;
  archive = option_map (λ t. t.now) o.archive;
  cache = option_map (λ t. t.now) o.cache;
  cwd = option_map (λ t. t.now) o.cwd;
  env = map (λ t. t.now) o.env.items;
  input = option_map (λ t. t.now) o.input;
  output = map (λ t. t.now) o.output.items;
  tries = option_map (λ t. t.now) o.tries;
  max_time = option_map (λ t. t.now) o.max_time;
  verbose = o.verbose;
  json = o.json;
  help = o.help;
  version = o.version;
}
