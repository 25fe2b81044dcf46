-- The options as clap's builder has them, and what clap's matches say of them.
use Rattle.std.specs.Prelude.{ℕ, List, true, Some, fold, codes}
use Rattle.clap.specs.Simple.{App, new_app, new_rule, on_top, with_rule}
use Rattle.clap.specs.Walk.{Row, Rule, first_of}
use Rattle.command_line.specs.Options.{Said, option_names}

-- an option that takes one value
abbrev pub option_rule : List ℕ → Rule
option_rule name = record (new_rule name) { long = Some name }

-- a command with no program's name before its words, and no flag for help
abbrev pub bare_app : App
bare_app = on_top (λ s. record s { no_binary_name = true; disable_help_flag = true })
    (new_app (codes "options"))

-- the command of the options
abbrev pub options_app : App
options_app = fold (λ a name. with_rule a (option_rule name)) bare_app option_names

-- what matches say
abbrev pub said_in : List Row → Said
said_in rows = record {
  bits = first_of (codes "bits") rows;
  server = first_of (codes "server") rows;
  secret_key = first_of (codes "secret-key") rows;
  config = first_of (codes "config") rows;
}
