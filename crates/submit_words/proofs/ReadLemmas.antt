-- What the matches of clap tell, by its rows.
use Rattle.std.proofs.Common.{◌≡◌, List, [], ◌∷◌, Option, Some, None, Result, Ok, Err, IfOk, true, false}
use Rattle.std.proofs.Common.{option_map, refl, sym, ◌∙◌, ap, ap₂}
use Rattle.clap.specs.Built.{AddsArg}
use Rattle.clap.specs.Faults.{fault_of, is_simple_and_free}
use Rattle.clap.specs.Kinds.{IsAmong, Kinds}
use Rattle.clap.specs.Matches.{first_value, matched_of, raw_values}
use Rattle.clap.specs.Simple.{App, app_of, is_simple, matches_of, with_rule}
use Rattle.clap.specs.Walk.{Row, Rule, Text, all_of, first_of, rows_of, rule_of}
use Rattle.clap.specs.declared.builder.arg.Arg.{Arg}
use Rattle.clap.specs.declared.builder.command.Command.{Command}
use Rattle.clap.specs.declared.error.kind.ErrorKind.{ErrorKind}
use Rattle.clap.specs.declared.parser.matches.Found.{Found}
use Rattle.clap.proofs.WalkLemmas.{first_value-rows, raw_values-rows}
use Rattle.submit_words.specs.Misuse.{Refuses}
use Rattle.submit_words.specs.Options.{Said, options_in, said_in, submit_app, unless_faulty}
use Rattle.submit_words.specs.declared.misuse.Misuse.{Misuse}
use Rattle.submit_words.specs.declared.misuse.Misuse.TheVariants.{Usage, Memory}

pub first_rows : (f : Found) (id : Text) → first_value f id ≡ first_of id (rows_of f)
first_rows f id = first_value-rows f id

pub all_rows : (f : Found) (id : Text) → option_map raw_values (matched_of f id) ≡ all_of id (rows_of f)
all_rows f id = raw_values-rows f id

pub is_free : is_simple_and_free submit_app ≡ true
is_free = refl

pub simple : is_simple submit_app ≡ true
simple = refl

-- where clap takes the words, they say what its matches say
pub taken_says : (words : List Text) (rows : List Row) (said : Said) → fault_of submit_app words ≡ []
    → rows ≡ matches_of submit_app words → said ≡ said_in rows → options_in words ≡ Some said
taken_says words rows said none same is =
    ap (λ f. unless_faulty f (said_in (matches_of submit_app words))) none
    ∙ ap Some (sym (is ∙ ap said_in same))

-- where clap refuses them, they say nothing
pub refused_says : (words : List Text) (k : ErrorKind) → IsAmong k (fault_of submit_app words)
    → options_in words ≡ None
refused_says words k among = by (fault_of submit_app words) refl among
  where
    by : (f : Kinds) → fault_of submit_app words ≡ f → IsAmong k f → options_in words ≡ None
    by [] e i = absurd i
    by (x ∷ xs) e i = ap (λ f. unless_faulty f (said_in (matches_of submit_app words))) e

-- words that say nothing are refused so
pub refuses_none : {U : Type 0} (m : Misuse) (meaning : Option U) → meaning ≡ None → Refuses m meaning
refuses_none (Usage cause) meaning e = e
refuses_none Memory meaning e = tt

-- what an argument more makes of a command
pub adds : {E : Type 0} (r : Result Command E) (old : Command) (a : Arg) (base : App) (rule : Rule)
    → IfOk r (AddsArg old a) → a.global ≡ false → rule_of a ≡ rule → app_of old ≡ base
    → IfOk r (λ c. app_of c ≡ with_rule base rule)
adds (Ok c) old a base rule h local is at = h.shape local ∙ ap₂ with_rule at is
adds (Err e) old a base rule h local is at = tt
