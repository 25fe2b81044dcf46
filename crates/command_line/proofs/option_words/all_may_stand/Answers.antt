use Rattle.std.proofs.Common.{◌∙◌, string_bytes, rules, tests}
use Rattle.std.proofs.lemmas.Iterator.{YieldsList-from_slice}
use Rattle.std.proofs.lemmas.Iterator.Search.{all_from_yields_List}
use Rattle.command_line.specs.Options.{may_stand}
use Rattle.command_line.proofs.ClapLemmas.{all_seen}
use Rattle.command_line.proofs.option_words.all_may_stand.Goals as goal

pub returns : goal.returns
returns c =
    all_from_yields_List (λ word. may_stand (string_bytes word)) _ _ _ c.all.ensures.ran
    (YieldsList-from_slice c.args.words.now cc) (λ x b q k. search (rules, tests))
    ∙ all_seen string_bytes c.args.words.now
