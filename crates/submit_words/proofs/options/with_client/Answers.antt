use Rattle.std.proofs.Common.{◌≡◌, ◌∙◌, ap, codes}
use Rattle.clap.specs.Simple.{app_of, with_rule}
use Rattle.submit_words.specs.Options.{option_rule}
use Rattle.submit_words.proofs.ReadLemmas.{adds}
use Rattle.submit_words.proofs.options.with_client.Goals as goal

pub returns : goal.returns
returns c =
    let base = app_of c.args.command in
    let first : app_of c.in_ok-arg.field-0 ≡ with_rule base (option_rule (codes "scheduler")) =
    c.in_ok-arg.ensures.shape c.option.ensures.local ∙ ap (with_rule base) c.option.ensures.rule in
    adds c.arg-2.result _ _ _ (option_rule (codes "token")) c.arg-2.ensures c.option-2.ensures.local
    c.option-2.ensures.rule first
