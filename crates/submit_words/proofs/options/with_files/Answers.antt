use Rattle.std.proofs.Common.{◌≡◌, ◌∙◌, ap, ap₂, codes}
use Rattle.clap.specs.Simple.{app_of, with_rule}
use Rattle.submit_words.specs.Options.{option_rule}
use Rattle.submit_words.proofs.ReadLemmas.{adds}
use Rattle.submit_words.proofs.options.with_files.Goals as goal

pub returns : goal.returns
returns c =
    let base = app_of c.args.command in
    let first : app_of c.in_ok-arg.field-0 ≡ with_rule base (option_rule (codes "token-file")) =
    c.in_ok-arg.ensures.shape c.option.ensures.local ∙ ap (with_rule base) c.option.ensures.rule in
    let second : app_of c.in_ok-arg-2.field-0 ≡ with_rule (with_rule base (option_rule (codes "token-file")))
    (option_rule (codes "archive")) =
    c.in_ok-arg-2.ensures.shape c.option-2.ensures.local ∙ ap₂ with_rule first c.option-2.ensures.rule in
    adds c.arg-3.result _ _ _ (option_rule (codes "cache")) c.arg-3.ensures c.option-3.ensures.local
    c.option-3.ensures.rule second
