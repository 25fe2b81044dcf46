-- what is left, behind those so far, is what all of them say
use Rattle.std.proofs.Common.{◌≡◌, map, drop}
use Rattle.submit_words.specs.Views.{pair_seen}
use Rattle.submit_words.specs.Words.{each, each_from, output_in}
use Rattle.submit_words.proofs.words.outputs_in.Given as goal

abbrev pub invariant-loop-text : goal.invariant-loop-text
invariant-loop-text l = each_from output_in (map pair_seen l.pairs.items) (map (λ t. t.now) (drop l.text-index l.texts))
    ≡ each output_in (map (λ t. t.now) l.texts)
