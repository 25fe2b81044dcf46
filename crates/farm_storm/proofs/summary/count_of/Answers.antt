use Rattle.std.proofs.Common.{◌≡◌, ◌+◌, ◌++◌, ◌∷◌, [], take, ap, sym, ◌∙◌}
use Rattle.std.proofs.lemmas.List.{take_more}
use Rattle.farm_entries.specs.declared.entry.Entry.{Entry}
use Rattle.farm_storm.specs.Summary.{counts}
use Rattle.farm_storm.proofs.CountLemmas.{count_more, at_most_one_more}
use Rattle.farm_storm.proofs.summary.count_of.Goals as goal

pub loop-made-preserved : goal.loop-made-preserved
loop-made-preserved c =
    let i = c.loop-made.made-index in
    let more : take (i + 1) c.args.entries.now ≡ take i c.args.entries.now ++ c.made-item.result ∷ [] =
    take_more c.args.entries.now i c.made-item.result c.loop-made-test.true
    ∙ ap (λ (x : Entry). take i c.args.entries.now ++ x ∷ []) (sym c.made-item.is) in (
      rw (c.raised-count.ensures, c.counts.ensures, c.loop-made.invariant.0)
          (sym (count_more (counts c.args.what) c.args.entries.now i c.made-item.result more)),
      at_most_one_more c.loop-made.count i c.counts.result c.raised-count.result c.raised-count.ensures
          c.loop-made.invariant.1,
    )
