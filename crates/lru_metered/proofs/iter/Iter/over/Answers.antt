use Rattle.std.proofs.Common.{◌∙◌}
use Rattle.lru_metered.proofs.PartLemmas.{whole-part, whole-left}
use Rattle.lru_metered.proofs.iter.Iter.over.Goals as goal

pub invariant_of-result : goal.invariant_of-result
invariant_of-result g c =
    whole-part c.args.nodes.now c.len-left.result c.first.result c.last.result c.requires
    (c.len-left.ensures ∙ c.requires.counted) c.first.ensures c.last.ensures

pub returns : goal.returns
returns g c = whole-left c.args.nodes.now c.len-left.result (c.len-left.ensures ∙ c.requires.counted)
