use Rattle.std.proofs.Common.{length, sym, ap, ◌∙◌}
use Rattle.lru_metered.proofs.PartLemmas.{length-left}
use Rattle.lru_metered.proofs.iter.IterExactSizeIterator.len.Goals as goal

pub returns-clause-value : goal.returns-clause-value
returns-clause-value g c =
    let i = c.self.inside in
    sym (length-left i.nodes.now i.end i.left i.first i.last c.self.invariant) ∙ ap length c.self.view_is
