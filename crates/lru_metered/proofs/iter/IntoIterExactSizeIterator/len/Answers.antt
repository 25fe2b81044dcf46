use Rattle.std.proofs.Common.{length, sym, ap, ◌∙◌}
use Rattle.lru_metered.proofs.ListingLemmas.{length-pairs}
use Rattle.lru_metered.proofs.iter.IntoIterExactSizeIterator.len.Goals as goal

pub returns-clause-value : goal.returns-clause-value
returns-clause-value g c =
    c.len.ensures ∙ (c.self.invariant.counted ∙ (sym (length-pairs c.self.inside.nodes c.self.invariant)
    ∙ ap length c.self.view_is))
