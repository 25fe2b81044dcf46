use Rattle.std.proofs.Common.{length, sym, ap, ◌∙◌, subst}
use Rattle.std.specs.List.{IsDistinct}
use Rattle.std.specs.Map.{keys_of}
use Rattle.lru_metered.specs.Index.{pairs_at}
use Rattle.lru_metered.proofs.ListingLemmas.{length-pairs, distinct-listed}
use Rattle.lru_metered.proofs.table.Table.len.Goals as goal

pub returns-clause-len : goal.returns-clause-len
returns-clause-len g c =
    c.len.ensures ∙ (c.self.invariant.full.counted
    ∙ (sym (length-pairs c.self.inside.nodes c.self.invariant.full) ∙ ap length c.self.view_is))

pub returns-clause-distinct : goal.returns-clause-distinct
returns-clause-distinct g c =
    subst (λ l. IsDistinct g.K.PartialEq.eq (keys_of l)) c.self.view_is
    (distinct-listed g.K.PartialEq.eq (pairs_at c.self.inside.nodes.items) c.self.inside.nodes.order
    c.self.invariant.differ c.self.invariant.full.apart)
