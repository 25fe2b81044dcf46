use Rattle.std.proofs.Common.{Contains, length, sym, ap, ◌∙◌, subst}
use Rattle.lru_metered.specs.Chain.{links, walk}
use Rattle.lru_metered.proofs.ChainLemmas.{first-contained}
use Rattle.lru_metered.proofs.chain.Chain.pop_front.Goals as goal

pub unlink-requires : goal.unlink-requires
unlink-requires g c =
    let s = c.self.inside.nodes in
    let order = walk (links s) (length s.slots) c.self.inside.first in
    subst (λ o. Contains o c.in_ok-at.at) (ap (λ v. v.order) c.self.view_is)
    (first-contained order c.in_ok-at.at (sym c.self.invariant.starts ∙ c.in_ok-at.was))
