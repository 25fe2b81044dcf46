use Rattle.std.proofs.Common.{length, sym, subst, arith}
use Rattle.slab.specs.Slab.{HasRoomFor}
use Rattle.lru_metered.specs.Chain.{IsChain, links, walk}
use Rattle.lru_metered.proofs.ChainLemmas.{count-items}
use Rattle.lru_metered.proofs.chain.Chain.reserve.Goals as goal

pub invariant_of-self : goal.invariant_of-self
invariant_of-self g c =
    subst (λ s. IsChain (links s) c.self.inside.first c.self.inside.last
    (walk (links s) (length s.slots) c.self.inside.first))
    (sym c.reserve.ensures.rest_kept) c.self.invariant

pub returns-clause-succeeds : goal.returns-clause-succeeds
returns-clause-succeeds g c = λ room.
    let here = subst (λ v. HasRoomFor v.items c.args.additional) (sym c.self.view_is) room in
    c.reserve.ensures.succeeds (omega (arith, here, count-items c.self.inside.nodes.slots))
