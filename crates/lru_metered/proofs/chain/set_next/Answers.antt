use Rattle.std.proofs.Common.{refl}
use Rattle.lru_metered.specs.Chain.{with_next}
use Rattle.lru_metered.proofs.ChainLemmas.{written}
use Rattle.lru_metered.proofs.chain.set_next.Goals as goal

pub returns-in-Some-clause-items : goal.returns-in-Some-clause-items
returns-in-Some-clause-items g c =
    let node = c.index_mut-node.result.now in
    (written c.args.nodes.now c.in-Some.key node
    (record { item = node.item; neighbours = c.set_next.new.self }) (with_next c.args.next)
    c.index_mut-node.ensures.value refl c.set_next.ensures.now).1
