use Rattle.std.proofs.Common.{refl}
use Rattle.lru_metered.specs.Chain.{with_previous}
use Rattle.lru_metered.proofs.ChainLemmas.{written}
use Rattle.lru_metered.proofs.chain.set_previous.Goals as goal

pub returns-in-Some-clause-items : goal.returns-in-Some-clause-items
returns-in-Some-clause-items g c =
    let node = c.index_mut-node.result.now in
    (written c.args.nodes.now c.in-Some.key node
    (record { item = node.item; neighbours = c.set_previous.new.self }) (with_previous c.args.previous)
    c.index_mut-node.ensures.value refl c.set_previous.ensures.now).1
