use Rattle.std.proofs.Common.{refl}
use Rattle.lru_metered.specs.Chain.{with_ends}
use Rattle.lru_metered.proofs.ChainLemmas.{written}
use Rattle.lru_metered.proofs.chain.relink.Goals as goal

pub returns-clause-items : goal.returns-clause-items
returns-clause-items g c =
    let node = c.index_mut-node.result.now in
    (written c.args.nodes.now c.args.key node (record { item = node.item; neighbours = c.replace.new.self })
    (with_ends c.args.ends.0 c.args.ends.1) c.index_mut-node.ensures.value refl c.replace.ensures.now).1
