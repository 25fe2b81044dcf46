use Rattle.lru_metered.proofs.TableLemmas.{not-left, full-out}
use Rattle.lru_metered.proofs.listing.take_out.Goals as goal

pub take-key-requires-clause-apart : goal.take-key-requires-clause-apart
take-key-requires-clause-apart g c =
    not-left c.args.nodes.now c.detach.new.chain c.args.at c.requires.full c.requires.listed
    c.detach.ensures.order

pub returns-clause-full : goal.returns-clause-full
returns-clause-full g c =
    full-out c.args.nodes.now c.detach.new.chain c.take-key.new.self c.args.at c.requires.full
    c.requires.listed c.detach.ensures.order c.detach.ensures.items c.take-key.ensures.order
    c.take-key.ensures.updates c.take-key.ensures.len
