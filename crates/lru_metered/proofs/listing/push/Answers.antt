use Rattle.std.proofs.Common.{None}
use Rattle.lru_metered.proofs.TableLemmas.{pushed-from}
use Rattle.lru_metered.proofs.listing.push.Goals as goal

pub returns-clause-pushed : goal.returns-clause-pushed
returns-clause-pushed g c =
    pushed-from c.args.nodes.now c.insert.new.self c.hook.new.nodes c.append.new.chain c.args.heads.now
    c.hook.new.heads c.args.bucket c.in-Ok.at
    (record { key = c.args.key; value = c.args.value; next = None })
    c.requires.full c.in-Ok.ensures.was_vacant c.in-Ok.ensures.updates c.insert.ensures.order
    c.in-Ok.ensures.len c.hook.ensures.relinks c.hook.ensures.bucketed c.append.ensures.order
    c.append.ensures.items
