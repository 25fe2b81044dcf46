use Rattle.std.proofs.Common.{None, ap, get_or}
use Rattle.lru_metered.specs.Index.{hash_of}
use Rattle.lru_metered.proofs.TableLemmas.{table-none}
use Rattle.lru_metered.proofs.table.Table.new.Goals as goal

pub invariant_of-result : goal.invariant_of-result
invariant_of-result g c =
    table-none g.K.PartialEq.eq
    (λ k. hash_of g.S.BuildHasher g.S.Hasher.Hasher c.args.hasher (g.K.Hash.hash_input k)) c.new.result
    c.new-2.result.items c.new.ensures.order c.new.ensures.items
    (λ b. ap (λ h. get_or h b None) c.new-2.ensures.items)
