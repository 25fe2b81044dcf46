use Rattle.std.proofs.Common.{None, ap, get_or}
use Rattle.lru_metered.specs.Index.{hash_of}
use Rattle.lru_metered.proofs.TableLemmas.{table-none}
use Rattle.lru_metered.proofs.table.Table.clear.Goals as goal

pub invariant_of-self : goal.invariant_of-self
invariant_of-self g c =
    table-none g.K.PartialEq.eq (λ k. hash_of g.S.BuildHasher g.S.Hasher.Hasher c.self.inside.hasher
    (g.K.Hash.hash_input k)) c.clear.new.self c.clear-2.new.self.items c.clear.ensures.order
    c.clear.ensures.items (λ b. ap (λ h. get_or h b None) c.clear-2.ensures.items)
