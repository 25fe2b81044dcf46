use Rattle.std.proofs.Common.{ap}
use Rattle.std.specs.Prelude.{nat_eq}
use Rattle.row_index.specs.Lookup.{value_at}
use Rattle.quota.proofs.GrowLemmas.{kept_none}
use Rattle.quota.proofs.holdings.empty.Goals as goal

pub invariant_of-result : goal.invariant_of-result
invariant_of-result c = rw (c.requires.rows, c.new.ensures.items)
    (kept_none c.args.held.items (λ n. value_at nat_eq n c.args.places.newest) c.requires.held
    (λ n. ap (value_at nat_eq n) c.requires.newest))
