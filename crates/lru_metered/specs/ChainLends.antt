-- What a chain ends as, once a reference to an item has ended.
use Rattle.std.specs.Prelude.{ℕ}
use Rattle.std.specs.Borrow.{Fml, RattleType, MutBor, Lends}
use Rattle.slab.specs.Slab.{with_value}
use Rattle.lru_metered.specs.Chain.{Chained}
use Rattle.lru_metered.specs.contracts.chain.Chain as chain

-- a chain ends with the last item written through the reference under the key, and the same order
abbrev pub lends_item : (T : RattleType) → MutBor (Chained T.Denot) → ℕ → MutBor T.Denot → Fml
lends_item T c key r =
    Lends (chain.the_row T) T c r (λ w. record { items = with_value c.now.items key w; order = c.now.order })
