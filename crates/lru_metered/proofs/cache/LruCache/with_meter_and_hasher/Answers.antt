use Rattle.std.proofs.Common.{◌≤◌, true, false, cond, arith}
use Rattle.lru_metered.proofs.cache.LruCache.with_meter_and_hasher.Goals as goal

pub invariant_of-result : goal.invariant_of-result
invariant_of-result g c =
    rw c.new.ensures (
      g.met.M.CountableMeter.default_is_zero c.args.meter c.default.result c.default.ensures,
      elim (g.M.CountableMeter.gives_size c.args.meter) as
          (λ b. cond b 0 0 ≤ c.args.capacity) [ true ↦ omega arith | false ↦ omega arith ],
    )
