use Rattle.std.proofs.Common.{◌<◌, ap, arith, length}
use Rattle.std.proofs.lemmas.List.Edits.{map_over_more}
use Rattle.std.proofs.lemmas.Grind.{common_steps}
use Rattle.lru_disk_cache.specs.Reserved.{doubted}
use Rattle.lru_disk_cache.proofs.reservations.doubt_in.Goals as goal

pub loop-reserved-preserved : goal.loop-reserved-preserved
loop-reserved-preserved c =
    let within : c.loop-reserved.reserved-index < length c.args.pending.now.items =
    omega (arith, ap length c.deref_mut-reserved-items.ensures.value) in
    rw c.doubt.ensures (map_over_more (doubted c.args.number) _ _ _ _ within c.loop-reserved.invariant
    (grind (arith, common_steps)))
