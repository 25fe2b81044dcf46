use Rattle.std.proofs.Common.{refl}
use Rattle.farm_storm.proofs.summary.sums_of.Goals as goal

pub returns : goal.returns
returns g c =
    rw (
      c.count_of-core.ensures,
      c.count_of-reserved.ensures,
      c.count_of-built.ensures,
      c.count_of-stored.ensures,
      c.count_of-listed.ensures,
      c.open_count-open_ones.ensures,
      c.history-entries.ensures.entries,
    ) refl
