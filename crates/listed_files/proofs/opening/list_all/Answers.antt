use Rattle.std.proofs.Common.{◌<◌, length, ap, ◌∙◌, arith}
use Rattle.listed_files.specs.Entries.{Listed}
use Rattle.listed_files.proofs.Sorting.{room_more, list_more, keys_more}
use Rattle.listed_files.proofs.opening.list_all.Goals as goal

pub loop-key-preserved : goal.loop-key-preserved
loop-key-preserved c =
    let within : c.loop-key.key-index < length c.args.good.now = omega (arith, c.loop-key-test.true) in
    let new = ap (λ (t : Listed). t.entries) c.in_ok-list_one.ensures in (
      ap (λ (t : Listed). t.capacity) c.in_ok-list_one.ensures ∙ c.loop-key.invariant.0,
      room_more c.loop-key-item.result.0 c.loop-key-item.result.1 c.loop-key.key-index c.loop-key.table
          c.list_one.new.table c.args.good.now within c.loop-key-item.is c.in_ok-list_one.ensures
          c.loop-key.invariant.1,
      list_more c.loop-key-item.result.0 c.loop-key-item.result.1 c.loop-key.key-index
          c.args.table.now.entries c.loop-key.table.entries c.list_one.new.table.entries c.args.good.now
          within c.loop-key-item.is new c.loop-key.invariant.2,
      keys_more c.loop-key-item.result.0 c.loop-key-item.result.1 c.loop-key.key-index
          c.args.table.now.entries c.loop-key.table.entries c.list_one.new.table.entries c.args.good.now
          within c.loop-key-item.is new c.loop-key.invariant.3,
    )
