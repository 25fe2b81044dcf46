use Rattle.std.proofs.Common.{◌-◌, ◌+◌, ◌%◌, ◌^◌, arith}
use Rattle.row_index.proofs.FollowLemmas.{apart_from}
use Rattle.row_index.proofs.following_rows.place_in.Goals as goal

pub returns-else-place-rows : goal.returns-else-place-rows
returns-else-place-rows g c =
    let far = (c.args.id + 2 ^ 64 - c.args.first) % 2 ^ 64 in (
      far,
      omega (arith, c.if-place-rows.false),
      apart_from c.args.first c.args.id c.ranges.first.fits
          c.ranges.id.fits,
    )
