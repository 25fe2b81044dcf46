use Rattle.std.proofs.Common.{bit_xor, slice_index, arith}
use Rattle.std.proofs.lemmas.List.Edits.{map_over_more}
use Rattle.std.proofs.lemmas.Grind.{common_steps}
use Rattle.dist_token.proofs.mac.padded.Goals as goal

pub loop-byte-preserved : goal.loop-byte-preserved
loop-byte-preserved c =
    let more = map_over_more (λ byte. bit_xor byte c.args.pad) c.args.block.now c.loop-byte.byte-items
    c.loop-byte.byte-index (slice_index c.loop-byte.byte-items c.loop-byte.byte-index) in
    grind (arith, common_steps, more)
