use Rattle.std.proofs.Common.{length}
use Rattle.std.proofs.lemmas.Bool.{le-ltb}
use Rattle.std.proofs.lemmas.List.{drop-replicate}
use Rattle.dist_token.proofs.mac.block_of.Goals as goal

pub returns-else-key-gt-BLOCK : goal.returns-else-key-gt-BLOCK
returns-else-key-gt-BLOCK c =
    let short = le-ltb 64 (length c.args.key.now) c.if-key-gt-BLOCK.false in
    simp (drop-replicate, c.copy_from_slice-else-key-gt-BLOCK.ensures.after) (rw short)
