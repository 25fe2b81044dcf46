use Rattle.std.proofs.Common.{arith}
use Rattle.path_pkg.specs.Windows.{pairs_of}
use Rattle.path_pkg.specs.Written.{texts_of}
use Rattle.path_pkg.proofs.WindowsLemmas.{verbatim_more, verbatim_done}
use Rattle.path_pkg.proofs.windows.push_verbatim_disks.Goals as goal

pub loop-letter-preserved : goal.loop-letter-preserved
loop-letter-preserved c =
    verbatim_more (texts_of c.args.mapped.now.entries) (pairs_of c.loop-letter.pairs.items) _ _
    c.loop-letter.letter _ _ (omega arith) c.in_ok-push_verbatim.ensures c.loop-letter.invariant

pub returns : goal.returns
returns c =
    verbatim_done (texts_of c.args.mapped.now.entries) (pairs_of c.loop-letter.pairs.items) _
    c.loop-letter.letter _ (omega arith) c.loop-letter.invariant
