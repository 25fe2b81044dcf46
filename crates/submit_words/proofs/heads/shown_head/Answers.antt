use Rattle.std.proofs.Common.{◌∙◌, ap, lit<}
use Rattle.std.proofs.lemmas.Iterator.Consumers.{YieldsList-end}
use Rattle.std.proofs.lemmas.Iterator.Splits.{YieldsList-from_str_split}
use Rattle.submit_words.specs.Heads.{shown_lines}
use Rattle.submit_words.proofs.heads.shown_head.Goals as goal

pub returns : goal.returns
returns c =
    c.loop-line.invariant
    ∙ ap (shown_lines c.args.mark.now) (YieldsList-end (YieldsList-from_str_split 10 c.args.head.now (lit< tt) (cc) (cc)
    (cc)) c.loop-line.yielded _ c.loop-line.yielded_by _ _ c.in-None.is c.next.ensures.steps).0
