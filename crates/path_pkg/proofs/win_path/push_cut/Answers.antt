use Rattle.std.proofs.Common.{◌∙◌, ap, ◌++◌, filter}
use Rattle.std.proofs.lemmas.Iterator.Consumers.{YieldsList-end}
use Rattle.std.proofs.lemmas.Iterator.Splits.{YieldsList-from_str_split}
use Rattle.path_pkg.specs.Windows.{is_full}
use Rattle.path_pkg.proofs.win_path.push_cut.Goals as goal

pub returns : goal.returns
returns c =
    c.loop-piece.invariant ∙ ap (λ pieces. c.args.parts.now.items ++ filter is_full pieces)
    (YieldsList-end (YieldsList-from_str_split c.args.at c.args.text.now c.requires (cc) (cc) (cc))
    c.loop-piece.yielded _ c.loop-piece.yielded_by _ _ c.in-None.is c.next.ensures.steps).0
