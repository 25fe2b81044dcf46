use Rattle.std.proofs.Common.{◌∙◌, ap, ◌==◌, filter, lit<}
use Rattle.std.specs.List.{flat_map, slice_split}
use Rattle.std.proofs.lemmas.Iterator.Consumers.{YieldsList-end}
use Rattle.std.proofs.lemmas.Iterator.Splits.{YieldsList-from_str_split}
use Rattle.path_pkg.specs.Windows.{is_full}
use Rattle.path_pkg.proofs.win_path.parts_of.Goals as goal

pub returns : goal.returns
returns c =
    c.loop-piece.invariant ∙ ap (flat_map (λ piece. filter is_full (slice_split (λ b. b == 47) piece)))
    (YieldsList-end (YieldsList-from_str_split 92 c.args.path.now (lit< tt) (cc) (cc) (cc))
    c.loop-piece.yielded _ c.loop-piece.yielded_by _ _ c.in-None.is c.next.ensures.steps).0
