use Rattle.std.proofs.Common.{◌∙◌, ap, lit<}
use Rattle.std.specs.List.{filter_map}
use Rattle.std.proofs.lemmas.Iterator.Consumers.{YieldsList-end}
use Rattle.std.proofs.lemmas.Iterator.Splits.{YieldsList-from_str_split}
use Rattle.path_pkg.specs.Path.{step_in, steps_of}
use Rattle.path_pkg.proofs.PathLemmas.{made_more}
use Rattle.path_pkg.proofs.path.steps_of.Goals as goal

pub loop-piece-preserved : goal.loop-piece-preserved
loop-piece-preserved c =
    made_more step_in (λ p. p.now) c.loop-piece.yielded c.in-Some.piece _ _ _ c.in_ok-push_some.ensures
    c.in_ok-step.ensures c.loop-piece.invariant

pub returns : goal.returns
unfolding steps_of
returns c =
    c.loop-piece.invariant ∙ ap (filter_map step_in)
    (YieldsList-end (YieldsList-from_str_split 47 c.args.path.now (lit< tt) (cc) (cc) (cc))
    c.loop-piece.yielded _ c.loop-piece.yielded_by _ _ c.in-None.is c.next.ensures.steps).0
