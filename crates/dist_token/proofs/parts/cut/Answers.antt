use Rattle.dist_token.proofs.DotCuts.{cut_at_dot}
use Rattle.dist_token.proofs.parts.cut.Goals as goal

pub returns : goal.returns
returns c = cut_at_dot c.args.text.now c.split_once.result c.split_once.ensures.cases
