use Rattle.std.proofs.Common.{None}
use Rattle.std.proofs.lemmas.Map.Text.{btree_map_updates_text}
use Rattle.dist_token.proofs.kept.forget.Goals as goal

pub returns : goal.returns
returns c = btree_map_updates_text c.args.token.now c.args.kept.now.moments c.remove-moment.new.self None
    c.remove-moment.ensures.updates
