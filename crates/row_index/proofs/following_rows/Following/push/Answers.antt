use Rattle.row_index.proofs.FollowLemmas.{following_push}
use Rattle.row_index.proofs.following_rows.Following.push.Goals as goal

pub invariant_of-self : goal.invariant_of-self
invariant_of-self g c =
    let s = c.self.inside in
    rw c.in-Ok.ensures.items
    (following_push g.T.Identified.id_of s.first c.args.row s.rows.items c.self.invariant
    (rw (← c.self.view_is) at c.requires.follows))
