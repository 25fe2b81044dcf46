use Rattle.row_index.proofs.FollowLemmas.{following_put}
use Rattle.row_index.proofs.following_rows.Following.put.Goals as goal

pub invariant_of-self : goal.invariant_of-self
invariant_of-self g c =
    let s = c.self.inside in
    following_put g.T.Identified.id_of s.first c.args.place c.args.row s.rows.items c.self.invariant
    ((rw (← c.self.view_is) at c.requires.same) c.args.row)
