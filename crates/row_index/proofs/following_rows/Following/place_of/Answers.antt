use Rattle.std.proofs.Common.{◌≤◌, ◌^◌, length, arith}
use Rattle.row_index.proofs.FollowLemmas.{placed}
use Rattle.row_index.proofs.following_rows.Following.place_of.Goals as goal

pub returns : goal.returns
returns g c =
    let s = c.self.inside in
    let few : length s.rows.items ≤ 2 ^ 64 = omega (arith, s.rows.ok.0, s.rows.small) in
    rw (← c.self.view_is) (placed g.T.Identified.id_of s.first c.args.id s.rows.items c.place_in.result
    c.self.invariant few (rw c.deref.ensures.value at c.place_in.ensures))
