use Rattle.std.proofs.Common.{◌≤◌, ◌^◌, length, arith}
use Rattle.row_index.proofs.FollowLemmas.{nowhere, alone}
use Rattle.row_index.proofs.following_rows.Following.get.Goals as goal

pub returns-in-Some : goal.returns-in-Some
returns-in-Some g c =
    let s = c.self.inside in
    let at = rw c.deref.ensures.value at c.in-Some.ensures in
    let read = rw c.deref-in-Some.ensures.value at c.read_at.ensures in
    let few : length s.rows.items ≤ 2 ^ 64 = omega (arith, s.rows.ok.0, s.rows.small) in
    rw (← c.self.view_is) (alone g.T.Identified.id_of s.first c.in-Some.place c.args.id s.rows.items
    c.read_at.result c.self.invariant at.1 at.0 few (read c.read_at.result)).0

pub returns-in-None : goal.returns-in-None
returns-in-None g c =
    let s = c.self.inside in
    let at = rw c.deref.ensures.value at c.in-None.ensures in
    rw (← c.self.view_is) (nowhere g.T.Identified.id_of s.first at.0 c.args.id s.rows.items
    c.self.invariant at.2 at.1)
