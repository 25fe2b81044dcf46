use Rattle.std.proofs.Common.{None}
use Rattle.row_index.proofs.RankLemmas.{ranked_set}
use Rattle.row_index.proofs.ranked_rows.Ranks.take_at.Goals as goal

pub invariant_of-self : goal.invariant_of-self
invariant_of-self g c = ranked_set g.T.Ranked.load_of g.T.Ranked.error_of g.T.Ranked.sign_of
    c.self.inside.slots.places c.take_out.new.self.places c.args.place None c.self.inside.loads
    c.set.new.self
    c.self.inside.errors c.set-2.new.self c.self.inside.signs c.set-3.new.self c.self.invariant
    c.take_out.ensures.places c.set.ensures.keys c.set-2.ensures.keys c.set-3.ensures.keys
