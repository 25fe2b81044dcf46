use Rattle.std.proofs.Common.{Some, set, ap, ◌∙◌, sym}
use Rattle.row_index.proofs.RankLemmas.{ranked_set}
use Rattle.row_index.proofs.ranked_rows.Ranks.push.Goals as goal

pub invariant_of-self : goal.invariant_of-self
invariant_of-self g c = ranked_set g.T.Ranked.load_of g.T.Ranked.error_of g.T.Ranked.sign_of
    c.self.inside.slots.places c.push.new.self.places c.used-place.result
    (Some c.args.row) c.self.inside.loads
    c.set.new.self c.self.inside.errors c.set-2.new.self c.self.inside.signs c.set-3.new.self
    c.self.invariant
    (c.push.ensures.places ∙ ap (λ n. set c.self.inside.slots.places n (Some c.args.row))
    (sym c.used-place.ensures.used))
    (rw c.load_key.ensures at c.set.ensures.keys) (rw c.error_key.ensures at c.set-2.ensures.keys)
    (rw c.sign_key.ensures at c.set-3.ensures.keys)
