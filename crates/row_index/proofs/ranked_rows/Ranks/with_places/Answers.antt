use Rattle.std.proofs.Common.{ap}
use Rattle.row_index.proofs.RankLemmas.{no_keys_grown}
use Rattle.row_index.proofs.ranked_rows.Ranks.with_places.Goals as goal

pub invariant_of-result : goal.invariant_of-result
invariant_of-result g c =
    let own = ap (λ s. s.places) c.in_ok-slots.ensures in record {
      by_load = no_keys_grown g.T.Ranked.load_of c.args.places c.in_ok-slots.slots.places c.grow.new.self
          (rw c.new-loads.ensures at c.in_ok-grow.ensures.keys) own;
      by_error = no_keys_grown g.T.Ranked.error_of c.args.places c.in_ok-slots.slots.places c.grow-2.new.self
          (rw c.new-errors.ensures at c.in_ok-grow-2.ensures.keys) own;
      by_sign = no_keys_grown g.T.Ranked.sign_of c.args.places c.in_ok-slots.slots.places c.grow-3.new.self
          (rw c.new-signs.ensures at c.in_ok-grow-3.ensures.keys) own;
    }
