use Rattle.std.proofs.Common.{◌≡◌, ◌<◌, ◌+◌, ◌∙◌, ap, arith, length, sym}
use Rattle.reservations.proofs.OwnPlaceLemmas.{kept_more, kept_same}
use Rattle.reservations.proofs.own_places.OwnPlaces.kept.Goals as goal
use Rattle.reservations.proofs.own_places.OwnPlaces.kept.Goals.{then-is_own_at+in_ok-push, else-is_own_at}

pub loop-at-preserved : goal.loop-at-preserved
loop-at-preserved g c =
    let l = c.loop-at in
    let counted = c.look-place.ensures.counted in
    let so_far = l.invariant.1 in
    let same = ap length c.self.view_is in
    let lt : l.at < length c.args.self.now = omega (arith, same) in
    let steps : c.look-place.new.steps ≡ c.args.steps.now + (l.at + 1) = omega (arith, counted, so_far) in
    elim c.if-is_own_at.branch [
      | then-is_own_at+in_ok-push w ↦ (
        rw w.kept-is (w.in_ok-push.ensures.items
            ∙ kept_more c.args.reg c.args.rows.now c.args.self.now l.kept.items l.at c.look-place.result lt
            c.look-place.ensures.place (sym c.is_own_at.ensures ∙ w.if-is_own_at.true) l.invariant.0),
        steps,
      )
      | else-is_own_at w ↦ (
        rw w.kept-is (kept_same c.args.reg c.args.rows.now c.args.self.now l.kept.items l.at
            c.look-place.result lt c.look-place.ensures.place (sym c.is_own_at.ensures ∙ w.if-is_own_at.false)
            l.invariant.0),
        steps,
      )
    ]
