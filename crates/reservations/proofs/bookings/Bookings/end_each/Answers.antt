use Rattle.std.proofs.Common.{◌≤◌, ◌+◌, drop, length, refl, ap, ◌∙◌, sym, arith}
use Rattle.std.proofs.lemmas.List.{drop_more}
use Rattle.reservations.specs.Own.{ended_in_all}
use Rattle.reservations.proofs.OwnRowLemmas.{drop_none, drop_all}
use Rattle.reservations.proofs.bookings.Bookings.end_each.Goals as goal

pub loop-place-init : goal.loop-place-init
loop-place-init c = (
  ap (λ ps. ended_in_all c.args.reg ps c.args.self.now.rows) (drop_none c.args.places.now),
  refl,
  refl,
)

pub loop-place-preserved : goal.loop-place-preserved
loop-place-preserved c = let l = c.loop-place in (
  ap (ended_in_all c.args.reg (drop (l.place-index + 1) c.args.places.now)) c.end_at.ensures.rows
      ∙ ap (λ ps. ended_in_all c.args.reg ps l.self.rows)
      (sym (drop_more c.args.places.now l.place-index 0 c.loop-place-test.true)) ∙ l.invariant.0,
  c.end_at.ensures.first ∙ l.invariant.1,
  c.end_at.ensures.room ∙ l.invariant.2,
)

pub returns-clause-rows : goal.returns-clause-rows
returns-clause-rows c =
    let l = c.loop-place in
    let le : length c.args.places.now ≤ l.place-index = omega (arith, c.loop-place-test.false) in
    ap (λ ps. ended_in_all c.args.reg ps l.self.rows) (sym (drop_all c.args.places.now l.place-index le))
    ∙ l.invariant.0
