use Rattle.std.proofs.Common.{◌≤◌, length, refl, ap, ◌∙◌, sym, arith, map}
use Rattle.std.proofs.lemmas.List.{drop_more}
use Rattle.reservations.specs.Own.{ended_at_all}
use Rattle.reservations.proofs.OwnRowLemmas.{drop_none, drop_all, ended_next, ended_none}
use Rattle.reservations.proofs.own.end_all.Goals as goal

pub loop-number-init : goal.loop-number-init
loop-number-init c = (
  ap (λ ns. map (ended_at_all ns) c.args.bookings.now.rows) (drop_none c.args.numbers.now),
  refl,
  c.requires,
)

pub loop-number-preserved : goal.loop-number-preserved
loop-number-preserved c = let l = c.loop-number in (
  ap (map (ended_at_all _)) c.end_own.ensures.rows ∙ ended_next _ _ l.bookings.rows
      ∙ ap (λ ns. map (ended_at_all ns) l.bookings.rows)
      (sym (drop_more c.args.numbers.now l.number-index 0 c.loop-number-test.true)) ∙ l.invariant.0,
  c.end_own.ensures.first ∙ l.invariant.1,
  c.end_own.ensures.own,
)

pub returns-clause-rows : goal.returns-clause-rows
returns-clause-rows c =
    let l = c.loop-number in
    let le : length c.args.numbers.now ≤ l.number-index = omega (arith, c.loop-number-test.false) in
    sym (ended_none l.bookings.rows) ∙ ap (λ ns. map (ended_at_all ns) l.bookings.rows)
    (sym (drop_all c.args.numbers.now l.number-index le)) ∙ l.invariant.0
