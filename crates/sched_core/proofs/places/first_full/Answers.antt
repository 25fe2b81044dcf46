use Rattle.std.proofs.Common.{◌<◌, ◌≤◌, length, arith, ◌∙◌, sym}
use Rattle.sched_core.proofs.RegistrationLemmas.{first_passed, first_some, first_none}
use Rattle.sched_core.proofs.places.first_full.Goals as goal

pub loop-place-preserved : goal.loop-place-preserved
loop-place-preserved c =
    let lt : c.loop-place.place < length c.args.places.now = omega arith in
    first_passed c.args.places.now c.loop-place.place c.index-places-place.result lt c.index-places-place.is
    (sym c.is_some.ensures ∙ c.if-is_some.false) c.loop-place.invariant

pub returns-then-is_some : goal.returns-then-is_some
returns-then-is_some c =
    let lt : c.loop-place.place < length c.args.places.now = omega arith in
    first_some c.args.places.now c.loop-place.place c.index-places-place.result lt c.index-places-place.is
    (sym c.is_some.ensures ∙ c.if-is_some.true) c.loop-place.invariant

pub returns : goal.returns
returns c =
    let le : length c.args.places.now ≤ c.loop-place.place = omega arith in
    first_none c.args.places.now c.loop-place.place le c.loop-place.invariant
