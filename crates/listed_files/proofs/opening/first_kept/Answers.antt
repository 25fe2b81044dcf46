use Rattle.std.proofs.Common.{ℕ, List, ap, arith}
use Rattle.listed_files.proofs.Sorting.{ends_here, all_stay}
use Rattle.listed_files.proofs.opening.first_kept.Goals as goal

pub returns-then-size-room-clause-rest : goal.returns-then-size-room-clause-rest
returns-then-size-room-clause-rest c =
    ends_here c.loop-first.first c.loop-first.room c.args.capacity c.args.good.now c.index-good-first.result
    (omega (arith, c.loop-first-test.true)) c.loop-first.invariant.0 c.index-good-first.is
    c.loop-first.invariant.1
    (omega (arith, c.if-size-room.true, ap (λ (e : List ℕ × ℕ). e.1) c.index-good-first.is))

pub returns-clause-rest : goal.returns-clause-rest
returns-clause-rest c =
    all_stay c.loop-first.first c.loop-first.room c.args.capacity c.args.good.now
    (omega (arith, c.loop-first-test.false)) c.loop-first.invariant.1
