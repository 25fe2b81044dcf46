-- The shares of the registration from some place on are over, and the next is the newest of those before.
use Rattle.std.proofs.Common.{◌≡◌, length, Option, Some, None}
use Rattle.std.specs.Prelude.{ℕ, List, ◌+◌}
use Rattle.quota.specs.Holdings.{AreLinked, AreCounted, AreListed}
use Rattle.quota.specs.declared.rows.OwnedRow.{OwnedRow}
use Rattle.quota.proofs.LinkLemmas.{IsEnding}
use Rattle.quota.proofs.holdings.end_shares.Given as goal

abbrev left_of : Option ℕ → ℕ
left_of None = 0
left_of (Some place) = place + 1

abbrev pub invariant-loop-at : goal.invariant-loop-at
invariant-loop-at l = record {
  ending : IsEnding l.fn.reg l.at l.fn.shares.items l.shares.items;
  linked : AreLinked l.shares.items;
  listed : AreListed l.shares.items l.held.items;
  counted : (rows : List OwnedRow) → AreCounted rows l.fn.shares.items l.fn.held.items
      → AreCounted rows l.shares.items l.held.items;
  len : length l.held.items ≡ length l.fn.held.items;
}

abbrev pub decreases-loop-at : goal.decreases-loop-at
decreases-loop-at l = left_of l.at
