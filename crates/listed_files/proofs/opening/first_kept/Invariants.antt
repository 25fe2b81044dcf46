-- What is behind the place fits, and leaves this much room.
use Rattle.std.proofs.Common.{◌≡◌, ◌+◌, ◌≤◌, length, drop}
use Rattle.listed_files.specs.Entries.{total}
use Rattle.listed_files.proofs.opening.first_kept.Given as goal

abbrev pub invariant-loop-first : goal.invariant-loop-first
invariant-loop-first l =
    (l.first ≤ length l.good) × (total (drop l.first l.good) + l.room ≡ l.capacity)

abbrev pub decreases-loop-first : goal.decreases-loop-first
decreases-loop-first l = l.first
