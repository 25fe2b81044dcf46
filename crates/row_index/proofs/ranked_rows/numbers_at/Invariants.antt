use Rattle.std.proofs.Common.{◌≡◌, map, take}
use Rattle.row_index.specs.Ranks.{number_at}
use Rattle.row_index.proofs.ranked_rows.numbers_at.Given as goal

abbrev pub invariant-loop-place : goal.invariant-loop-place
invariant-loop-place g l = l.numbers.items
    ≡ map (number_at g.T.Numbered.number_of l.slots.places) (take l.place-index l.places)
