use Rattle.std.proofs.Common.{◌≡◌, map, take, length}
use Rattle.row_index.specs.Slots.{rows_in}
use Rattle.row_index.proofs.ranked_rows.Ranks.renewed.Given as goal

abbrev pub invariant-loop-row : goal.invariant-loop-row
invariant-loop-row g l = ((rows_in l.ranks.places ≡ rows_in (take l.row-index l.fn.self.places))
    × (l.ranks.numbers ≡ map g.T.Numbered.number_of (rows_in (take l.row-index l.fn.self.places))))
    × (length l.ranks.places ≡ l.places)
