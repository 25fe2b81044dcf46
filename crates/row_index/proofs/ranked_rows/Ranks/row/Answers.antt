use Rattle.std.proofs.Common.{◌∙◌, sym}
use Rattle.row_index.proofs.RankLemmas.{only_row}
use Rattle.row_index.proofs.ranked_rows.Ranks.row.Goals as goal

pub row-requires : goal.row-requires
row-requires g c = c.in-Some.ensures.within

pub returns-in-Some-clause-row : goal.returns-in-Some-clause-row
returns-in-Some-clause-row g c = rw (← c.self.view_is)
    (c.row.ensures.row ∙ c.in-Some.ensures.is ∙ sym c.in-Some.ensures.found)

pub returns-in-Some-clause-only : goal.returns-in-Some-clause-only
returns-in-Some-clause-only g c =
    rw (← c.self.view_is) (only_row g.T.Numbered.number_of c.args.number c.in-Some.place
    c.self.inside.slots.places c.row.result c.in-Some.ensures c.row.ensures.row)

pub returns-in-None-clause-row : goal.returns-in-None-clause-row
returns-in-None-clause-row g c = rw (← c.self.view_is) (sym c.in-None.ensures)
