use Rattle.row_index.specs.Keys.{load_before}
use Rattle.row_index.proofs.RankLemmas.{first_within, first_is, none_of}
use Rattle.row_index.proofs.ranked_rows.Ranks.lightest.Goals as goal

pub row-requires : goal.row-requires
row-requires g c = first_within g.T.Ranked.load_of load_before c.self.inside.slots.places c.in-Some.place
    (rw c.self.invariant.by_load at c.in-Some.ensures.winner)

pub returns-in-Some-clause-first : goal.returns-in-Some-clause-first
returns-in-Some-clause-first g c =
    rw (← c.self.view_is) (first_is g.T.Numbered.number_of g.T.Ranked.load_of load_before
    c.self.inside.slots.places c.in-Some.place c.row.result
    (rw c.self.invariant.by_load at c.in-Some.ensures.winner) c.row.ensures.row c.row.ensures.whole)

pub returns-in-None-clause-first : goal.returns-in-None-clause-first
returns-in-None-clause-first g c =
    rw (← c.self.view_is) (none_of g.T.Ranked.load_of c.self.inside.slots.places
    (rw c.self.invariant.by_load at c.in-None.ensures.winner))
