use Rattle.std.proofs.Common.{sym}
use Rattle.row_index.proofs.RankLemmas.{none_taken}
use Rattle.row_index.proofs.ranked_rows.Ranks.take_out.Goals as goal

pub returns-in-None-clause-rows : goal.returns-in-None-clause-rows
returns-in-None-clause-rows g c = rw (← c.self.view_is)
    (sym (none_taken g.T.Numbered.number_of c.args.number _ c.in-None.ensures))
