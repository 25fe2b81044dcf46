use Rattle.std.proofs.Common.{Some}
use Rattle.row_index.proofs.ListLemmas.{put_seen}
use Rattle.row_index.proofs.numbered_lists.NumberedLists.replace.Goals as goal

pub returns : goal.returns
returns c = let s = c.self.inside in record {
  lists = rw (← c.self.view_is) (put_seen (λ v. v.items) s.lists.entries c.insert.new.self.entries
      c.args.number
      (Some c.args.list) c.in-Ok.ensures.updates.0);
}
