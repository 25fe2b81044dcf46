use Rattle.std.proofs.Common.{None}
use Rattle.row_index.proofs.ListLemmas.{put_seen}
use Rattle.row_index.proofs.numbered_lists.NumberedLists.forget.Goals as goal

pub returns : goal.returns
returns c = let s = c.self.inside in record {
  lists = rw (← c.self.view_is) (put_seen (λ v. v.items) s.lists.entries c.remove-list.new.self.entries
      c.args.number None c.remove-list.ensures.updates.0);
}
