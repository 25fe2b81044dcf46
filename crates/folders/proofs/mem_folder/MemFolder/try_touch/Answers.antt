use Rattle.folders.proofs.Distinct.{put_distinct}
use Rattle.folders.proofs.mem_folder.MemFolder.try_touch.Goals as goal

pub invariant_of-self-2 : goal.invariant_of-self-2
invariant_of-self-2 c = record {
  distinct = put_distinct c.args.path.now _ c.args.self.now.files.items
      c.put.new.files.items c.in_ok-put.ensures.ok c.args.self.now.distinct;
}
