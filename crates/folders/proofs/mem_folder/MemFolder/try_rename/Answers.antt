use Rattle.folders.proofs.Distinct.{put_from_distinct}
use Rattle.folders.proofs.mem_folder.MemFolder.try_rename.Goals as goal

pub invariant_of-self-2 : goal.invariant_of-self-2
invariant_of-self-2 c = record {
  distinct = put_from_distinct c.args.from.now c.args.to.now _
      c.args.self.now.files.items c.put_from.new.files.items c.in_ok-put_from.ensures.ok
      c.args.self.now.distinct;
}
