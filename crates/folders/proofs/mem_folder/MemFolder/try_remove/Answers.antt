use Rattle.folders.proofs.Distinct.{without_distinct}
use Rattle.folders.proofs.mem_folder.MemFolder.try_remove.Goals as goal

pub invariant_of-self-2 : goal.invariant_of-self-2
invariant_of-self-2 c = record {
  distinct = without_distinct c.args.path.now c.args.self.now.files.items
      c.take_out.new.files.items c.take_out.ensures.files c.args.self.now.distinct;
}
