use Rattle.folders.proofs.Distinct.{put_tried}
use Rattle.folders.proofs.reliable_folder.ReliableFolder.try_append.Goals as goal

pub invariant_of-self : goal.invariant_of-self
invariant_of-self c = record {
  distinct = put_tried c.args.path.now _ c.args.self.now.files.items
      c.put.new.files.items c.put.result c.put.ensures.ok c.put.ensures.err c.args.self.now.distinct;
}
