use Rattle.folders.proofs.Distinct.{put_from_tried}
use Rattle.folders.proofs.reliable_folder.ReliableFolder.try_rename.Goals as goal

pub invariant_of-self : goal.invariant_of-self
invariant_of-self c = record {
  distinct = put_from_tried c.args.from.now c.args.to.now _
      c.args.self.now.files.items c.put_from.new.files.items c.put_from.result c.put_from.ensures.ok
      c.put_from.ensures.err c.args.self.now.distinct;
}
