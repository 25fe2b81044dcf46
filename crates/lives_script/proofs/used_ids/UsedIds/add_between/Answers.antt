use Rattle.lives_script.proofs.UsedLemmas.{added}
use Rattle.lives_script.proofs.used_ids.UsedIds.add_between.Goals as goal

pub returns : goal.returns
returns c = record {
  added = added c.args.self.now.lasts c.insert.new.self c.args.first c.args.last c.in_ok-insert.ensures.updates
      c.requires.some c.requires.ordered c.requires.free;
}
