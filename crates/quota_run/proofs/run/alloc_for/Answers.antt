use Rattle.quota_run.proofs.UnspentLemmas.{same_hand}
use Rattle.quota_run.proofs.run.alloc_for.Goals as goal

pub alloc_in-requires-clause-kept : goal.alloc_in-requires-clause-kept
alloc_in-requires-clause-kept g c κs within =
    same_hand c.args.quota.now.core.log c.args.hand.now c.make_room.new.self c.make_room.ensures.same c.requires.kept

pub returns-in-Err-clause-kept : goal.returns-in-Err-clause-kept
returns-in-Err-clause-kept g c =
    same_hand c.args.quota.now.core.log c.args.hand.now c.make_room.new.self c.make_room.ensures.same c.requires.kept
