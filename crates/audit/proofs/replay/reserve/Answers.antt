use Rattle.audit.proofs.replay.reserve.Goals as goal

pub reserve_in-requires-clause-kept : goal.reserve_in-requires-clause-kept
reserve_in-requires-clause-kept c = c.make_room.ensures.kept c.args.r.now.state c.requires
