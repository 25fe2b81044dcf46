use Rattle.listed_files.proofs.Sorting.{room_out}
use Rattle.listed_files.proofs.opening.list_one.Goals as goal

pub push-requires-clause-room : goal.push-requires-clause-room
push-requires-clause-room c =
    room_out c.args.key.now c.args.size c.args.table.now c.unlist.new.self c.unlist.ensures.entries c.requires
