use Rattle.audit.proofs.KeptLemmas.{kept_room}
use Rattle.audit.proofs.kept.make_room.Goals as goal

pub returns-clause-kept : goal.returns-clause-kept
returns-clause-kept c = λ s is.
    let k = c.args.kept.now in
    kept_room k.rows.first c.make_room.new.self.first k.rows.rows c.make_room.new.self.rows k.held.items
    (record { core = s; built = k.built.items }) c.make_room.ensures.first c.make_room.ensures.rows is
