use Rattle.listed_files.proofs.Trims.{pushed}
use Rattle.listed_files.proofs.table.Table.push.Goals as goal

pub returns-clause-ok : goal.returns-clause-ok
returns-clause-ok c =
    pushed c.self.inside.list c.insert.new.self c.args.self.now c.args.key c.args.size c.self.view_is
    c.in-Ok.ensures.pairs c.requires.absent c.requires.room
