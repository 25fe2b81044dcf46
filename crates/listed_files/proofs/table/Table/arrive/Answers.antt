use Rattle.std.proofs.Common.{ap, arith}
use Rattle.listed_files.proofs.Trims.{arrived}
use Rattle.listed_files.proofs.table.Table.arrive.Goals as goal

pub returns : goal.returns
returns c =
    arrived c.insert-answer.result c.self.inside.list c.insert-answer.new.self c.args.self.now c.args.key
    c.args.size c.self.view_is c.insert-answer.ensures.pairs c.insert-answer.ensures.overflow.0
    c.insert-answer.ensures.handed_back c.insert-answer.ensures.absent c.requires.listed c.requires.room
    (omega (arith, c.capacity-capacity.ensures, ap (λ t. t.capacity) c.self.view_is))
