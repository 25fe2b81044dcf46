use Rattle.dist_wire.proofs.Rests.{behind}
use Rattle.dist_wire.proofs.addr.read_groups.Goals as goal

pub returns-in_err-h-clause-rest : goal.returns-in_err-h-clause-rest
returns-in_err-h-clause-rest c =
    let two = behind _ _ _ c.read_group.ensures.rest c.read_group-2.ensures.rest in
    let four = behind _ _ _ (behind _ _ _ two c.read_group-3.ensures.rest) c.read_group-4.ensures.rest in
    let six = behind _ _ _ (behind _ _ _ four c.read_group-5.ensures.rest) c.read_group-6.ensures.rest in
    behind _ _ _ (behind _ _ _ six c.read_group-7.ensures.rest) c.read_group-8.ensures.rest

pub returns-clause-rest : goal.returns-clause-rest
returns-clause-rest c =
    let two = behind _ _ _ c.read_group.ensures.rest c.read_group-2.ensures.rest in
    let four = behind _ _ _ (behind _ _ _ two c.read_group-3.ensures.rest) c.read_group-4.ensures.rest in
    let six = behind _ _ _ (behind _ _ _ four c.read_group-5.ensures.rest) c.read_group-6.ensures.rest in
    behind _ _ _ (behind _ _ _ six c.read_group-7.ensures.rest) c.read_group-8.ensures.rest
