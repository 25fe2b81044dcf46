use Rattle.dist_wire.proofs.Parts.{later, sooner}
use Rattle.dist_wire.proofs.heartbeat.SchedulerStatusResultCodec.encode.Goals as goal

pub returns-in_err-write_u64-2-clause-part : goal.returns-in_err-write_u64-2-clause-part
returns-in_err-write_u64-2-clause-part c =
    later _ _ _ _ _ c.in_ok-write_u64.ensures.written (sooner _ _ _ _ c.write_u64-2.ensures.part)

pub returns-clause-part : goal.returns-clause-part
returns-clause-part c =
    later _ _ _ _ _ c.in_ok-write_u64.ensures.written
    (later _ _ _ _ _ c.in_ok-write_u64-2.ensures.written c.write_u64-3.ensures.part)
