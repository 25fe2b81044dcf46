use Rattle.dist_wire.proofs.Parts.{later, sooner}
use Rattle.dist_wire.proofs.alloc.JobAllocCodec.encode.Goals as goal

pub returns-in_err-write_u64-clause-part : goal.returns-in_err-write_u64-clause-part
returns-in_err-write_u64-clause-part c =
    later _ _ _ _ _ c.in_ok-encode.ensures.written (sooner _ _ _ _ c.write_u64.ensures.part)

pub returns-in_err-encode-2-clause-part : goal.returns-in_err-encode-2-clause-part
returns-in_err-encode-2-clause-part c =
    rw (← c.addr.ensures.addr) (later _ _ _ _ _ c.in_ok-encode.ensures.written
    (later _ _ _ _ _ c.in_ok-write_u64.ensures.written c.encode-2.ensures.part))

pub returns-clause-part : goal.returns-clause-part
returns-clause-part c =
    rw (← c.addr.ensures.addr) (later _ _ _ _ _ c.in_ok-encode.ensures.written
    (later _ _ _ _ _ c.in_ok-write_u64.ensures.written c.encode-2.ensures.part))
