use Rattle.std.proofs.lemmas.Result.{on_ok_weaker}
use Rattle.dist_wire.proofs.Joins.{four}
use Rattle.dist_wire.proofs.Parts.{later, sooner}
use Rattle.dist_wire.proofs.run.CompileCommandCodec.encode.Goals as goal

pub returns-clause-written : goal.returns-clause-written
returns-clause-written c =
    on_ok_weaker c.encode-4.result (four _ _ _ _ _ _ _ _ _ c.in_ok-encode.ensures.written
    c.in_ok-encode-2.ensures.written c.in_ok-encode-3.ensures.written) c.encode-4.ensures.written

pub returns-in_err-encode-2-clause-part : goal.returns-in_err-encode-2-clause-part
returns-in_err-encode-2-clause-part c =
    later _ _ _ _ _ c.in_ok-encode.ensures.written (sooner _ _ _ _ c.encode-2.ensures.part)

pub returns-in_err-encode-3-clause-part : goal.returns-in_err-encode-3-clause-part
returns-in_err-encode-3-clause-part c =
    later _ _ _ _ _ c.in_ok-encode.ensures.written
    (later _ _ _ _ _ c.in_ok-encode-2.ensures.written (sooner _ _ _ _ c.encode-3.ensures.part))

pub returns-clause-part : goal.returns-clause-part
returns-clause-part c =
    later _ _ _ _ _ c.in_ok-encode.ensures.written
    (later _ _ _ _ _ c.in_ok-encode-2.ensures.written
    (later _ _ _ _ _ c.in_ok-encode-3.ensures.written c.encode-4.ensures.part))
