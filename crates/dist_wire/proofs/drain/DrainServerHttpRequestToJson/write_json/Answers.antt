use Rattle.dist_wire.proofs.Objects.{two}
use Rattle.dist_wire.proofs.drain.DrainServerHttpRequestToJson.write_json.Goals as goal

pub returns-clause-written : goal.returns-clause-written
returns-clause-written c = rw (← c.get.ensures.word)
    (two _ _ _ _ _ _ _ c.in_ok-begin_object.ensures.ok c.in_ok-write_member.ensures.written
    c.in_ok-write_member-2.ensures.written c.in_ok-end_object.ensures.ok)
