use Rattle.farm.proofs.AuditLemmas.{told_held, no_hold}
use Rattle.farm.proofs.audit_run.run_audit.Goals as goal

pub returns : goal.returns
returns g c = record {
  run = no_hold c.in-Err-judge.fault c.in-Ok.bytes.items _ _ _ c.in-Ok.ensures.read c.in-Ok.ensures.taken
      c.in-Ok.ensures.whole (rw c.deref.ensures.value at c.in-Err-judge.ensures.refused);
}

pub returns-in-Ok-write_all : goal.returns-in-Ok-write_all
returns-in-Ok-write_all g c = record {
  run = (
    c.in-Ok.ensures.read,
    c.in-Ok-write_all.ensures.steady,
    told_held c.in-Ok.bytes.items _ _ c.in-Ok.ensures.taken c.in-Ok.ensures.whole
        (rw c.deref.ensures.value at c.in-Ok-judge.ensures.held),
    c.in-Ok-write_all.ensures.ok,
  );
}

pub returns-in-Ok-judge : goal.returns-in-Ok-judge
returns-in-Ok-judge g c = record {
  run = (
    c.in-Ok.ensures.read,
    c.in-Err-write_all.ensures.cause,
    told_held c.in-Ok.bytes.items _ _ c.in-Ok.ensures.taken c.in-Ok.ensures.whole
        (rw c.deref.ensures.value at c.in-Ok-judge.ensures.held),
    c.in-Err-write_all.ensures.began,
  );
}
