use Rattle.core_reference.proofs.SignLemmas.{rows_loaded}
use Rattle.core_reference.proofs.servers.servers.Goals as goal

pub returns : goal.returns
returns c = record {
  rows = rw (
    c.in_ok-all.ensures,
    c.deref.ensures.value,
    c.deref-2.ensures.value,
    c.in_ok-rows.ensures,
    c.in_ok-held.ensures,
  ) (rows_loaded c.args.log.now);
}
