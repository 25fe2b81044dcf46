use Rattle.http_calls.proofs.PackLemmas.{packed_same}
use Rattle.http_calls.proofs.run_call.RunCall.packed.Goals as goal

pub returns-in-Ok : goal.returns-in-Ok
returns-in-Ok g c = packed_same _ _ _ _ _ _ _ _ _ c.in-Ok.ensures c.packed_run-answer.ensures
