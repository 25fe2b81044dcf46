use Rattle.mirror.proofs.PrefetchLemmas.{brings_ready}
use Rattle.mirror.proofs.mirror.Mirror.prefetch.Goals as goal

pub returns-in-Ok-Near-clause-ready : goal.returns-in-Ok-Near-clause-ready
returns-in-Ok-Near-clause-ready g c =
    brings_ready c.args.tc.now c.args.server.now c.bring.new.server c.deref.result.now c.bring.result
    c.bring.ensures.brings

pub returns-in-Ok-Fetched-clause-ready : goal.returns-in-Ok-Fetched-clause-ready
returns-in-Ok-Fetched-clause-ready g c =
    brings_ready c.args.tc.now c.args.server.now c.bring-in-Ok-Fetched.new.server
    c.deref-in-Ok-Fetched.result.now c.bring-in-Ok-Fetched.result c.bring-in-Ok-Fetched.ensures.brings
