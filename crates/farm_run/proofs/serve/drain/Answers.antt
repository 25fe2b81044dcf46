use Rattle.std.proofs.Common.{length, sym, ap}
use Rattle.farm_run.proofs.ResultLemmas.{ok_then}
use Rattle.farm_run.proofs.ServeLemmas.{drained_answers}
use Rattle.farm_run.proofs.serve.drain.Goals as goal

pub returns-clause-made : goal.returns-clause-made
returns-clause-made c =
    ok_then c.told_since.result c.told_since.ensures.effect (λ m told.
    (drained_answers c.args.state.now c.drain-drained.new.state c.args.turn.root c.args.turn.at _
    c.args.turn.json c.args.server c.args.wish c.drain-drained.result c.in-Ok.response
    m.effect c.drain-drained.ensures.step (ap length (sym c.history-before.ensures.log))
    c.in-Ok.ensures told).0)

pub returns-clause-core : goal.returns-clause-core
returns-clause-core c =
    ok_then c.told_since.result c.told_since.ensures.effect (λ m told.
    (drained_answers c.args.state.now c.drain-drained.new.state c.args.turn.root c.args.turn.at _
    c.args.turn.json c.args.server c.args.wish c.drain-drained.result c.in-Ok.response
    m.effect c.drain-drained.ensures.step (ap length (sym c.history-before.ensures.log))
    c.in-Ok.ensures told).1)
