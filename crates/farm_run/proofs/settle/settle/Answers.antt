use Rattle.std.proofs.Common.{length, sym, ap}
use Rattle.farm_run.proofs.ResultLemmas.{ok_then}
use Rattle.farm_run.proofs.ServeLemmas.{settled_answers}
use Rattle.farm_run.proofs.settle.settle.Goals as goal

pub returns-clause-made : goal.returns-clause-made
returns-clause-made c =
    ok_then c.told_since.result c.told_since.ensures.effect (λ m told.
    (settled_answers c.args.state.now c.settle-settled.new.state c.args.turn.root c.args.turn.at _
    c.args.turn.json c.args.reservation c.args.heard c.settle-settled.result c.allocated.result
    c.in-Ok.response m.effect c.requires.begins c.requires.own c.settle-settled.ensures.step
    (ap length (sym c.history-before.ensures.log)) c.allocated.ensures c.in-Ok.ensures
    told).0)

pub returns-clause-core : goal.returns-clause-core
returns-clause-core c =
    ok_then c.told_since.result c.told_since.ensures.effect (λ m told.
    (settled_answers c.args.state.now c.settle-settled.new.state c.args.turn.root c.args.turn.at _
    c.args.turn.json c.args.reservation c.args.heard c.settle-settled.result c.allocated.result
    c.in-Ok.response m.effect c.requires.begins c.requires.own c.settle-settled.ensures.step
    (ap length (sym c.history-before.ensures.log)) c.allocated.ensures c.in-Ok.ensures
    told).1)
