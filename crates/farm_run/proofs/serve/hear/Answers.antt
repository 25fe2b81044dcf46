use Rattle.std.proofs.Common.{◌≡◌, length, sym, ap, ◌∙◌}
use Rattle.farm_run.proofs.ResultLemmas.{ok_then}
use Rattle.farm_run.proofs.ServeLemmas.{heard_answers}
use Rattle.farm_run.proofs.serve.hear.Goals as goal

pub returns-clause-made : goal.returns-clause-made
returns-clause-made c =
    let key : c.of_key-key.result ≡ c.args.beat.jwt_key =
    c.of_key-key.ensures.key ∙ c.into_inner.ensures.bytes in
    ok_then c.told_since.result c.told_since.ensures.effect (λ m told.
    (heard_answers c.args.state.now c.hear-heard.new.state c.args.turn.root c.args.turn.at _ c.args.turn.json
    c.args.server c.args.beat c.hear-heard.result c.in-Ok.response m.effect
    (rw key at c.hear-heard.ensures.step) (ap length (sym c.history-before.ensures.log)) c.in-Ok.ensures
    told).0)

pub returns-clause-core : goal.returns-clause-core
returns-clause-core c =
    let key : c.of_key-key.result ≡ c.args.beat.jwt_key =
    c.of_key-key.ensures.key ∙ c.into_inner.ensures.bytes in
    ok_then c.told_since.result c.told_since.ensures.effect (λ m told.
    (heard_answers c.args.state.now c.hear-heard.new.state c.args.turn.root c.args.turn.at _ c.args.turn.json
    c.args.server c.args.beat c.hear-heard.result c.in-Ok.response m.effect
    (rw key at c.hear-heard.ensures.step) (ap length (sym c.history-before.ensures.log)) c.in-Ok.ensures
    told).1)
