use Rattle.std.proofs.Common.{sym, ◌∙◌}
use Rattle.quota_service.proofs.StepLemmas.{heard}
use Rattle.quota_service.proofs.step.hear.Goals as goal

pub returns-in-Ok : goal.returns-in-Ok
returns-in-Ok c = record {
  step = heard c.args.quota.now c.beat.new.self c.args.now c.args.server c.args.beat.server_nonce
      c.args.beat.num_cpus c.of_key-key.result c.args.beat.jwt_key c.in-Ok.answer
      (c.of_key-key.ensures.key ∙ c.into_inner.ensures.bytes) (sym c.hears.ensures ∙ c.if-not-hears.false)
      c.in-Ok.ensures.logged c.in-Ok.ensures.answer;
}
