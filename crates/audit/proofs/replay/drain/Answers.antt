use Rattle.std.proofs.Common.{ap, sym, ◌∙◌}
use Rattle.dist_types.specs.declared.rules.Rules.{Rules}
use Rattle.core_rules.specs.declared.call.Call.TheVariants as call
use Rattle.audit.specs.Replay.{checked}
use Rattle.audit.proofs.ReplayLemmas.{kept_drain}
use Rattle.audit.proofs.replay.drain.Goals as goal

pub returns-in-Ok-clause-called : goal.returns-in-Ok-clause-called
returns-in-Ok-clause-called c = (
  call.Drain c.args.now c.args.server c.args.nonce c.args.on,
  ap (λ (rules : Rules). checked rules (call.Drain c.args.now c.args.server c.args.nonce c.args.on))
      (sym c.rules.ensures.rules ∙ c.in-Two.is),
  c.in-Ok.ensures.logged,
)

pub returns-in-Ok-clause-kept : goal.returns-in-Ok-clause-kept
returns-in-Ok-clause-kept c =
    kept_drain c.args.r.now.kept c.args.r.now.state c.drain.new.self c.args.now c.args.server c.args.nonce c.args.on
    c.in-Ok.ensures.logged c.requires
