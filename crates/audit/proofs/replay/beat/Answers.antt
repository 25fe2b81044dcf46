use Rattle.std.proofs.Common.{◌≡◌, ℕ, List, [], subst}
use Rattle.core_rules.specs.declared.call.Call.TheVariants as call
use Rattle.core_rules.specs.Log.{logged}
use Rattle.core_rules.specs.Rule.{rule}
use Rattle.audit.proofs.ReplayLemmas.{beat_checked, kept_beat}
use Rattle.audit.proofs.replay.beat.Goals as goal

pub returns-in-Ok-clause-called : goal.returns-in-Ok-clause-called
returns-in-Ok-clause-called c = (
  call.Beat c.args.now c.args.server c.args.nonce c.args.cpus [],
  beat_checked c.args.r.now.state.start.rules c.args.now c.args.server c.args.nonce c.args.cpus []
      c.if-cpus-lt1.false c.if-cpus-gt4294967295.false,
  subst (λ (key : List ℕ). c.beat.new.self ≡ logged c.args.r.now.state
      (rule c.args.r.now.state (call.Beat c.args.now c.args.server c.args.nonce c.args.cpus key)))
      c.without_key-key.ensures c.in-Ok.ensures.logged,
)

pub returns-in-Ok-clause-kept : goal.returns-in-Ok-clause-kept
returns-in-Ok-clause-kept c =
    kept_beat c.args.r.now.kept c.args.r.now.state c.beat.new.self c.args.now c.args.server c.args.nonce c.args.cpus
    c.without_key-key.result.key.items c.in-Ok.ensures.logged c.requires
