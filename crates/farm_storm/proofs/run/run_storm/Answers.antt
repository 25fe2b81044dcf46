use Rattle.std.proofs.Common.{◌≡◌, ℕ, subst, arith}
use Rattle.farm_script.specs.declared.event.Event.{Event}
use Rattle.farm_run.specs.Farm.{StepsTo}
use Rattle.farm_storm.specs.Summary.{IsStormed}
use Rattle.farm_storm.proofs.StormLemmas.{more_run}
use Rattle.farm_storm.proofs.run.run_storm.Goals as goal

pub loop-number-preserved : goal.loop-number-preserved
loop-number-preserved c =
    let farm = c.loop-number.farm in
    let new = c.in-Ok-step.farm in
    more_run c.loop-number.number farm new c.loop-number.invariant
    (subst (λ (e : Event). StepsTo farm e new) c.in-Ok-event_at.ensures c.in-Ok-step.ensures.ok)

pub returns-clause-ok : goal.returns-clause-ok
returns-clause-ok c =
    let all : c.loop-number.number ≡ c.args.count =
    omega (arith, c.loop-number-test.false, c.loop-number.auto.number-end) in
    subst (λ (n : ℕ). IsStormed n c.loop-number.farm) all c.loop-number.invariant
