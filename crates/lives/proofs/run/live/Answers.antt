use Rattle.std.proofs.Common.{◌≡◌, ap, ◌∙◌, subst, List}
use Rattle.farm_script.specs.declared.event.Event.{Event}
use Rattle.farm_run.specs.Farm.{Farmed, Runs}
use Rattle.farm_run.proofs.FarmLemmas.{Runs-own}
use Rattle.lives.proofs.LifeLemmas.{lived_by}
use Rattle.lives.proofs.run.live.Goals as goal

pub returns-clause-setup : goal.returns-clause-setup
returns-clause-setup c = ap (λ (f : Farmed). f.setup) c.in-Ok.ensures.ok.2

pub returns-clause-own : goal.returns-clause-own
returns-clause-own c = Runs-own c.args.farm c.get.result.now c.in-Ok.farm c.in-Ok.ensures.ok c.requires.own

pub returns-clause-lived : goal.returns-clause-lived
returns-clause-lived c =
    lived_by c.args.life.now c.args.farm c.in-Ok.farm c.requires.fresh c.requires.own c.requires.token
    (subst (λ (es : List Event). Runs c.args.farm es c.in-Ok.farm) c.get.ensures.items c.in-Ok.ensures.ok)
    c.in-Ok.ensures.laws c.in-Ok.ensures.builds c.in-Ok.ensures.once c.in-Ok.ensures.grants
