use Rattle.std.proofs.Common.{ap}
use Rattle.farm_run.specs.declared.desk.Desk.{Desk}
use Rattle.farm_run.proofs.ResultLemmas.{on_err}
use Rattle.farm_run.proofs.MadeLemmas.{farm_next}
use Rattle.farm_run.proofs.run.make.Goals as goal

pub returns-clause-farm : goal.returns-clause-farm
returns-clause-farm g c =
    rw (
      c.push_reserved-2.ensures.items,
      c.push_reserved.ensures.items,
      c.reserve.ensures.items,
      c.new.ensures,
      c.in_ok-copy.ensures.event,
    )
    (farm_next c.args.desk.now.setup c.made_of.new.desk.setup c.args.desk.now.state c.made_of.new.desk.state
    c.args.log.now.entries.items c.args.log.now.kept.items c.made_of.new.kept.items
    c.args.stations.now.items c.made_of.new.stations.items c.args.event.now c.in_ok-made.made c.requires.farm
    (rw (c.deref.ensures.value, c.reserve.ensures.items) at c.in_ok-made.ensures.made)
    (ap (λ (d : Desk). d.setup) c.in_ok-made.ensures.desk)
    (ap (λ (d : Desk). d.state) c.in_ok-made.ensures.desk))

pub returns-in_err-made-clause-cut : goal.returns-in_err-made-clause-cut
returns-in_err-made-clause-cut g c =
    on_err c.from_residual-in_err-made.result
    (rw (c.deref.ensures.value, c.reserve.ensures.items) at c.in_err-made.ensures.cut)
