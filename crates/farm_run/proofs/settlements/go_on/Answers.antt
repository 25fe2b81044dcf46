use Rattle.std.proofs.Common.{◌≡◌, map, Some, ap, subst, sym, ◌∙◌}
use Rattle.std.specs.Prelude.{option_copied}
use Rattle.farm_entries.specs.declared.entry.Effect.{Effect}
use Rattle.farm_entries.specs.declared.pending.Ask.{Ask}
use Rattle.farm_entries.specs.Next.{GoesOn}
use Rattle.farm_entries.specs.Weather.{calm}
use Rattle.dist_types.specs.declared.addr.Addr.{Addr}
use Rattle.farm_stations.specs.Post.{Around, around_of}
use Rattle.farm_run.specs.Stops.{reporter}
use Rattle.farm_run.proofs.CutLemmas.{cut_as}
use Rattle.farm_run.proofs.ResultLemmas.{ok_then, err_then}
use Rattle.farm_run.proofs.ServeLemmas.{kept_none}
use Rattle.farm_run.proofs.StandLemmas.{stands_same}
use Rattle.farm_run.proofs.RowLemmas.{end_step, goes_assigned}
use Rattle.farm_run.proofs.settlements.go_on.Goals as goal

pub returns-in-Assign-clause-follows : goal.returns-in-Assign-clause-follows
returns-in-Assign-clause-follows g c =
    ok_then c.end_assignment.result c.end_assignment.ensures.made (λ m made. (
      calm,
      subst (λ (a : Ask). GoesOn calm c.args.desk.now.setup c.args.entries.now c.args.settlement.now.at
          c.args.pending.root c.args.pending.json (option_copied c.args.settlement.now.reply) a
          m.effect) (sym c.in-Assign.is)
          (goes_assigned c.args.desk.now.setup c.args.entries.now c.args.settlement.now.at c.args.pending.root
          c.args.pending.json (option_copied c.args.settlement.now.reply) c.in-Assign.reservation
          c.args.desk.now.state m.effect c.requires.core made.0 made.1 made.2),
      stands_same c.args.desk.now.setup c.args.entries.now c.args.stations.now.items m.effect
          c.requires.stations
          (ap (λ (x : Effect). x.step) made.2
          ∙ end_step c.args.desk.now.state c.args.pending.root c.args.pending.json c.args.settlement.now.at
          c.in-Assign.reservation made.0),
    ))

pub returns-in-Assign-clause-kept : goal.returns-in-Assign-clause-kept
returns-in-Assign-clause-kept g c = kept_none _ c.end_assignment.result c.end_assignment.ensures.silent

pub returns-in-Report-clause-cut : goal.returns-in-Report-clause-cut
returns-in-Report-clause-cut g c =
    err_then c.report.result c.report.ensures.cut
    (cut_as (λ (a : Addr) (was is : Around). c.in-Report.server ≡ a)
    (λ (a : Addr) (was is : Around). reporter c.args.pending.ask ≡ Some a)
    c.args.desk.now.setup (map around_of c.args.stations.now.items)
    (map around_of c.report.new.stations.items)
    (λ a was is own. ap reporter c.in-Report.is ∙ ap (λ (x : Addr). Some x) own))
