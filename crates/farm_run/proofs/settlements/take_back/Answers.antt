use Rattle.std.specs.Prelude.{option_copied}
use Rattle.std.proofs.Common.{◌≡◌, map, Some, sym}
use Rattle.dist_types.specs.declared.addr.Addr.{Addr}
use Rattle.farm_stations.specs.Post.{Around, around_of}
use Rattle.farm_run.specs.Stops.{reporter, IsReportOf}
use Rattle.farm_run.proofs.CutLemmas.{cut_as}
use Rattle.farm_run.proofs.ResultLemmas.{ok_then, ok_and, err_then}
use Rattle.farm_run.proofs.MadeLemmas.{report_of, settled_none, settled_by}
use Rattle.farm_run.proofs.settlements.take_back.Goals as goal

pub returns-in-None-clause-made : goal.returns-in-None-clause-made
returns-in-None-clause-made g c = λ event moment comes.
    rw c.in-None.ensures.left
    (settled_none c.args.desk.now.setup c.args.desk.now.state c.args.entries.now c.args.kept.now.items
    c.args.stations.now.items event c.args.settlement.now.call
    (option_copied c.args.settlement.now.reply) c.idle.result c.requires.farm comes
    (sym c.in-None.ensures.taken) c.idle.ensures)

pub returns-in-Some-clause-made : goal.returns-in-Some-clause-made
returns-in-Some-clause-made g c =
    ok_then c.go_on.result (ok_and _ _ c.go_on.result c.go_on.ensures.follows c.go_on.ensures.kept)
    (λ m is event moment comes. rw c.in-Some.ensures.left
    (settled_by c.args.desk.now.setup c.args.desk.now.state c.args.entries.now c.args.kept.now.items
    c.args.stations.now.items c.go_on.new.stations.items event c.args.settlement.now.call
    c.args.settlement.now.at (option_copied c.args.settlement.now.reply) c.in-Some.pending
    m is.0.0 c.requires.farm moment comes (sym c.in-Some.ensures.taken) is.0.1 is.1 is.0.2))

pub returns-in-Some-clause-cut : goal.returns-in-Some-clause-cut
returns-in-Some-clause-cut g c =
    err_then c.go_on.result c.go_on.ensures.cut
    (cut_as (λ (a : Addr) (was is : Around). reporter c.in-Some.pending.ask ≡ Some a)
    (λ (a : Addr) (was is : Around). IsReportOf c.args.desk.now.setup c.args.entries.now
    c.args.settlement.now.call a) c.args.desk.now.setup
    (map around_of c.args.stations.now.items) (map around_of c.go_on.new.stations.items)
    (λ a was is own. report_of c.args.desk.now.setup c.args.desk.now.state c.args.entries.now c.args.kept.now.items
    c.args.stations.now.items c.args.settlement.now.call c.in-Some.pending a c.requires.farm
    (sym c.in-Some.ensures.taken) own))
