use Rattle.std.proofs.Common.{◌≡◌, Some, subst, IfOk}
use Rattle.farm_entries.specs.Begun.{Keeps}
use Rattle.farm_entries.specs.Served.{served, told_of, report_of}
use Rattle.farm_entries.specs.declared.pending.Told.{Told}
use Rattle.farm_stations.specs.Post.{Post}
use Rattle.farm_stations.specs.Stations.{now_of}
use Rattle.farm_run.proofs.RowLemmas.{server_answered, server_kept}
use Rattle.farm_run.proofs.servers.serve_at.Goals as goal

pub returns-clause-answered : goal.returns-clause-answered
returns-clause-answered g c =
    server_answered c.args.desk.now.setup (now_of c.args.server.now c.args.station.now)
    c.args.arrival.now.stamp.number c.args.arrival.now.bytes.now c.in-Ok.question c.serve_asked.result
    c.in-Ok.ensures.ok (subst (λ (st : Post). IfOk c.serve_asked.result (λ m. m.effect
    ≡ served c.args.desk.now.setup (now_of c.args.server.now st) c.args.arrival.now.stamp.number
    c.in-Ok.question.json c.in-Ok.question.what)) c.asked.ensures.same c.serve_asked.ensures.answer)

pub returns-clause-kept : goal.returns-clause-kept
returns-clause-kept g c =
    server_kept c.args.desk.now.setup c.args.desk.now.state.log (now_of c.args.server.now c.args.station.now)
    c.args.arrival.now.stamp.number c.args.arrival.now.bytes.now c.in-Ok.question c.serve_asked.result
    c.in-Ok.ensures.ok (subst (λ (st : Post). IfOk c.serve_asked.result (λ m. Keeps (λ p. (t : Told)
    × (told_of c.in-Ok.question.body c.in-Ok.question.what ≡ Some t)
    × (p ≡ report_of c.args.arrival.now.stamp.number c.in-Ok.question.json
    (now_of c.args.server.now st) t)) m.effect m.pending)) c.asked.ensures.same
    c.serve_asked.ensures.kept)
