use Rattle.std.proofs.Common.{ap, sym, ◌∙◌, List, Option, None}
use Rattle.std.specs.Prelude.{slice_get}
use Rattle.farm_stations.specs.Post.{Post as Station}
use Rattle.core_rules.specs.declared.entry.CoreEntry.{CoreEntry}
use Rattle.farm_entries.specs.declared.entry.Effect.{Effect}
use Rattle.farm_run.specs.declared.pending.Made.{Made}
use Rattle.farm_run.specs.Farm.{acted}
use Rattle.farm_stations.specs.Stations.{now_of}
use Rattle.farm_run.proofs.ServerLemmas.{place_found, station_there, are_well}
use Rattle.farm_run.proofs.StandLemmas.{stands_same, stands_stepped}
use Rattle.farm_run.proofs.RowLemmas.{answered_of, answered_reaches, scheduler_step, server_core}
use Rattle.farm_run.proofs.RowLemmas.{nobody_received}
use Rattle.farm_run.proofs.ResultLemmas.{ok_then, ok_and, ok_on}
use Rattle.farm_run.proofs.RowLemmas.{server_received, closed_received}
use Rattle.farm_run.proofs.arrivals.arrive.Goals as goal

pub returns-then-is_scheduler-clause-stations : goal.returns-then-is_scheduler-clause-stations
returns-then-is_scheduler-clause-stations g c =
    ok_then c.serve.result c.serve.ensures.answered (λ m answered.
    stands_same c.args.desk.now.setup c.args.entries.now c.args.stations.now.items m.effect c.requires.stations
    (scheduler_step c.args.desk.now.setup c.args.desk.now.state c.args.arrival.now.stamp.number
    c.args.arrival.now.stamp.at c.args.arrival.now.peer c.args.arrival.now.bytes.now m.effect answered))

pub arrive_at-requires : goal.arrive_at-requires
arrive_at-requires g c = record {
  well = are_well c.args.desk.now.setup.servers c.args.entries.now
      c.args.stations.now.items c.requires.stations;
}

pub returns-in-None-clause-received : goal.returns-in-None-clause-received
returns-in-None-clause-received g c =
    nobody_received c.args.desk.now.setup c.args.desk.now.state c.args.entries.now
    c.args.arrival.now.stamp.number c.args.arrival.now.stamp.at c.args.target c.args.arrival.now.peer
    c.args.arrival.now.bytes.now c.whole.result (sym c.is_scheduler.ensures ∙ c.if-is_scheduler.false)
    (sym c.in-None.ensures.place)
    (c.whole.ensures ∙ ap (λ (x : Effect). record { effect = x; pending = None }) c.of_word.ensures)

pub returns-in-None-clause-stations : goal.returns-in-None-clause-stations
returns-in-None-clause-stations g c =
    stands_same c.args.desk.now.setup c.args.entries.now c.args.stations.now.items c.whole.result.effect
    c.requires.stations
    (ap (λ (m : Made). m.effect.step) c.whole.ensures ∙ ap (λ (x : Effect). x.step) c.of_word.ensures)

pub returns-else-not-runs_at-clause-received : goal.returns-else-not-runs_at-clause-received
returns-else-not-runs_at-clause-received g c =
    let f = place_found c.args.desk.now.setup c.args.target c.in-Some.place (sym c.in-Some.ensures.place) in
    ok_then c.arrive_at.result (ok_and _ _ c.arrive_at.result c.arrive_at.ensures.answered
    (ok_and _ _ c.arrive_at.result c.arrive_at.ensures.kept (ok_on _ c.arrive_at.result c.arrive_at.ensures.there)))
    (λ m is.
    let st = is.1.1 in
    server_received c.args.desk.now.setup c.args.desk.now.state c.args.entries.now c.args.stations.now.items
    c.args.arrival.now.stamp.number c.args.arrival.now.stamp.at c.args.target
    c.args.arrival.now.peer c.args.arrival.now.bytes.now c.in-Some.place st.0 m f
    c.requires.stations st.1 (sym c.is_scheduler.ensures ∙ c.if-is_scheduler.false)
    (sym (c.runs_at.ensures st.0 (ap (λ (xs : List Station). slice_get xs c.in-Some.place)
    c.deref.ensures.value ∙ st.1))
    ∙ c.if-not-runs_at.false)
    (is.0 f.server st.0 f.there st.1) (is.1.0 f.server st.0 f.there st.1))

pub returns-else-not-runs_at-clause-stations : goal.returns-else-not-runs_at-clause-stations
returns-else-not-runs_at-clause-stations g c =
    let f = place_found c.args.desk.now.setup c.args.target c.in-Some.place (sym c.in-Some.ensures.place) in
    ok_then c.arrive_at.result (ok_and _ _ c.arrive_at.result c.arrive_at.ensures.answered
    (ok_and _ _ c.arrive_at.result c.arrive_at.ensures.step (ok_on _ c.arrive_at.result c.arrive_at.ensures.there)))
    (λ m is.
    let st = is.1.1 in
    stands_stepped c.args.desk.now.setup c.args.entries.now c.args.stations.now.items
    c.arrive_at.new.stations.items m.effect c.in-Some.place f.server st.0 c.requires.apart
    c.requires.stations
    f.there st.1
    (answered_of c.args.desk.now.setup (now_of f.server st.0) c.args.arrival.now.stamp.number
    c.args.arrival.now.bytes.now m.effect (is.0 f.server st.0 f.there st.1))
    (is.1.0 f.server st.0 f.there st.1)
    (answered_reaches c.args.desk.now.setup (now_of f.server st.0) c.args.arrival.now.stamp.number
    c.args.arrival.now.bytes.now m.effect (is.0 f.server st.0 f.there st.1)))

pub returns-else-not-runs_at-clause-desk : goal.returns-else-not-runs_at-clause-desk
returns-else-not-runs_at-clause-desk g c =
    let f = place_found c.args.desk.now.setup c.args.target c.in-Some.place (sym c.in-Some.ensures.place) in
    ok_then c.arrive_at.result (ok_and _ _ c.arrive_at.result c.arrive_at.ensures.answered
    (ok_on _ c.arrive_at.result c.arrive_at.ensures.there)) (λ m is.
    ap (λ (o : Option CoreEntry). acted c.args.desk.now o)
    (sym (server_core c.args.desk.now.setup (now_of f.server is.1.0) c.args.arrival.now.stamp.number
    c.args.arrival.now.bytes.now m.effect (is.0 f.server is.1.0 f.there is.1.1))))

pub returns-then-not-runs_at-clause-stations : goal.returns-then-not-runs_at-clause-stations
returns-then-not-runs_at-clause-stations g c =
    stands_same c.args.desk.now.setup c.args.entries.now c.args.stations.now.items
    c.whole-then-not-runs_at.result.effect
    c.requires.stations
    (ap (λ (m : Made). m.effect.step) c.whole-then-not-runs_at.ensures ∙ ap (λ (x : Effect). x.step)
    c.of_word-then-not-runs_at.ensures)

pub returns-then-not-runs_at-clause-received : goal.returns-then-not-runs_at-clause-received
returns-then-not-runs_at-clause-received g c =
    let f = place_found c.args.desk.now.setup c.args.target c.in-Some.place (sym c.in-Some.ensures.place) in
    let st = station_there c.args.desk.now.setup.servers c.args.entries.now c.args.stations.now.items
    c.in-Some.place f.server c.requires.stations f.there in
    closed_received c.args.desk.now.setup c.args.desk.now.state c.args.entries.now c.args.stations.now.items
    c.args.arrival.now.stamp.number c.args.arrival.now.stamp.at c.args.target
    c.args.arrival.now.peer c.args.arrival.now.bytes.now c.in-Some.place st.0
    c.whole-then-not-runs_at.result f
    c.requires.stations st.1 (sym c.is_scheduler.ensures ∙ c.if-is_scheduler.false)
    (sym (c.runs_at.ensures st.0 (ap (λ (xs : List Station). slice_get xs c.in-Some.place)
    c.deref.ensures.value
    ∙ st.1)) ∙ c.if-not-runs_at.true)
    (c.whole-then-not-runs_at.ensures ∙ ap (λ (x : Effect). record { effect = x; pending = None })
    c.of_word-then-not-runs_at.ensures)
