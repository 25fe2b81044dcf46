use Rattle.std.proofs.Common.{◌≡◌, inl, map, ℕ, List, Bool, cond, Option, Some, None, length, refl, sym, ap, subst, ◌∙◌, rules}
use Rattle.core_rules.specs.Log.{Core}
use Rattle.core_rules.specs.declared.entry.CoreEntry.{CoreEntry}
use Rattle.farm_script.specs.declared.event.EventKind.TheVariants as kind
use Rattle.farm_entries.specs.Calls.{settles_by, delivery_at}
use Rattle.farm_run.specs.Farm.{acted}
use Rattle.farm_entries.specs.Servers.{restart_by, server_now}
use Rattle.farm_entries.specs.Ways.{way_of, way_to, beat_way, return_way, to_nothing, to_call}
use Rattle.dist_types.specs.declared.addr.Addr.{Addr}
use Rattle.std.specs.Option.{option_map}
use Rattle.farm_script.specs.declared.event.EventKind.{EventKind}
use Rattle.farm_entries.specs.Passage.{reached}
use Rattle.farm_stations.specs.Post.{Around, around_of}
use Rattle.farm_run.specs.Stops.{IsReportOf, ReachesFor, LeavesOpened}
use Rattle.farm_run.proofs.CutLemmas.{cut_as, settles_for}
use Rattle.farm_run.proofs.ResultLemmas.{ok_then, ok_and, on_ok, on_err, err_then}
use Rattle.farm_run.proofs.MadeLemmas.{idle_made, received_made}
use Rattle.farm_entries.specs.Weather.{calm, OnlyClears}
use Rattle.farm_run.proofs.ServerLemmas.{are_well}
use Rattle.farm_run.proofs.StandLemmas.{stands_same}
use Rattle.farm_run.proofs.RowLemmas.{restart_core, restart_made}
use Rattle.farm_run.proofs.run.made_of.Goals as goal

pub returns-then-is_inside-clause-made : goal.returns-then-is_inside-clause-made
returns-then-is_inside-clause-made g c =
    idle_made c.args.desk.now.setup c.args.desk.now.state c.args.entries.now c.args.kept.now.items
    c.args.stations.now.items c.args.event.now c.idle-then-is_inside.result c.requires.farm
    (ap (way_of c.args.desk.now.setup c.args.entries.now) c.in-Answer.is
    ∙ ap (λ (b : Bool). cond b to_nothing (to_call c.in-Answer.call (Some c.in-Answer.bytes)))
    (sym c.is_inside.ensures ∙ c.if-is_inside.true))
    (λ a. ap (restart_by a) c.in-Answer.is) c.idle-then-is_inside.ensures

pub arrive-requires-clause-rules : goal.arrive-requires-clause-rules
arrive-requires-clause-rules g c = ap (λ (s : Core). s.start.rules) c.requires.farm.core_is

pub deliver-requires-clause-rules : goal.deliver-requires-clause-rules
deliver-requires-clause-rules g c = ap (λ (s : Core). s.start.rules) c.requires.farm.core_is

pub restart-requires : goal.restart-requires
restart-requires g c = record {
  well = are_well c.args.desk.now.setup.servers c.args.entries.now
      c.args.stations.now.items c.requires.farm.stations;
}

pub returns-in-Request-clause-made : goal.returns-in-Request-clause-made
returns-in-Request-clause-made g c =
    let s = c.args.desk.now.setup in
    ok_then c.arrive.result (ok_and _ _ c.arrive.result c.arrive.ensures.stations c.arrive.ensures.received)
    (λ m is.
    let stand = is.0 c.args.event.now (λ a. ap (restart_by a) c.in-Request.is) in
    received_made calm s c.args.desk.now.state c.args.entries.now c.args.kept.now.items
    c.args.stations.now.items
    c.arrive.new.stations.items c.args.event.now (length c.args.entries.now) c.args.event.now.at
    (way_to s c.args.entries.now c.in-Request.target c.in-Request.peer c.get.result.now)
    m c.requires.farm refl refl
    (ap (way_of s c.args.entries.now) c.in-Request.is
    ∙ ap (λ (b : List ℕ). way_to s c.args.entries.now c.in-Request.target c.in-Request.peer b)
    (sym c.get.ensures.bytes))
    (ap (settles_by c.args.entries.now) c.in-Request.is) is.1 stand.0 stand.1)

pub returns-in-Deliver-clause-made : goal.returns-in-Deliver-clause-made
returns-in-Deliver-clause-made g c =
    let s = c.args.desk.now.setup in
    ok_then c.deliver.result (ok_and _ _ c.deliver.result c.deliver.ensures.stations c.deliver.ensures.received)
    (λ m is.
    let stand = is.0 c.args.event.now (λ a. ap (restart_by a) c.in-Deliver.is) in
    received_made calm s c.args.desk.now.state c.args.entries.now c.args.kept.now.items
    c.args.stations.now.items
    c.deliver.new.stations.items c.args.event.now (length c.args.entries.now) c.args.event.now.at
    (way_of s c.args.entries.now (kind.Deliver c.in-Deliver.call)) m c.requires.farm refl refl (ap (way_of s c.args.entries.now) c.in-Deliver.is)
    (ap (settles_by c.args.entries.now) c.in-Deliver.is) is.1 stand.0 stand.1)

pub returns-in-None-clause-made : goal.returns-in-None-clause-made
returns-in-None-clause-made g c =
    let none : delivery_at c.args.entries.now c.in-Return.delivery ≡ None = search rules in
    idle_made c.args.desk.now.setup c.args.desk.now.state c.args.entries.now c.args.kept.now.items
    c.args.stations.now.items c.args.event.now c.idle.result c.requires.farm
    (ap (way_of c.args.desk.now.setup c.args.entries.now) c.in-Return.is ∙ ap return_way none)
    (λ a. ap (restart_by a) c.in-Return.is) c.idle.ensures

pub returns-in-Beat-clause-made : goal.returns-in-Beat-clause-made
returns-in-Beat-clause-made g c =
    let s = c.args.desk.now.setup in
    ok_then c.send_beat.result (ok_and _ _ c.send_beat.result c.send_beat.ensures.step c.send_beat.ensures.received)
    (λ m is.
    let stand = stands_same s c.args.entries.now c.args.stations.now.items m.effect c.requires.farm.stations
    is.0 c.args.event.now (λ a. ap (restart_by a) c.in-Beat.is) in
    received_made calm s c.args.desk.now.state c.args.entries.now c.args.kept.now.items
    c.args.stations.now.items
    c.args.stations.now.items c.args.event.now (length c.args.entries.now) c.args.event.now.at
    (beat_way (server_now s c.args.entries.now c.in-Beat.server)) m c.requires.farm refl refl
    (ap (way_of s c.args.entries.now) c.in-Beat.is)
    (ap (settles_by c.args.entries.now) c.in-Beat.is) (is.1 c.args.event.now.at) stand.0 stand.1)

pub returns-in-Restart-clause-made : goal.returns-in-Restart-clause-made
returns-in-Restart-clause-made g c =
    ok_then c.restart.result (ok_and _ _ c.restart.result c.restart.ensures.none c.restart.ensures.some) (λ m is.
    restart_made c.args.desk.now.setup c.args.desk.now.state c.args.entries.now c.args.kept.now.items
    c.args.stations.now.items c.restart.new.stations.items c.args.event.now c.in-Restart.server
    c.get-in-Restart.result.now c.in-Restart.nonce m c.requires.farm
    (c.in-Restart.is ∙ ap (λ (k : List ℕ). kind.Restart c.in-Restart.server k c.in-Restart.nonce)
    (sym c.get-in-Restart.ensures.bytes)) is.0 is.1)

pub returns-in-Restart-clause-desk : goal.returns-in-Restart-clause-desk
returns-in-Restart-clause-desk g c =
    ok_then c.restart.result (ok_and _ _ c.restart.result c.restart.ensures.none c.restart.ensures.some) (λ m is.
    ap (λ (o : Option CoreEntry). acted c.args.desk.now o)
    (sym (restart_core c.args.desk.now.setup c.args.entries.now c.in-Restart.server c.args.stations.now.items
    c.restart.new.stations.items m c.get-in-Restart.result.now
    c.in-Restart.nonce c.requires.farm.stations is.0 is.1)))

pub returns-in-Request-clause-cut : goal.returns-in-Request-clause-cut
returns-in-Request-clause-cut g c = err_then c.arrive.result c.arrive.ensures.cut (λ same. inl same)

pub returns-in-Deliver-clause-cut : goal.returns-in-Deliver-clause-cut
returns-in-Deliver-clause-cut g c = err_then c.deliver.result c.deliver.ensures.cut (λ same. inl same)

pub returns-in-Fail-clause-cut : goal.returns-in-Fail-clause-cut
returns-in-Fail-clause-cut g c =
    err_then c.take_back.result c.take_back.ensures.cut
    (cut_as (λ (a : Addr) (was is : Around). IsReportOf c.args.desk.now.setup c.args.entries.now c.in-Fail.call a)
    (λ (a : Addr) (was is : Around). ReachesFor c.args.desk.now.setup c.args.entries.now
    c.args.event.now.kind a × LeavesOpened c.args.event.now.kind was is) c.args.desk.now.setup
    (map around_of c.args.stations.now.items) (map around_of c.take_back.new.stations.items)
    (λ a was is own. settles_for c.args.desk.now.setup c.args.entries.now c.args.event.now.kind c.in-Fail.call None a was is
    (ap (settles_by c.args.entries.now) c.in-Fail.is) own))

pub returns-in-Some-clause-cut : goal.returns-in-Some-clause-cut
returns-in-Some-clause-cut g c =
    let there : ◌≡◌ {A = Option (ℕ × List ℕ)} (delivery_at c.args.entries.now c.in-Return.delivery)
    (Some (c.in-Some.call, c.in-Some.bytes.now)) = search rules in
    err_then c.take_back-in-Some.result c.take_back-in-Some.ensures.cut
    (cut_as (λ (a : Addr) (was is : Around). IsReportOf c.args.desk.now.setup c.args.entries.now c.in-Some.call a)
    (λ (a : Addr) (was is : Around). ReachesFor c.args.desk.now.setup c.args.entries.now
    c.args.event.now.kind a × LeavesOpened c.args.event.now.kind was is) c.args.desk.now.setup
    (map around_of c.args.stations.now.items) (map around_of c.take_back-in-Some.new.stations.items)
    (λ a was is own. settles_for c.args.desk.now.setup c.args.entries.now c.args.event.now.kind c.in-Some.call
    (Some c.in-Some.bytes.now) a was is (ap (settles_by c.args.entries.now) c.in-Return.is
    ∙ ap (option_map (λ (p : ℕ × List ℕ). let q : ℕ × Option (List ℕ) = (p.0, Some p.1) in q)) there) own))

pub returns-else-is_inside-clause-cut : goal.returns-else-is_inside-clause-cut
returns-else-is_inside-clause-cut g c =
    err_then c.take_back-in-Answer.result c.take_back-in-Answer.ensures.cut
    (cut_as (λ (a : Addr) (was is : Around). IsReportOf c.args.desk.now.setup c.args.entries.now c.in-Answer.call a)
    (λ (a : Addr) (was is : Around). ReachesFor c.args.desk.now.setup c.args.entries.now
    c.args.event.now.kind a × LeavesOpened c.args.event.now.kind was is) c.args.desk.now.setup
    (map around_of c.args.stations.now.items) (map around_of c.take_back-in-Answer.new.stations.items)
    (λ a was is own. settles_for c.args.desk.now.setup c.args.entries.now c.args.event.now.kind c.in-Answer.call (Some c.get-in-Answer.result.now) a was is
    (ap (settles_by c.args.entries.now) c.in-Answer.is
    ∙ ap (λ (b : List ℕ). let q : ℕ × Option (List ℕ) = (c.in-Answer.call, Some b) in Some q)
    (sym c.get-in-Answer.ensures.bytes)) own))

pub returns-in-Restart-clause-cut : goal.returns-in-Restart-clause-cut
returns-in-Restart-clause-cut g c =
    err_then c.restart.result c.restart.ensures.cut
    (cut_as (λ (a : Addr) (was is : Around). (c.in-Restart.server ≡ a) × OnlyClears was.outside.folder is.outside.folder
    × (is.outside.builder ≡ was.outside.builder) × (is.hand ≡ was.hand))
    (λ (a : Addr) (was is : Around). ReachesFor c.args.desk.now.setup c.args.entries.now
    c.args.event.now.kind a × LeavesOpened c.args.event.now.kind was is) c.args.desk.now.setup
    (map around_of c.args.stations.now.items) (map around_of c.restart.new.stations.items)
    (λ a was is own. (
      inl (ap (λ (k : EventKind). reached k None) c.in-Restart.is ∙ ap (λ (x : Addr). Some x) own.0),
      subst (λ (k : EventKind). LeavesOpened k was is) (sym c.in-Restart.is) (own.1, own.2, own.3),
    )))

pub returns-in-Beat-clause-desk : goal.returns-in-Beat-clause-desk
returns-in-Beat-clause-desk g c =
    ok_then c.send_beat.result c.send_beat.ensures.core
    (λ m none. ap (λ (o : Option CoreEntry). acted c.args.desk.now o) (sym none))

pub returns-in-Beat-clause-cut : goal.returns-in-Beat-clause-cut
returns-in-Beat-clause-cut g c = on_err c.send_beat.result (inl refl)

pub returns-in-Beat-clause-room : goal.returns-in-Beat-clause-room
returns-in-Beat-clause-room g c = on_ok c.send_beat.result refl

pub returns-in-Beat-clause-places : goal.returns-in-Beat-clause-places
returns-in-Beat-clause-places g c = on_ok c.send_beat.result refl
