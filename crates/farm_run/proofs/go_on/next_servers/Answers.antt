use Rattle.std.proofs.Common.{◌≡◌, ◌+◌, List, ◌++◌, ◌∷◌, [], length, map, take, ap, ◌∙◌, sym, refl, arith}
use Rattle.std.specs.Prelude.{slice_get, Some}
use Rattle.std.specs.Vec.Iter.{into_iter_items}
use Rattle.std.proofs.lemmas.List.{take_more, length-take-le, length-map}
use Rattle.std.proofs.lemmas.Option.{slice_get_read}
use Rattle.dist_types.specs.declared.addr.Addr.{Addr}
use Rattle.farm_entries.specs.declared.site.SiteServer.{SiteServer}
use Rattle.farm_stations.specs.Post.{outside_of}
use Rattle.farm_run.specs.GoesOn.{next_server}
use Rattle.farm_run.proofs.BeginLemmas.{left_first, left_rest}
use Rattle.farm_run.proofs.GoOnLemmas.{again_none, again_push}
use Rattle.farm_run.proofs.go_on.next_servers.Goals as goal
use lib.Seq.{take_all}

pub loop-server-init : goal.loop-server-init
loop-server-init g c =
    rw (c.in_ok-sites.ensures.items, c.in_ok-begun.ensures.items)
    (again_none _ _, c.into_iter-stations.ensures.rest)

pub next_server-requires : goal.next_server-requires
next_server-requires g c =
    let i = c.loop-server.server-index in
    let at : slice_get c.args.servers.now i ≡ Some c.server-item.result =
    slice_get_read c.args.servers.now (length c.args.servers.now) i c.server-item.result refl
    c.loop-server-test.true c.server-item.is in
    let there = left_first c.args.stations.items (into_iter_items c.loop-server.stations)
    (into_iter_items c.next.new.self) i c.in-Some.station c.loop-server.invariant.1 c.in-Some.ensures.items in
    record { well = (c.requires.stations.each i c.server-item.result c.in-Some.station at there).well }

pub loop-server-preserved : goal.loop-server-preserved
loop-server-preserved g c =
    let i = c.loop-server.server-index in
    let more : take (i + 1) c.args.servers.now ≡ take i c.args.servers.now ++ c.server-item.result ∷ [] =
    take_more c.args.servers.now i c.server-item.result c.loop-server-test.true
    ∙ ap (λ (x : SiteServer). take i c.args.servers.now ++ x ∷ []) (sym c.server-item.is) in
    let at : slice_get c.args.servers.now i ≡ Some c.server-item.result =
    slice_get_read c.args.servers.now (length c.args.servers.now) i c.server-item.result refl
    c.loop-server-test.true c.server-item.is in
    let first = c.in-Some.ensures.items in
    let there = left_first c.args.stations.items (into_iter_items c.loop-server.stations)
    (into_iter_items c.next.new.self) i c.in-Some.station c.loop-server.invariant.1 first in
    rw (more, c.in_ok-push.ensures.items, c.in_ok-push-2.ensures.items) (
      again_push _ c.args.servers.now (take i c.args.servers.now) c.args.stations.items
          c.loop-server.sites.items c.loop-server.begun.items c.server-item.result c.in_ok-site.site
          c.in-Some.station c.next_server.new.station i c.loop-server.invariant.0 c.requires.stations
          at there c.in_ok-site.ensures.next c.in_ok-site.ensures.now c.in_ok-site.ensures.well
          c.in_ok-site.ensures.own c.in_ok-site.ensures.addr
          (length-take-le i c.args.servers.now (omega (arith, c.loop-server-test.true)))
          c.next_server.ensures.left.stays,
      left_rest c.args.stations.items (into_iter_items c.loop-server.stations)
          (into_iter_items c.next.new.self) i c.in-Some.station c.loop-server.invariant.1 first,
    )

pub returns-clause-sites : goal.returns-clause-sites
returns-clause-sites g c =
    let past = c.loop-server-test.false in
    let all = take_all c.loop-server.server-index c.args.servers.now (omega (arith, past)) in
    λ own. c.loop-server.invariant.0.sites own
    ∙ ap (λ (ss : List SiteServer). map (next_server c.args.entries.now) ss) all

pub returns-clause-addresses : goal.returns-clause-addresses
returns-clause-addresses g c =
    let past = c.loop-server-test.false in
    let all = take_all c.loop-server.server-index c.args.servers.now (omega (arith, past)) in
    c.loop-server.invariant.0.addresses ∙ ap (λ (ss : List SiteServer). map (λ s. s.addr) ss) all

pub returns-clause-stays : goal.returns-clause-stays
returns-clause-stays g c =
    let past = c.loop-server-test.false in
    let all = take_all c.loop-server.server-index c.args.servers.now (omega (arith, past)) in
    let sites : length c.loop-server.sites.items ≡ length c.args.servers.now =
    sym (length-map c.loop-server.sites.items (λ (t : SiteServer). t.addr))
    ∙ ap (λ (l : List Addr). length l) c.loop-server.invariant.0.addresses
    ∙ length-map (take c.loop-server.server-index c.args.servers.now) (λ (s : SiteServer). s.addr)
    ∙ ap (λ (ss : List SiteServer). length ss) all in
    record {
      size = length-map c.loop-server.begun.items outside_of ∙ c.loop-server.invariant.0.stations.size ∙ sites
          ∙ sym c.requires.stations.size ∙ sym (length-map c.args.stations.items outside_of);
      each = c.loop-server.invariant.0.stays;
    }
