use Rattle.std.proofs.Common.{◌≡◌, ◌+◌, ◌++◌, ◌∷◌, [], take, ap, ◌∙◌, sym}
use Rattle.std.proofs.lemmas.List.{take_more}
use Rattle.farm_script.specs.declared.setup.SetupServer.{SetupServer}
use Rattle.farm_run.proofs.BeginLemmas.{own_push}
use Rattle.farm_run.proofs.begin.own_servers.Goals as goal

pub loop-server-preserved : goal.loop-server-preserved
loop-server-preserved c =
    let i = c.loop-server.server-index in
    let more : take (i + 1) c.args.servers.now ≡ take i c.args.servers.now ++ c.server-item.result ∷ [] =
    take_more c.args.servers.now i c.server-item.result c.loop-server-test.true
    ∙ ap (λ (x : SetupServer). take i c.args.servers.now ++ x ∷ []) (sym c.server-item.is) in
    rw (more, c.in_ok-push.ensures.items, c.in_ok-push-2.ensures.items)
    (own_push (take i c.args.servers.now) c.loop-server.sites.items c.loop-server.stations.items
    c.server-item.result c.in_ok-site.site c.in_ok-site.station c.loop-server.invariant
    c.in_ok-site.ensures.site c.in_ok-site.ensures.now c.in_ok-site.ensures.well c.in_ok-site.ensures.own
    c.in_ok-site.ensures.hand)
