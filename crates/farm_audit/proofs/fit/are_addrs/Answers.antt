use Rattle.std.proofs.Common.{◌≡◌, ◌+◌, ◌++◌, ◌∷◌, [], take, ap, ◌∙◌, sym}
use Rattle.std.proofs.lemmas.List.{take_more}
use Rattle.dist_types.specs.Addr.{IsAddr}
use Rattle.core_rules.proofs.AllLemmas.{all-append}
use Rattle.farm_entries.specs.declared.site.SiteServer.{SiteServer as SetupServer}
use Rattle.farm_audit.proofs.fit.are_addrs.Goals as goal

pub loop-server-preserved : goal.loop-server-preserved
loop-server-preserved c =
    let more : take (c.loop-server.server-index + 1) c.args.servers.now ≡ take c.loop-server.server-index
    c.args.servers.now ++ c.server-item.result ∷ [] =
    take_more c.args.servers.now c.loop-server.server-index c.server-item.result c.loop-server-test.true
    ∙ ap (λ x. take c.loop-server.server-index c.args.servers.now ++ x ∷ []) (sym c.server-item.is) in
    rw more (all-append (λ (s : SetupServer). IsAddr s.addr)
    (take c.loop-server.server-index c.args.servers.now)
    (c.server-item.result ∷ []) c.loop-server.invariant (c.is_addr.ensures, tt))
