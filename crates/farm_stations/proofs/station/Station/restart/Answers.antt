use Rattle.std.proofs.Common.{◌≡◌, sym, subst, ◌∙◌, not, ◌&&◌}
use Rattle.std.specs.Prelude.{is_none}
use Rattle.farm_stations.specs.Post.{Post}
use Rattle.farm_stations.specs.Stations.{IsWell}
use Rattle.farm_stations.proofs.StationLemmas.{opened_at, unmapped}
use Rattle.farm_stations.proofs.station.Station.restart.Goals as goal

pub returns-in-Ok-list-clause-opens : goal.returns-in-Ok-list-clause-opens
returns-in-Ok-list-clause-opens g c =
    rw (← c.self.view_is)
    (opened_at g.F.Folder.held c.args.server.now _ c.in-Ok.state c.in-Ok-list.found c.of_key-authorizer.result
    c.args.nonce
    (subst (λ (st : Post). IsWell c.args.server.now st) (sym c.self.view_is) c.requires.well)
    (rw (← c.take-state.ensures.value, ← c.take-closed.ensures.value) c.in-Ok.ensures.opened)
    c.in-Ok-list.ensures (λ e. c.self.invariant.0 (unmapped _ c.self.inside.builder e))
    (subst (λ (st : Post). (is_none st.builder && not st.running) ≡ _) (sym c.self.view_is)
    (sym c.is_shut.ensures ∙ c.if-is_shut.false)))
