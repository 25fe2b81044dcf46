use Rattle.std.proofs.Common.{◌≡◌, ◌∙◌, ap, ℕ, Option}
use Rattle.std.specs.List.{position}
use Rattle.std.specs.Option.{is_some}
use Rattle.dist_types.specs.Addr.{same_addr}
use Rattle.farm_script.proofs.PlaceLemmas.{there}
use Rattle.farm_script.proofs.script.has_server.Goals as goal

pub returns : goal.returns
returns c =
    let at : c.place_of.result ≡ position (λ s. same_addr s.addr c.args.addr.now) c.args.servers.now =
    c.place_of.ensures in
    c.is_some.ensures ∙ ap (λ (o : Option ℕ). is_some o) at ∙ there c.args.addr.now c.args.servers.now
