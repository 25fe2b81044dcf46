use Rattle.std.proofs.Common.{◌∙◌, List, ap, map}
use Rattle.farm_script.specs.declared.setup.SetupScheduler.{SetupScheduler}
use Rattle.farm_script.specs.declared.setup.SetupServer.{SetupServer}
use Rattle.farm_entries.specs.declared.site.SiteServer.{SiteServer}
use Rattle.farm_run.proofs.BeginLemmas.{apart_handed}
use Rattle.farm_run.proofs.run.Farm.new.Goals as goal

pub begun-requires-clause-apart : goal.begun-requires-clause-apart
begun-requires-clause-apart g c =
    apart_handed c.args.setup.now.scheduler.addr c.in-Ok.scheduler.addr c.args.setup.now.servers c.new.result
    c.requires.apart (ap (λ (s : SetupScheduler). s.addr) c.in-Ok.ensures)
    (ap (λ (ts : List SiteServer). map (λ t. t.addr) ts) c.new.ensures.items
    ∙ c.in_ok-servers.ensures.addresses
    ∙ ap (λ (ss : List SetupServer). map (λ s. s.addr) ss) c.get.ensures.items)
