use Rattle.std.proofs.Common.{◌∙◌, [], List, Some, ap, map, subst, sym}
use Rattle.farm_script.specs.declared.setup.SetupScheduler.{SetupScheduler}
use Rattle.farm_script.specs.declared.setup.SetupServer.{SetupServer}
use Rattle.farm_run.specs.Farm.{Farmed}
use Rattle.farm_entries.specs.Passage.{AreOwn}
use Rattle.farm_entries.specs.Sites.{site_server}
use Rattle.farm_run.proofs.BeginLemmas.{apart_own}
use Rattle.farm_run.proofs.begin.setup.Goals as goal

pub begun-requires-clause-apart : goal.begun-requires-clause-apart
begun-requires-clause-apart c =
    apart_own c.args.setup.now.scheduler.addr c.in-Ok.scheduler.addr c.args.setup.now.servers c.new.result
    c.requires.apart (ap (λ (s : SetupScheduler). s.addr) c.in-Ok.ensures)
    (c.new.ensures.items ∙ c.in_ok-servers.ensures.sites
    ∙ ap (λ (ss : List SetupServer). map (site_server (Some [])) ss) c.get.ensures.items)

pub returns-clause-own : goal.returns-clause-own
returns-clause-own c =
    subst AreOwn (sym (ap (λ (f : Farmed). f.outside) c.in_ok-farm.ensures.begun)) c.in_ok-servers.ensures.own
