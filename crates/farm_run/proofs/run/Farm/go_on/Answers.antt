use Rattle.std.proofs.Common.{List, map, ap, ◌∙◌}
use Rattle.farm_entries.specs.declared.entry.Entry.{Entry}
use Rattle.farm_entries.specs.declared.site.SiteServer.{SiteServer}
use Rattle.farm_entries.specs.declared.site.Site.{Site}
use Rattle.farm_run.specs.declared.desk.Desk.{Desk}
use Rattle.farm_run.specs.GoesOn.{next_server, with_ids}
use Rattle.farm_run.proofs.GoOnLemmas.{apart_again, goes_setup, goes_none, goes_own, goes_stays}
use Rattle.farm_run.proofs.run.Farm.go_on.Goals as goal

pub begun-requires-clause-apart : goal.begun-requires-clause-apart
begun-requires-clause-apart g c =
    let old = c.self.inside.desk.value.setup in
    let site = c.into_inner-setup.result.setup in
    apart_again old.scheduler.addr site.scheduler.addr old.servers c.new.result c.self.invariant.farm.apart
    (ap (λ (d : Desk). d.setup.scheduler.addr) c.into_inner-setup.ensures)
    (ap (λ (ts : List SiteServer). map (λ t. t.addr) ts) c.new.ensures.items
    ∙ c.in_ok-servers.ensures.addresses
    ∙ ap (λ (ss : List SiteServer). map (λ s. s.addr) ss) c.get.ensures.items
    ∙ ap (λ (d : Desk). map (λ (s : SiteServer). s.addr) d.setup.servers) c.into_inner-setup.ensures)

pub returns-clause-setup : goal.returns-clause-setup
returns-clause-setup g c =
    let site : Desk → Site = λ d. record {
      rules = d.setup.rules;
      scheduler = with_ids c.args.base c.args.count d.setup.scheduler;
      servers = c.new.result;
    } in
    goes_setup c.args.self c.self.inside.desk.value.setup c.self.inside.log.entries.items c.self.inside.stations.items
    c.begun.result _ _ _ c.self.view_is c.begun.ensures.begun c.args.base c.args.count c.new.result
    (λ own. c.new.ensures.items ∙ c.in_ok-servers.ensures.sites own
    ∙ ap (λ (es : List Entry). map (next_server es) c.get.result.now) c.deref.ensures.value
    ∙ ap (λ (ss : List SiteServer). map (next_server c.self.inside.log.entries.items) ss) c.get.ensures.items
    ∙ ap (λ (d : Desk). map (next_server c.self.inside.log.entries.items) d.setup.servers) c.into_inner-setup.ensures)
    (ap site c.into_inner-setup.ensures)

pub returns-clause-none : goal.returns-clause-none
returns-clause-none g c =
    goes_none c.args.self c.self.inside.desk.value.setup c.self.inside.log.entries.items c.self.inside.stations.items
    c.begun.result _ _ _ c.self.view_is c.begun.ensures.begun

pub returns-clause-own : goal.returns-clause-own
returns-clause-own g c =
    goes_own c.args.self c.self.inside.desk.value.setup c.self.inside.log.entries.items c.self.inside.stations.items
    c.begun.result _ _ _ c.self.view_is c.begun.ensures.begun c.in_ok-servers.ensures.own

pub returns-clause-stays : goal.returns-clause-stays
returns-clause-stays g c =
    goes_stays c.args.self c.self.inside.desk.value.setup c.self.inside.log.entries.items c.self.inside.stations.items
    c.begun.result _ _ _ c.self.view_is c.begun.ensures.begun c.in_ok-servers.ensures.stays
