-- How a farm whose folders and builders are its own goes on, under other ids.
use Rattle.std.specs.Prelude.{ℕ, List, map, Some}
use Rattle.farm_script.specs.declared.setup.SetupScheduler.{SetupScheduler}
use Rattle.farm_entries.specs.declared.site.Site.{Site}
use Rattle.farm_entries.specs.declared.site.SiteServer.{SiteServer}
use Rattle.farm_entries.specs.declared.entry.Entry.{Entry}
use Rattle.farm_entries.specs.Servers.{ServerNow, server_of}
use Rattle.farm_stations.specs.Left.{with_left}

-- a server that begins again: it was set up as before, its builder has the lines that are left, and its cache
-- has the archives that it had
abbrev pub left_of : ServerNow → SiteServer
left_of now = with_left now.builds (Some now.archives) now.setup

abbrev pub next_server : List Entry → SiteServer → SiteServer
next_server log s = left_of (server_of s log)

-- the same scheduler with another first id and another count of ids that were given before
abbrev pub with_ids : ℕ → ℕ → SetupScheduler → SetupScheduler
with_ids base count s = record { addr = s.addr; base = base; count = count; client = s.client; auth = s.auth }

-- the farm as it goes on behind those entries
abbrev pub next_site : ℕ → ℕ → Site → List Entry → Site
next_site base count site log = record {
  rules = site.rules;
  scheduler = with_ids base count site.scheduler;
  servers = map (next_server log) site.servers;
}
