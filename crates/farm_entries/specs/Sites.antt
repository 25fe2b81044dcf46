-- The farm that a script sets up: every server runs, over an empty folder.
use Rattle.std.specs.Prelude.{[], map, Option, Some}
use Rattle.toolchain_cache.specs.Archives.{Archives}
use Rattle.farm_script.specs.declared.setup.Setup.{Setup}
use Rattle.farm_script.specs.declared.setup.SetupServer.{SetupServer}
use Rattle.farm_entries.specs.declared.site.Site.{Site}
use Rattle.farm_entries.specs.declared.site.SiteServer.{SiteServer}

-- a server of a setup, with what its first opening found
abbrev pub site_server : Option Archives → SetupServer → SiteServer
site_server found s = record {
  addr = s.addr;
  cpus = s.cpus;
  nonce = s.nonce;
  key = s.key;
  capacity = s.capacity;
  builder = s.builder;
  found = found;
}

abbrev pub site_of : Setup → Site
site_of setup = record {
  rules = setup.rules;
  scheduler = setup.scheduler;
  servers = map (site_server (Some [])) setup.servers;
}
