-- What a server begins again with.
use Rattle.std.specs.Prelude.{ℕ, drop, Option}
use Rattle.toolchain_cache.specs.Archives.{Archives}
use Rattle.farm_entries.specs.declared.site.SiteServer.{SiteServer}

-- the server, whose builder has answered so many builds, and whose opening found this
abbrev pub with_left : ℕ → Option Archives → SiteServer → SiteServer
with_left builds found s = record {
  addr = s.addr;
  cpus = s.cpus;
  nonce = s.nonce;
  key = s.key;
  capacity = s.capacity;
  builder = drop builds s.builder;
  found = found;
}
