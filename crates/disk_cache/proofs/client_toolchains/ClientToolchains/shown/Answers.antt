use Rattle.std.proofs.Common.{subst}
use Rattle.disk_cache.specs.Toolchains.{IsClient}
use Rattle.disk_cache.proofs.ShelfLemmas.{shelf_stands}
use Rattle.disk_cache.proofs.client_toolchains.ClientToolchains.shown.Goals as goal

pub returns : goal.returns
returns g c =
    subst IsClient c.self.view_is (record {
      stands = shelf_stands c.self.inside.names c.self.inside.cache.path c.self.inside.cache.capacity
          c.self.inside.cache.archives (g.F.Folder.held c.self.inside.cache.folder) c.self.invariant.0;
      reads = c.self.invariant.0.reads;
    })
