use Rattle.folders.specs.Held.{Lacks}
use Rattle.lru_disk_cache.proofs.Asides.{below_store, below_same}
use Rattle.lru_disk_cache.proofs.Insides.{disk_of}
use Rattle.lru_disk_cache.proofs.cache.LruDiskCache.read_aside.Goals as goal

pub invariant_of-self : goal.invariant_of-self
invariant_of-self g c =
    below_store (disk_of c.self.inside.path c.self.inside.root c.self.inside.table c.self.inside.pending)
    (g.F.Folder.held c.self.inside.folder)
    (g.F.Folder.held c.read.new.self) c.self.invariant
    (below_same c.self.inside.root (Lacks c.args.path.now) c.read.result
    (g.F.Folder.held c.self.inside.folder) (g.F.Folder.held c.read.new.self) c.read.ensures.leaves)

pub returns-clause-stands : goal.returns-clause-stands
returns-clause-stands g c = invariant_of-self g c
