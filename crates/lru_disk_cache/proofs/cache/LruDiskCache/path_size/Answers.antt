use Rattle.lru_disk_cache.proofs.Asides.{store_equal}
use Rattle.lru_disk_cache.proofs.Insides.{disk_of}
use Rattle.lru_disk_cache.proofs.cache.LruDiskCache.path_size.Goals as goal

pub invariant_of-self : goal.invariant_of-self
invariant_of-self g c = store_equal
    (disk_of c.self.inside.path c.self.inside.root c.self.inside.table c.self.inside.pending)
    (g.F.Folder.held c.self.inside.folder) (g.F.Folder.held c.measure.new.folder) c.self.invariant
    c.measure.ensures.files

pub returns-clause-stands : goal.returns-clause-stands
returns-clause-stands g c = invariant_of-self g c
