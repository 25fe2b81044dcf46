use Rattle.std.proofs.Common.{sym, subst}
use Rattle.folders.specs.Changed.{IsOutside}
use Rattle.lru_disk_cache.proofs.Asides.{below_store, below_wrote}
use Rattle.lru_disk_cache.proofs.Insides.{disk_of}
use Rattle.lru_disk_cache.proofs.cache.LruDiskCache.write_aside.Goals as goal

pub invariant_of-self : goal.invariant_of-self
invariant_of-self g c =
    let away = subst (λ s. IsOutside s.disk.path c.args.path.now) (sym c.self.view_is) c.requires in
    below_store (disk_of c.self.inside.path c.self.inside.root c.self.inside.table c.self.inside.pending)
    (g.F.Folder.held c.self.inside.folder)
    (g.F.Folder.held c.write.new.self) c.self.invariant
    (below_wrote c.self.inside.root c.self.inside.path c.args.path.now c.args.bytes.now c.write.result
    (g.F.Folder.held c.self.inside.folder) (g.F.Folder.held c.write.new.self) c.self.invariant.root away
    c.write.ensures.writes)

pub returns-clause-stands : goal.returns-clause-stands
returns-clause-stands g c = invariant_of-self g c
