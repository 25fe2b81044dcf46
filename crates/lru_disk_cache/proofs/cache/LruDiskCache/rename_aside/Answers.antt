use Rattle.std.proofs.Common.{sym, subst}
use Rattle.folders.specs.Changed.{IsOutside}
use Rattle.lru_disk_cache.proofs.Asides.{below_store, below_renamed}
use Rattle.lru_disk_cache.proofs.Insides.{disk_of}
use Rattle.lru_disk_cache.proofs.cache.LruDiskCache.rename_aside.Goals as goal

pub invariant_of-self : goal.invariant_of-self
invariant_of-self g c =
    let one = subst (λ s. IsOutside s.disk.path c.args.from.now) (sym c.self.view_is) c.requires.from in
    let two = subst (λ s. IsOutside s.disk.path c.args.to.now) (sym c.self.view_is) c.requires.to in
    below_store (disk_of c.self.inside.path c.self.inside.root c.self.inside.table c.self.inside.pending)
    (g.F.Folder.held c.self.inside.folder) (g.F.Folder.held c.rename.new.self)
    c.self.invariant (below_renamed c.self.inside.root c.self.inside.path c.args.from.now c.args.to.now
    c.rename.result (g.F.Folder.held c.self.inside.folder) (g.F.Folder.held c.rename.new.self)
    c.self.invariant.root one two c.rename.ensures.renames)

pub returns-clause-stands : goal.returns-clause-stands
returns-clause-stands g c = invariant_of-self g c
