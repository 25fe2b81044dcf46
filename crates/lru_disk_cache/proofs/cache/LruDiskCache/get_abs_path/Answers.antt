use Rattle.std.proofs.Common.{refl, sym, ap}
use Rattle.folders.specs.Changed.{SameAt}
use Rattle.folders.proofs.Became.{became_same}
use Rattle.lru_disk_cache.proofs.Stores.{promoted_store}
use Rattle.listed_files.proofs.Trims.{none_promoted}
use Rattle.lru_disk_cache.proofs.cache.LruDiskCache.get_abs_path.Goals as goal

pub returns-then-not-contains-clause-ok : goal.returns-then-not-contains-clause-ok
returns-then-not-contains-clause-ok g c =
    sym (ap (λ es. record c.args.self.now.disk { entries = es })
    (none_promoted c.in-Ok.key c.args.key.now c.self.inside.table.entries c.args.self.now.disk.entries
    c.contains.result c.in-Ok.ensures.text (ap (λ s. s.disk.entries) c.self.view_is) c.contains.ensures
    c.if-not-contains.true))

pub invariant_of-self : goal.invariant_of-self
invariant_of-self g c =
    promoted_store c.self.inside.path c.self.inside.root c.self.inside.pending
    (g.F.Folder.held c.self.inside.folder) (g.F.Folder.held c.self.inside.folder) c.in-Ok.key
    c.self.inside.table c.promote.new.self c.self.invariant c.promote.ensures
    (became_same SameAt (g.F.Folder.held c.self.inside.folder).files (λ f q. refl))

pub returns-clause-stands : goal.returns-clause-stands
returns-clause-stands g c = invariant_of-self g c

pub returns-then-not-has-clause-ok : goal.returns-then-not-has-clause-ok
returns-then-not-has-clause-ok g c =
    sym (ap (λ es. record c.args.self.now.disk { entries = es })
    (none_promoted c.args.key.now c.args.key.now c.self.inside.table.entries c.args.self.now.disk.entries
    c.has.result refl (ap (λ s. s.disk.entries) c.self.view_is) c.has.ensures c.if-not-has.true))
