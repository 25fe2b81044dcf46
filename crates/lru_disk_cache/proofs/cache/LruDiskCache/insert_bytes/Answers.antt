use Rattle.std.proofs.Common.{rules, ◌+◌, ◌≤◌, ◌++◌, ◌∙◌, Result, Ok, Err, length, ap, subst, arith}
use Rattle.dist_types.specs.declared.folder_fault.FolderFault.{FolderFault}
use Rattle.folders.specs.Failures.{WhereTold}
use Rattle.folders.specs.Held.{Became}
use Rattle.lru_disk_cache.specs.Reserved.{held_size, KeepsReserved}
use Rattle.lru_disk_cache.specs.Store.{IsStore, room_beside}
use Rattle.listed_files.specs.Told.{ToldStored}
use Rattle.lru_disk_cache.proofs.Reserving.{insert_reserved}
use Rattle.lru_disk_cache.proofs.Stores.{insert_store, stored_exact}
use Rattle.lru_disk_cache.proofs.DiskSteps.{step_stored}
use Rattle.lru_disk_cache.proofs.Insides.{disk_of}
use Rattle.folders.specs.Changed.{RemovedOrSame}
use Rattle.listed_files.specs.Disk.{IsBeside}
use Rattle.listed_files.proofs.Spared.{beside_temp}
use Rattle.listed_files.specs.Disk.{ButInsert}
use Rattle.lru_disk_cache.proofs.Spoiled.{these_inserted}
use Rattle.lru_disk_cache.proofs.cache.LruDiskCache.insert_bytes.Given.{Over}
use Rattle.lru_disk_cache.proofs.cache.LruDiskCache.insert_bytes.Goals.{After-store}
use Rattle.lru_disk_cache.proofs.cache.LruDiskCache.insert_bytes.Goals as goal

-- ---- behind the store, whatever it answered

untouched : (g : Over) (c : After-store g) → Became (KeepsReserved c.self.inside.pending)
    (g.F.Folder.held c.self.inside.folder).files (g.F.Folder.held c.store.new.folder).files
untouched g c =
    insert_reserved c.self.inside.root c.in-Ok-insert_arrival.arrival.from c.in-Ok-insert_arrival.arrival.path
    c.args.key.now c.self.inside.table.entries c.self.inside.spoiled c.self.inside.pending
    (g.F.Folder.held c.self.inside.folder).files (g.F.Folder.held c.store.new.folder).files
    c.in-Ok-insert_arrival.ensures.from c.in-Ok-insert_arrival.ensures.path c.in-Ok.ensures.key
    c.self.invariant.stands.keys c.self.invariant.reserved c.store.ensures.untouched

stands : (g : Over) (c : After-store g) → IsStore (g.F.Folder.held c.store.new.folder)
    (disk_of c.self.inside.path c.self.inside.root c.store.new.table c.self.inside.pending)
stands g c =
    let room : c.in-Ok-insert_arrival.arrival.limit + c.in-Ok-insert_arrival.arrival.size + held_size
    c.self.inside.pending ≤ c.self.inside.table.capacity =
    omega (
      arith,
      c.in-Ok-insert_arrival.ensures.key.1,
      c.in-Ok-insert_arrival.ensures.key.2,
      c.room_beside-limit.ensures,
      c.in-Ok.ensures.room,
      ap (λ s. held_size s.disk.pending) c.self.view_is,
      ap (λ s. s.disk.capacity) c.self.view_is,
    ) in
    insert_store c.self.inside.path c.self.inside.root c.self.inside.pending
    (g.F.Folder.held c.store.new.folder) (g.F.Folder.held c.self.inside.folder)
    c.in-Ok-insert_arrival.arrival.key c.in-Ok-insert_arrival.arrival.size
    c.in-Ok-insert_arrival.arrival.limit c.self.inside.table c.store.new.table c.store.result
    c.self.invariant room c.store.ensures.ok c.store.ensures.err c.store.ensures.stands (untouched g c)

reserved : (g : Over) (c : After-store g) → Became (KeepsReserved c.args.self.now.disk.pending)
    (g.F.Folder.held c.args.self.now.folder).files (g.F.Folder.held c.store.new.folder).files
reserved g c =
    subst (λ s. Became (KeepsReserved s.disk.pending) (g.F.Folder.held s.folder).files
    (g.F.Folder.held c.store.new.folder).files) c.self.view_is (untouched g c)

removed : (g : Over) (c : After-store g)
    → Became (RemovedOrSame (IsBeside c.args.self.now.disk.root (c.args.self.now.disk.root ++ c.args.key.now)))
    (g.F.Folder.held c.args.self.now.folder).files (g.F.Folder.held c.store.new.folder).files
removed g c =
    subst (λ s. Became (RemovedOrSame (IsBeside s.disk.root (s.disk.root ++ c.args.key.now)))
    (g.F.Folder.held s.folder).files (g.F.Folder.held c.store.new.folder).files) c.self.view_is
    (beside_temp c.self.inside.root c.in-Ok-insert_arrival.arrival.from
    c.in-Ok-insert_arrival.arrival.path (c.self.inside.root ++ c.args.key.now)
    (g.F.Folder.held c.self.inside.folder).files (g.F.Folder.held c.store.new.folder).files
    c.in-Ok-insert_arrival.ensures.temp c.in-Ok-insert_arrival.ensures.path c.store.ensures.removed)

stays : (g : Over) (c : After-store g)
    → Became (ButInsert c.args.self.now.disk.root c.args.self.now.spoiled)
    (g.F.Folder.held c.args.self.now.folder).files (g.F.Folder.held c.store.new.folder).files
stays g c =
    subst (λ s. Became (ButInsert s.disk.root s.spoiled) (g.F.Folder.held s.folder).files
    (g.F.Folder.held c.store.new.folder).files) c.self.view_is
    (these_inserted c.self.inside.root c.in-Ok-insert_arrival.arrival.from
    c.in-Ok-insert_arrival.arrival.path c.args.key.now c.self.inside.table.entries c.self.inside.spoiled
    (g.F.Folder.held c.self.inside.folder).files (g.F.Folder.held c.store.new.folder).files
    c.in-Ok-insert_arrival.ensures.from c.in-Ok-insert_arrival.ensures.number
    c.in-Ok-insert_arrival.ensures.path c.in-Ok.ensures.key c.self.invariant.stands.keys
    c.store.ensures.untouched)

-- what the folder's counts tell, said of the cache as it was
told : (g : Over) (c : After-store g) (r : Result (Unit {0}) FolderFault)
    → WhereTold (g.F.Folder.held c.self.inside.folder) (ToldStored r c.in-Ok-insert_arrival.arrival.key
    c.in-Ok-insert_arrival.arrival.limit c.self.inside.table.entries c.store.new.table.entries
    (g.F.Folder.failures c.self.inside.folder) (g.F.Folder.failures c.store.new.folder))
    → WhereTold (g.F.Folder.held c.args.self.now.folder) (ToldStored r c.args.key.now
    (room_beside c.args.self.now.disk (length c.args.bytes.now)) c.args.self.now.disk.entries
    c.store.new.table.entries (g.F.Folder.failures c.args.self.now.folder)
    (g.F.Folder.failures c.store.new.folder))
told g c r h =
    let arrival = c.in-Ok-insert_arrival.arrival in let after = g.F.Folder.failures c.store.new.folder in
    let now = c.args.self.now in
    subst (λ l. WhereTold (g.F.Folder.held now.folder) (ToldStored r c.args.key.now l now.disk.entries
    c.store.new.table.entries (g.F.Folder.failures now.folder) after))
    (c.in-Ok-insert_arrival.ensures.key.2 ∙ c.room_beside-limit.ensures)
    (subst (λ k. WhereTold (g.F.Folder.held now.folder) (ToldStored r k arrival.limit now.disk.entries
    c.store.new.table.entries (g.F.Folder.failures now.folder) after)) c.in-Ok-insert_arrival.ensures.key.0
    (subst (λ s. WhereTold (g.F.Folder.held s.folder) (ToldStored r arrival.key arrival.limit s.disk.entries
    c.store.new.table.entries (g.F.Folder.failures s.folder) after)) c.self.view_is h))

pub invariant_of-self : goal.invariant_of-self
invariant_of-self g c = c.self.invariant

pub invariant_of-self-in-Ok-store : goal.invariant_of-self-in-Ok-store
invariant_of-self-in-Ok-store g c = stands g (goal.at.invariant_of-self-in-Ok-store g c).After-store

pub invariant_of-self-in-Err-store : goal.invariant_of-self-in-Err-store
invariant_of-self-in-Err-store g c = stands g (goal.at.invariant_of-self-in-Err-store g c).After-store

pub returns-in-Ok-store-clause-stands : goal.returns-in-Ok-store-clause-stands
returns-in-Ok-store-clause-stands g c = stands g (goal.at.returns-in-Ok-store-clause-stands g c).After-store

pub returns-clause-stands : goal.returns-clause-stands
returns-clause-stands g c = stands g (goal.at.returns-clause-stands g c).After-store

pub returns-in-Ok-store-clause-reserved : goal.returns-in-Ok-store-clause-reserved
returns-in-Ok-store-clause-reserved g c =
    reserved g (goal.at.returns-in-Ok-store-clause-reserved g c).After-store

pub returns-clause-reserved : goal.returns-clause-reserved
returns-clause-reserved g c = reserved g (goal.at.returns-clause-reserved g c).After-store

pub returns-in-Ok-store-clause-removed : goal.returns-in-Ok-store-clause-removed
returns-in-Ok-store-clause-removed g c =
    removed g (goal.at.returns-in-Ok-store-clause-removed g c).After-store

pub returns-clause-removed : goal.returns-clause-removed
returns-clause-removed g c = removed g (goal.at.returns-clause-removed g c).After-store

pub returns-in-Ok-store-clause-stays : goal.returns-in-Ok-store-clause-stays
returns-in-Ok-store-clause-stays g c = stays g (goal.at.returns-in-Ok-store-clause-stays g c).After-store

pub returns-clause-stays : goal.returns-clause-stays
returns-clause-stays g c = stays g (goal.at.returns-clause-stays g c).After-store

pub returns-in-Ok-store-clause-exact : goal.returns-in-Ok-store-clause-exact
returns-in-Ok-store-clause-exact g c =
    stored_exact g.F.Folder.held c.self.inside.folder
    (disk_of c.self.inside.path c.self.inside.root c.self.inside.table c.self.inside.pending)
    c.self.inside.spoiled c.args.self.now (g.F.Folder.held c.store.new.folder)
    c.in-Ok-insert_arrival.arrival.from c.in-Ok-insert_arrival.arrival.path c.in-Ok-insert_arrival.arrival.key
    c.args.key.now c.args.bytes.now c.in-Ok-insert_arrival.arrival.limit
    c.self.view_is c.in-Ok-insert_arrival.ensures.temp c.in-Ok-insert_arrival.ensures.path
    c.in-Ok-insert_arrival.ensures.key.0 (c.in-Ok-insert_arrival.ensures.key.2 ∙ c.room_beside-limit.ensures)
    c.in-Ok-store.ensures.exact

pub returns-in-Ok-store-clause-ok : goal.returns-in-Ok-store-clause-ok
returns-in-Ok-store-clause-ok g c = search rules

pub returns-in-Ok-store-clause-in_step : goal.returns-in-Ok-store-clause-in_step
returns-in-Ok-store-clause-in_step g c =
    step_stored c.args.self.now.disk _ (g.F.Folder.held c.args.self.now.folder)
    (g.F.Folder.held c.store.new.folder) c.args.key.now c.args.bytes.now
    c.shown.ensures.stands.stands.keys c.in-Ok.ensures.key c.shown.ensures.distinct
    (returns-in-Ok-store-clause-ok g c) (returns-in-Ok-store-clause-exact g c)

pub returns-in-Ok-store-clause-failed : goal.returns-in-Ok-store-clause-failed
returns-in-Ok-store-clause-failed g c =
    told g (goal.at.returns-in-Ok-store-clause-failed g c).After-store (Ok (tt {0}))
    c.in-Ok-store.ensures.failed

pub returns-clause-failed : goal.returns-clause-failed
returns-clause-failed g c =
    told g (goal.at.returns-clause-failed g c).After-store (Err c.in-Err-store.fault)
    c.in-Err-store.ensures.failed
