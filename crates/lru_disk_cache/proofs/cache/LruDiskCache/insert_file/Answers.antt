use Rattle.std.proofs.Common.{rules, ◌+◌, ◌≤◌, Result, Ok, Err, inl, sym, ap, subst, ◌∙◌, arith}
use Rattle.dist_types.specs.declared.folder_fault.FolderFault.{FolderFault}
use Rattle.folders.specs.Failures.{WhereTold}
use Rattle.folders.specs.Held.{Became}
use Rattle.listed_files.specs.Key.{names_temporary}
use Rattle.lru_disk_cache.specs.Reserved.{KeepsReserved, held_size}
use Rattle.lru_disk_cache.specs.Moving.{IsSized}
use Rattle.lru_disk_cache.specs.Store.{Disk, IsStore, room_beside}
use Rattle.listed_files.specs.Told.{ToldStored, ToldSized}
use Rattle.listed_files.proofs.Tolds.{told_sized}
use Rattle.lru_disk_cache.proofs.Insides.{disk_of}
use Rattle.lru_disk_cache.proofs.Moves.{move_failed}
use Rattle.lru_disk_cache.proofs.Reserving.{named_reserved}
use Rattle.lru_disk_cache.proofs.Stores.{insert_store}
use Rattle.lru_disk_cache.proofs.DiskSteps.{step_moved}
use Rattle.listed_files.specs.Disk.{KeepsSpoiled}
use Rattle.lru_disk_cache.proofs.Spoiled.{these_spoiled, fresh_named, fresh_key}
use Rattle.lru_disk_cache.proofs.cache.LruDiskCache.insert_file.Given.{Over}
use Rattle.lru_disk_cache.proofs.cache.LruDiskCache.insert_file.Goals.{After-move_in}
use Rattle.lru_disk_cache.proofs.cache.LruDiskCache.insert_file.Goals as goal

-- ---- behind the move, whatever it answered

untouched : (g : Over) (c : After-move_in g) → Became (KeepsReserved c.self.inside.pending)
    (g.F.Folder.held c.self.inside.folder).files (g.F.Folder.held c.move_in.new.folder).files
untouched g c =
    named_reserved c.self.inside.path c.self.inside.root c.in-Ok-arrival_from.arrival.from
    c.in-Ok-arrival_from.arrival.path c.args.key.now c.self.inside.table.entries c.self.inside.pending
    (g.F.Folder.held c.self.inside.folder).files (g.F.Folder.held c.move_in.new.folder).files
    c.self.invariant.root (ap names_temporary (c.in-Ok-arrival_from.ensures.from
    ∙ c.in-Ok-of.ensures.text) ∙ c.requires.named) c.in-Ok-arrival_from.ensures.path
    c.in-Ok-admit.ensures.key c.self.invariant.stands.keys c.self.invariant.reserved
    c.move_in.ensures.untouched

stands : (g : Over) (c : After-move_in g) → IsStore (g.F.Folder.held c.move_in.new.folder)
    (disk_of c.self.inside.path c.self.inside.root c.move_in.new.table c.self.inside.pending)
stands g c =
    let room : c.in-Ok-arrival_from.arrival.limit + c.in-Ok-arrival_from.arrival.size + held_size
    c.self.inside.pending ≤ c.self.inside.table.capacity =
    omega (
      arith,
      c.in-Ok-arrival_from.ensures.key.1,
      c.in-Ok-arrival_from.ensures.key.2,
      c.room_beside-limit.ensures,
      c.in-Ok-admit.ensures.room,
      ap (λ s. held_size s.disk.pending) c.self.view_is,
      ap (λ s. s.disk.capacity) c.self.view_is,
    ) in
    insert_store c.self.inside.path c.self.inside.root c.self.inside.pending
    (g.F.Folder.held c.move_in.new.folder) (g.F.Folder.held c.self.inside.folder)
    c.in-Ok-arrival_from.arrival.key c.in-Ok-arrival_from.arrival.size c.in-Ok-arrival_from.arrival.limit
    c.self.inside.table c.move_in.new.table c.move_in.result c.self.invariant room c.move_in.ensures.ok
    c.move_in.ensures.err c.move_in.ensures.stands (untouched g c)

reserved : (g : Over) (c : After-move_in g) → Became (KeepsReserved c.args.self.now.disk.pending)
    (g.F.Folder.held c.args.self.now.folder).files (g.F.Folder.held c.move_in.new.folder).files
reserved g c =
    subst (λ o. Became (KeepsReserved c.args.self.now.disk.pending) o
    (g.F.Folder.held c.move_in.new.folder).files) c.path_size.ensures.files
    (subst (λ (d : Disk). Became (KeepsReserved d.pending) (g.F.Folder.held c.path_size.new.self.folder).files
    (g.F.Folder.held c.move_in.new.folder).files) c.path_size.ensures.disk
    (subst (λ s. Became (KeepsReserved s.disk.pending) (g.F.Folder.held s.folder).files
    (g.F.Folder.held c.move_in.new.folder).files) c.self.view_is (untouched g c)))

stays : (g : Over) (c : After-move_in g)
    → Became (KeepsSpoiled c.args.self.now.disk.root c.args.self.now.spoiled)
    (g.F.Folder.held c.args.self.now.folder).files (g.F.Folder.held c.move_in.new.folder).files
stays g c =
    subst (λ o. Became (KeepsSpoiled c.args.self.now.disk.root c.args.self.now.spoiled) o
    (g.F.Folder.held c.move_in.new.folder).files) c.path_size.ensures.files
    (subst (λ (d : Disk). Became (KeepsSpoiled d.root c.args.self.now.spoiled)
    (g.F.Folder.held c.path_size.new.self.folder).files (g.F.Folder.held c.move_in.new.folder).files)
    c.path_size.ensures.disk
    (subst (λ n. Became (KeepsSpoiled c.path_size.new.self.disk.root n)
    (g.F.Folder.held c.path_size.new.self.folder).files (g.F.Folder.held c.move_in.new.folder).files)
    c.path_size.ensures.unspoiled
    (subst (λ s. Became (KeepsSpoiled s.disk.root s.spoiled) (g.F.Folder.held s.folder).files
    (g.F.Folder.held c.move_in.new.folder).files) c.self.view_is
    (these_spoiled c.self.inside.root c.in-Ok-arrival_from.arrival.from c.in-Ok-arrival_from.arrival.path
    c.self.inside.table.entries c.self.inside.spoiled (g.F.Folder.held c.self.inside.folder).files
    (g.F.Folder.held c.move_in.new.folder).files
    (fresh_named c.self.inside.path c.self.inside.root c.in-Ok-arrival_from.arrival.from
    c.self.inside.spoiled c.self.invariant.root (ap names_temporary (c.in-Ok-arrival_from.ensures.from
    ∙ c.in-Ok-of.ensures.text) ∙ c.requires.named))
    (fresh_key c.self.inside.root c.in-Ok-arrival_from.arrival.path c.args.key.now c.self.inside.spoiled
    c.in-Ok-arrival_from.ensures.path c.in-Ok-admit.ensures.key) c.self.invariant.stands.keys
    c.move_in.ensures.untouched))))

-- what the folder's counts tell, said of the cache as it was
told : (g : Over) (c : After-move_in g) (r : Result (Unit {0}) FolderFault)
    → WhereTold (g.F.Folder.held c.self.inside.folder) (ToldStored r c.in-Ok-arrival_from.arrival.key c.in-Ok-arrival_from.arrival.limit
    c.self.inside.table.entries c.move_in.new.table.entries (g.F.Folder.failures c.self.inside.folder)
    (g.F.Folder.failures c.move_in.new.folder))
    → WhereTold (g.F.Folder.held c.args.self.now.folder) (ToldSized r c.args.key.now (room_beside c.args.self.now.disk)
    (IsSized c.args.path.now (g.F.Folder.held c.args.self.now.folder)) c.args.self.now.disk.entries
    c.move_in.new.table.entries (g.F.Folder.failures c.args.self.now.folder)
    (g.F.Folder.failures c.move_in.new.folder))
told g c r h = λ files told.
    let arrival = c.in-Ok-arrival_from.arrival in let now = c.args.self.now in
    let entries = c.move_in.new.table.entries in let after = g.F.Folder.failures c.move_in.new.folder in
    let measured = c.path_size.new.self in
    let view = subst (λ s. WhereTold (g.F.Folder.held s.folder) (ToldStored r arrival.key arrival.limit
    s.disk.entries entries (g.F.Folder.failures s.folder) after)) c.self.view_is h in
    let disk = subst (λ (d : Disk). ToldStored r arrival.key arrival.limit d.entries entries
    (g.F.Folder.failures measured.folder) after) c.path_size.ensures.disk
    (view files (c.path_size.ensures.files ∙ told)) in
    let counts = subst (λ f. ToldStored r arrival.key arrival.limit now.disk.entries entries f after)
    (c.in-Ok.ensures.failed files told) disk in
    told_sized c.args.key.now (room_beside c.args.self.now.disk)
    (IsSized c.args.path.now (g.F.Folder.held c.args.self.now.folder)) c.in-Ok.size now.disk.entries entries
    (g.F.Folder.failures now.folder) after r c.in-Ok.ensures.size
    (subst (λ l. ToldStored r c.args.key.now l now.disk.entries entries
    (g.F.Folder.failures now.folder) after) (c.in-Ok-arrival_from.ensures.key.2 ∙ (c.room_beside-limit.ensures
    ∙ ap (λ (d : Disk). room_beside d c.in-Ok.size) c.path_size.ensures.disk))
    (subst (λ k. ToldStored r k arrival.limit now.disk.entries entries (g.F.Folder.failures now.folder) after)
    (c.in-Ok-arrival_from.ensures.key.0) counts))

pub invariant_of-self : goal.invariant_of-self
invariant_of-self g c = stands g (goal.at.invariant_of-self g c).After-move_in

pub invariant_of-self-2 : goal.invariant_of-self-2
invariant_of-self-2 g c = stands g (goal.at.invariant_of-self-2 g c).After-move_in

pub returns-in-Ok-move_in-clause-stands : goal.returns-in-Ok-move_in-clause-stands
returns-in-Ok-move_in-clause-stands g c =
    stands g (goal.at.returns-in-Ok-move_in-clause-stands g c).After-move_in

pub returns-clause-stands : goal.returns-clause-stands
returns-clause-stands g c = stands g (goal.at.returns-clause-stands g c).After-move_in

pub returns-in-Ok-move_in-clause-reserved : goal.returns-in-Ok-move_in-clause-reserved
returns-in-Ok-move_in-clause-reserved g c =
    reserved g (goal.at.returns-in-Ok-move_in-clause-reserved g c).After-move_in

pub returns-clause-reserved : goal.returns-clause-reserved
returns-clause-reserved g c = reserved g (goal.at.returns-clause-reserved g c).After-move_in

pub returns-in-Ok-move_in-clause-stays : goal.returns-in-Ok-move_in-clause-stays
returns-in-Ok-move_in-clause-stays g c =
    stays g (goal.at.returns-in-Ok-move_in-clause-stays g c).After-move_in

pub returns-clause-stays : goal.returns-clause-stays
returns-clause-stays g c = stays g (goal.at.returns-clause-stays g c).After-move_in

pub returns-in-Err-clause-fails : goal.returns-in-Err-clause-fails
returns-in-Err-clause-fails g c =
    move_failed c.args.key.now c.args.path.now c.args.self.now.disk c.path_size.new.self.disk c.in-Err.error
    (g.F.Folder.held c.args.self.now.folder) (g.F.Folder.held c.path_size.new.self.folder)
    c.path_size.ensures.disk (sym c.is_key.ensures ∙ c.if-not-is_key.false) c.in-Err.ensures.fails

pub returns-in-Ok-move_in-clause-ok : goal.returns-in-Ok-move_in-clause-ok
returns-in-Ok-move_in-clause-ok g c = search rules

pub returns-in-Ok-move_in-clause-in_step : goal.returns-in-Ok-move_in-clause-in_step
returns-in-Ok-move_in-clause-in_step g c =
    step_moved c.args.self.now.disk _ (g.F.Folder.held c.args.self.now.folder)
    (g.F.Folder.held c.move_in.new.folder) c.args.key.now c.args.path.now c.in-Ok-admit.ensures.key
    c.requires.avoids c.shown.ensures.distinct (returns-in-Ok-move_in-clause-ok g c)

pub returns-in-Ok-move_in-clause-failed : goal.returns-in-Ok-move_in-clause-failed
returns-in-Ok-move_in-clause-failed g c =
    told g (goal.at.returns-in-Ok-move_in-clause-failed g c).After-move_in (Ok (tt {0}))
    c.in-Ok-move_in.ensures.failed

pub returns-clause-failed : goal.returns-clause-failed
returns-clause-failed g c =
    told g (goal.at.returns-clause-failed g c).After-move_in (Err c.in-Err-move_in.fault)
    c.in-Err-move_in.ensures.failed

pub returns-in-Err-clause-failed : goal.returns-in-Err-clause-failed
returns-in-Err-clause-failed g c = λ files told.
    inl (ap (λ (d : Disk). d.entries) c.path_size.ensures.disk, c.in-Err.ensures.failed files told)
