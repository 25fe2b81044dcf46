use Rattle.std.proofs.Common.{rules, ◌≡◌, ◌+◌, ◌≤◌, ◌++◌, Some, Result, Ok, Err, inl, sym, ap, subst, ◌∙◌}
use Rattle.std.proofs.Common.{arith}
use Rattle.dist_types.specs.declared.folder_fault.FolderFault.{FolderFault}
use Rattle.folders.specs.Failures.{WhereTold}
use Rattle.folders.specs.Files.{size_at}
use Rattle.folders.specs.Held.{Became}
use Rattle.listed_files.specs.Key.{is_key, temp_name}
use Rattle.listed_files.specs.Entries.{Listed, total}
use Rattle.lru_disk_cache.specs.Reserved.{KeepsReserved, held_size, without_number}
use Rattle.lru_disk_cache.specs.Store.{Disk, IsStore}
use Rattle.lru_disk_cache.specs.Adding.{HasSize, room_for}
use Rattle.listed_files.specs.Told.{ToldStored, ToldSized}
use Rattle.listed_files.proofs.Tolds.{told_sized}
use Rattle.lru_disk_cache.proofs.Insides.{disk_of}
use Rattle.listed_files.proofs.Fills.{temp_apart, temp_avoided}
use Rattle.lru_disk_cache.proofs.Others.{others_these}
use Rattle.lru_disk_cache.proofs.Stores.{stored_fits, closed_store, broken_store}
use Rattle.lru_disk_cache.proofs.DiskSteps.{step_committed}
use Rattle.listed_files.specs.Disk.{KeepsSpoiled}
use Rattle.lru_disk_cache.proofs.Spoiled.{these_spoiled, fresh_temp, fresh_key}
use Rattle.lru_disk_cache.proofs.cache.LruDiskCache.commit_entry.Given.{Over}
use Rattle.lru_disk_cache.proofs.cache.LruDiskCache.commit_entry.Goals.{After-fill, After-doubt}
use Rattle.lru_disk_cache.proofs.cache.LruDiskCache.commit_entry.Goals as goal

pub fill-requires-clause-key : goal.fill-requires-clause-key
fill-requires-clause-key g c = ap is_key c.in-Ok-arrival_of.ensures.key.0
    ∙ (ap is_key c.key.ensures.key ∙ c.in-Ok.ensures.key)

pub fill-requires-clause-apart : goal.fill-requires-clause-apart
fill-requires-clause-apart g c =
    temp_apart c.self.inside.root c.in-Ok-arrival_of.arrival.path c.in-Ok-arrival_of.arrival.key
    c.in-Ok-arrival_of.arrival.from c.in-Ok-arrival_of.ensures.keyless
    (c.in-Ok-arrival_of.ensures.path ∙ ap (λ k. c.self.inside.root ++ k)
    (sym c.in-Ok-arrival_of.ensures.key.0)) (ap is_key c.in-Ok-arrival_of.ensures.key.0
    ∙ (ap is_key c.key.ensures.key ∙ c.in-Ok.ensures.key))

pub fill-requires-clause-avoids : goal.fill-requires-clause-avoids
fill-requires-clause-avoids g c =
    temp_avoided c.self.inside.root c.in-Ok-arrival_of.arrival.from c.self.inside.table.entries
    c.in-Ok-arrival_of.ensures.keyless c.self.invariant.stands.keys

pub fill-requires-clause-written : goal.fill-requires-clause-written
fill-requires-clause-written g c = λ files told.
    let now = subst (λ s. HasSize s.disk c.args.entry.now (g.F.Folder.held s.folder) c.in-Ok.size)
    (sym c.self.view_is) c.in-Ok.ensures.now in
    ap (size_at files) (c.in-Ok-arrival_of.ensures.from
    ∙ ap (λ n. c.self.inside.root ++ temp_name n) c.number-number.ensures)
    ∙ (now files told ∙ ap Some (sym c.in-Ok-arrival_of.ensures.key.1))

-- ---- behind the move, whatever it answered

untouched : (g : Over) (c : After-fill g)
    → Became (KeepsReserved (without_number c.number-number.result c.self.inside.pending))
    (g.F.Folder.held c.self.inside.folder).files (g.F.Folder.held c.fill.new.folder).files
untouched g c =
    others_these c.self.inside.root c.in-Ok-arrival_of.arrival.from c.in-Ok-arrival_of.arrival.path
    c.key.result.now c.self.inside.table.entries c.number-number.result c.self.inside.pending
    (g.F.Folder.held c.self.inside.folder).files (g.F.Folder.held c.fill.new.folder).files
    c.in-Ok-arrival_of.ensures.from c.in-Ok-arrival_of.ensures.number c.in-Ok-arrival_of.ensures.path
    (ap is_key c.key.ensures.key ∙ c.in-Ok.ensures.key) c.self.invariant.stands.keys
    c.self.invariant.reserved c.fill.ensures.untouched

reserved : (g : Over) (c : After-fill g)
    → Became (KeepsReserved (without_number c.args.entry.now.number c.args.self.now.disk.pending))
    (g.F.Folder.held c.args.self.now.folder).files (g.F.Folder.held c.fill.new.folder).files
reserved g c =
    subst (λ o. Became (KeepsReserved (without_number c.args.entry.now.number c.args.self.now.disk.pending)) o
    (g.F.Folder.held c.fill.new.folder).files) c.entry_size.ensures.files
    (subst (λ (d : Disk). Became (KeepsReserved (without_number c.args.entry.now.number d.pending))
    (g.F.Folder.held c.entry_size.new.self.folder).files (g.F.Folder.held c.fill.new.folder).files)
    c.entry_size.ensures.disk
    (subst (λ s. Became (KeepsReserved (without_number c.args.entry.now.number s.disk.pending))
    (g.F.Folder.held s.folder).files (g.F.Folder.held c.fill.new.folder).files) c.self.view_is
    (subst (λ n. Became (KeepsReserved (without_number n c.self.inside.pending))
    (g.F.Folder.held c.self.inside.folder).files (g.F.Folder.held c.fill.new.folder).files)
    c.number-number.ensures (untouched g c))))

stays : (g : Over) (c : After-fill g)
    → Became (KeepsSpoiled c.args.self.now.disk.root c.args.self.now.spoiled)
    (g.F.Folder.held c.args.self.now.folder).files (g.F.Folder.held c.fill.new.folder).files
stays g c =
    subst (λ o. Became (KeepsSpoiled c.args.self.now.disk.root c.args.self.now.spoiled) o
    (g.F.Folder.held c.fill.new.folder).files) c.entry_size.ensures.files
    (subst (λ (d : Disk). Became (KeepsSpoiled d.root c.args.self.now.spoiled)
    (g.F.Folder.held c.entry_size.new.self.folder).files (g.F.Folder.held c.fill.new.folder).files)
    c.entry_size.ensures.disk
    (subst (λ n. Became (KeepsSpoiled c.entry_size.new.self.disk.root n)
    (g.F.Folder.held c.entry_size.new.self.folder).files (g.F.Folder.held c.fill.new.folder).files)
    c.entry_size.ensures.unspoiled
    (subst (λ s. Became (KeepsSpoiled s.disk.root s.spoiled) (g.F.Folder.held s.folder).files
    (g.F.Folder.held c.fill.new.folder).files) c.self.view_is
    (these_spoiled c.self.inside.root c.in-Ok-arrival_of.arrival.from c.in-Ok-arrival_of.arrival.path
    c.self.inside.table.entries c.self.inside.spoiled (g.F.Folder.held c.self.inside.folder).files
    (g.F.Folder.held c.fill.new.folder).files
    (fresh_temp c.self.inside.root c.in-Ok-arrival_of.arrival.from c.number-number.result
    c.self.inside.spoiled c.in-Ok-arrival_of.ensures.from c.in-Ok-arrival_of.ensures.number)
    (fresh_key c.self.inside.root c.in-Ok-arrival_of.arrival.path c.key.result.now c.self.inside.spoiled
    c.in-Ok-arrival_of.ensures.path (ap is_key c.key.ensures.key ∙ c.in-Ok.ensures.key))
    c.self.invariant.stands.keys c.fill.ensures.untouched))))

-- what the folder's counts tell, said of the cache as it was
told : (g : Over) (c : After-fill g) (r : Result (Unit {0}) FolderFault)
    → WhereTold (g.F.Folder.held c.self.inside.folder) (ToldStored r c.in-Ok-arrival_of.arrival.key c.in-Ok-arrival_of.arrival.limit
    c.self.inside.table.entries c.fill.new.table.entries (g.F.Folder.failures c.self.inside.folder)
    (g.F.Folder.failures c.fill.new.folder))
    → WhereTold (g.F.Folder.held c.args.self.now.folder) (ToldSized r c.args.entry.now.key (room_for c.args.self.now.disk c.args.entry.now)
    (HasSize c.args.self.now.disk c.args.entry.now (g.F.Folder.held c.args.self.now.folder)) c.args.self.now.disk.entries
    c.fill.new.table.entries (g.F.Folder.failures c.args.self.now.folder)
    (g.F.Folder.failures c.fill.new.folder))
told g c r h = λ files told.
    let arrival = c.in-Ok-arrival_of.arrival in let now = c.args.self.now in
    let entries = c.fill.new.table.entries in let after = g.F.Folder.failures c.fill.new.folder in
    let measured = c.entry_size.new.self in
    let view = subst (λ s. WhereTold (g.F.Folder.held s.folder) (ToldStored r arrival.key arrival.limit
    s.disk.entries entries (g.F.Folder.failures s.folder) after)) c.self.view_is h in
    let disk = subst (λ (d : Disk). ToldStored r arrival.key arrival.limit d.entries entries
    (g.F.Folder.failures measured.folder) after) c.entry_size.ensures.disk
    (view files (c.entry_size.ensures.files ∙ told)) in
    let counts = subst (λ f. ToldStored r arrival.key arrival.limit now.disk.entries entries f after)
    (c.in-Ok.ensures.failed files told) disk in
    told_sized c.args.entry.now.key (room_for c.args.self.now.disk c.args.entry.now)
    (HasSize c.args.self.now.disk c.args.entry.now (g.F.Folder.held c.args.self.now.folder)) c.in-Ok.size now.disk.entries entries
    (g.F.Folder.failures now.folder) after r c.in-Ok.ensures.size
    (subst (λ l. ToldStored r c.args.entry.now.key l now.disk.entries entries
    (g.F.Folder.failures now.folder) after) (c.in-Ok-arrival_of.ensures.key.2 ∙ (c.in-Ok-admit_entry.ensures.room
    ∙ ap (λ (d : Disk). room_for d c.args.entry.now c.in-Ok.size) c.entry_size.ensures.disk))
    (subst (λ k. ToldStored r k arrival.limit now.disk.entries entries (g.F.Folder.failures now.folder) after)
    (c.in-Ok-arrival_of.ensures.key.0 ∙ c.key.ensures.key) counts))

pub invariant_of-self : goal.invariant_of-self
invariant_of-self g c =
    let beside : held_size (without_number c.number-number.result c.self.inside.pending) ≡ held_size
    (without_number c.args.entry.now.number c.entry_size.new.self.disk.pending) = λ i.
    held_size (without_number (c.number-number.ensures i) ((c.self.view_is i).disk.pending)) in
    let room : c.in-Ok-arrival_of.arrival.limit + c.in-Ok-arrival_of.arrival.size + held_size
    (without_number c.number-number.result c.self.inside.pending) ≤ c.self.inside.table.capacity =
    omega (
      arith,
      beside,
      c.in-Ok-arrival_of.ensures.key.1,
      c.in-Ok-arrival_of.ensures.key.2,
      c.in-Ok-admit_entry.ensures.fits,
      ap (λ s. s.disk.capacity) c.self.view_is,
    ) in
    let fits = subst (λ (t : Listed). total t.entries + held_size
    (without_number c.number-number.result c.self.inside.pending) ≤ t.capacity)
    (sym c.in-Ok-fill.ensures.ok)
    (stored_fits c.self.inside.path c.self.inside.root
    (without_number c.number-number.result c.self.inside.pending) c.in-Ok-arrival_of.arrival.key
    c.in-Ok-arrival_of.arrival.size c.in-Ok-arrival_of.arrival.limit c.self.inside.table.capacity
    c.self.inside.table.entries room) in
    closed_store c.self.inside.path c.self.inside.root c.self.inside.pending c.settle.new.self
    c.number-number.result (g.F.Folder.held c.self.inside.folder) (g.F.Folder.held c.fill.new.folder)
    c.self.inside.table c.fill.new.table c.self.invariant c.settle.ensures c.fill.ensures.stands fits
    (untouched g (goal.at.invariant_of-self g c).After-fill)

pub returns-in-Ok-fill-clause-stands : goal.returns-in-Ok-fill-clause-stands
returns-in-Ok-fill-clause-stands g c = invariant_of-self g c

-- where it failed
broken : (g : Over) (c : After-doubt g)
    → Became (KeepsReserved (without_number c.number-number.result c.self.inside.pending))
    (g.F.Folder.held c.self.inside.folder).files (g.F.Folder.held c.fill.new.folder).files
    → IsStore (g.F.Folder.held c.fill.new.folder)
    (disk_of c.self.inside.path c.self.inside.root c.fill.new.table c.doubt.new.self)
broken g c temps =
    broken_store c.self.inside.path c.self.inside.root c.self.inside.pending c.doubt.new.self
    c.number-number.result c.in-Ok-arrival_of.arrival.limit c.in-Ok-arrival_of.arrival.key
    (g.F.Folder.held c.self.inside.folder) (g.F.Folder.held c.fill.new.folder) c.self.inside.table
    c.fill.new.table c.self.invariant c.doubt.ensures c.in-Err-fill.ensures.err c.fill.ensures.stands
    temps

pub invariant_of-self-in-Err-fill : goal.invariant_of-self-in-Err-fill
invariant_of-self-in-Err-fill g c =
    let at = goal.at.invariant_of-self-in-Err-fill g c in broken g at.After-doubt (untouched g at.After-fill)

pub returns-clause-stands : goal.returns-clause-stands
returns-clause-stands g c =
    let at = goal.at.returns-clause-stands g c in broken g at.After-doubt (untouched g at.After-fill)

pub returns-in-Ok-fill-clause-reserved : goal.returns-in-Ok-fill-clause-reserved
returns-in-Ok-fill-clause-reserved g c =
    reserved g (goal.at.returns-in-Ok-fill-clause-reserved g c).After-fill

pub returns-clause-reserved : goal.returns-clause-reserved
returns-clause-reserved g c = reserved g (goal.at.returns-clause-reserved g c).After-fill

pub returns-in-Ok-fill-clause-stays : goal.returns-in-Ok-fill-clause-stays
returns-in-Ok-fill-clause-stays g c = stays g (goal.at.returns-in-Ok-fill-clause-stays g c).After-fill

pub returns-clause-stays : goal.returns-clause-stays
returns-clause-stays g c = stays g (goal.at.returns-clause-stays g c).After-fill

pub returns-in-Ok-fill-clause-ok : goal.returns-in-Ok-fill-clause-ok
returns-in-Ok-fill-clause-ok g c = search rules

pub returns-in-Ok-fill-clause-in_step : goal.returns-in-Ok-fill-clause-in_step
returns-in-Ok-fill-clause-in_step g c =
    step_committed c.args.self.now.disk _ (g.F.Folder.held c.args.self.now.folder)
    (g.F.Folder.held c.fill.new.folder) c.args.entry.now c.shown.ensures.stands c.shown.ensures.distinct
    c.in-Ok.ensures.pending (returns-in-Ok-fill-clause-ok g c)

pub returns-in-Ok-fill-clause-failed : goal.returns-in-Ok-fill-clause-failed
returns-in-Ok-fill-clause-failed g c =
    told g (goal.at.returns-in-Ok-fill-clause-failed g c).After-fill (Ok (tt {0}))
    c.in-Ok-fill.ensures.failed

pub returns-clause-failed : goal.returns-clause-failed
returns-clause-failed g c =
    told g (goal.at.returns-clause-failed g c).After-fill (Err c.in-Err-fill.fault)
    c.in-Err-fill.ensures.failed

pub returns-in-Err-clause-failed : goal.returns-in-Err-clause-failed
returns-in-Err-clause-failed g c = λ files told.
    inl (ap (λ (d : Disk). d.entries) c.entry_size.ensures.disk, c.in-Err.ensures.failed files told)
