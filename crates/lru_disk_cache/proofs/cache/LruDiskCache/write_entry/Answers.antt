use Rattle.std.proofs.Common.{◌≡◌, true, false, IfErr, OnOk, OnErr, refl, sym, subst}
use Rattle.folders.specs.Files.{appended, PartAppended}
use Rattle.folders.specs.Held.{Holds, Became, BecameBy, Lacks}
use Rattle.folders.specs.Changed.{ButAt}
use Rattle.listed_files.specs.Disk.{Keeps}
use Rattle.lru_disk_cache.specs.Reserved.{KeepsReserved, is_pending, without_number}
use Rattle.lru_disk_cache.specs.Adding.{entry_path, WriteFails}
use Rattle.listed_files.proofs.Fills.{on_ok, keeps_avoided, temp_avoids}
use Rattle.lru_disk_cache.proofs.Reserving.{temp_found, temp_none, write_fails, added_store}
use Rattle.lru_disk_cache.proofs.Others.{others_at}
use Rattle.lru_disk_cache.specs.Store.{DiskInStep}
use Rattle.lru_disk_cache.proofs.DiskSteps.{step_appended}
use Rattle.lru_disk_cache.proofs.Insides.{disk_of}
use Rattle.listed_files.specs.Disk.{KeepsSpoiled}
use Rattle.lru_disk_cache.proofs.Spoiled.{at_spoiled, fresh_temp}
use Rattle.lru_disk_cache.proofs.cache.LruDiskCache.write_entry.Goals as goal

pub returns-in_default-clause-fails : goal.returns-in_default-clause-fails
returns-in_default-clause-fails g c = (
  refl,
  refl,
  subst (λ s. is_pending c.args.entry.now s.disk.pending ≡ false) c.self.view_is
      (temp_none c.args.entry.now c.self.inside.pending (sym c.in_default.ensures.temp)),
)

pub invariant_of-self : goal.invariant_of-self
invariant_of-self g c =
    let t = temp_found c.self.inside.root c.in-Some.temp.now c.args.entry.now c.self.inside.pending
    c.self.invariant.reserved (sym c.in-Some.ensures.temp) in
    added_store (disk_of c.self.inside.path c.self.inside.root c.self.inside.table c.self.inside.pending)
    c.in-Some.temp.now c.args.entry.now.number
    (g.F.Folder.held c.self.inside.folder) (g.F.Folder.held c.add_to.new.folder) c.self.invariant t.0 t.2
    c.add_to.ensures.others c.add_to.ensures.there

pub returns-clause-stands : goal.returns-clause-stands
returns-clause-stands g c = invariant_of-self g c

pub returns-clause-ok : goal.returns-clause-ok
returns-clause-ok g c =
    let t = temp_found c.self.inside.root c.in-Some.temp.now c.args.entry.now c.self.inside.pending
    c.self.invariant.reserved (sym c.in-Some.ensures.temp) in
    subst (λ s. OnOk c.add_to.result (BecameBy
    (appended (entry_path s.disk c.args.entry.now) c.args.bytes.now)
    (g.F.Folder.held s.folder).files (g.F.Folder.held c.add_to.new.folder).files)) c.self.view_is
    (subst (λ p. OnOk c.add_to.result
    (BecameBy (appended p c.args.bytes.now) (g.F.Folder.held c.self.inside.folder).files
    (g.F.Folder.held c.add_to.new.folder).files)) t.0 c.add_to.ensures.ok)

pub returns-clause-pending : goal.returns-clause-pending
returns-clause-pending g c =
    let t = temp_found c.self.inside.root c.in-Some.temp.now c.args.entry.now c.self.inside.pending
    c.self.invariant.reserved (sym c.in-Some.ensures.temp) in
    subst (λ s. OnOk c.add_to.result (is_pending c.args.entry.now s.disk.pending ≡ true)) c.self.view_is
    (on_ok c.add_to.result t.1)

pub returns-clause-there : goal.returns-clause-there
returns-clause-there g c =
    let t = temp_found c.self.inside.root c.in-Some.temp.now c.args.entry.now c.self.inside.pending
    c.self.invariant.reserved (sym c.in-Some.ensures.temp) in
    subst (λ s. OnOk c.add_to.result (Holds (g.F.Folder.held s.folder)
    (λ files. ¬ (Lacks (entry_path s.disk c.args.entry.now) files)))) c.self.view_is
    (subst (λ p. OnOk c.add_to.result (Holds (g.F.Folder.held c.self.inside.folder)
    (λ files. ¬ (Lacks p files)))) t.0 c.add_to.ensures.found)

pub returns-clause-part : goal.returns-clause-part
returns-clause-part g c =
    let t = temp_found c.self.inside.root c.in-Some.temp.now c.args.entry.now c.self.inside.pending
    c.self.invariant.reserved (sym c.in-Some.ensures.temp) in
    subst (λ s. OnErr c.add_to.result
    (Became (PartAppended (entry_path s.disk c.args.entry.now) c.args.bytes.now)
    (g.F.Folder.held s.folder).files (g.F.Folder.held c.add_to.new.folder).files)) c.self.view_is
    (subst (λ p. OnErr c.add_to.result
    (Became (PartAppended p c.args.bytes.now) (g.F.Folder.held c.self.inside.folder).files
    (g.F.Folder.held c.add_to.new.folder).files)) t.0 c.add_to.ensures.part)

pub returns-clause-fails : goal.returns-clause-fails
returns-clause-fails g c =
    let t = temp_found c.self.inside.root c.in-Some.temp.now c.args.entry.now c.self.inside.pending
    c.self.invariant.reserved (sym c.in-Some.ensures.temp) in
    subst (λ s. IfErr c.add_to.result
    (λ x. WriteFails c.args.entry.now x s.disk
    (disk_of c.self.inside.path c.self.inside.root c.self.inside.table c.self.inside.pending)
    (g.F.Folder.held s.folder) (g.F.Folder.held c.add_to.new.folder)))
    c.self.view_is (write_fails c.args.entry.now
    (disk_of c.self.inside.path c.self.inside.root c.self.inside.table c.self.inside.pending)
    (disk_of c.self.inside.path c.self.inside.root c.self.inside.table c.self.inside.pending)
    c.in-Some.temp.now c.add_to.result (g.F.Folder.held c.self.inside.folder)
    (g.F.Folder.held c.add_to.new.folder) c.self.invariant refl t.0 t.1
    c.add_to.ensures.fails)

pub returns-clause-others : goal.returns-clause-others
returns-clause-others g c =
    let t = temp_found c.self.inside.root c.in-Some.temp.now c.args.entry.now c.self.inside.pending
    c.self.invariant.reserved (sym c.in-Some.ensures.temp) in
    subst (λ s. Became (ButAt (entry_path s.disk c.args.entry.now)) (g.F.Folder.held s.folder).files
    (g.F.Folder.held c.add_to.new.folder).files) c.self.view_is
    (subst (λ p. Became (ButAt p) (g.F.Folder.held c.self.inside.folder).files
    (g.F.Folder.held c.add_to.new.folder).files) t.0 c.add_to.ensures.others)

pub returns-clause-kept : goal.returns-clause-kept
returns-clause-kept g c =
    let t = temp_found c.self.inside.root c.in-Some.temp.now c.args.entry.now c.self.inside.pending
    c.self.invariant.reserved (sym c.in-Some.ensures.temp) in
    subst (λ s. Became (Keeps s.disk.root s.disk.entries) (g.F.Folder.held s.folder).files
    (g.F.Folder.held c.add_to.new.folder).files) c.self.view_is
    (keeps_avoided c.self.inside.root c.in-Some.temp.now c.self.inside.table.entries
    (g.F.Folder.held c.self.inside.folder).files (g.F.Folder.held c.add_to.new.folder).files
    (temp_avoids c.self.inside.root c.in-Some.temp.now c.args.entry.now.number c.self.inside.table.entries
    t.2 t.0 c.self.invariant.stands.keys) c.add_to.ensures.others)

pub returns-clause-reserved : goal.returns-clause-reserved
returns-clause-reserved g c =
    let t = temp_found c.self.inside.root c.in-Some.temp.now c.args.entry.now c.self.inside.pending
    c.self.invariant.reserved (sym c.in-Some.ensures.temp) in
    subst (λ s. Became (KeepsReserved (without_number c.args.entry.now.number s.disk.pending))
    (g.F.Folder.held s.folder).files (g.F.Folder.held c.add_to.new.folder).files) c.self.view_is
    (others_at c.self.inside.root c.in-Some.temp.now c.args.entry.now.number c.self.inside.pending
    (g.F.Folder.held c.self.inside.folder).files (g.F.Folder.held c.add_to.new.folder).files t.0 t.2
    c.self.invariant.reserved c.add_to.ensures.others)

pub returns-clause-in_step : goal.returns-clause-in_step
returns-clause-in_step g c =
    let t = temp_found c.self.inside.root c.in-Some.temp.now c.args.entry.now c.self.inside.pending
    c.self.invariant.reserved (sym c.in-Some.ensures.temp) in
    subst (λ s. DiskInStep (g.F.Folder.held s.folder) s.disk
    → OnOk c.add_to.result (DiskInStep (g.F.Folder.held c.add_to.new.folder)
    (disk_of c.self.inside.path c.self.inside.root c.self.inside.table c.self.inside.pending))) c.self.view_is
    (step_appended c.add_to.result
    (disk_of c.self.inside.path c.self.inside.root c.self.inside.table c.self.inside.pending)
    (g.F.Folder.held c.self.inside.folder) (g.F.Folder.held c.add_to.new.folder)
    c.in-Some.temp.now c.args.bytes.now c.args.entry.now.number t.0 t.2 c.add_to.ensures.ok)

pub returns-clause-stays : goal.returns-clause-stays
returns-clause-stays g c =
    let t = temp_found c.self.inside.root c.in-Some.temp.now c.args.entry.now c.self.inside.pending
    c.self.invariant.reserved (sym c.in-Some.ensures.temp) in
    subst (λ s. Became (KeepsSpoiled s.disk.root s.spoiled) (g.F.Folder.held s.folder).files
    (g.F.Folder.held c.add_to.new.folder).files) c.self.view_is
    (at_spoiled c.self.inside.root c.in-Some.temp.now c.self.inside.spoiled (g.F.Folder.held c.self.inside.folder).files
    (g.F.Folder.held c.add_to.new.folder).files
    (fresh_temp c.self.inside.root c.in-Some.temp.now c.args.entry.now.number c.self.inside.spoiled t.0 t.2)
    c.add_to.ensures.others)
