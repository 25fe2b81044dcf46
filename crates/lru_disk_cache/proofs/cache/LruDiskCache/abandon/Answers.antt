use Rattle.std.proofs.Common.{◌≡◌, ◌+◌, ◌≤◌, true, false, IfErr, OnOk, refl, sym, ap, subst, ◌∙◌, arith}
use Rattle.folders.specs.Files.{without}
use Rattle.folders.specs.Held.{Holds, Lacks, Became}
use Rattle.listed_files.specs.Entries.{total}
use Rattle.folders.specs.Changed.{ButAt, OnlyRemoved}
use Rattle.listed_files.specs.Disk.{Keeps}
use Rattle.listed_files.proofs.Spared.{only_removed}
use Rattle.lru_disk_cache.specs.Reserved.{KeepsReserved, held_size, is_pending, without_number}
use Rattle.lru_disk_cache.specs.Adding.{entry_path, abandoned, AbandonFails}
use Rattle.listed_files.proofs.Fills.{on_ok, counts_ok, keeps_avoided, temp_avoids, stands_kept}
use Rattle.lru_disk_cache.proofs.Stores.{closed_store}
use Rattle.lru_disk_cache.proofs.Others.{others_at}
use Rattle.lru_disk_cache.proofs.Reserving.{temp_found, temp_none, held_without, closed_ok}
use Rattle.lru_disk_cache.proofs.Reserving.{closed_fails}
use Rattle.lru_disk_cache.specs.Store.{DiskInStep}
use Rattle.lru_disk_cache.proofs.DiskSteps.{step_abandoned}
use Rattle.lru_disk_cache.proofs.Insides.{disk_of}
use Rattle.listed_files.specs.Disk.{KeepsSpoiled}
use Rattle.lru_disk_cache.proofs.Spoiled.{at_spoiled, fresh_temp}
use Rattle.lru_disk_cache.proofs.cache.LruDiskCache.abandon.Goals as goal

pub returns-in_default-clause-fails : goal.returns-in_default-clause-fails
returns-in_default-clause-fails g c = (
  refl,
  (
    refl,
    refl,
    subst (λ s. is_pending c.args.entry s.disk.pending ≡ false) c.self.view_is
        (temp_none c.args.entry c.self.inside.pending (sym c.in_default.ensures.temp)),
  ),
)

pub invariant_of-self : goal.invariant_of-self
invariant_of-self g c =
    let t = temp_found c.self.inside.root c.in-Some.temp.now c.args.entry c.self.inside.pending
    c.self.invariant.reserved (sym c.in-Some.ensures.temp) in
    let fits : total c.self.inside.table.entries + held_size
    (without_number c.args.entry.number c.self.inside.pending) ≤ c.self.inside.table.capacity =
    omega (arith, c.self.invariant.fits, held_without c.args.entry.number c.self.inside.pending) in
    closed_store c.self.inside.path c.self.inside.root c.self.inside.pending c.settle.new.self
    c.args.entry.number (g.F.Folder.held c.self.inside.folder)
    (g.F.Folder.held c.remove_at-answer.new.folder) c.self.inside.table c.self.inside.table
    c.self.invariant (c.settle.ensures ∙ ap (λ n. without_number n c.self.inside.pending) c.spend.ensures)
    (stands_kept c.self.inside.root c.self.inside.table.entries (g.F.Folder.held c.self.inside.folder)
    (g.F.Folder.held c.remove_at-answer.new.folder) c.self.invariant.stands
    (keeps_avoided c.self.inside.root c.in-Some.temp.now c.self.inside.table.entries
    (g.F.Folder.held c.self.inside.folder).files (g.F.Folder.held c.remove_at-answer.new.folder).files
    (temp_avoids c.self.inside.root c.in-Some.temp.now c.args.entry.number c.self.inside.table.entries t.2
    t.0 c.self.invariant.stands.keys) c.remove_at-answer.ensures.others)) fits
    (others_at c.self.inside.root c.in-Some.temp.now c.args.entry.number c.self.inside.pending
    (g.F.Folder.held c.self.inside.folder).files (g.F.Folder.held c.remove_at-answer.new.folder).files t.0 t.2
    c.self.invariant.reserved c.remove_at-answer.ensures.others)

pub returns-clause-stands : goal.returns-clause-stands
returns-clause-stands g c = invariant_of-self g c

pub returns-clause-ok : goal.returns-clause-ok
returns-clause-ok g c =
    subst (λ s. OnOk c.closed.result
    ((disk_of c.self.inside.path c.self.inside.root c.self.inside.table c.settle.new.self)
    ≡ abandoned s.disk c.args.entry)) c.self.view_is
    (on_ok c.closed.result (ap
    (λ ps. disk_of c.self.inside.path c.self.inside.root c.self.inside.table ps)
    (c.settle.ensures ∙ ap (λ n. without_number n c.self.inside.pending) c.spend.ensures)))

pub returns-clause-pending : goal.returns-clause-pending
returns-clause-pending g c =
    let t = temp_found c.self.inside.root c.in-Some.temp.now c.args.entry c.self.inside.pending
    c.self.invariant.reserved (sym c.in-Some.ensures.temp) in
    subst (λ s. OnOk c.closed.result (is_pending c.args.entry s.disk.pending ≡ true)) c.self.view_is
    (on_ok c.closed.result t.1)

pub returns-clause-gone : goal.returns-clause-gone
returns-clause-gone g c =
    let t = temp_found c.self.inside.root c.in-Some.temp.now c.args.entry c.self.inside.pending
    c.self.invariant.reserved (sym c.in-Some.ensures.temp) in
    subst (λ s. OnOk c.closed.result
    (Holds (g.F.Folder.held c.remove_at-answer.new.folder) (Lacks (entry_path s.disk c.args.entry))))
    c.self.view_is (subst (λ p.
    OnOk c.closed.result (Holds (g.F.Folder.held c.remove_at-answer.new.folder) (Lacks p))) t.0
    (closed_ok (Holds (g.F.Folder.held c.remove_at-answer.new.folder) (Lacks c.in-Some.temp.now))
    c.remove_at-answer.result c.closed.result c.closed.ensures c.remove_at-answer.ensures.gone))

pub returns-clause-exact : goal.returns-clause-exact
returns-clause-exact g c =
    let t = temp_found c.self.inside.root c.in-Some.temp.now c.args.entry c.self.inside.pending
    c.self.invariant.reserved (sym c.in-Some.ensures.temp) in
    subst (λ s. OnOk c.closed.result (Became (λ old new. new ≡ without (entry_path s.disk c.args.entry) old)
    (g.F.Folder.held s.folder).files (g.F.Folder.held c.remove_at-answer.new.folder).files))
    c.self.view_is (subst (λ p.
    OnOk c.closed.result (Became (λ old new. new ≡ without p old)
    (g.F.Folder.held c.self.inside.folder).files (g.F.Folder.held c.remove_at-answer.new.folder).files))
    t.0 (closed_ok (Became (λ old new. new ≡ without c.in-Some.temp.now old)
    (g.F.Folder.held c.self.inside.folder).files (g.F.Folder.held c.remove_at-answer.new.folder).files)
    c.remove_at-answer.result c.closed.result c.closed.ensures c.remove_at-answer.ensures.exact))

pub returns-clause-fails : goal.returns-clause-fails
returns-clause-fails g c =
    let t = temp_found c.self.inside.root c.in-Some.temp.now c.args.entry c.self.inside.pending
    c.self.invariant.reserved (sym c.in-Some.ensures.temp) in
    subst (λ s. IfErr c.closed.result
    (λ x. AbandonFails c.args.entry x.0 x.1 s.disk
    (disk_of c.self.inside.path c.self.inside.root c.self.inside.table c.settle.new.self)
    (g.F.Folder.held s.folder) (g.F.Folder.held c.remove_at-answer.new.folder)))
    c.self.view_is (closed_fails c.args.entry
    (disk_of c.self.inside.path c.self.inside.root c.self.inside.table c.self.inside.pending)
    (disk_of c.self.inside.path c.self.inside.root c.self.inside.table c.settle.new.self)
    c.remove_at-answer.result c.closed.result (g.F.Folder.held c.self.inside.folder)
    (g.F.Folder.held c.remove_at-answer.new.folder) c.closed.ensures c.remove_at-answer.ensures.found
    c.remove_at-answer.ensures.counts
    (ap (λ ps. disk_of c.self.inside.path c.self.inside.root c.self.inside.table ps)
    (c.settle.ensures ∙ ap (λ n. without_number n c.self.inside.pending) c.spend.ensures)) t.1)

pub returns-clause-steady : goal.returns-clause-steady
returns-clause-steady g c =
    subst (λ s. OnOk c.closed.result ((g.F.Folder.held c.remove_at-answer.new.folder).faults ≡
    (g.F.Folder.held s.folder).faults)) c.self.view_is
    (closed_ok ((g.F.Folder.held c.remove_at-answer.new.folder).faults ≡
    (g.F.Folder.held c.self.inside.folder).faults) c.remove_at-answer.result c.closed.result
    c.closed.ensures (counts_ok c.remove_at-answer.result (g.F.Folder.held c.self.inside.folder)
    (g.F.Folder.held c.remove_at-answer.new.folder) c.remove_at-answer.ensures.counts))

pub returns-clause-others : goal.returns-clause-others
returns-clause-others g c =
    let t = temp_found c.self.inside.root c.in-Some.temp.now c.args.entry c.self.inside.pending
    c.self.invariant.reserved (sym c.in-Some.ensures.temp) in
    subst (λ s. Became (ButAt (entry_path s.disk c.args.entry)) (g.F.Folder.held s.folder).files
    (g.F.Folder.held c.remove_at-answer.new.folder).files) c.self.view_is
    (subst (λ p. Became (ButAt p) (g.F.Folder.held c.self.inside.folder).files
    (g.F.Folder.held c.remove_at-answer.new.folder).files) t.0 c.remove_at-answer.ensures.others)

pub returns-clause-kept : goal.returns-clause-kept
returns-clause-kept g c =
    let t = temp_found c.self.inside.root c.in-Some.temp.now c.args.entry c.self.inside.pending
    c.self.invariant.reserved (sym c.in-Some.ensures.temp) in
    subst (λ s. Became (Keeps s.disk.root s.disk.entries) (g.F.Folder.held s.folder).files
    (g.F.Folder.held c.remove_at-answer.new.folder).files) c.self.view_is
    (keeps_avoided c.self.inside.root c.in-Some.temp.now c.self.inside.table.entries
    (g.F.Folder.held c.self.inside.folder).files (g.F.Folder.held c.remove_at-answer.new.folder).files
    (temp_avoids c.self.inside.root c.in-Some.temp.now c.args.entry.number c.self.inside.table.entries t.2
    t.0 c.self.invariant.stands.keys) c.remove_at-answer.ensures.others)

pub returns-clause-reserved : goal.returns-clause-reserved
returns-clause-reserved g c =
    let t = temp_found c.self.inside.root c.in-Some.temp.now c.args.entry c.self.inside.pending
    c.self.invariant.reserved (sym c.in-Some.ensures.temp) in
    subst (λ s. Became (KeepsReserved (without_number c.args.entry.number s.disk.pending))
    (g.F.Folder.held s.folder).files (g.F.Folder.held c.remove_at-answer.new.folder).files) c.self.view_is
    (others_at c.self.inside.root c.in-Some.temp.now c.args.entry.number c.self.inside.pending
    (g.F.Folder.held c.self.inside.folder).files (g.F.Folder.held c.remove_at-answer.new.folder).files t.0 t.2
    c.self.invariant.reserved c.remove_at-answer.ensures.others)

pub returns-clause-in_step : goal.returns-clause-in_step
returns-clause-in_step g c =
    let t = temp_found c.self.inside.root c.in-Some.temp.now c.args.entry c.self.inside.pending
    c.self.invariant.reserved (sym c.in-Some.ensures.temp) in
    subst (λ s. DiskInStep (g.F.Folder.held s.folder) s.disk
    → OnOk c.closed.result (DiskInStep (g.F.Folder.held c.remove_at-answer.new.folder)
    (disk_of c.self.inside.path c.self.inside.root c.self.inside.table c.self.inside.pending))) c.self.view_is
    (step_abandoned c.closed.result
    (disk_of c.self.inside.path c.self.inside.root c.self.inside.table c.self.inside.pending)
    (g.F.Folder.held c.self.inside.folder)
    (g.F.Folder.held c.remove_at-answer.new.folder) c.in-Some.temp.now c.args.entry.number t.0 t.2
    (closed_ok (Became (λ old new. new ≡ without c.in-Some.temp.now old)
    (g.F.Folder.held c.self.inside.folder).files (g.F.Folder.held c.remove_at-answer.new.folder).files)
    c.remove_at-answer.result c.closed.result c.closed.ensures c.remove_at-answer.ensures.exact))

pub returns-clause-removed : goal.returns-clause-removed
returns-clause-removed g c =
    subst (λ s. Became OnlyRemoved (g.F.Folder.held s.folder).files
    (g.F.Folder.held c.remove_at-answer.new.folder).files) c.self.view_is
    (only_removed c.in-Some.temp.now (g.F.Folder.held c.self.inside.folder).files
    (g.F.Folder.held c.remove_at-answer.new.folder).files c.remove_at-answer.ensures.part)

pub returns-clause-stays : goal.returns-clause-stays
returns-clause-stays g c =
    let t = temp_found c.self.inside.root c.in-Some.temp.now c.args.entry c.self.inside.pending
    c.self.invariant.reserved (sym c.in-Some.ensures.temp) in
    subst (λ s. Became (KeepsSpoiled s.disk.root s.spoiled) (g.F.Folder.held s.folder).files
    (g.F.Folder.held c.remove_at-answer.new.folder).files) c.self.view_is
    (at_spoiled c.self.inside.root c.in-Some.temp.now c.self.inside.spoiled (g.F.Folder.held c.self.inside.folder).files
    (g.F.Folder.held c.remove_at-answer.new.folder).files
    (fresh_temp c.self.inside.root c.in-Some.temp.now c.args.entry.number c.self.inside.spoiled t.0 t.2)
    c.remove_at-answer.ensures.others)
