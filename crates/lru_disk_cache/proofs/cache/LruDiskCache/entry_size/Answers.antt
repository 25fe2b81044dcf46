use Rattle.std.proofs.Common.{◌≡◌, ◌++◌, Some, true, false, IfOk, IfErr, OnOk, refl, sym, subst}
use Rattle.folders.specs.Files.{size_at}
use Rattle.folders.specs.Held.{Holds}
use Rattle.listed_files.specs.Key.{temp_name}
use Rattle.lru_disk_cache.specs.Reserved.{is_pending}
use Rattle.lru_disk_cache.specs.Adding.{HasSize, WriteFails}
use Rattle.lru_disk_cache.proofs.Asides.{store_equal}
use Rattle.listed_files.proofs.Fills.{on_ok, if_same}
use Rattle.lru_disk_cache.proofs.Reserving.{temp_found, temp_none, write_fails}
use Rattle.lru_disk_cache.proofs.Insides.{disk_of}
use Rattle.lru_disk_cache.proofs.cache.LruDiskCache.entry_size.Goals as goal

pub returns-in_default-clause-fails : goal.returns-in_default-clause-fails
returns-in_default-clause-fails g c = (
  refl,
  refl,
  subst (λ s. is_pending c.args.entry.now s.disk.pending ≡ false) c.self.view_is
      (temp_none c.args.entry.now c.self.inside.pending (sym c.in_default.ensures.temp)),
)

pub invariant_of-self : goal.invariant_of-self
invariant_of-self g c = store_equal
    (disk_of c.self.inside.path c.self.inside.root c.self.inside.table c.self.inside.pending)
    (g.F.Folder.held c.self.inside.folder) (g.F.Folder.held c.measure.new.folder) c.self.invariant
    c.measure.ensures.files

pub returns-clause-stands : goal.returns-clause-stands
returns-clause-stands g c = invariant_of-self g c

pub returns-clause-key : goal.returns-clause-key
returns-clause-key g c =
    on_ok c.measure.result (temp_found c.self.inside.root c.in-Some.temp.now c.args.entry.now
    c.self.inside.pending c.self.invariant.reserved (sym c.in-Some.ensures.temp)).3

pub returns-clause-now : goal.returns-clause-now
returns-clause-now g c =
    let t = temp_found c.self.inside.root c.in-Some.temp.now c.args.entry.now c.self.inside.pending
    c.self.invariant.reserved (sym c.in-Some.ensures.temp) in
    if_same (λ n files. size_at files (c.self.inside.root ++ temp_name c.args.entry.now.number) ≡ Some n)
    c.measure.result (g.F.Folder.held c.self.inside.folder) (g.F.Folder.held c.measure.new.folder)
    c.measure.ensures.same (subst
    (λ p. IfOk c.measure.result
    (λ n. Holds (g.F.Folder.held c.self.inside.folder) (λ files. size_at files p ≡ Some n))) t.0
    c.measure.ensures.size)

pub returns-clause-size : goal.returns-clause-size
returns-clause-size g c =
    let t = temp_found c.self.inside.root c.in-Some.temp.now c.args.entry.now c.self.inside.pending
    c.self.invariant.reserved (sym c.in-Some.ensures.temp) in
    subst (λ s. IfOk c.measure.result (λ n. HasSize s.disk c.args.entry.now (g.F.Folder.held s.folder) n))
    c.self.view_is (subst (λ p. IfOk c.measure.result
    (λ n. Holds (g.F.Folder.held c.self.inside.folder) (λ files. size_at files p ≡ Some n))) t.0
    c.measure.ensures.size)

pub returns-clause-pending : goal.returns-clause-pending
returns-clause-pending g c =
    let t = temp_found c.self.inside.root c.in-Some.temp.now c.args.entry.now c.self.inside.pending
    c.self.invariant.reserved (sym c.in-Some.ensures.temp) in
    subst (λ s. OnOk c.measure.result (is_pending c.args.entry.now s.disk.pending ≡ true)) c.self.view_is
    (on_ok c.measure.result t.1)

pub returns-clause-fails : goal.returns-clause-fails
returns-clause-fails g c =
    let t = temp_found c.self.inside.root c.in-Some.temp.now c.args.entry.now c.self.inside.pending
    c.self.invariant.reserved (sym c.in-Some.ensures.temp) in
    subst (λ s. IfErr c.measure.result
    (λ x. WriteFails c.args.entry.now x s.disk
    (disk_of c.self.inside.path c.self.inside.root c.self.inside.table c.self.inside.pending)
    (g.F.Folder.held s.folder) (g.F.Folder.held c.measure.new.folder)))
    c.self.view_is (write_fails c.args.entry.now
    (disk_of c.self.inside.path c.self.inside.root c.self.inside.table c.self.inside.pending)
    (disk_of c.self.inside.path c.self.inside.root c.self.inside.table c.self.inside.pending)
    c.in-Some.temp.now c.measure.result (g.F.Folder.held c.self.inside.folder)
    (g.F.Folder.held c.measure.new.folder) c.self.invariant refl t.0 t.1
    c.measure.ensures.fails)
