use Rattle.std.proofs.Common.{◌≡◌, ◌-◌, length, Some, Ok, refl, sym, subst}
use Rattle.folders.specs.Files.{file_at}
use Rattle.folders.specs.Held.{Holds, Became}
use Rattle.toolchain_cache.specs.Archives.{archive_path}
use Rattle.toolchain_cache.specs.Archiving.{archive_verdict, with_archive, dropped_for}
use Rattle.toolchain_cache.specs.Stored.{KeepsArchives, PlacesArchive, staying_for}
use Rattle.toolchain_cache.proofs.StoredLemmas.{all_ok}
use Rattle.lru_disk_cache.specs.Moving.{Wrote, WroteSize}
use Rattle.listed_files.proofs.Tolds.{told_sized}
use Rattle.toolchain_cache.proofs.WithMoves.{store_failed, store_fails}
use Rattle.lru_disk_cache.proofs.Moves.{with_ok}
use Rattle.listed_files.proofs.Whole.{closure_whole}
use Rattle.toolchain_cache.proofs.tc_cache.TcCache.insert_with.Goals as goal

pub returns-in-Ok-clause-ok : goal.returns-in-Ok-clause-ok
returns-in-Ok-clause-ok g c =
    let wrote = subst (Wrote g.W.FnOnce (λ v. v.items) c.args.with (Ok (tt {0})))
    (sym c.deref.ensures.value) c.in-Ok.ensures.ok in
    with_ok (Wrote g.W.FnOnce (λ v. v.items) c.args.with)
    (λ b. archive_verdict c.args.self.now.capacity c.args.tc.now b ≡ Ok (tt {0}))
    (λ b. c.insert_bytes.new.self.archives ≡ with_archive c.args.self.now.capacity c.args.tc.now
    (length b) c.args.self.now.archives) (λ b. Holds (g.F.Folder.held c.insert_bytes.new.self.folder)
    (λ files. file_at files (archive_path c.args.self.now.path c.args.tc.now) ≡ Some b)
    × Became (KeepsArchives c.args.self.now.path
    (staying_for c.args.self.now.capacity c.args.tc.now (length b) c.args.self.now.archives))
    (g.F.Folder.held c.args.self.now.folder).files (g.F.Folder.held c.insert_bytes.new.self.folder).files
    × PlacesArchive c.args.self.now.path c.args.tc.now b
    (dropped_for c.args.self.now.capacity c.args.tc.now (length b) c.args.self.now.archives)
    (g.F.Folder.held c.args.self.now.folder) (g.F.Folder.held c.insert_bytes.new.self.folder))
    c.deref.result.now c.insert_bytes.result wrote c.insert_bytes.ensures.admits c.insert_bytes.ensures.ok
    (all_ok _ _ _ c.insert_bytes.result c.insert_bytes.ensures.content c.insert_bytes.ensures.kept
    c.insert_bytes.ensures.exact)

pub returns-in-Ok-clause-fails : goal.returns-in-Ok-clause-fails
returns-in-Ok-clause-fails g c =
    let wrote = subst (Wrote g.W.FnOnce (λ v. v.items) c.args.with (Ok (tt {0})))
    (sym c.deref.ensures.value) c.in-Ok.ensures.ok in
    store_fails (Wrote g.W.FnOnce (λ v. v.items) c.args.with) c.args.self.now.capacity c.args.tc.now
    c.deref.result.now c.args.self.now.archives c.insert_bytes.new.self.archives c.insert_bytes.result
    (g.F.Folder.held c.args.self.now.folder) (g.F.Folder.held c.insert_bytes.new.self.folder) wrote
    c.insert_bytes.ensures.fails

pub returns-in-Err-clause-fails : goal.returns-in-Err-clause-fails
returns-in-Err-clause-fails g c =
    (store_failed (Wrote g.W.FnOnce (λ v. v.items) c.args.with) c.args.self.now.capacity c.args.tc.now
    c.args.self.now.archives c.in-Err.error c.args.self.now.spoiled
    (g.F.Folder.held c.args.self.now.folder) c.in-Err.ensures.fails).0

pub returns-in-Ok-clause-whole : goal.returns-in-Ok-clause-whole
returns-in-Ok-clause-whole g c =
    closure_whole (Wrote g.W.FnOnce (λ v. v.items) c.args.with (Ok (tt {0})))
    (archive_path c.args.self.now.path c.args.tc.now) c.deref.result.now
    (g.F.Folder.held c.args.self.now.folder).files (g.F.Folder.held c.insert_bytes.new.self.folder).files
    (subst (Wrote g.W.FnOnce (λ v. v.items) c.args.with (Ok (tt {0}))) (sym c.deref.ensures.value)
    c.in-Ok.ensures.ok) c.insert_bytes.ensures.whole

pub returns-in-Err-clause-spoils : goal.returns-in-Err-clause-spoils
returns-in-Err-clause-spoils g c =
    (store_failed (Wrote g.W.FnOnce (λ v. v.items) c.args.with) c.args.self.now.capacity c.args.tc.now
    c.args.self.now.archives c.in-Err.error c.args.self.now.spoiled
    (g.F.Folder.held c.args.self.now.folder) c.in-Err.ensures.fails).1

pub returns-in-Ok-clause-failed : goal.returns-in-Ok-clause-failed
returns-in-Ok-clause-failed g c = λ files told.
    let wrote = subst (Wrote g.W.FnOnce (λ v. v.items) c.args.with (Ok (tt {0})))
    (sym c.deref.ensures.value) c.in-Ok.ensures.ok in
    told_sized c.args.tc.now (λ n. c.args.self.now.capacity - n)
    (WroteSize (Wrote g.W.FnOnce (λ v. v.items) c.args.with)) (length c.deref.result.now)
    c.args.self.now.archives c.insert_bytes.new.self.archives (g.F.Folder.failures c.args.self.now.folder)
    (g.F.Folder.failures c.insert_bytes.new.self.folder) c.insert_bytes.result
    (c.deref.result.now, wrote, refl) (c.insert_bytes.ensures.failed files told)
