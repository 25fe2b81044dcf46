use Rattle.std.proofs.Common.{◌≡◌, ◌++◌, ◌∙◌, length, Some, Ok, refl, sym, subst}
use Rattle.folders.specs.Files.{file_at}
use Rattle.folders.specs.Held.{Holds}
use Rattle.lru_disk_cache.specs.Store.{inserted, insert_verdict, room_beside}
use Rattle.lru_disk_cache.specs.Moving.{Wrote, WroteSize}
use Rattle.listed_files.proofs.Tolds.{told_sized}
use Rattle.lru_disk_cache.proofs.Moves.{with_failed, with_fails, with_ok}
use Rattle.lru_disk_cache.proofs.Reserving.{none_reserved}
use Rattle.listed_files.proofs.Standing.{none_lost}
use Rattle.listed_files.proofs.Whole.{closure_whole}
use Rattle.lru_disk_cache.proofs.Spoiled.{none_inserted}
use Rattle.lru_disk_cache.proofs.Counted.{may_spoil}
use Rattle.lru_disk_cache.proofs.cache.LruDiskCache.insert_with.Goals as goal

pub returns-in-Ok-clause-ok : goal.returns-in-Ok-clause-ok
returns-in-Ok-clause-ok g c =
    let wrote = subst (Wrote g.W.FnOnce (λ v. v.items) c.args.with (Ok (tt {0})))
    (sym c.deref.ensures.value) c.in-Ok.ensures.ok in
    with_ok (Wrote g.W.FnOnce (λ v. v.items) c.args.with)
    (λ b. insert_verdict c.args.self.now.disk c.args.key.now (length b) ≡ Ok (tt {0}))
    (λ b. c.insert_bytes.new.self.disk ≡ inserted c.args.self.now.disk c.args.key.now (length b))
    (λ b. Holds (g.F.Folder.held c.insert_bytes.new.self.folder)
    (λ files. file_at files (c.args.self.now.disk.root ++ c.args.key.now) ≡ Some b)) c.deref.result.now
    c.insert_bytes.result wrote c.insert_bytes.ensures.admits c.insert_bytes.ensures.ok
    c.insert_bytes.ensures.content

pub returns-in-Ok-clause-fails : goal.returns-in-Ok-clause-fails
returns-in-Ok-clause-fails g c =
    let wrote = subst (Wrote g.W.FnOnce (λ v. v.items) c.args.with (Ok (tt {0})))
    (sym c.deref.ensures.value) c.in-Ok.ensures.ok in
    with_fails (Wrote g.W.FnOnce (λ v. v.items) c.args.with) c.args.key.now c.deref.result.now
    c.args.self.now.disk c.insert_bytes.new.self.disk c.insert_bytes.result
    (g.F.Folder.held c.args.self.now.folder) (g.F.Folder.held c.insert_bytes.new.self.folder) wrote
    c.insert_bytes.ensures.fails

pub returns-in-Err-clause-fails : goal.returns-in-Err-clause-fails
returns-in-Err-clause-fails g c =
    (with_failed (Wrote g.W.FnOnce (λ v. v.items) c.args.with) c.args.key.now c.args.self.now.disk
    c.in-Err.error c.args.self.now.spoiled (g.F.Folder.held c.args.self.now.folder)
    (sym c.is_key.ensures ∙ c.if-not-is_key.false) c.in-Err.ensures.fails).0

pub returns-in-Err-clause-left : goal.returns-in-Err-clause-left
returns-in-Err-clause-left g c =
    none_lost c.args.self.now.disk.root c.args.self.now.disk.entries
    (g.F.Folder.held c.args.self.now.folder).files

pub returns-in-Err-clause-reserved : goal.returns-in-Err-clause-reserved
returns-in-Err-clause-reserved g c = none_reserved c.args.self.now.disk.pending
    (g.F.Folder.held c.args.self.now.folder).files

pub returns-in-Ok-clause-whole : goal.returns-in-Ok-clause-whole
returns-in-Ok-clause-whole g c =
    closure_whole (Wrote g.W.FnOnce (λ v. v.items) c.args.with (Ok (tt {0})))
    (c.args.self.now.disk.root ++ c.args.key.now) c.deref.result.now
    (g.F.Folder.held c.args.self.now.folder).files (g.F.Folder.held c.insert_bytes.new.self.folder).files
    (subst (Wrote g.W.FnOnce (λ v. v.items) c.args.with (Ok (tt {0}))) (sym c.deref.ensures.value)
    c.in-Ok.ensures.ok) c.insert_bytes.ensures.whole

pub returns-in-Err-clause-stays : goal.returns-in-Err-clause-stays
returns-in-Err-clause-stays g c =
    none_inserted c.args.self.now.disk.root c.args.self.now.spoiled
    (g.F.Folder.held c.args.self.now.folder).files

pub returns-in-Ok-clause-spoils : goal.returns-in-Ok-clause-spoils
returns-in-Ok-clause-spoils g c =
    may_spoil c.args.key.now (length c.deref.result.now) c.args.self.now.disk c.insert_bytes.new.self.disk
    (g.F.Folder.held c.args.self.now.folder) (g.F.Folder.held c.insert_bytes.new.self.folder)
    c.args.self.now.spoiled c.insert_bytes.new.self.spoiled c.insert_bytes.result c.insert_bytes.ensures.fails
    c.insert_bytes.ensures.spoils

pub returns-in-Err-clause-spoils : goal.returns-in-Err-clause-spoils
returns-in-Err-clause-spoils g c =
    (with_failed (Wrote g.W.FnOnce (λ v. v.items) c.args.with) c.args.key.now c.args.self.now.disk
    c.in-Err.error c.args.self.now.spoiled (g.F.Folder.held c.args.self.now.folder)
    (sym c.is_key.ensures ∙ c.if-not-is_key.false) c.in-Err.ensures.fails).1

pub returns-then-not-is_key-clause-spoils : goal.returns-then-not-is_key-clause-spoils
returns-then-not-is_key-clause-spoils g c = (refl, refl)

pub returns-in-Ok-clause-failed : goal.returns-in-Ok-clause-failed
returns-in-Ok-clause-failed g c = λ files told.
    let wrote = subst (Wrote g.W.FnOnce (λ v. v.items) c.args.with (Ok (tt {0})))
    (sym c.deref.ensures.value) c.in-Ok.ensures.ok in
    told_sized c.args.key.now (room_beside c.args.self.now.disk)
    (WroteSize (Wrote g.W.FnOnce (λ v. v.items) c.args.with)) (length c.deref.result.now)
    c.args.self.now.disk.entries c.insert_bytes.new.self.disk.entries
    (g.F.Folder.failures c.args.self.now.folder) (g.F.Folder.failures c.insert_bytes.new.self.folder)
    c.insert_bytes.result (c.deref.result.now, wrote, refl) (c.insert_bytes.ensures.failed files told)
