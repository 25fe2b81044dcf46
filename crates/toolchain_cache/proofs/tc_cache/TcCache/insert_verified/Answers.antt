use Rattle.std.proofs.Common.{◌≡◌, ◌∙◌, ◌-◌, ◌≤◌, length, nat_le, true, Ok, IfErr, OnOk, OnErr, inr, refl, sym, subst}
use Rattle.std.proofs.Common.{arith}
use Rattle.std.specs.Map.{keys_of}
use Rattle.std.specs.List.{IsDistinct}
use Rattle.std.specs.Str.{bytes_eq}
use Rattle.folders.specs.Held.{Became}
use Rattle.listed_files.specs.Entries.{total}
use Rattle.toolchain_cache.specs.Archives.{id_of, IsInStep}
use Rattle.toolchain_cache.specs.Archiving.{with_archive, archive_verdict, StoreFails}
use Rattle.toolchain_cache.specs.Keyed.{unkeyed, IsKeyed}
use Rattle.toolchain_cache.proofs.Unkeyed.{keyed_store}
use Rattle.std.proofs.lemmas.Slice.Eq.{bytes_eq-Decides}
use Rattle.lru_disk_cache.specs.Store.{insert_verdict}
use Rattle.toolchain_cache.proofs.TcSteps.{stored_keyed, stored_ok, stored_fails, stored_in_step}
use Rattle.toolchain_cache.proofs.TcSteps.{archive_admitted, insert_admitted, told_by}
use Rattle.folders.specs.Failures.{WhereTold}
use Rattle.listed_files.specs.Told.{ToldStored}
use Rattle.toolchain_cache.specs.Archiving.{dropped_for}
use Rattle.folders.specs.Files.{front}
use Rattle.listed_files.specs.Disk.{ButInsert}
use Rattle.toolchain_cache.specs.Stored.{KeepsArchives, PlacesArchive, staying_for}
use Rattle.toolchain_cache.proofs.SpoiledArchives.{keyed_inserted}
use Rattle.lru_disk_cache.specs.Spoiling.{MaySpoil}
use Rattle.lru_disk_cache.proofs.Counted.{may_spoil}
use Rattle.toolchain_cache.proofs.StoredLemmas.{kept_archives, left_archives, placed_archive}
use Rattle.toolchain_cache.proofs.tc_cache.TcCache.insert_verified.Goals as goal

pub invariant_of-self : goal.invariant_of-self
invariant_of-self g c =
    let digest : id_of c.args.bytes.now ≡ c.args.tc.now = c.requires in
    stored_keyed c.get.result.now c.args.tc.now c.args.bytes.now c.self.inside.cache.disk
    c.insert_bytes-answer.new.self.disk (g.F.Folder.held c.self.inside.cache.folder)
    (g.F.Folder.held c.insert_bytes-answer.new.self.folder) c.insert_bytes-answer.result
    (c.get.ensures.text ∙ c.in-Ok.ensures.key) c.key_of.ensures.id digest c.self.invariant
    c.insert_bytes-answer.ensures.ok c.insert_bytes-answer.ensures.fails
    c.insert_bytes-answer.ensures.kept c.insert_bytes-answer.ensures.left
    c.insert_bytes-answer.ensures.content

pub returns-clause-ok : goal.returns-clause-ok
returns-clause-ok g c =
    subst (λ s. OnOk c.insert_bytes-answer.result
    (unkeyed c.insert_bytes-answer.new.self.disk.entries ≡ with_archive s.capacity c.args.tc.now
    (length c.args.bytes.now) s.archives)) c.self.view_is
    (stored_ok c.args.tc.now c.get.result.now (length c.args.bytes.now) c.self.inside.cache.disk
    c.insert_bytes-answer.new.self.disk c.insert_bytes-answer.result c.key_of.ensures.id
    (c.get.ensures.text ∙ c.in-Ok.ensures.key) c.self.invariant.keys c.self.invariant.none
    c.insert_bytes-answer.ensures.ok)

pub returns-clause-fails : goal.returns-clause-fails
returns-clause-fails g c =
    let same : bytes_eq (id_of c.args.bytes.now) c.args.tc.now ≡ true =
    (bytes_eq-Decides (id_of c.args.bytes.now) c.args.tc.now).1 c.requires in
    let small : nat_le (length c.args.bytes.now) c.self.inside.cache.disk.capacity ≡ true =
    sym c.can_store.ensures ∙ c.if-not-can_store.false in
    let archive : archive_verdict c.self.inside.cache.disk.capacity c.args.tc.now c.args.bytes.now ≡ Ok
    (tt {0}) = archive_admitted c.args.tc.now c.args.bytes.now c.self.inside.cache.disk.capacity same
    small in
    let insert : insert_verdict c.self.inside.cache.disk c.get.result.now (length c.args.bytes.now) ≡ Ok
    (tt {0}) = insert_admitted c.args.tc.now c.get.result.now
    (length c.args.bytes.now) c.self.inside.cache.disk c.key_of.ensures.id
    (c.get.ensures.text ∙ c.in-Ok.ensures.key) c.self.invariant.none small in
    subst (λ s. IfErr c.insert_bytes-answer.result
    (λ e. StoreFails s.capacity c.args.tc.now c.args.bytes.now e s.archives
    (unkeyed c.insert_bytes-answer.new.self.disk.entries) (g.F.Folder.held s.folder)
    (g.F.Folder.held c.insert_bytes-answer.new.self.folder))) c.self.view_is
    (stored_fails c.args.tc.now c.get.result.now c.args.bytes.now c.self.inside.cache.disk
    c.insert_bytes-answer.new.self.disk (g.F.Folder.held c.self.inside.cache.folder)
    (g.F.Folder.held c.insert_bytes-answer.new.self.folder) c.insert_bytes-answer.result
    c.key_of.ensures.id (c.get.ensures.text ∙ c.in-Ok.ensures.key) c.self.invariant.keys
    c.self.invariant.none archive insert c.insert_bytes-answer.ensures.fails)

pub returns-clause-in_step : goal.returns-clause-in_step
returns-clause-in_step g c =
    let digest : id_of c.args.bytes.now ≡ c.args.tc.now = c.requires in
    subst (λ s. IsInStep s.path (g.F.Folder.held s.folder) s.archives → OnOk c.insert_bytes-answer.result
    (IsInStep c.insert_bytes-answer.new.self.disk.path
    (g.F.Folder.held c.insert_bytes-answer.new.self.folder)
    (unkeyed c.insert_bytes-answer.new.self.disk.entries))) c.self.view_is
    (stored_in_step c.args.tc.now c.get.result.now c.args.bytes.now c.self.inside.cache.disk
    c.insert_bytes-answer.new.self.disk (g.F.Folder.held c.self.inside.cache.folder)
    (g.F.Folder.held c.insert_bytes-answer.new.self.folder) c.insert_bytes-answer.result
    c.key_of.ensures.id (c.get.ensures.text ∙ c.in-Ok.ensures.key) digest c.self.invariant
    (subst (λ s. IsDistinct bytes_eq (keys_of s.archives))
    (sym c.self.view_is) c.shown.ensures.stands.distinct) c.insert_bytes-answer.ensures.ok
    c.insert_bytes-answer.ensures.exact)

pub returns-clause-stands : goal.returns-clause-stands
returns-clause-stands g c =
    let digest : id_of c.args.bytes.now ≡ c.args.tc.now = c.requires in
    let keyed : IsKeyed (g.F.Folder.held c.insert_bytes-answer.new.self.folder)
    c.insert_bytes-answer.new.self.disk = stored_keyed c.get.result.now c.args.tc.now c.args.bytes.now
    c.self.inside.cache.disk c.insert_bytes-answer.new.self.disk
    (g.F.Folder.held c.self.inside.cache.folder) (g.F.Folder.held c.insert_bytes-answer.new.self.folder)
    c.insert_bytes-answer.result (c.get.ensures.text ∙ c.in-Ok.ensures.key) c.key_of.ensures.id digest
    c.self.invariant c.insert_bytes-answer.ensures.ok c.insert_bytes-answer.ensures.fails
    c.insert_bytes-answer.ensures.kept c.insert_bytes-answer.ensures.left
    c.insert_bytes-answer.ensures.content in
    let fits : total c.insert_bytes-answer.new.self.disk.entries
    ≤ c.insert_bytes-answer.new.self.disk.capacity =
    omega (arith, c.insert_bytes-answer.ensures.stands.fits) in
    keyed_store (g.F.Folder.held c.insert_bytes-answer.new.self.folder) c.insert_bytes-answer.new.self.disk
    keyed c.len-len.ensures.distinct fits

pub returns-clause-kept : goal.returns-clause-kept
returns-clause-kept g c =
    subst (λ s. OnOk c.insert_bytes-answer.result (Became (KeepsArchives s.path
    (staying_for s.capacity c.args.tc.now (length c.args.bytes.now) s.archives))
    (g.F.Folder.held s.folder).files (g.F.Folder.held c.insert_bytes-answer.new.self.folder).files))
    c.self.view_is (kept_archives c.args.tc.now c.get.result.now c.args.bytes.now c.self.inside.cache.disk
    (g.F.Folder.held c.self.inside.cache.folder) (g.F.Folder.held c.self.inside.cache.folder)
    (g.F.Folder.held c.insert_bytes-answer.new.self.folder) c.insert_bytes-answer.result
    c.key_of.ensures.id (c.get.ensures.text ∙ c.in-Ok.ensures.key) c.self.invariant
    c.insert_bytes-answer.ensures.kept)

pub returns-clause-left : goal.returns-clause-left
returns-clause-left g c =
    let digest : id_of c.args.bytes.now ≡ c.args.tc.now = c.requires in
    let keyed : IsKeyed (g.F.Folder.held c.insert_bytes-answer.new.self.folder)
    c.insert_bytes-answer.new.self.disk = stored_keyed c.get.result.now c.args.tc.now c.args.bytes.now
    c.self.inside.cache.disk c.insert_bytes-answer.new.self.disk
    (g.F.Folder.held c.self.inside.cache.folder) (g.F.Folder.held c.insert_bytes-answer.new.self.folder)
    c.insert_bytes-answer.result (c.get.ensures.text ∙ c.in-Ok.ensures.key) c.key_of.ensures.id digest
    c.self.invariant c.insert_bytes-answer.ensures.ok c.insert_bytes-answer.ensures.fails
    c.insert_bytes-answer.ensures.kept c.insert_bytes-answer.ensures.left
    c.insert_bytes-answer.ensures.content in
    subst (λ s. OnErr c.insert_bytes-answer.result (Became (KeepsArchives s.path
    (unkeyed c.insert_bytes-answer.new.self.disk.entries)) (g.F.Folder.held s.folder).files
    (g.F.Folder.held c.insert_bytes-answer.new.self.folder).files)) c.self.view_is
    (left_archives c.self.inside.cache.disk.path c.self.inside.cache.disk.root
    c.insert_bytes-answer.new.self.disk.entries c.insert_bytes-answer.result
    (g.F.Folder.held c.self.inside.cache.folder).files
    (g.F.Folder.held c.insert_bytes-answer.new.self.folder).files c.self.invariant.root keyed.keys
    c.insert_bytes-answer.ensures.left)

pub returns-clause-exact : goal.returns-clause-exact
returns-clause-exact g c =
    subst (λ s. OnOk c.insert_bytes-answer.result (PlacesArchive s.path c.args.tc.now c.args.bytes.now
    (dropped_for s.capacity c.args.tc.now (length c.args.bytes.now) s.archives)
    (g.F.Folder.held s.folder) (g.F.Folder.held c.insert_bytes-answer.new.self.folder))) c.self.view_is
    (placed_archive c.args.tc.now c.get.result.now c.args.bytes.now c.self.inside.cache.disk
    (g.F.Folder.held c.self.inside.cache.folder) (g.F.Folder.held c.self.inside.cache.folder)
    (g.F.Folder.held c.insert_bytes-answer.new.self.folder) c.insert_bytes-answer.result
    c.key_of.ensures.id (c.get.ensures.text ∙ c.in-Ok.ensures.key) c.self.invariant
    c.insert_bytes-answer.ensures.exact)

pub returns-clause-stays : goal.returns-clause-stays
returns-clause-stays g c =
    subst (λ s. Became (ButInsert (front s.path) s.spoiled) (g.F.Folder.held s.folder).files
    (g.F.Folder.held c.insert_bytes-answer.new.self.folder).files) c.self.view_is
    (keyed_inserted (g.F.Folder.held c.self.inside.cache.folder) c.self.inside.cache.disk
    c.self.inside.cache.spoiled (g.F.Folder.held c.self.inside.cache.folder).files
    (g.F.Folder.held c.insert_bytes-answer.new.self.folder).files c.self.invariant c.insert_bytes-answer.ensures.stays)

pub returns-clause-spoils : goal.returns-clause-spoils
returns-clause-spoils g c =
    subst (λ s. IfErr c.insert_bytes-answer.result (λ e. MaySpoil e s.spoiled
    c.insert_bytes-answer.new.self.spoiled (g.F.Folder.held s.folder)
    (g.F.Folder.held c.insert_bytes-answer.new.self.folder))) c.self.view_is
    (may_spoil c.get.result.now (length c.args.bytes.now) c.self.inside.cache.disk
    c.insert_bytes-answer.new.self.disk (g.F.Folder.held c.self.inside.cache.folder)
    (g.F.Folder.held c.insert_bytes-answer.new.self.folder) c.self.inside.cache.spoiled
    c.insert_bytes-answer.new.self.spoiled c.insert_bytes-answer.result c.insert_bytes-answer.ensures.fails
    c.insert_bytes-answer.ensures.spoils)

pub returns-then-not-can_store-clause-spoils : goal.returns-then-not-can_store-clause-spoils
returns-then-not-can_store-clause-spoils g c = (refl, refl)

pub returns-in_default-clause-spoils : goal.returns-in_default-clause-spoils
returns-in_default-clause-spoils g c = inr (refl, refl)

pub returns-clause-failed : goal.returns-clause-failed
returns-clause-failed g c =
    subst (λ s. WhereTold (g.F.Folder.held s.folder) (ToldStored c.insert_bytes-answer.result c.args.tc.now
    (s.capacity - length c.args.bytes.now) s.archives (unkeyed c.insert_bytes-answer.new.self.disk.entries)
    (g.F.Folder.failures s.folder) (g.F.Folder.failures c.insert_bytes-answer.new.self.folder)))
    c.self.view_is (λ files told. told_by c.args.tc.now c.get.result.now c.args.bytes.now
    c.self.inside.cache.disk c.insert_bytes-answer.new.self.disk
    (g.F.Folder.failures c.self.inside.cache.folder) (g.F.Folder.failures c.insert_bytes-answer.new.self.folder)
    c.insert_bytes-answer.result c.key_of.ensures.id (c.get.ensures.text ∙ c.in-Ok.ensures.key)
    c.self.invariant.keys c.self.invariant.none (c.insert_bytes-answer.ensures.failed files told))
