use Rattle.std.proofs.Common.{◌≡◌, ◌∙◌, ◌≤◌, Err, None, IsSome, IfErr, OnOk, sym, subst, arith}
use Rattle.std.specs.Map.{keys_of, lookup}
use Rattle.std.specs.List.{IsDistinct}
use Rattle.std.specs.Str.{bytes_eq}
use Rattle.folders.specs.Changed.{ButAt}
use Rattle.folders.specs.Files.{front, without}
use Rattle.folders.specs.Held.{Holds, Became, BecameBy, Lacks}
use Rattle.dist_types.specs.declared.cache_error.Error.TheVariants.{Memory as NoMemory}
use Rattle.listed_files.specs.Entries.{total}
use Rattle.listed_files.specs.Disk.{without_key, KeepsSpoiled}
use Rattle.toolchain_cache.specs.Archives.{archive_path, IsInStep}
use Rattle.toolchain_cache.specs.Archiving.{DropFails}
use Rattle.toolchain_cache.specs.Keyed.{unkeyed, IsKeyed}
use Rattle.toolchain_cache.proofs.Unkeyed.{keyed_store}
use Rattle.toolchain_cache.proofs.TcSteps.{removed_keyed, removed_ok, removed_gone, removed_fails}
use Rattle.toolchain_cache.proofs.TcSteps.{removed_in_step}
use Rattle.toolchain_cache.specs.Stored.{KeepsArchives}
use Rattle.toolchain_cache.proofs.StoredLemmas.{removed_memory_un, keeps_archives, removed_archive, same_archive}
use Rattle.toolchain_cache.proofs.StoredLemmas.{but_archive, absent_out}
use Rattle.toolchain_cache.proofs.SpoiledArchives.{keyed_spoiled}
use Rattle.toolchain_cache.proofs.tc_cache.TcCache.remove.Goals as goal

pub invariant_of-self : goal.invariant_of-self
invariant_of-self g c =
    removed_keyed c.get.result.now c.self.inside.cache.disk c.remove-answer.new.self.disk
    (g.F.Folder.held c.self.inside.cache.folder) (g.F.Folder.held c.remove-answer.new.self.folder)
    c.remove-answer.result c.self.invariant c.remove-answer.ensures.ok c.remove-answer.ensures.fails
    c.remove-answer.ensures.kept

pub returns-clause-ok : goal.returns-clause-ok
returns-clause-ok g c =
    subst (λ s. OnOk c.remove-answer.result
    (unkeyed c.remove-answer.new.self.disk.entries ≡ without_key c.args.tc.now s.archives)) c.self.view_is
    (removed_ok c.args.tc.now c.get.result.now c.self.inside.cache.disk c.remove-answer.new.self.disk
    c.remove-answer.result c.key_of.ensures.id (c.get.ensures.text ∙ c.in-Ok.ensures.key)
    c.self.invariant.keys c.remove-answer.ensures.ok)

pub returns-clause-gone : goal.returns-clause-gone
returns-clause-gone g c =
    subst (λ s. OnOk c.remove-answer.result (IsSome (lookup (bytes_eq c.args.tc.now) s.archives)
    → Holds (g.F.Folder.held c.remove-answer.new.self.folder)
    (Lacks (archive_path s.path c.args.tc.now)))) c.self.view_is
    (removed_gone c.args.tc.now c.get.result.now c.self.inside.cache.disk
    (g.F.Folder.held c.self.inside.cache.folder) (g.F.Folder.held c.remove-answer.new.self.folder)
    c.remove-answer.result c.key_of.ensures.id (c.get.ensures.text ∙ c.in-Ok.ensures.key) c.self.invariant
    c.remove-answer.ensures.gone)

pub returns-clause-fails : goal.returns-clause-fails
returns-clause-fails g c =
    subst (λ s. IfErr c.remove-answer.result
    (λ e. DropFails c.args.tc.now e s.archives (unkeyed c.remove-answer.new.self.disk.entries)
    (g.F.Folder.held s.folder) (g.F.Folder.held c.remove-answer.new.self.folder))) c.self.view_is
    (removed_fails c.args.tc.now c.get.result.now c.self.inside.cache.disk c.remove-answer.new.self.disk
    (g.F.Folder.held c.self.inside.cache.folder) (g.F.Folder.held c.remove-answer.new.self.folder)
    c.remove-answer.result c.key_of.ensures.id (c.get.ensures.text ∙ c.in-Ok.ensures.key)
    c.self.invariant.keys c.remove-answer.ensures.fails)

pub returns-clause-in_step : goal.returns-clause-in_step
returns-clause-in_step g c =
    subst (λ s. IsInStep s.path (g.F.Folder.held s.folder) s.archives
    → OnOk c.remove-answer.result
    (IsInStep c.remove-answer.new.self.disk.path (g.F.Folder.held c.remove-answer.new.self.folder)
    (unkeyed c.remove-answer.new.self.disk.entries))) c.self.view_is
    (removed_in_step c.args.tc.now c.get.result.now c.self.inside.cache.disk c.remove-answer.new.self.disk
    (g.F.Folder.held c.self.inside.cache.folder) (g.F.Folder.held c.remove-answer.new.self.folder)
    c.remove-answer.result c.key_of.ensures.id (c.get.ensures.text ∙ c.in-Ok.ensures.key) c.self.invariant
    (subst (λ s. IsDistinct bytes_eq (keys_of s.archives))
    (sym c.self.view_is) c.shown.ensures.stands.distinct) c.remove-answer.ensures.ok
    c.remove-answer.ensures.exact c.remove-answer.ensures.same)

pub returns-clause-stands : goal.returns-clause-stands
returns-clause-stands g c =
    let keyed : IsKeyed (g.F.Folder.held c.remove-answer.new.self.folder) c.remove-answer.new.self.disk =
    removed_keyed c.get.result.now c.self.inside.cache.disk c.remove-answer.new.self.disk
    (g.F.Folder.held c.self.inside.cache.folder) (g.F.Folder.held c.remove-answer.new.self.folder)
    c.remove-answer.result c.self.invariant c.remove-answer.ensures.ok c.remove-answer.ensures.fails
    c.remove-answer.ensures.kept in
    let fits : total c.remove-answer.new.self.disk.entries ≤ c.remove-answer.new.self.disk.capacity =
    omega (arith, c.remove-answer.ensures.stands.fits) in
    keyed_store (g.F.Folder.held c.remove-answer.new.self.folder) c.remove-answer.new.self.disk keyed
    c.len-len.ensures.distinct fits

pub returns-clause-alone : goal.returns-clause-alone
returns-clause-alone g c =
    subst (λ s. Became (ButAt (archive_path s.path c.args.tc.now)) (g.F.Folder.held s.folder).files
    (g.F.Folder.held c.remove-answer.new.self.folder).files) c.self.view_is
    (but_archive c.args.tc.now c.get.result.now c.self.inside.cache.disk
    (g.F.Folder.held c.self.inside.cache.folder) (g.F.Folder.held c.self.inside.cache.folder).files
    (g.F.Folder.held c.remove-answer.new.self.folder).files (c.get.ensures.text ∙ c.in-Ok.ensures.key)
    c.self.invariant c.remove-answer.ensures.others)

pub returns-clause-kept : goal.returns-clause-kept
returns-clause-kept g c =
    let keyed : IsKeyed (g.F.Folder.held c.remove-answer.new.self.folder) c.remove-answer.new.self.disk =
    removed_keyed c.get.result.now c.self.inside.cache.disk c.remove-answer.new.self.disk
    (g.F.Folder.held c.self.inside.cache.folder) (g.F.Folder.held c.remove-answer.new.self.folder)
    c.remove-answer.result c.self.invariant c.remove-answer.ensures.ok c.remove-answer.ensures.fails
    c.remove-answer.ensures.kept in
    subst (λ s. Became (KeepsArchives s.path (unkeyed c.remove-answer.new.self.disk.entries))
    (g.F.Folder.held s.folder).files (g.F.Folder.held c.remove-answer.new.self.folder).files) c.self.view_is
    (keeps_archives c.self.inside.cache.disk.path c.self.inside.cache.disk.root
    c.remove-answer.new.self.disk.entries (g.F.Folder.held c.self.inside.cache.folder).files
    (g.F.Folder.held c.remove-answer.new.self.folder).files c.self.invariant.root keyed.keys
    c.remove-answer.ensures.kept)

pub returns-clause-exact : goal.returns-clause-exact
returns-clause-exact g c =
    subst (λ s. OnOk c.remove-answer.result (IsSome (lookup (bytes_eq c.args.tc.now) s.archives)
    → BecameBy (without (archive_path s.path c.args.tc.now)) (g.F.Folder.held s.folder).files
    (g.F.Folder.held c.remove-answer.new.self.folder).files)) c.self.view_is
    (removed_archive c.args.tc.now c.get.result.now c.self.inside.cache.disk
    (g.F.Folder.held c.self.inside.cache.folder) (g.F.Folder.held c.self.inside.cache.folder)
    (g.F.Folder.held c.remove-answer.new.self.folder) c.remove-answer.result c.key_of.ensures.id
    (c.get.ensures.text ∙ c.in-Ok.ensures.key) c.self.invariant c.remove-answer.ensures.exact)

pub returns-clause-same : goal.returns-clause-same
returns-clause-same g c =
    subst (λ s. OnOk c.remove-answer.result (lookup (bytes_eq c.args.tc.now) s.archives ≡ None
    → g.F.Folder.held c.remove-answer.new.self.folder ≡ g.F.Folder.held s.folder)) c.self.view_is
    (same_archive c.args.tc.now c.get.result.now c.self.inside.cache.disk
    (g.F.Folder.held c.self.inside.cache.folder) (g.F.Folder.held c.self.inside.cache.folder)
    (g.F.Folder.held c.remove-answer.new.self.folder) c.remove-answer.result c.key_of.ensures.id
    (c.get.ensures.text ∙ c.in-Ok.ensures.key) c.self.invariant c.remove-answer.ensures.same)

pub returns-clause-memory : goal.returns-clause-memory
returns-clause-memory g c =
    subst (λ s. c.remove-answer.result ≡ Err NoMemory → IsSome (lookup (bytes_eq c.args.tc.now) s.archives))
    c.self.view_is (removed_memory_un c.args.tc.now c.get.result.now c.self.inside.cache.disk
    c.remove-answer.new.self.disk (g.F.Folder.held c.self.inside.cache.folder)
    (g.F.Folder.held c.remove-answer.new.self.folder) c.remove-answer.result c.key_of.ensures.id
    (c.get.ensures.text ∙ c.in-Ok.ensures.key) c.self.invariant.keys c.remove-answer.ensures.fails)

pub returns-in_default-clause-ok : goal.returns-in_default-clause-ok
returns-in_default-clause-ok g c =
    absent_out c.args.tc.now c.args.self.now.archives c.contains_toolchain.result
    c.contains_toolchain.ensures.listed c.if-contains_toolchain.false

pub returns-clause-stays : goal.returns-clause-stays
returns-clause-stays g c =
    subst (λ s. Became (KeepsSpoiled (front s.path) s.spoiled) (g.F.Folder.held s.folder).files
    (g.F.Folder.held c.remove-answer.new.self.folder).files) c.self.view_is
    (keyed_spoiled (g.F.Folder.held c.self.inside.cache.folder) c.self.inside.cache.disk
    c.self.inside.cache.spoiled (g.F.Folder.held c.self.inside.cache.folder).files
    (g.F.Folder.held c.remove-answer.new.self.folder).files c.self.invariant c.remove-answer.ensures.stays)
