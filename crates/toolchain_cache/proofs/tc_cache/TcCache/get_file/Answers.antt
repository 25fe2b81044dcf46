use Rattle.std.proofs.Common.{◌≡◌, ◌∙◌, ◌≤◌, Err, IsSome, IfOk, IfErr, OnOk, sym, subst, arith}
use Rattle.std.specs.Map.{keys_of, lookup}
use Rattle.std.specs.List.{IsDistinct}
use Rattle.std.specs.Str.{bytes_eq}
use Rattle.folders.specs.Files.{touched}
use Rattle.folders.specs.Held.{Holds, BecameBy}
use Rattle.dist_types.specs.declared.cache_error.Error.TheVariants.{Memory as NoMemory}
use Rattle.listed_files.specs.Entries.{total, promoted_key}
use Rattle.toolchain_cache.specs.Archives.{id_of, archive_path, IsInStep}
use Rattle.toolchain_cache.specs.Archiving.{FindFails}
use Rattle.toolchain_cache.specs.Keyed.{unkeyed, IsKeyed}
use Rattle.toolchain_cache.proofs.Unkeyed.{keyed_store}
use Rattle.toolchain_cache.proofs.TcSteps.{looked_keyed, looked_ok, looked_found, digest_found, looked_fails}
use Rattle.toolchain_cache.proofs.TcSteps.{looked_in_step}
use Rattle.toolchain_cache.proofs.StoredLemmas.{memory_un, touched_archive}
use Rattle.toolchain_cache.proofs.tc_cache.TcCache.get_file.Goals as goal

pub invariant_of-self : goal.invariant_of-self
invariant_of-self g c =
    looked_keyed c.get.result.now c.self.inside.cache.disk c.get_file-answer.new.self.disk
    (g.F.Folder.held c.self.inside.cache.folder) (g.F.Folder.held c.get_file-answer.new.self.folder)
    c.get_file-answer.result c.self.invariant c.get_file-answer.ensures.ok c.get_file-answer.ensures.fails
    c.get_file-answer.ensures.others

pub returns-clause-ok : goal.returns-clause-ok
returns-clause-ok g c =
    subst (λ s. OnOk c.get_file-answer.result
    (unkeyed c.get_file-answer.new.self.disk.entries ≡ promoted_key c.args.tc.now s.archives))
    c.self.view_is (looked_ok c.args.tc.now c.get.result.now c.self.inside.cache.disk
    c.get_file-answer.new.self.disk c.get_file-answer.result c.key_of.ensures.id
    (c.get.ensures.text ∙ c.in-Ok.ensures.key) c.self.invariant.keys c.get_file-answer.ensures.ok)

pub returns-clause-found : goal.returns-clause-found
returns-clause-found g c =
    subst (λ s. OnOk c.get_file-answer.result (IsSome (lookup (bytes_eq c.args.tc.now) s.archives)))
    c.self.view_is (looked_found c.args.tc.now c.get.result.now c.self.inside.cache.disk.entries
    c.get_file-answer.result c.key_of.ensures.id (c.get.ensures.text ∙ c.in-Ok.ensures.key)
    c.self.invariant.keys c.get_file-answer.ensures.found)

pub returns-clause-digest : goal.returns-clause-digest
returns-clause-digest g c =
    subst (λ s. IfOk c.get_file-answer.result
    (λ v. Holds (g.F.Folder.held s.folder) (λ files. id_of v.items ≡ c.args.tc.now))) c.self.view_is
    (digest_found (λ v. v.items) c.args.tc.now c.get.result.now c.self.inside.cache.disk
    (g.F.Folder.held c.self.inside.cache.folder) c.get_file-answer.result c.key_of.ensures.id
    (c.get.ensures.text ∙ c.in-Ok.ensures.key) c.self.invariant c.get_file-answer.ensures.found
    c.get_file-answer.ensures.content)

pub returns-clause-fails : goal.returns-clause-fails
returns-clause-fails g c =
    subst (λ s. IfErr c.get_file-answer.result
    (λ e. FindFails c.args.tc.now e s.archives (unkeyed c.get_file-answer.new.self.disk.entries)
    (g.F.Folder.held s.folder) (g.F.Folder.held c.get_file-answer.new.self.folder))) c.self.view_is
    (looked_fails c.args.tc.now c.get.result.now c.self.inside.cache.disk c.get_file-answer.new.self.disk
    (g.F.Folder.held c.self.inside.cache.folder) (g.F.Folder.held c.get_file-answer.new.self.folder)
    c.get_file-answer.result c.key_of.ensures.id (c.get.ensures.text ∙ c.in-Ok.ensures.key)
    c.self.invariant.keys c.get_file-answer.ensures.fails)

pub returns-clause-in_step : goal.returns-clause-in_step
returns-clause-in_step g c =
    subst (λ s. IsInStep s.path (g.F.Folder.held s.folder) s.archives → OnOk c.get_file-answer.result
    (IsInStep c.get_file-answer.new.self.disk.path (g.F.Folder.held c.get_file-answer.new.self.folder)
    (unkeyed c.get_file-answer.new.self.disk.entries))) c.self.view_is
    (looked_in_step c.args.tc.now c.get.result.now c.self.inside.cache.disk
    c.get_file-answer.new.self.disk (g.F.Folder.held c.self.inside.cache.folder)
    (g.F.Folder.held c.get_file-answer.new.self.folder) c.get_file-answer.result c.key_of.ensures.id
    (c.get.ensures.text ∙ c.in-Ok.ensures.key) c.self.invariant
    (subst (λ s. IsDistinct bytes_eq (keys_of s.archives))
    (sym c.self.view_is) c.shown.ensures.stands.distinct) c.get_file-answer.ensures.ok
    c.get_file-answer.ensures.found c.get_file-answer.ensures.exact)

pub returns-clause-stands : goal.returns-clause-stands
returns-clause-stands g c =
    let keyed : IsKeyed (g.F.Folder.held c.get_file-answer.new.self.folder) c.get_file-answer.new.self.disk =
    looked_keyed c.get.result.now c.self.inside.cache.disk c.get_file-answer.new.self.disk
    (g.F.Folder.held c.self.inside.cache.folder) (g.F.Folder.held c.get_file-answer.new.self.folder)
    c.get_file-answer.result c.self.invariant c.get_file-answer.ensures.ok c.get_file-answer.ensures.fails
    c.get_file-answer.ensures.others in
    let fits : total c.get_file-answer.new.self.disk.entries ≤ c.get_file-answer.new.self.disk.capacity =
    omega (arith, c.get_file-answer.ensures.stands.fits) in
    keyed_store (g.F.Folder.held c.get_file-answer.new.self.folder) c.get_file-answer.new.self.disk keyed
    c.len-len.ensures.distinct fits

pub returns-clause-exact : goal.returns-clause-exact
returns-clause-exact g c =
    subst (λ s. OnOk c.get_file-answer.result (BecameBy (touched (archive_path s.path c.args.tc.now))
    (g.F.Folder.held s.folder).files (g.F.Folder.held c.get_file-answer.new.self.folder).files))
    c.self.view_is (touched_archive c.args.tc.now c.get.result.now c.self.inside.cache.disk
    (g.F.Folder.held c.self.inside.cache.folder) (g.F.Folder.held c.self.inside.cache.folder)
    (g.F.Folder.held c.get_file-answer.new.self.folder) c.get_file-answer.result
    (c.get.ensures.text ∙ c.in-Ok.ensures.key) c.self.invariant c.get_file-answer.ensures.exact)

pub returns-clause-memory : goal.returns-clause-memory
returns-clause-memory g c =
    subst (λ s. c.get_file-answer.result ≡ Err NoMemory → IsSome (lookup (bytes_eq c.args.tc.now) s.archives))
    c.self.view_is (memory_un c.args.tc.now c.get.result.now c.self.inside.cache.disk
    c.get_file-answer.new.self.disk (g.F.Folder.held c.self.inside.cache.folder)
    (g.F.Folder.held c.get_file-answer.new.self.folder) c.get_file-answer.result c.key_of.ensures.id
    (c.get.ensures.text ∙ c.in-Ok.ensures.key) c.self.invariant.keys c.get_file-answer.ensures.fails)
