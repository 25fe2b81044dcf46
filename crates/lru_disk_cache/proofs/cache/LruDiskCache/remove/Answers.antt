use Rattle.std.proofs.Common.{rules, ◌≡◌, ◌++◌, true, IsSome, refl, ap, sym, subst, ◌∙◌}
use Rattle.folders.specs.Held.{Became}
use Rattle.listed_files.specs.Disk.{Keeps, KeepsSpoiled}
use Rattle.listed_files.specs.Key.{is_key}
use Rattle.lru_disk_cache.specs.Reserved.{KeepsReserved}
use Rattle.lru_disk_cache.specs.Store.{IsStore}
use Rattle.lru_disk_cache.proofs.Insides.{disk_of}
use Rattle.listed_files.proofs.Standing.{keeps_absent}
use Rattle.lru_disk_cache.proofs.Reserving.{listed_key, key_reserved}
use Rattle.lru_disk_cache.proofs.Stores.{removed_store}
use Rattle.listed_files.proofs.Trims.{none_out}
use Rattle.std.specs.Map.{lookup}
use Rattle.std.specs.Str.{bytes_eq}
use Rattle.lru_disk_cache.proofs.DiskSteps.{step_removed}
use Rattle.folders.specs.Changed.{OnlyRemoved}
use Rattle.listed_files.proofs.Spared.{only_removed}
use Rattle.lru_disk_cache.proofs.Spoiled.{at_spoiled, fresh_key}
use Rattle.lru_disk_cache.proofs.cache.LruDiskCache.remove.Given.{Over}
use Rattle.lru_disk_cache.proofs.cache.LruDiskCache.remove.Goals.{After-remove_file}
use Rattle.lru_disk_cache.proofs.cache.LruDiskCache.remove.Goals as goal

-- ---- behind the removal of the file, whatever it answered

listed : (g : Over) (c : After-remove_file g) → is_key c.in-Ok.key ≡ true
listed g c =
    listed_key c.in-Ok.key c.self.inside.table.entries c.self.invariant.stands.keys
    (sym c.contains.ensures ∙ c.if-not-contains.false)

stands : (g : Over) (c : After-remove_file g) → IsStore (g.F.Folder.held c.remove_file.new.folder)
    (disk_of c.self.inside.path c.self.inside.root c.unlist.new.self c.self.inside.pending)
stands g c =
    removed_store c.self.inside.path c.self.inside.root c.self.inside.pending
    (g.F.Folder.held c.self.inside.folder) (g.F.Folder.held c.remove_file.new.folder) c.in-Ok.key
    c.self.inside.table c.unlist.new.self c.self.invariant
    (sym c.contains.ensures ∙ c.if-not-contains.false) c.unlist.ensures.entries c.unlist.ensures.absent
    c.remove_file.ensures.others

kept : (g : Over) (c : After-remove_file g)
    → Became (Keeps c.args.self.now.disk.root c.unlist.new.self.entries)
    (g.F.Folder.held c.args.self.now.folder).files (g.F.Folder.held c.remove_file.new.folder).files
kept g c =
    subst (λ s. Became (Keeps s.disk.root c.unlist.new.self.entries) (g.F.Folder.held s.folder).files
    (g.F.Folder.held c.remove_file.new.folder).files) c.self.view_is
    (keeps_absent c.self.inside.root c.in-Ok.key c.unlist.new.self.entries
    (g.F.Folder.held c.self.inside.folder).files (g.F.Folder.held c.remove_file.new.folder).files
    c.unlist.ensures.absent c.remove_file.ensures.others)

reserved : (g : Over) (c : After-remove_file g) → Became (KeepsReserved c.args.self.now.disk.pending)
    (g.F.Folder.held c.args.self.now.folder).files (g.F.Folder.held c.remove_file.new.folder).files
reserved g c =
    subst (λ s. Became (KeepsReserved s.disk.pending) (g.F.Folder.held s.folder).files
    (g.F.Folder.held c.remove_file.new.folder).files) c.self.view_is
    (key_reserved c.self.inside.root c.in-Ok.key c.self.inside.pending
    (g.F.Folder.held c.self.inside.folder).files (g.F.Folder.held c.remove_file.new.folder).files
    (listed g c) c.self.invariant.reserved c.remove_file.ensures.others)

removed : (g : Over) (c : After-remove_file g) → Became OnlyRemoved
    (g.F.Folder.held c.args.self.now.folder).files (g.F.Folder.held c.remove_file.new.folder).files
removed g c =
    subst (λ s. Became OnlyRemoved (g.F.Folder.held s.folder).files
    (g.F.Folder.held c.remove_file.new.folder).files) c.self.view_is
    (only_removed (c.self.inside.root ++ c.in-Ok.key) (g.F.Folder.held c.self.inside.folder).files
    (g.F.Folder.held c.remove_file.new.folder).files c.remove_file.ensures.part)

stays : (g : Over) (c : After-remove_file g)
    → Became (KeepsSpoiled c.args.self.now.disk.root c.args.self.now.spoiled)
    (g.F.Folder.held c.args.self.now.folder).files (g.F.Folder.held c.remove_file.new.folder).files
stays g c =
    subst (λ s. Became (KeepsSpoiled s.disk.root s.spoiled) (g.F.Folder.held s.folder).files
    (g.F.Folder.held c.remove_file.new.folder).files) c.self.view_is
    (at_spoiled c.self.inside.root (c.self.inside.root ++ c.in-Ok.key) c.self.inside.spoiled
    (g.F.Folder.held c.self.inside.folder).files (g.F.Folder.held c.remove_file.new.folder).files
    (fresh_key c.self.inside.root (c.self.inside.root ++ c.in-Ok.key) c.in-Ok.key c.self.inside.spoiled refl
    (listed g c)) c.remove_file.ensures.others)

pub invariant_of-self : goal.invariant_of-self
invariant_of-self g c = stands g (goal.at.invariant_of-self g c).After-remove_file

pub invariant_of-self-2 : goal.invariant_of-self-2
invariant_of-self-2 g c = stands g (goal.at.invariant_of-self-2 g c).After-remove_file

pub returns-in-Ok-remove_file-clause-stands : goal.returns-in-Ok-remove_file-clause-stands
returns-in-Ok-remove_file-clause-stands g c =
    stands g (goal.at.returns-in-Ok-remove_file-clause-stands g c).After-remove_file

pub returns-clause-stands : goal.returns-clause-stands
returns-clause-stands g c = stands g (goal.at.returns-clause-stands g c).After-remove_file

pub returns-in-Ok-remove_file-clause-kept : goal.returns-in-Ok-remove_file-clause-kept
returns-in-Ok-remove_file-clause-kept g c =
    kept g (goal.at.returns-in-Ok-remove_file-clause-kept g c).After-remove_file

pub returns-clause-kept : goal.returns-clause-kept
returns-clause-kept g c = kept g (goal.at.returns-clause-kept g c).After-remove_file

pub returns-in-Ok-remove_file-clause-reserved : goal.returns-in-Ok-remove_file-clause-reserved
returns-in-Ok-remove_file-clause-reserved g c =
    reserved g (goal.at.returns-in-Ok-remove_file-clause-reserved g c).After-remove_file

pub returns-clause-reserved : goal.returns-clause-reserved
returns-clause-reserved g c = reserved g (goal.at.returns-clause-reserved g c).After-remove_file

pub returns-in-Ok-remove_file-clause-removed : goal.returns-in-Ok-remove_file-clause-removed
returns-in-Ok-remove_file-clause-removed g c =
    removed g (goal.at.returns-in-Ok-remove_file-clause-removed g c).After-remove_file

pub returns-clause-removed : goal.returns-clause-removed
returns-clause-removed g c = removed g (goal.at.returns-clause-removed g c).After-remove_file

pub returns-in-Ok-remove_file-clause-stays : goal.returns-in-Ok-remove_file-clause-stays
returns-in-Ok-remove_file-clause-stays g c =
    stays g (goal.at.returns-in-Ok-remove_file-clause-stays g c).After-remove_file

pub returns-clause-stays : goal.returns-clause-stays
returns-clause-stays g c = stays g (goal.at.returns-clause-stays g c).After-remove_file

pub returns-in-Ok-remove_file-clause-ok : goal.returns-in-Ok-remove_file-clause-ok
returns-in-Ok-remove_file-clause-ok g c = search rules

pub returns-in-Ok-remove_file-clause-exact : goal.returns-in-Ok-remove_file-clause-exact
returns-in-Ok-remove_file-clause-exact g c = search rules

pub returns-in-Ok-remove_file-clause-in_step : goal.returns-in-Ok-remove_file-clause-in_step
returns-in-Ok-remove_file-clause-in_step g c =
    let listed = subst (λ s. IsSome (lookup (bytes_eq c.args.key.now) s.disk.entries)) c.self.view_is
    (subst (λ k. IsSome (lookup (bytes_eq k) c.self.inside.table.entries)) c.in-Ok.ensures.text
    (sym c.contains.ensures ∙ c.if-not-contains.false)) in
    step_removed c.args.self.now.disk _ (g.F.Folder.held c.args.self.now.folder)
    (g.F.Folder.held c.remove_file.new.folder) c.args.key.now c.shown.ensures.distinct
    (returns-in-Ok-remove_file-clause-ok g c) (returns-in-Ok-remove_file-clause-exact g c listed)

pub returns-then-not-contains-clause-ok : goal.returns-then-not-contains-clause-ok
returns-then-not-contains-clause-ok g c =
    sym (ap (λ es. record c.args.self.now.disk { entries = es })
    (none_out c.in-Ok.key c.args.key.now c.self.inside.table.entries c.args.self.now.disk.entries
    c.contains.result c.in-Ok.ensures.text (ap (λ s. s.disk.entries) c.self.view_is) c.contains.ensures
    c.if-not-contains.true))

pub returns-then-not-has-clause-ok : goal.returns-then-not-has-clause-ok
returns-then-not-has-clause-ok g c =
    sym (ap (λ es. record c.args.self.now.disk { entries = es })
    (none_out c.args.key.now c.args.key.now c.self.inside.table.entries c.args.self.now.disk.entries
    c.has.result refl (ap (λ s. s.disk.entries) c.self.view_is) c.has.ensures c.if-not-has.true))
