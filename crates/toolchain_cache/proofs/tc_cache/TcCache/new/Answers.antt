use Rattle.std.proofs.Common.{◌≡◌, ◌∙◌, List, ℕ, true, map, IfOk, ap, subst}
use Rattle.folders.specs.Files.{front}
use Rattle.folders.specs.Held.{Holds, Became}
use Rattle.folders.specs.Changed.{ButUnder, OnlyRemoved}
use Rattle.toolchain_cache.specs.Archives.{archive_path, archives_in, opened_archives, paths_under, IsInStep}
use Rattle.toolchain_cache.specs.Archiving.{Relists}
use Rattle.toolchain_cache.specs.Cleaned.{are_archive_keys, NoneTold}
use Rattle.toolchain_cache.proofs.OverFolder.{hold_new, opened_new, relists_new, told_keys, in_step_new}
use Rattle.toolchain_cache.proofs.OverFolder.{cleared_new, outside_new, made_ok, fails_from, first_none}
use Rattle.toolchain_cache.proofs.OverFolder.{holds_none, became_none, handed_either}
use Rattle.folders.proofs.Became.{became_map}
use Rattle.folders.proofs.Exactly.{removed_both}
use Rattle.toolchain_cache.proofs.Insides.{archives_of}
use Rattle.folders.proofs.Removals.{none_spared, spared_both, spared_of}
use Rattle.folders.specs.Changed.{RemovedUnder}
use Rattle.toolchain_cache.specs.Stored.{KeepsListed}
use Rattle.toolchain_cache.proofs.Sparing.{listed_stay, refused_listed, opened_keeps}
use Rattle.toolchain_cache.proofs.tc_cache.TcCache.new.Goals as goal

pub over-requires-clause-hold : goal.over-requires-clause-hold
over-requires-clause-hold g c =
    hold_new c.args.cache_dir.now c.in-Ok.root c.args.cache_size (g.F.Folder.held c.args.folder)
    (g.F.Folder.held c.clean.new.folder) (g.F.Folder.held c.in-Ok-new.cache.folder) c.in-Ok-new.cache.disk
    c.in-Ok.ensures.1 c.in-Ok-clean.ensures.cleaned c.in-Ok-new.ensures.opened c.in-Ok-new.ensures.removed
    c.in-Ok-new.ensures.stands

pub returns-in-Ok-new-clause-opened : goal.returns-in-Ok-new-clause-opened
returns-in-Ok-new-clause-opened g c =
    made_ok (λ t. Holds (g.F.Folder.held c.args.folder)
    (λ files. t.archives ≡ opened_archives c.args.cache_dir.now c.args.cache_size files))
    (λ t. NoneTold (g.F.Folder.held c.in-Ok-new.cache.folder) (g.F.Folder.held t.folder))
    (are_archive_keys c.in-Ok-new.cache.disk.entries ≡ true)
    (archives_of c.in-Ok-new.cache.disk c.in-Ok-new.cache.folder c.in-Ok-new.cache.spoiled) c.over.result
    c.over.ensures.ok
    (λ k. opened_new c.args.cache_dir.now c.in-Ok.root c.args.cache_size (g.F.Folder.held c.args.folder)
    (g.F.Folder.held c.clean.new.folder) (g.F.Folder.held c.in-Ok-new.cache.folder) c.in-Ok-new.cache.disk
    c.in-Ok.ensures.1 c.in-Ok-clean.ensures.cleaned c.in-Ok-new.ensures.opened)
    (λ t none. holds_none (g.F.Folder.held c.args.folder)
    (λ files. t.archives ≡ opened_archives c.args.cache_dir.now c.args.cache_size files) (first_none c.in-Ok.root c.args.cache_size (g.F.Folder.held c.args.folder) (g.F.Folder.held c.clean.new.folder)
    (g.F.Folder.held c.in-Ok-new.cache.folder) c.in-Ok-clean.ensures.cleaned c.in-Ok-new.ensures.removed none.0))

pub returns-in-Ok-new-clause-relists : goal.returns-in-Ok-new-clause-relists
returns-in-Ok-new-clause-relists g c =
    made_ok (λ t. Holds (g.F.Folder.held c.args.folder)
    (λ files. Relists c.args.cache_dir.now c.args.cache_size files t.archives))
    (λ t. NoneTold (g.F.Folder.held c.in-Ok-new.cache.folder) (g.F.Folder.held t.folder))
    (are_archive_keys c.in-Ok-new.cache.disk.entries ≡ true)
    (archives_of c.in-Ok-new.cache.disk c.in-Ok-new.cache.folder c.in-Ok-new.cache.spoiled) c.over.result
    c.over.ensures.ok
    (λ k. relists_new c.args.cache_dir.now c.in-Ok.root c.args.cache_size (g.F.Folder.held c.args.folder)
    (g.F.Folder.held c.clean.new.folder) (g.F.Folder.held c.in-Ok-new.cache.folder) c.in-Ok-new.cache.disk
    c.in-Ok.ensures.1 c.in-Ok-clean.ensures.cleaned c.in-Ok-new.ensures.opened)
    (λ t none. holds_none (g.F.Folder.held c.args.folder)
    (λ files. Relists c.args.cache_dir.now c.args.cache_size files t.archives) (first_none c.in-Ok.root c.args.cache_size (g.F.Folder.held c.args.folder) (g.F.Folder.held c.clean.new.folder)
    (g.F.Folder.held c.in-Ok-new.cache.folder) c.in-Ok-clean.ensures.cleaned c.in-Ok-new.ensures.removed none.0))

pub returns-in-Ok-new-clause-in_step : goal.returns-in-Ok-new-clause-in_step
returns-in-Ok-new-clause-in_step g c =
    made_ok (λ t. IsInStep c.args.cache_dir.now (g.F.Folder.held t.folder) t.archives)
    (λ t. NoneTold (g.F.Folder.held c.in-Ok-new.cache.folder) (g.F.Folder.held t.folder))
    (are_archive_keys c.in-Ok-new.cache.disk.entries ≡ true)
    (archives_of c.in-Ok-new.cache.disk c.in-Ok-new.cache.folder c.in-Ok-new.cache.spoiled) c.over.result
    c.over.ensures.ok
    (λ k. in_step_new c.args.cache_dir.now c.in-Ok.root c.args.cache_size (g.F.Folder.held c.args.folder)
    (g.F.Folder.held c.clean.new.folder) (g.F.Folder.held c.in-Ok-new.cache.folder) c.in-Ok-new.cache.disk
    (c.in-Ok-new.ensures.stands.root ∙ ap front c.in-Ok-new.ensures.empty.0) c.in-Ok-new.ensures.cleared
    (hold_new c.args.cache_dir.now c.in-Ok.root c.args.cache_size (g.F.Folder.held c.args.folder)
    (g.F.Folder.held c.clean.new.folder) (g.F.Folder.held c.in-Ok-new.cache.folder) c.in-Ok-new.cache.disk
    c.in-Ok.ensures.1 c.in-Ok-clean.ensures.cleaned c.in-Ok-new.ensures.opened c.in-Ok-new.ensures.removed
    c.in-Ok-new.ensures.stands) k)
    (λ t none. holds_none (g.F.Folder.held t.folder)
    (λ files. archives_in c.args.cache_dir.now files ≡ t.archives) none.1)

pub returns-in-Ok-new-clause-cleared : goal.returns-in-Ok-new-clause-cleared
returns-in-Ok-new-clause-cleared g c =
    made_ok (λ t. Holds (g.F.Folder.held t.folder)
    (λ files. paths_under c.args.cache_dir.now files ≡ map
    (λ (a : List ℕ × ℕ). archive_path c.args.cache_dir.now a.0) t.archives))
    (λ t. NoneTold (g.F.Folder.held c.in-Ok-new.cache.folder) (g.F.Folder.held t.folder))
    (are_archive_keys c.in-Ok-new.cache.disk.entries ≡ true)
    (archives_of c.in-Ok-new.cache.disk c.in-Ok-new.cache.folder c.in-Ok-new.cache.spoiled) c.over.result
    c.over.ensures.ok
    (λ k. cleared_new c.args.cache_dir.now c.in-Ok.root c.args.cache_size (g.F.Folder.held c.args.folder)
    (g.F.Folder.held c.clean.new.folder) (g.F.Folder.held c.in-Ok-new.cache.folder) c.in-Ok-new.cache.disk
    (c.in-Ok-new.ensures.stands.root ∙ ap front c.in-Ok-new.ensures.empty.0) c.in-Ok-new.ensures.cleared
    k)
    (λ t none. holds_none (g.F.Folder.held t.folder)
    (λ files. paths_under c.args.cache_dir.now files ≡ map
    (λ (a : List ℕ × ℕ). archive_path c.args.cache_dir.now a.0) t.archives) none.1)

pub returns-in-Ok-new-clause-fails : goal.returns-in-Ok-new-clause-fails
returns-in-Ok-new-clause-fails g c =
    fails_from g.F.Folder.held (g.F.Folder.held c.args.folder) (g.F.Folder.held c.in-Ok-new.cache.folder)
    c.over.result (c.in-Ok-new.ensures.steady ∙ c.in-Ok-clean.ensures.counts)
    (first_none c.in-Ok.root c.args.cache_size (g.F.Folder.held c.args.folder) (g.F.Folder.held c.clean.new.folder)
    (g.F.Folder.held c.in-Ok-new.cache.folder) c.in-Ok-clean.ensures.cleaned c.in-Ok-new.ensures.removed)
    c.over.ensures.fails

pub over-requires-clause-told : goal.over-requires-clause-told
over-requires-clause-told g c =
    told_keys c.args.cache_dir.now c.in-Ok.root c.args.cache_size (g.F.Folder.held c.args.folder)
    (g.F.Folder.held c.clean.new.folder) (g.F.Folder.held c.in-Ok-new.cache.folder) c.in-Ok-new.cache.disk
    c.in-Ok.ensures.1 c.in-Ok-clean.ensures.cleaned c.in-Ok-new.ensures.opened c.in-Ok-new.ensures.removed

pub returns-in-Ok-new-clause-removed : goal.returns-in-Ok-new-clause-removed
returns-in-Ok-new-clause-removed g c =
    made_ok (λ t. Became OnlyRemoved (g.F.Folder.held c.args.folder).files (g.F.Folder.held t.folder).files)
    (λ t. NoneTold (g.F.Folder.held c.in-Ok-new.cache.folder) (g.F.Folder.held t.folder))
    (are_archive_keys c.in-Ok-new.cache.disk.entries ≡ true)
    (archives_of c.in-Ok-new.cache.disk c.in-Ok-new.cache.folder c.in-Ok-new.cache.spoiled) c.over.result
    c.over.ensures.ok
    (λ k. removed_both (g.F.Folder.held c.args.folder).files (g.F.Folder.held c.clean.new.folder).files
    (g.F.Folder.held c.in-Ok-new.cache.folder).files
    (became_map (RemovedUnder c.in-Ok.root) OnlyRemoved (g.F.Folder.held c.args.folder).files
    (g.F.Folder.held c.clean.new.folder).files (λ f h r. r.0) c.clean.ensures.spares)
    c.in-Ok-new.ensures.removed)
    (λ t none. became_none OnlyRemoved (g.F.Folder.held c.args.folder).files (g.F.Folder.held t.folder).files
    (first_none c.in-Ok.root c.args.cache_size (g.F.Folder.held c.args.folder) (g.F.Folder.held c.clean.new.folder)
    (g.F.Folder.held c.in-Ok-new.cache.folder) c.in-Ok-clean.ensures.cleaned c.in-Ok-new.ensures.removed none.0) none.1)

pub returns-in-Ok-new-clause-others : goal.returns-in-Ok-new-clause-others
returns-in-Ok-new-clause-others g c =
    made_ok (λ t. Became (ButUnder (front c.args.cache_dir.now)) (g.F.Folder.held c.args.folder).files
    (g.F.Folder.held t.folder).files) (λ t. NoneTold (g.F.Folder.held c.in-Ok-new.cache.folder) (g.F.Folder.held t.folder))
    (are_archive_keys c.in-Ok-new.cache.disk.entries ≡ true)
    (archives_of c.in-Ok-new.cache.disk c.in-Ok-new.cache.folder c.in-Ok-new.cache.spoiled) c.over.result
    c.over.ensures.ok
    (λ k. outside_new c.args.cache_dir.now c.in-Ok.root c.args.cache_size (g.F.Folder.held c.args.folder)
    (g.F.Folder.held c.clean.new.folder) (g.F.Folder.held c.in-Ok-new.cache.folder) c.in-Ok-new.cache.disk
    c.in-Ok.ensures.1 c.in-Ok-clean.ensures.cleaned
    (c.in-Ok-new.ensures.stands.root ∙ ap front c.in-Ok-new.ensures.empty.0) c.in-Ok-new.ensures.others)
    (λ t none. became_none (ButUnder (front c.args.cache_dir.now)) (g.F.Folder.held c.args.folder).files
    (g.F.Folder.held t.folder).files (first_none c.in-Ok.root c.args.cache_size (g.F.Folder.held c.args.folder) (g.F.Folder.held c.clean.new.folder)
    (g.F.Folder.held c.in-Ok-new.cache.folder) c.in-Ok-clean.ensures.cleaned c.in-Ok-new.ensures.removed none.0) none.1)

pub returns-in_default-clause-left : goal.returns-in_default-clause-left
returns-in_default-clause-left g c = none_spared (front c.args.cache_dir.now) (g.F.Folder.held c.args.folder).files

pub returns-in-Err-clause-left : goal.returns-in-Err-clause-left
returns-in-Err-clause-left g c = (subst (λ r. Became (RemovedUnder r) (g.F.Folder.held c.args.folder).files (g.F.Folder.held c.clean.new.folder).files)
    c.in-Ok.ensures.1 c.clean.ensures.spares)

pub returns-clause-left : goal.returns-clause-left
returns-clause-left g c = spared_both (front c.args.cache_dir.now) (g.F.Folder.held c.args.folder).files (g.F.Folder.held c.clean.new.folder).files
    (g.F.Folder.held c.in-Err-new.refusal.1).files (subst (λ r. Became (RemovedUnder r) (g.F.Folder.held c.args.folder).files (g.F.Folder.held c.clean.new.folder).files)
    c.in-Ok.ensures.1 c.clean.ensures.spares) c.in-Err-new.ensures.left

pub returns-in-Ok-new-clause-left : goal.returns-in-Ok-new-clause-left
returns-in-Ok-new-clause-left g c = handed_either g.F.Folder.held (λ o. Became (RemovedUnder (front c.args.cache_dir.now)) (g.F.Folder.held c.args.folder).files o)
    c.in-Ok-new.cache.folder c.over.result c.over.ensures.back
    (spared_both (front c.args.cache_dir.now) (g.F.Folder.held c.args.folder).files (g.F.Folder.held c.clean.new.folder).files
    (g.F.Folder.held c.in-Ok-new.cache.folder).files (subst (λ r. Became (RemovedUnder r) (g.F.Folder.held c.args.folder).files (g.F.Folder.held c.clean.new.folder).files)
    c.in-Ok.ensures.1 c.clean.ensures.spares)
    (spared_of c.in-Ok-new.cache.disk.root (front c.args.cache_dir.now) (g.F.Folder.held c.clean.new.folder).files
    (g.F.Folder.held c.in-Ok-new.cache.folder).files
    (c.in-Ok-new.ensures.stands.root ∙ ap front c.in-Ok-new.ensures.empty.0) c.in-Ok-new.ensures.removed
    c.in-Ok-new.ensures.others))
    (λ o none gone. became_none (RemovedUnder (front c.args.cache_dir.now)) (g.F.Folder.held c.args.folder).files o
    (first_none c.in-Ok.root c.args.cache_size (g.F.Folder.held c.args.folder) (g.F.Folder.held c.clean.new.folder)
    (g.F.Folder.held c.in-Ok-new.cache.folder) c.in-Ok-clean.ensures.cleaned c.in-Ok-new.ensures.removed none) gone)

pub returns-in_default-clause-spared : goal.returns-in_default-clause-spared
returns-in_default-clause-spared g c =
    listed_stay c.args.cache_dir.now c.args.cache_size (g.F.Folder.held c.args.folder).files

pub returns-in-Err-clause-spared : goal.returns-in-Err-clause-spared
returns-in-Err-clause-spared g c =
    (subst (λ p. Became (KeepsListed p c.args.cache_size) (g.F.Folder.held c.args.folder).files
    (g.F.Folder.held c.clean.new.folder).files) c.in-Ok.ensures.0 c.clean.ensures.spared)

pub returns-clause-spared : goal.returns-clause-spared
returns-clause-spared g c =
    refused_listed c.args.cache_dir.now c.in-Ok.root c.args.cache_size (g.F.Folder.held c.args.folder).files
    (g.F.Folder.held c.clean.new.folder).files (g.F.Folder.held c.in-Err-new.refusal.1).files c.in-Ok.ensures.1
    c.in-Ok-clean.ensures.cleaned (subst (λ p. Became (KeepsListed p c.args.cache_size) (g.F.Folder.held c.args.folder).files
    (g.F.Folder.held c.clean.new.folder).files) c.in-Ok.ensures.0 c.clean.ensures.spared)
    c.in-Err-new.ensures.spared

pub returns-in-Ok-new-clause-spared : goal.returns-in-Ok-new-clause-spared
returns-in-Ok-new-clause-spared g c =
    handed_either g.F.Folder.held (λ o. Became (KeepsListed c.args.cache_dir.now c.args.cache_size)
    (g.F.Folder.held c.args.folder).files o) c.in-Ok-new.cache.folder c.over.result c.over.ensures.back
    (refused_listed c.args.cache_dir.now c.in-Ok.root c.args.cache_size (g.F.Folder.held c.args.folder).files
    (g.F.Folder.held c.clean.new.folder).files (g.F.Folder.held c.in-Ok-new.cache.folder).files c.in-Ok.ensures.1
    c.in-Ok-clean.ensures.cleaned (subst (λ p. Became (KeepsListed p c.args.cache_size) (g.F.Folder.held c.args.folder).files
    (g.F.Folder.held c.clean.new.folder).files) c.in-Ok.ensures.0 c.clean.ensures.spared)
    (opened_keeps c.args.cache_dir.now c.args.cache_size (g.F.Folder.held c.clean.new.folder)
    (g.F.Folder.held c.in-Ok-new.cache.folder) c.in-Ok-new.cache.disk c.in-Ok-new.ensures.opened
    c.in-Ok-new.ensures.removed c.in-Ok-new.ensures.stands))
    (λ o none gone. became_none (KeepsListed c.args.cache_dir.now c.args.cache_size) (g.F.Folder.held c.args.folder).files o
    (first_none c.in-Ok.root c.args.cache_size (g.F.Folder.held c.args.folder) (g.F.Folder.held c.clean.new.folder)
    (g.F.Folder.held c.in-Ok-new.cache.folder) c.in-Ok-clean.ensures.cleaned c.in-Ok-new.ensures.removed none) gone)

pub returns-in-Ok-new-clause-kept : goal.returns-in-Ok-new-clause-kept
returns-in-Ok-new-clause-kept g c =
    made_ok (λ t. Became (KeepsListed c.args.cache_dir.now c.args.cache_size)
    (g.F.Folder.held c.args.folder).files (g.F.Folder.held t.folder).files)
    (λ t. NoneTold (g.F.Folder.held c.in-Ok-new.cache.folder) (g.F.Folder.held t.folder))
    (are_archive_keys c.in-Ok-new.cache.disk.entries ≡ true)
    (archives_of c.in-Ok-new.cache.disk c.in-Ok-new.cache.folder c.in-Ok-new.cache.spoiled) c.over.result
    c.over.ensures.ok
    (λ k. (refused_listed c.args.cache_dir.now c.in-Ok.root c.args.cache_size (g.F.Folder.held c.args.folder).files
    (g.F.Folder.held c.clean.new.folder).files (g.F.Folder.held c.in-Ok-new.cache.folder).files c.in-Ok.ensures.1
    c.in-Ok-clean.ensures.cleaned (subst (λ p. Became (KeepsListed p c.args.cache_size) (g.F.Folder.held c.args.folder).files
    (g.F.Folder.held c.clean.new.folder).files) c.in-Ok.ensures.0 c.clean.ensures.spared)
    (opened_keeps c.args.cache_dir.now c.args.cache_size (g.F.Folder.held c.clean.new.folder)
    (g.F.Folder.held c.in-Ok-new.cache.folder) c.in-Ok-new.cache.disk c.in-Ok-new.ensures.opened
    c.in-Ok-new.ensures.removed c.in-Ok-new.ensures.stands)))
    (λ t none. became_none (KeepsListed c.args.cache_dir.now c.args.cache_size) (g.F.Folder.held c.args.folder).files
    (g.F.Folder.held t.folder).files (first_none c.in-Ok.root c.args.cache_size (g.F.Folder.held c.args.folder) (g.F.Folder.held c.clean.new.folder)
    (g.F.Folder.held c.in-Ok-new.cache.folder) c.in-Ok-clean.ensures.cleaned c.in-Ok-new.ensures.removed none.0) none.1)

pub returns-in-Ok-new-clause-begun : goal.returns-in-Ok-new-clause-begun
returns-in-Ok-new-clause-begun g c =
    subst (λ n. IfOk c.over.result (λ t. t.spoiled ≡ n)) c.in-Ok-new.ensures.empty.3 c.over.ensures.spoiled
