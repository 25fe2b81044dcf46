use Rattle.std.proofs.Common.{◌≡◌, ◌∙◌, ℕ, List, codes, None, Some, IsSome, refl, sym, ap, subst}
use Rattle.folders.specs.Files.{file_at, front}
use Rattle.folders.specs.Held.{Holds, Became, Lacks}
use Rattle.folders.specs.Changed.{ButUnder}
use Rattle.toolchain_cache.specs.Archives.{opened_archives, IsInStep}
use Rattle.toolchain_cache.specs.Stored.{KeepsListed}
use Rattle.toolchain_cache.proofs.ArchiveOpens.{relists}
use Rattle.toolchain_cache.proofs.Sparing.{listed_stay}
use Rattle.folders.proofs.Became.{untold}
use Rattle.disk_cache.specs.Names.{cache_path, temp_dir, weak_path}
use Rattle.disk_cache.specs.Opening.{IsEmpty, ButOwn, LeftOpen, OpeningFails}
use Rattle.disk_cache.specs.WeakMaps.{weak_map_at}
use Rattle.disk_cache.proofs.KeptLemmas.{emptied_listed, cached_listed, loaded_listed, loaded_only}
use Rattle.disk_cache.proofs.LeftLemmas.{left_none, emptied_left, refused_left, loaded_left}
use Rattle.disk_cache.proofs.NameLemmas.{cache_apart_temp}
use Rattle.disk_cache.proofs.OpenLemmas.{open_archives, open_weak, open_temp, open_others, open_empty}
use Rattle.disk_cache.proofs.OpenLemmas.{open_lacking}
use Rattle.disk_cache.proofs.OpenLemmas.{load_fails, judge_fails, some_of}
use Rattle.disk_cache.proofs.client_toolchains.ClientToolchains.open.Goals as goal

pub returns-in-Err-load-clause-fails : goal.returns-in-Err-load-clause-fails
returns-in-Err-load-clause-fails g c =
    let held = g.F.Folder.held in
    let path_is = c.get.ensures.text in
    subst (λ d. OpeningFails c.in-Err-load.refusal d c.args.configs.now (held c.args.folder)
    (held c.into_folder.result)) c.in-Ok.ensures.dir
    (subst (λ f. OpeningFails c.in-Err-load.refusal c.in-Ok.names.dir c.args.configs.now (held c.args.folder)
    (held f)) (sym c.into_folder.ensures)
    (load_fails c.in-Err-load.refusal c.in-Ok.names.dir c.args.configs.now (held c.args.folder)
    (held c.prepare.new.folder) (held c.in-Ok-new.cache.folder) (held c.load.new.cache.folder)
    c.in-Ok-prepare.ensures.counts c.in-Ok-new.ensures.steady
    (λ none. untold (ButUnder (front (temp_dir c.in-Ok.names.dir))) (held c.args.folder).files
    (held c.prepare.new.folder).files c.in-Ok-prepare.ensures.others
    (untold (ButUnder (front c.get.result.now)) (held c.prepare.new.folder).files
    (held c.in-Ok-new.cache.folder).files c.in-Ok-new.ensures.others none))
    (open_weak c.in-Ok.names c.get.result.now (held c.args.folder) (held c.prepare.new.folder)
    (held c.in-Ok-new.cache.folder) c.in-Ok.ensures.names path_is c.in-Ok-prepare.ensures.others
    c.in-Ok-new.ensures.others (λ o. o ≡ None))
    c.in-Err-load.ensures.fails))

pub returns-in-Err-judge-clause-fails : goal.returns-in-Err-judge-clause-fails
returns-in-Err-judge-clause-fails g c =
    let held = g.F.Folder.held in
    subst (λ d. OpeningFails c.in-Err-judge.refusal d c.args.configs.now (held c.args.folder)
    (held c.into_folder-in-Err-judge.result)) c.in-Ok.ensures.dir
    (judge_fails c.in-Err-judge.refusal c.in-Ok.names.dir c.args.configs.now (held c.args.folder)
    (held c.into_folder-in-Err-judge.result) (sym c.judge.ensures ∙ c.in-Err-judge.is)
    (open_weak c.in-Ok.names c.get.result.now (held c.args.folder) (held c.prepare.new.folder)
    (held c.in-Ok-new.cache.folder) c.in-Ok.ensures.names c.get.ensures.text
    c.in-Ok-prepare.ensures.others c.in-Ok-new.ensures.others IsSome
    (λ files told. some_of _ c.in-Ok-load.weak (c.in-Ok-load.ensures.found files told))))

pub returns-clause-archives : goal.returns-clause-archives
returns-clause-archives g c = λ files told.
    let held = g.F.Folder.held in
    c.load.ensures.at.2
    ∙ subst (λ d. c.in-Ok-new.cache.archives ≡ opened_archives (cache_path d) c.args.cache_size files)
    c.in-Ok.ensures.dir
    (open_archives c.in-Ok.names.dir c.get.result.now c.args.cache_size c.in-Ok-new.cache.archives
    (held c.args.folder) (held c.prepare.new.folder) (c.get.ensures.text ∙ c.in-Ok.ensures.names.cache_is)
    c.in-Ok-new.ensures.opened
    (c.in-Ok-prepare.ensures.archives (cache_path c.in-Ok.names.dir) (cache_apart_temp c.in-Ok.names.dir))
    files told)

pub returns-clause-weak : goal.returns-clause-weak
returns-clause-weak g c =
    let held = g.F.Folder.held in
    subst (λ d. Holds (held c.args.folder) (λ files. weak_map_at d files ≡ Some c.in-Ok-load.weak))
    c.in-Ok.ensures.dir
    (open_weak c.in-Ok.names c.get.result.now (held c.args.folder) (held c.prepare.new.folder)
    (held c.in-Ok-new.cache.folder) c.in-Ok.ensures.names c.get.ensures.text
    c.in-Ok-prepare.ensures.others c.in-Ok-new.ensures.others (λ o. o ≡ Some c.in-Ok-load.weak)
    c.in-Ok-load.ensures.found)

pub returns-clause-emptied : goal.returns-clause-emptied
returns-clause-emptied g c =
    let held = g.F.Folder.held in
    subst (λ d. Holds (held c.load.new.cache.folder) (IsEmpty (temp_dir d))) c.in-Ok.ensures.dir
    (open_empty c.in-Ok.names c.get.result.now (held c.args.folder) (held c.prepare.new.folder)
    (held c.in-Ok-new.cache.folder) c.in-Ok.ensures.names c.get.ensures.text
    c.in-Ok-prepare.ensures.others c.in-Ok-new.ensures.others
    (held c.load.new.cache.folder) c.in-Ok-load.ensures.others
    c.in-Ok-prepare.ensures.emptied
    (c.in-Ok-load.ensures.clean (open_temp c.in-Ok.names c.get.result.now (held c.args.folder)
    (held c.prepare.new.folder) (held c.in-Ok-new.cache.folder) c.in-Ok.ensures.names c.get.ensures.text
    c.in-Ok-prepare.ensures.others c.in-Ok-new.ensures.others c.in-Ok-prepare.ensures.emptied)))

pub returns-clause-begun : goal.returns-clause-begun
returns-clause-begun g c = λ lacks.
    let held = g.F.Folder.held in
    subst (λ d. Holds (held c.load.new.cache.folder) (λ files. file_at files (weak_path d)
    ≡ Some (codes "{}"))) c.in-Ok.ensures.dir
    (c.in-Ok-load.ensures.begun
    (open_lacking c.in-Ok.names c.get.result.now (held c.args.folder) (held c.prepare.new.folder)
    (held c.in-Ok-new.cache.folder) c.in-Ok.ensures.names c.get.ensures.text
    c.in-Ok-prepare.ensures.others c.in-Ok-new.ensures.others
    (subst (λ d. Holds (held c.args.folder) (Lacks (weak_path d))) (sym c.in-Ok.ensures.dir) lacks)))

pub returns-clause-others : goal.returns-clause-others
returns-clause-others g c =
    let held = g.F.Folder.held in
    subst (λ d. Became (ButOwn d) (held c.args.folder).files (held c.load.new.cache.folder).files)
    c.in-Ok.ensures.dir
    (open_others c.in-Ok.names c.get.result.now (held c.args.folder) (held c.prepare.new.folder)
    (held c.in-Ok-new.cache.folder) c.in-Ok.ensures.names c.get.ensures.text
    c.in-Ok-prepare.ensures.others c.in-Ok-new.ensures.others
    (held c.load.new.cache.folder) c.in-Ok-load.ensures.others)

pub returns-in_default-clause-left : goal.returns-in_default-clause-left
returns-in_default-clause-left g c =
    left_none c.args.cache_dir.now (g.F.Folder.held c.args.folder).files

pub returns-in-Err-clause-left : goal.returns-in-Err-clause-left
returns-in-Err-clause-left g c =
    let held = g.F.Folder.held in
    emptied_left c.in-Ok.names c.args.cache_dir.now c.in-Ok.names.cache (held c.args.folder)
    (held c.prepare.new.folder) c.in-Ok.ensures.dir c.in-Ok.ensures.names refl c.prepare.ensures.left

pub returns-in-Err-load-clause-left : goal.returns-in-Err-load-clause-left
returns-in-Err-load-clause-left g c =
    let held = g.F.Folder.held in
    subst (λ f. Became (LeftOpen c.args.cache_dir.now) (held c.args.folder).files (held f).files)
    (sym c.into_folder.ensures)
    (loaded_left c.in-Ok.names c.args.cache_dir.now c.get.result.now (held c.args.folder)
    (held c.prepare.new.folder) c.in-Ok.ensures.dir c.in-Ok.ensures.names c.get.ensures.text
    c.prepare.ensures.left (held c.in-Ok-new.cache.folder) (held c.load.new.cache.folder)
    c.in-Ok-new.ensures.removed c.in-Ok-new.ensures.others c.load.ensures.others c.load.ensures.weak)

pub returns-in-Err-judge-clause-left : goal.returns-in-Err-judge-clause-left
returns-in-Err-judge-clause-left g c =
    let held = g.F.Folder.held in
    subst (λ f. Became (LeftOpen c.args.cache_dir.now) (held c.args.folder).files (held f).files)
    (sym c.into_folder-in-Err-judge.ensures)
    (loaded_left c.in-Ok.names c.args.cache_dir.now c.get.result.now (held c.args.folder)
    (held c.prepare.new.folder) c.in-Ok.ensures.dir c.in-Ok.ensures.names c.get.ensures.text
    c.prepare.ensures.left (held c.in-Ok-new.cache.folder) (held c.load.new.cache.folder)
    c.in-Ok-new.ensures.removed c.in-Ok-new.ensures.others c.load.ensures.others c.load.ensures.weak)

pub returns-in-Err-new-clause-left : goal.returns-in-Err-new-clause-left
returns-in-Err-new-clause-left g c =
    let held = g.F.Folder.held in
    refused_left c.in-Ok.names c.args.cache_dir.now c.get.result.now (held c.args.folder)
    (held c.prepare.new.folder) c.in-Ok.ensures.dir c.in-Ok.ensures.names c.get.ensures.text
    c.prepare.ensures.left (held c.in-Err-new.folder) c.in-Err-new.ensures.left

pub returns-in_default-copy_all-clause-left : goal.returns-in_default-copy_all-clause-left
returns-in_default-copy_all-clause-left g c =
    let held = g.F.Folder.held in
    subst (λ f. Became (LeftOpen c.args.cache_dir.now) (held c.args.folder).files (held f).files)
    (sym c.into_folder-in_default-copy_all.ensures)
    (loaded_left c.in-Ok.names c.args.cache_dir.now c.get.result.now (held c.args.folder)
    (held c.prepare.new.folder) c.in-Ok.ensures.dir c.in-Ok.ensures.names c.get.ensures.text
    c.prepare.ensures.left (held c.in-Ok-new.cache.folder) (held c.load.new.cache.folder)
    c.in-Ok-new.ensures.removed c.in-Ok-new.ensures.others c.load.ensures.others c.load.ensures.weak)

pub returns-clause-relists : goal.returns-clause-relists
returns-clause-relists g c = λ files told.
    relists (cache_path c.args.cache_dir.now) c.args.cache_size files c.load.new.cache.archives
    (returns-clause-archives g c files told)

pub returns-clause-in_step : goal.returns-clause-in_step
returns-clause-in_step g c =
    let held = g.F.Folder.held in
    subst (λ (p : List ℕ). IsInStep p (held c.load.new.cache.folder) c.load.new.cache.archives)
    (c.load.ensures.at.0 ∙ (c.in-Ok-new.ensures.at.0 ∙ (c.get.ensures.text ∙ (c.in-Ok.ensures.names.cache_is
    ∙ ap cache_path c.in-Ok.ensures.dir))))
    (c.load.ensures.in_step (subst (λ (p : List ℕ). IsInStep p (held c.in-Ok-new.cache.folder)
    c.in-Ok-new.cache.archives) (sym c.in-Ok-new.ensures.at.0) c.in-Ok-new.ensures.in_step))

pub returns-clause-kept : goal.returns-clause-kept
returns-clause-kept g c =
    let held = g.F.Folder.held in
    (loaded_listed c.in-Ok.names c.args.cache_dir.now c.get.result.now c.args.cache_size
    (held c.args.folder).files (held c.prepare.new.folder).files c.in-Ok.ensures.dir c.in-Ok.ensures.names
    c.get.ensures.text c.prepare.ensures.left
    (c.in-Ok-prepare.ensures.archives (cache_path c.in-Ok.names.dir) (cache_apart_temp c.in-Ok.names.dir))
    (held c.in-Ok-new.cache.folder).files c.in-Ok-new.ensures.kept (held c.load.new.cache.folder).files
    c.load.ensures.others)

pub returns-in_default-clause-spared : goal.returns-in_default-clause-spared
returns-in_default-clause-spared g c =
    listed_stay (cache_path c.args.cache_dir.now) c.args.cache_size (g.F.Folder.held c.args.folder).files

pub returns-in-Err-clause-spared : goal.returns-in-Err-clause-spared
returns-in-Err-clause-spared g c =
    let held = g.F.Folder.held in
    emptied_listed c.in-Ok.names c.args.cache_dir.now c.in-Ok.names.cache c.args.cache_size
    (held c.args.folder).files (held c.prepare.new.folder).files c.in-Ok.ensures.dir c.in-Ok.ensures.names
    refl c.prepare.ensures.left

pub returns-in-Err-new-clause-spared : goal.returns-in-Err-new-clause-spared
returns-in-Err-new-clause-spared g c =
    let held = g.F.Folder.held in
    cached_listed c.in-Ok.names c.args.cache_dir.now c.get.result.now c.args.cache_size
    (held c.args.folder).files (held c.prepare.new.folder).files c.in-Ok.ensures.dir c.in-Ok.ensures.names
    c.get.ensures.text c.prepare.ensures.left
    (c.in-Ok-prepare.ensures.archives (cache_path c.in-Ok.names.dir) (cache_apart_temp c.in-Ok.names.dir))
    (held c.in-Err-new.folder).files c.in-Err-new.ensures.spared

pub returns-in-Err-load-clause-spared : goal.returns-in-Err-load-clause-spared
returns-in-Err-load-clause-spared g c =
    let held = g.F.Folder.held in
    subst (λ f. Became (KeepsListed (cache_path c.args.cache_dir.now) c.args.cache_size)
    (held c.args.folder).files (held f).files) (sym c.into_folder.ensures)
    (loaded_listed c.in-Ok.names c.args.cache_dir.now c.get.result.now c.args.cache_size
    (held c.args.folder).files (held c.prepare.new.folder).files c.in-Ok.ensures.dir c.in-Ok.ensures.names
    c.get.ensures.text c.prepare.ensures.left
    (c.in-Ok-prepare.ensures.archives (cache_path c.in-Ok.names.dir) (cache_apart_temp c.in-Ok.names.dir))
    (held c.in-Ok-new.cache.folder).files c.in-Ok-new.ensures.kept (held c.load.new.cache.folder).files
    c.load.ensures.others)

pub returns-in-Err-judge-clause-spared : goal.returns-in-Err-judge-clause-spared
returns-in-Err-judge-clause-spared g c =
    let held = g.F.Folder.held in
    subst (λ f. Became (KeepsListed (cache_path c.args.cache_dir.now) c.args.cache_size)
    (held c.args.folder).files (held f).files) (sym c.into_folder-in-Err-judge.ensures)
    (loaded_listed c.in-Ok.names c.args.cache_dir.now c.get.result.now c.args.cache_size
    (held c.args.folder).files (held c.prepare.new.folder).files c.in-Ok.ensures.dir c.in-Ok.ensures.names
    c.get.ensures.text c.prepare.ensures.left
    (c.in-Ok-prepare.ensures.archives (cache_path c.in-Ok.names.dir) (cache_apart_temp c.in-Ok.names.dir))
    (held c.in-Ok-new.cache.folder).files c.in-Ok-new.ensures.kept (held c.load.new.cache.folder).files
    c.load.ensures.others)

pub returns-in_default-copy_all-clause-spared : goal.returns-in_default-copy_all-clause-spared
returns-in_default-copy_all-clause-spared g c =
    let held = g.F.Folder.held in
    subst (λ f. Became (KeepsListed (cache_path c.args.cache_dir.now) c.args.cache_size)
    (held c.args.folder).files (held f).files) (sym c.into_folder-in_default-copy_all.ensures)
    (loaded_listed c.in-Ok.names c.args.cache_dir.now c.get.result.now c.args.cache_size
    (held c.args.folder).files (held c.prepare.new.folder).files c.in-Ok.ensures.dir c.in-Ok.ensures.names
    c.get.ensures.text c.prepare.ensures.left
    (c.in-Ok-prepare.ensures.archives (cache_path c.in-Ok.names.dir) (cache_apart_temp c.in-Ok.names.dir))
    (held c.in-Ok-new.cache.folder).files c.in-Ok-new.ensures.kept (held c.load.new.cache.folder).files
    c.load.ensures.others)

pub returns-clause-cleared : goal.returns-clause-cleared
returns-clause-cleared g c =
    let held = g.F.Folder.held in
    loaded_only c.in-Ok.names c.args.cache_dir.now c.get.result.now c.in-Ok-new.cache.archives
    c.load.new.cache.archives (held c.in-Ok-new.cache.folder) (held c.load.new.cache.folder)
    c.in-Ok.ensures.dir c.in-Ok.ensures.names c.get.ensures.text c.load.ensures.at.2
    c.in-Ok-new.ensures.cleared c.load.ensures.others
