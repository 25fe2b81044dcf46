-- A list that is in step with its files stays so.
use Rattle.std.proofs.Common.{◌≡◌, ℕ, List, Option, Some, None, Result, Ok, Err, String, Vec, sym, ap}
use Rattle.std.proofs.Common.{inl, inr, subst, ◌∙◌}
use Rattle.std.specs.Prelude.{◌⊎◌, OnOk}
use Rattle.std.specs.declared.alloc.Global.{Global}
use Rattle.folders.specs.Files.{Files, Same}
use Rattle.folders.specs.Held.{Held, Became}
use Rattle.dist_types.specs.declared.folder_fault.FolderFault.TheVariants.{Missing, Failed}
use Rattle.dist_types.specs.declared.folder_fault.FolderFault.TheVariants.{Memory as OutOfMemory}
use Rattle.folders.proofs.Became.{became_from}
use Rattle.dist_types.specs.declared.cache_error.Error.{Error}
use Rattle.dist_types.specs.declared.cache_error.Error.TheVariants as cache
use Rattle.toolchain_cache.specs.Archives.{Archives, IsInStep}
use Rattle.disk_cache.specs.Custom.{TellsCustom, Takes, Unread, taken_of}
use Rattle.disk_cache.specs.InStep.{IsClientInStep, KeepsStep}
use Rattle.disk_cache.specs.Names.{cache_path}
use Rattle.disk_cache.specs.Opening.{ButOwn}
use Rattle.disk_cache.specs.Others.{KeepsOthers}
use Rattle.disk_cache.specs.Putting.{GetsArchive, LooksUp, Packages, IsStocked, RecordsStored, AfterPack}
use Rattle.disk_cache.specs.Putting.{AfterStore, AfterLook, PutsPackage, PutsBy, LooksThenPackages}
use Rattle.disk_cache.specs.Putting.{archives_seen, placed_seen, placed_alone, id_if}
use Rattle.disk_cache.specs.Shelf.{IsShelf}
use Rattle.disk_cache.specs.Toolchains.{Toolchains, with_held}
use Rattle.disk_cache.specs.WeakMaps.{recorded_id}
use Rattle.disk_cache.specs.declared.config.CustomToolchain.{CustomToolchain}
use Rattle.disk_cache.specs.declared.config.DistToolchainConfig.{DistToolchainConfig}
use Rattle.disk_cache.specs.declared.config.DistToolchainConfig.TheVariants.{PathOverride, NoDist}
use Rattle.disk_cache.specs.declared.custom.Custom.{Custom}
use Rattle.disk_cache.specs.declared.custom.Taken.{Taken}
use Rattle.disk_cache.specs.declared.names.Names.{Names}
use Rattle.dist_types.specs.declared.toolchain_error.ToolchainError.{ToolchainError}
use Rattle.dist_types.specs.declared.toolchain_error.ToolchainError.TheVariants.{Cache, Disabled}
use Rattle.dist_types.specs.declared.toolchain_error.ToolchainError.TheVariants.{DuplicateConfig}
use Rattle.dist_types.specs.declared.toolchain_error.ToolchainError.TheVariants.{ConflictConfig, BadWeakMap}
use Rattle.dist_types.specs.declared.toolchain_error.ToolchainError.TheVariants.{PackagerFailed, Memory}

-- ---- a call of the cache

-- what a call of the cache leaves in step, the client's list is in step with
pub shelf_step : (n : Names) (path later : List ℕ) (v t : Toolchains) (held : Held) (archives : Archives)
    → IsShelf n path v.capacity v.archives v.held → later ≡ path → v.dir ≡ n.dir
    → (IsInStep path v.held v.archives → IsInStep later held archives) → v ≡ t
    → IsClientInStep t → IsInStep (cache_path n.dir) held archives
shelf_step n path later v t held archives h same v_dir keeps is = λ in_step.
    let here : IsInStep (cache_path v.dir) v.held v.archives = subst IsClientInStep (sym is) in_step in
    let path_is : path ≡ cache_path n.dir = h.path_is ∙ h.named.cache_is in
    let there : IsInStep path v.held v.archives =
    subst (λ (p : List ℕ). IsInStep p v.held v.archives) (ap cache_path v_dir ∙ sym path_is) here in
    subst (λ (p : List ℕ). IsInStep p held archives) (same ∙ path_is) (keeps there)

-- where that call succeeds
pub shelf_ok : {T E : Type 0} (result : Result T E) (n : Names) (path later : List ℕ) (v t : Toolchains)
    (held : Held) (archives : Archives)
    → IsShelf n path v.capacity v.archives v.held → later ≡ path → v.dir ≡ n.dir
    → (IsInStep path v.held v.archives → OnOk result (IsInStep later held archives)) → v ≡ t
    → OnOk result (IsClientInStep t → IsInStep (cache_path n.dir) held archives)
shelf_ok (Ok x) n path later v t held archives h same v_dir keeps is =
    shelf_step n path later v t held archives h same v_dir keeps is
shelf_ok (Err e) n path later v t held archives h same v_dir keeps is = tt

-- files that are not told stay so
still_untold : (E : Files → Files → Type 0) (old new : Option Files) → Became E old new → old ≡ None → new ≡ None
still_untold E None new h none = h
still_untold E (Some f) new h none = let some : Some f ≡ None = none in cc

-- ---- look-ups

step_same : (old new : Toolchains) → new ≡ old → KeepsStep old new
step_same old new e = subst IsClientInStep (sym e)

files_same : (path : List ℕ) (archives : Archives) (old new : Held) → Became Same old.files new.files
    → IsInStep path old archives → IsInStep path new archives
files_same path archives old new h in_step = λ files told.
    let w = became_from Same old.files new.files files h told in
    in_step files (w.1 ∙ ap (λ (f : Files). Some f) (sym w.2))

with_same : (old new : Toolchains) → Became Same old.held.files new.held.files
    → new ≡ with_held old new.held → KeepsStep old new
with_same old new h e = λ in_step. subst IsClientInStep (sym e)
    (files_same (cache_path old.dir) old.archives old.held new.held h in_step)

unread_step : (archive : List ℕ) (e : ToolchainError) (old new : Toolchains) → Unread archive e old new
    → KeepsStep old new
unread_step archive (Cache (cache.Io Missing)) old new h = λ in_step.
    subst IsClientInStep (sym h.1)
    (subst (λ (held : Held). IsInStep (cache_path old.dir) held old.archives) (sym h.0.0) in_step)
unread_step archive (Cache (cache.Io Failed)) old new h = with_same old new h.0.0 h.1
unread_step archive (Cache (cache.Io OutOfMemory)) old new h = absurd h
unread_step archive (Cache cache.FileTooLarge) old new h = absurd h
unread_step archive (Cache cache.FileNotInCache) old new h = absurd h
unread_step archive (Cache cache.PendingSpace) old new h = absurd h
unread_step archive (Cache cache.BadKey) old new h = absurd h
unread_step archive (Cache cache.NotPending) old new h = absurd h
unread_step archive (Cache cache.WrongDigest) old new h = absurd h
unread_step archive (Cache cache.WriterRefused) old new h = absurd h
unread_step archive (Cache cache.Memory) old new h = absurd h
unread_step archive Disabled old new h = absurd h
unread_step archive DuplicateConfig old new h = absurd h
unread_step archive ConflictConfig old new h = absurd h
unread_step archive BadWeakMap old new h = absurd h
unread_step archive PackagerFailed old new h = absurd h
unread_step archive Memory old new h = with_same old new h.0 h.1

takes_step : (o : Option Taken) (path : List ℕ) (c : CustomToolchain) (answer : Result Custom ToolchainError)
    (old new : Toolchains)
    → Takes o path c answer old new → KeepsStep old new
takes_step (Some t) path c (Ok answer) old new h = step_same old new h.1
takes_step (Some t) path c (Err e) old new h = step_same old new h.1
takes_step None path c (Ok answer) old new h = λ in_step. subst IsClientInStep (sym h.changes) in_step
takes_step None path c (Err e) old new h = unread_step c.archive e old new h

pub tells_step : (o : Option CustomToolchain) (path : List ℕ) (answer : Option (Result Custom ToolchainError))
    (old new : Toolchains)
    → TellsCustom o path answer old new → KeepsStep old new
tells_step None path None old new h = step_same old new h
tells_step None path (Some answer) old new h = absurd h
tells_step (Some c) path None old new h = absurd h
tells_step (Some c) path (Some answer) old new h =
    takes_step (taken_of path old.taken) path c answer old new h

pub gets_step : (o : Option Taken) (id : List ℕ) (answer : Result (Option (Vec ℕ Global)) ToolchainError)
    (old new : Toolchains)
    → GetsArchive o id (archives_seen answer) old new → OnOk answer (KeepsStep old new)
gets_step (Some t) id (Ok None) old new h = absurd h
gets_step (Some t) id (Ok (Some v)) old new h = step_same old new h.1
gets_step (Some t) id (Err e) old new h = tt
gets_step None id (Ok None) old new h = step_same old new h.1
gets_step None id (Ok (Some v)) old new h = h.1
gets_step None id (Err e) old new h = tt

-- ---- putting

looks_step : (o found : Option (List ℕ)) (old new : Toolchains) → LooksUp o (Ok found) old new
    → KeepsStep old new ⊎ (old.held.files ≡ None)
looks_step None None old new h = inl (step_same old new h)
looks_step None (Some id) old new h = absurd h
looks_step (Some id) None old new (inl (none, same)) = inl (step_same old new same)
looks_step (Some id) None old new (inr (none, changes)) = inr none
looks_step (Some id) (Some found) old new h = inl h.2

records_step : (key id told : List ℕ) (old new : Toolchains) → RecordsStored key id (Ok told) old new
    → KeepsStep old new
records_step key id told old new h = by_outcome h.outcome h.gives h.in_step
  where
    by_outcome : (r : Result (Unit {0}) ToolchainError) → Ok told ≡ id_if id r → OnOk r (KeepsStep old new)
        → KeepsStep old new
    by_outcome (Ok x) is step = step
    by_outcome (Err e) is step = absurd (let no : Ok told ≡ Err e = is in cc)

stocks_step : (key bytes told : List ℕ) (old new : Toolchains) → IsStocked key bytes (Ok told) old new
    → KeepsStep old new
stocks_step key bytes told old new h = by_stored h.stored h.in_step h.follows
  where
    by_stored : (r : Result (List ℕ) Error) → OnOk r (KeepsStep old h.between)
        → AfterStore key r (Ok told) h.between new → KeepsStep old new
    by_stored (Ok id) step after = λ in_step. records_step key id told h.between new after (step in_step)
    by_stored (Err e) step after = absurd (let no = after.0 in cc)

packs_step : (key told : List ℕ) (packed : Result (List ℕ) ToolchainError) (old new : Toolchains)
    → AfterPack key packed (Ok told) old new → KeepsStep old new
packs_step key told (Ok bytes) old new h = stocks_step key bytes told old new h
packs_step key told (Err e) old new h = absurd (let no = h.0 in cc)

package_step : (Called : Type 0) (told : Option (List ℕ)) (before after : ℕ) (key : List ℕ)
    (x : List ℕ × Option (String Global × String Global)) (old new : Toolchains)
    → PutsPackage Called told before after key (placed_seen (Ok x)) old new → KeepsStep old new
package_step Called told before after key x old new h = by_packaged h.packaged h.gives h.packages
  where
    by_packaged : (r : Result (List ℕ) ToolchainError) → placed_seen (Ok x) ≡ placed_alone r
        → Packages Called told before after key r old new → KeepsStep old new
    by_packaged (Ok id) is p = packs_step key id p.packed old new p.follows
    by_packaged (Err e) is p = absurd (let no : placed_seen (Ok x) ≡ Err e = is in cc)

follows_step : (Uncalled Called : Type 0) (told : Option (List ℕ)) (before after : ℕ) (key : List ℕ)
    (found : Option (List ℕ)) (x : List ℕ × Option (String Global × String Global)) (old new : Toolchains)
    → AfterLook Uncalled Called told before after key (Ok found) (placed_seen (Ok x)) old new
    → KeepsStep old new
follows_step Uncalled Called told before after key None x old new h =
    package_step Called told before after key x old new h
follows_step Uncalled Called told before after key (Some id) x old new h = step_same old new h.1

-- over files that are not told every list is in step
untold_step : (old new : Toolchains) → new.held.files ≡ None → KeepsStep old new
untold_step old new none in_step = λ files told. absurd (let both = sym none ∙ told in cc)

look_step : (Uncalled Called : Type 0) (told : Option (List ℕ)) (before after : ℕ) (key : List ℕ)
    (x : List ℕ × Option (String Global × String Global)) (old new : Toolchains)
    → LooksThenPackages Uncalled Called told before after key (placed_seen (Ok x)) old new
    → (old.held.files ≡ None → new.held.files ≡ None) → KeepsStep old new
look_step Uncalled Called told before after key x old new h none_then =
    by_looked h.looked h.looks h.follows
  where
    by_step : KeepsStep old h.between ⊎ (old.held.files ≡ None) → KeepsStep h.between new → KeepsStep old new
    by_step (inl first) second = λ in_step. second (first in_step)
    by_step (inr none) second = untold_step old new (none_then none)

    by_looked : (r : Result (Option (List ℕ)) ToolchainError) → LooksUp (recorded_id key old.weak) r old h.between
        → AfterLook Uncalled Called told before after key r (placed_seen (Ok x)) h.between new
        → KeepsStep old new
    by_looked (Ok found) looks after_look = by_step (looks_step (recorded_id key old.weak) found old h.between looks)
        (follows_step Uncalled Called told before after key found x h.between new after_look)
    by_looked (Err e) looks after_look = absurd (let no = after_look.0 in cc)

put_ok : (Uncalled Called : Type 0) (told : Option (List ℕ)) (before after : ℕ)
    (o : Option DistToolchainConfig) (path key : List ℕ)
    (x : List ℕ × Option (String Global × String Global)) (old new : Toolchains)
    → PutsBy Uncalled Called told before after o path key (placed_seen (Ok x)) old new
    → (old.held.files ≡ None → new.held.files ≡ None) → KeepsStep old new
put_ok Uncalled Called told before after (Some (NoDist c)) path key x old new h none_then =
    absurd (let no = h.0 in cc)
put_ok Uncalled Called told before after (Some (PathOverride c archive inside)) path key x old new h none =
    takes_step _ path _ h.0.custom old new h.0.takes
put_ok Uncalled Called told before after None path key x old new h none_then =
    look_step Uncalled Called told before after key x old new h none_then

pub puts_step : (Uncalled Called : Type 0) (told : Option (List ℕ)) (before after : ℕ)
    (o : Option DistToolchainConfig) (path key : List ℕ)
    (answer : Result (List ℕ × Option (String Global × String Global)) ToolchainError) (old new : Toolchains)
    → PutsBy Uncalled Called told before after o path key (placed_seen answer) old new
    → KeepsOthers key old new → OnOk answer (KeepsStep old new)
puts_step Uncalled Called told before after o path key (Ok x) old new h others =
    put_ok Uncalled Called told before after o path key x old new h
    (still_untold (ButOwn old.dir) old.held.files new.held.files others.files)
puts_step Uncalled Called told before after o path key (Err e) old new h others = tt
