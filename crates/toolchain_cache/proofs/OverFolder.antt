-- The opening of a cache of archives: cleaned, then opened, then seen as archives.
use Rattle.std.proofs.Common.{◌≡◌, ℕ, ◌⊎◌, true, List, map, is_some, Option, Some, None, Result, Ok}
use Rattle.std.proofs.Common.{Err, IfOk, IfErr, inl, inr, sym, ap, subst, ◌∙◌, true≢false}
use Rattle.dist_types.specs.Cause.{Rose}
use Rattle.folders.specs.Files.{Files, front}
use Rattle.folders.specs.Held.{Held, Holds, Became}
use Rattle.dist_types.specs.declared.folder_fault.FolderFault.{FolderFault}
use Rattle.dist_types.specs.declared.folder_fault.FolderFault.TheVariants.{Missing, Failed, Memory}
use Rattle.dist_types.specs.declared.cache_error.Error.{Error}
use Rattle.dist_types.specs.declared.cache_error.Error.TheVariants.{FileTooLarge, FileNotInCache, Io}
use Rattle.dist_types.specs.declared.cache_error.Error.TheVariants.{PendingSpace, BadKey, NotPending}
use Rattle.dist_types.specs.declared.cache_error.Error.TheVariants.{WrongDigest, WriterRefused}
use Rattle.dist_types.specs.declared.cache_error.Error.TheVariants.{Memory as NoMemory}
use Rattle.listed_files.specs.Disk.{Backed}
use Rattle.folders.specs.Changed.{OnlyRemoved, ButUnder}
use Rattle.listed_files.specs.Opened.{opened, Shows}
use Rattle.lru_disk_cache.specs.Store.{Disk, Store, IsStore, opened_disk, IoCause, OpenFails}
use Rattle.toolchain_cache.specs.Archives.{archive_path, opened_archives, paths_under, IsInStep}
use Rattle.toolchain_cache.specs.Archiving.{Relists}
use Rattle.toolchain_cache.specs.Keyed.{unkeyed, AllArchiveKeys, AllHold}
use Rattle.toolchain_cache.specs.Cleaned.{Cleaned, are_archive_keys, NoneTold}
use Rattle.toolchain_cache.proofs.ArchiveOpens.{opened_is, opened_keys, opened_hold, are_keys, held_in_step}
use Rattle.toolchain_cache.proofs.ArchiveOpens.{paths_left, relists}
use Rattle.folders.proofs.Became.{became_from, became_then, untold}

-- the files that were told became so
became_into : (P : Files → Files → Type 0) (old new : Option Files) (f : Files) → Became P old new
    → old ≡ Some f → (g : Files) × (new ≡ Some g) × P f g
became_into P None new f h is = absurd (true≢false (sym (ap is_some is)))
became_into P (Some e) new f h is =
    let same : e ≡ f = cc in
    (h.0, h.1, subst (λ l. P l h.0) same h.2)

module _ (path root : List ℕ) (capacity : ℕ) (old middle new : Held) (d : Disk) where
  pub hold_new : root ≡ front path → Became (Cleaned root capacity) old.files middle.files
      → Holds middle (λ files. d ≡ opened_disk path capacity files)
      → Became OnlyRemoved middle.files new.files → IsStore new d
      → Holds new (λ files. AllHold d.root files d.entries)
  hold_new root_is cleaned opens removed stands files told =
      let m = became_from OnlyRemoved middle.files new.files files removed told in
      let o = became_from (Cleaned root capacity) old.files middle.files m.0 cleaned m.1 in
      let disk = opens m.0 m.1 in
      let same : root ≡ d.root = root_is ∙ sym (ap (λ (k : Disk). k.root) disk) in
      let entries : d.entries ≡ opened root capacity m.0 = ap (λ (k : Disk). k.entries) disk
      ∙ ap (λ r. opened r capacity m.0) (sym root_is) in
      subst (λ r. AllHold r files d.entries) same
      (opened_hold root capacity o.0 m.0 files d.entries o.2 entries m.2
      (subst (λ r. Backed r files d.entries) (sym same) (stands.stands.backed files told)))

  pub opened_new : root ≡ front path → Became (Cleaned root capacity) old.files middle.files
      → Holds middle (λ files. d ≡ opened_disk path capacity files)
      → Holds old (λ files. unkeyed d.entries ≡ opened_archives path capacity files)
  opened_new root_is cleaned opens files told =
      let m = became_into (Cleaned root capacity) old.files middle.files files cleaned told in
      ap (λ (k : Disk). unkeyed k.entries) (opens m.0 m.1)
      ∙ (ap (λ r. unkeyed (opened r capacity m.0)) (sym root_is)
      ∙ opened_is path root capacity files m.0 root_is m.2)

  pub relists_new : root ≡ front path → Became (Cleaned root capacity) old.files middle.files
      → Holds middle (λ files. d ≡ opened_disk path capacity files)
      → Holds old (λ files. Relists path capacity files (unkeyed d.entries))
  relists_new root_is cleaned opens files told = relists path capacity files (unkeyed d.entries)
      (opened_new root_is cleaned opens files told)

  pub told_keys : root ≡ front path → Became (Cleaned root capacity) old.files middle.files
      → Holds middle (λ files. d ≡ opened_disk path capacity files)
      → Became OnlyRemoved middle.files new.files
      → Holds new (λ files. are_archive_keys d.entries ≡ true)
  told_keys root_is cleaned opens removed files told =
      let m = became_from OnlyRemoved middle.files new.files files removed told in
      let o = became_from (Cleaned root capacity) old.files middle.files m.0 cleaned m.1 in
      let entries : d.entries ≡ opened root capacity m.0 = ap (λ (k : Disk). k.entries) (opens m.0 m.1)
      ∙ ap (λ r. opened r capacity m.0) (sym root_is) in
      ap are_archive_keys entries ∙ opened_keys root capacity o.0 m.0 o.2

  pub in_step_new : d.root ≡ front path → Shows d.root new d.entries
      → Holds new (λ files. AllHold d.root files d.entries) → are_archive_keys d.entries ≡ true
      → IsInStep path new (unkeyed d.entries)
  in_step_new root_is shows hold all files told =
      let w = shows files told in
      held_in_step path d.root files root_is w.0 (subst AllArchiveKeys (sym w.1) (are_keys d.entries all))
      (subst (AllHold d.root files) (sym w.1) (hold files told)) ∙ ap unkeyed w.1

  pub outside_new : root ≡ front path → Became (Cleaned root capacity) old.files middle.files
      → d.root ≡ front path → Became (ButUnder d.root) middle.files new.files
      → Became (ButUnder (front path)) old.files new.files
  outside_new root_is cleaned is others =
      became_then (Cleaned root capacity) (ButUnder (front path))
      (ButUnder (front path)) old.files middle.files new.files
      (λ f g h x y q away. y q away ∙ subst (λ r. ButUnder r f g) root_is x.2 q away) cleaned
      (subst (λ r. Became (ButUnder r) middle.files new.files) is others)

  pub cleared_new : d.root ≡ front path → Shows d.root new d.entries → are_archive_keys d.entries ≡ true
      → Holds new (λ files. paths_under path files ≡ map (λ a. archive_path path a.0) (unkeyed d.entries))
  cleared_new root_is shows all files told =
      let w = shows files told in
      paths_left path d.root files root_is (subst AllArchiveKeys (sym w.1) (are_keys d.entries all))
      ∙ ap (λ l. map (λ (a : List ℕ × ℕ). archive_path path a.0) (unkeyed l)) w.1

-- what a listed file holds, once the keys that are no archive's are out
pub hold_after : {F : Type 0} (held : F → Held) (old new : Store F)
    → Holds (held old.folder) (λ files. AllHold old.disk.root files old.disk.entries)
    → (new ≡ old) ⊎ NoneTold (held old.folder) (held new.folder)
    → Holds (held new.folder) (λ files. AllHold new.disk.root files new.disk.entries)
hold_after {F} held old new h same = elim same [
  | inl is ↦ subst (λ (s : Store F). Holds (held s.folder) (λ files. AllHold s.disk.root files s.disk.entries))
      (sym is) h
  | inr none ↦ λ files told.
      let both : None ≡ Some files = sym none.1 ∙ told in absurd (true≢false (sym (ap is_some both)))
]

-- what holds of what is made holds of an answer that is it, and of any other that it may be
pub made_ok : {T E : Type 0} (P U : T → Type 0) (K : Type 0) (made : T) (result : Result T E)
    → IfOk result (λ t. ((t ≡ made) × K) ⊎ U t) → (K → P made) → ((t : T) → U t → P t) → IfOk result P
made_ok P U K made (Ok t) is p u = elim is [ inl same ↦ subst P (sym same.0) (p same.1) | inr other ↦ u t other ]
made_ok P U K made (Err e) is p u = tt

-- ---- no files are told

pub first_none : (root : List ℕ) (capacity : ℕ) (old middle new : Held)
    → Became (Cleaned root capacity) old.files middle.files → Became OnlyRemoved middle.files new.files
    → new.files ≡ None → old.files ≡ None
first_none root capacity old middle new cleaned removed none =
    untold (Cleaned root capacity) old.files middle.files cleaned
    (untold OnlyRemoved middle.files new.files removed none)

pub holds_none : (held : Held) (P : Files → Type 0) → held.files ≡ None → Holds held P
holds_none held P none files told =
    let both : None ≡ Some files = sym none ∙ told in absurd (true≢false (sym (ap is_some both)))

pub became_none : (E : Files → Files → Type 0) (old new : Option Files) → old ≡ None → new ≡ None
    → Became E old new
became_none E old new none gone = subst (λ o. Became E o new) (sym none) gone

-- what holds of the files of a folder, and where none are told, holds of those of what is handed back
pub handed_either : {T E F : Type 0} (held : F → Held) (P : Option Files → Type 0) (folder : F)
    (result : Result T (E × F)) → IfErr result (λ e. (e.1 ≡ folder) ⊎ NoneTold (held folder) (held e.1))
    → P (held folder).files → ((o : Option Files) → (held folder).files ≡ None → o ≡ None → P o)
    → IfErr result (λ e. P (held e.1).files)
handed_either held P folder (Ok t) is h none = tt
handed_either held P folder (Err e) is h none = elim is [
  | inl same ↦ subst (λ f. P (held f).files) (sym same) h
  | inr gone ↦ none (held e.1).files gone.0 gone.1
]

-- why a later call failed is why all of them did, where those before had no fault
cause_from : (first now new : Held) (fault : FolderFault) → now.faults ≡ first.faults
    → (now.files ≡ None → first.files ≡ None) → IoCause fault now new → IoCause fault first new
cause_from first now new Failed steady none h = subst (λ n. Rose n new.faults) steady h
cause_from first now new Missing steady none h = none h
cause_from first now new Memory steady none h = absurd h

fails_at : (first now new : Held) (error : Error) → now.faults ≡ first.faults
    → (now.files ≡ None → first.files ≡ None) → OpenFails error now new → OpenFails error first new
fails_at first now new (Io fault) steady none h = cause_from first now new fault steady none h
fails_at first now new NoMemory steady none h = tt
fails_at first now new BadKey steady none h = absurd h
fails_at first now new FileTooLarge steady none h = absurd h
fails_at first now new FileNotInCache steady none h = absurd h
fails_at first now new PendingSpace steady none h = absurd h
fails_at first now new NotPending steady none h = absurd h
fails_at first now new WrongDigest steady none h = absurd h
fails_at first now new WriterRefused steady none h = absurd h

pub fails_from : {T F : Type 0} (held : F → Held) (first now : Held) (result : Result T (Error × F))
    → now.faults ≡ first.faults → (now.files ≡ None → first.files ≡ None)
    → IfErr result (λ e. OpenFails e.0 now (held e.1)) → IfErr result (λ e. OpenFails e.0 first (held e.1))
fails_from held first now (Ok t) steady none h = tt
fails_from held first now (Err e) steady none h = fails_at first now (held e.1) e.0 steady none h
