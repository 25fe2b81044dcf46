-- What an opening leaves, and why it fails.
use Rattle.std.proofs.Common.{◌≡◌, ◌⊎◌, ℕ, Bool, true, false, cond, nat_le, List, [], ◌∷◌, ◌++◌, codes}
use Rattle.std.proofs.Common.{filter, Option, Some, None, IsSome, is_some, is_err, Result, Ok, Err, inl, inr}
use Rattle.std.proofs.Common.{refl, sym, ap, subst, ◌∙◌, true≢false, rules}
use Rattle.std.specs.Str.{bytes_eq}
use Rattle.std.proofs.lemmas.Slice.Eq.{bytes_eq-Decides}
use Rattle.dist_types.specs.Cause.{Rose}
use Rattle.folders.specs.Files.{Files, file_at, front}
use Rattle.folders.specs.Held.{Held, Holds, Became, Lacks}
use Rattle.folders.specs.Changed.{ButUnder}
use Rattle.listed_files.specs.Entries.{trim}
use Rattle.toolchain_cache.specs.Archives.{Archives, opened_archives}
use Rattle.lru_disk_cache.specs.Store.{IoCause}
use Rattle.dist_types.specs.declared.cache_error.Error.TheVariants.{Io}
use Rattle.dist_types.specs.declared.folder_fault.FolderFault.{FolderFault}
use Rattle.dist_types.specs.declared.folder_fault.FolderFault.TheVariants.{Missing, Failed}
use Rattle.dist_types.specs.declared.folder_fault.FolderFault.TheVariants.{Memory as OutOfMemory}
use Rattle.folders.proofs.Distinct.{apart}
use Rattle.folders.proofs.Became.{became_then, became_from}
use Rattle.disk_cache.specs.declared.config.DistToolchainConfig.{DistToolchainConfig}
use Rattle.disk_cache.specs.declared.names.Names.{Names}
use Rattle.dist_types.specs.declared.toolchain_error.ToolchainError.{ToolchainError}
use Rattle.dist_types.specs.declared.toolchain_error.ToolchainError.TheVariants.{Cache, DuplicateConfig}
use Rattle.dist_types.specs.declared.toolchain_error.ToolchainError.TheVariants.{ConflictConfig, BadWeakMap}
use Rattle.dist_types.specs.declared.toolchain_error.ToolchainError.TheVariants.{Memory}
use Rattle.disk_cache.specs.Configs.{judged_from, config_verdict, config_of, compiler_of, says_no_dist}
use Rattle.disk_cache.specs.Configs.{beside, and_next}
use Rattle.disk_cache.specs.Names.{AreNames, IsBeside, cache_path, weak_path, temp_dir, temp_path}
use Rattle.disk_cache.specs.Opening.{IsEmpty, SameArchives, ButOwn, OpeningFails}
use Rattle.disk_cache.specs.Saving.{ButTwo, LoadFails}
use Rattle.disk_cache.specs.WeakMaps.{Weak, weak_map_at, weak_map_of}
use Rattle.disk_cache.proofs.NameLemmas.{weak_outside, temp_beside_weak, cache_apart_temp, temp_there}

-- the files that were told are told
pub became_to : (E : Files → Files → Type 0) (old new : Option Files) (files : Files) → Became E old new
    → old ≡ Some files → (after : Files) × (new ≡ Some after) × E files after
became_to E None new files h is = absurd (true≢false (sym (ap is_some is)))
became_to E (Some f) new files h is =
    let same : f ≡ files = cc in
    let P : Files → Type 0 = λ x. E x h.0 in
    (h.0, h.1, subst P same h.2)

pub open_archives : (dir path : List ℕ) (size : ℕ) (archives : Archives) (old mid : Held)
    → path ≡ cache_path dir → Holds mid (λ files. archives ≡ opened_archives path size files)
    → Became (SameArchives (cache_path dir)) old.files mid.files
    → Holds old (λ files. archives ≡ opened_archives (cache_path dir) size files)
open_archives dir path size archives old mid is opened same = λ files told.
    let w = became_to (SameArchives (cache_path dir)) old.files mid.files files same told in
    opened w.0 w.1 ∙ (ap (λ (p : List ℕ). opened_archives p size w.0) is
    ∙ ap (λ (l : Archives). trim size (filter (λ (a : List ℕ × ℕ). nat_le a.1 size) l)) w.2)

-- ---- the files behind emptying and opening

module _ (n : Names) (path : List ℕ) (old mid opened : Held) (named : AreNames n) (is : path ≡ n.cache)
    (emptied : Became (ButUnder (front (temp_dir n.dir))) old.files mid.files)
    (cached : Became (ButUnder (front path)) mid.files opened.files) where
  abbrev SameWeak : Files → Files → Type 0
  SameWeak f g = weak_map_at n.dir g ≡ weak_map_at n.dir f

  weak_kept : Became SameWeak old.files opened.files
  weak_kept =
      became_then (ButUnder (front (temp_dir n.dir))) (ButUnder (front path)) SameWeak old.files mid.files
      opened.files
      (λ f g h a b. ap weak_map_of
      (b (weak_path n.dir) (weak_outside n path (weak_path n.dir) named is (sym named.weak_is))
      ∙ a (weak_path n.dir) (temp_beside_weak n.dir))) emptied cached

  pub open_weak : (P : Option Weak → Type 0) → Holds opened (λ files. P (weak_map_at n.dir files))
      → Holds old (λ files. P (weak_map_at n.dir files))
  open_weak P found = λ files told.
      let w = became_to SameWeak old.files opened.files files weak_kept told in
      subst P w.2 (found w.0 w.1)

  abbrev SameFile : Files → Files → Type 0
  SameFile f g = file_at g (weak_path n.dir) ≡ file_at f (weak_path n.dir)

  file_kept : Became SameFile old.files opened.files
  file_kept =
      became_then (ButUnder (front (temp_dir n.dir))) (ButUnder (front path)) SameFile old.files mid.files
      opened.files
      (λ f g h a b. b (weak_path n.dir) (weak_outside n path (weak_path n.dir) named is (sym named.weak_is))
      ∙ a (weak_path n.dir) (temp_beside_weak n.dir)) emptied cached

  -- a weak map that was missing is missing yet
  pub open_lacking : Holds old (Lacks (weak_path n.dir)) → Holds opened (Lacks (weak_path n.dir))
  open_lacking lacks = λ files told.
      let w = became_from SameFile old.files opened.files files file_kept told in
      w.2 ∙ lacks w.0 w.1

  outside : (q : List ℕ) → IsBeside (cache_path n.dir) q → IsBeside path q
  outside q away = subst (λ (p : List ℕ). IsBeside p q) (sym (is ∙ named.cache_is)) away

  -- what is being written stays gone
  pub open_lacks : Holds mid (IsEmpty (temp_dir n.dir)) → Holds opened (IsEmpty (temp_dir n.dir))
  open_lacks empty = λ files told k.
      let w = became_from (ButUnder (front path)) mid.files opened.files files cached told in
      w.2 (front (temp_dir n.dir) ++ k) (outside (front (temp_dir n.dir) ++ k) (cache_apart_temp n.dir k))
      ∙ empty w.0 w.1 k

  pub open_temp : Holds mid (IsEmpty (temp_dir n.dir)) → Holds opened (Lacks (temp_path n.dir))
  open_temp empty = λ files told.
      subst (λ (p : List ℕ). Lacks p files) (temp_there n.dir)
      (open_lacks empty files told (codes "weak_map.json"))

  module _ (new : Held) (loaded : Became (ButTwo (temp_path n.dir) (weak_path n.dir)) opened.files new.files)
    where
      pub open_others : Became (ButOwn n.dir) old.files new.files
      open_others =
          became_then (λ f g. (q : List ℕ) → IsBeside (cache_path n.dir) q → IsBeside (temp_dir n.dir) q
          → file_at g q ≡ file_at f q) (ButTwo (temp_path n.dir) (weak_path n.dir))
          (ButOwn n.dir) old.files opened.files new.files
          (λ f g h a b q cache temp weak. b q (subst (λ (p : List ℕ). bytes_eq p q ≡ false) (temp_there n.dir)
          (temp (codes "weak_map.json"))) weak ∙ a q cache temp)
          (became_then (ButUnder (front (temp_dir n.dir))) (ButUnder (front path))
          (λ f g. (q : List ℕ) → IsBeside (cache_path n.dir) q → IsBeside (temp_dir n.dir) q
          → file_at g q ≡ file_at f q) old.files mid.files opened.files
          (λ f g h a b q cache temp. b q (outside q cache) ∙ a q temp) emptied cached)
          loaded

      pub open_empty : Holds mid (IsEmpty (temp_dir n.dir)) → Holds new (Lacks (temp_path n.dir))
          → Holds new (IsEmpty (temp_dir n.dir))
      open_empty empty gone = λ files told k. by (bytes_eq (temp_path n.dir) (front (temp_dir n.dir) ++ k))
          files told k refl
        where
          by : (b : Bool) → (files : Files) → new.files ≡ Some files → (k : List ℕ)
              → bytes_eq (temp_path n.dir) (front (temp_dir n.dir) ++ k) ≡ b
              → file_at files (front (temp_dir n.dir) ++ k) ≡ None
          by true files told k e =
              subst (λ (p : List ℕ). file_at files p ≡ None)
              ((bytes_eq-Decides (temp_path n.dir) (front (temp_dir n.dir) ++ k)).0 e) (gone files told)
          by false files told k e =
              let w = became_from (ButTwo (temp_path n.dir) (weak_path n.dir)) opened.files new.files files
              loaded told in
              w.2 (front (temp_dir n.dir) ++ k) e
              (apart (front (temp_dir n.dir) ++ k) (weak_path n.dir) (temp_beside_weak n.dir k))
              ∙ open_lacks empty w.0 w.1 k

-- ---- why it fails

cause_before : (fault : FolderFault) (old mid opened new : Held) → mid.faults ≡ old.faults
    → opened.faults ≡ mid.faults → (opened.files ≡ None → old.files ≡ None) → IoCause fault opened new
    → IoCause fault old new
cause_before Failed old mid opened new one two none cause = subst (λ m. Rose m new.faults) (two ∙ one) cause
cause_before Missing old mid opened new one two none cause = none cause
cause_before OutOfMemory old mid opened new one two none cause = cause

pub load_fails : (e : ToolchainError) (dir : List ℕ) (configs : List DistToolchainConfig)
    (old mid opened new : Held) → mid.faults ≡ old.faults → opened.faults ≡ mid.faults
    → (opened.files ≡ None → old.files ≡ None)
    → (Holds opened (λ files. weak_map_at dir files ≡ None)
    → Holds old (λ files. weak_map_at dir files ≡ None)) → LoadFails dir e opened new
    → OpeningFails e dir configs old new
load_fails (Cache (Io fault)) dir configs old mid opened new one two none weak h =
    cause_before fault old mid opened new one two none h.0
load_fails BadWeakMap dir configs old mid opened new one two none weak h = weak h.0
load_fails Memory dir configs old mid opened new one two none weak h = h ∙ (two ∙ one)
load_fails other dir configs old mid opened new one two none weak h = absurd h

err_is : (x y : ToolchainError) → (let a : Result (Unit {0}) ToolchainError = Err x in a ≡ Err y) → x ≡ y
err_is x y h = cc

abbrev IsClash : ToolchainError → Type 0
IsClash e = (e ≡ DuplicateConfig) ⊎ (e ≡ ConflictConfig)

clash_is : (b c : Bool) → IsClash
    (cond b (cond c DuplicateConfig ConflictConfig) (cond c ConflictConfig DuplicateConfig))
clash_is true true = inl refl
clash_is true false = inr refl
clash_is false true = inr refl
clash_is false false = inl refl

beside_is : (o : Option DistToolchainConfig) (c : DistToolchainConfig) (e : ToolchainError)
    → beside o c ≡ Err e → IsClash e
beside_is None c e h = absurd (true≢false (sym (ap is_err h)))
beside_is (Some d) c e h = subst IsClash (err_is _ _ h) (clash_is (says_no_dist d) (says_no_dist c))

next_is : (one next : Result (Unit {0}) ToolchainError) (e : ToolchainError) → (one ≡ Err e → IsClash e)
    → (next ≡ Err e → IsClash e) → and_next one next ≡ Err e → IsClash e
next_is (Ok done) next e first later h = later h
next_is (Err x) next e first later h = first h

verdict_is : (before configs : List DistToolchainConfig) (e : ToolchainError)
    → judged_from before configs ≡ Err e → IsClash e
verdict_is before [] e h = absurd (true≢false (sym (ap is_err h)))
verdict_is before (c ∷ cs) e h =
    next_is (beside (config_of (compiler_of c) before) c) (judged_from (before ++ c ∷ []) cs) e
    (beside_is (config_of (compiler_of c) before) c e) (verdict_is (before ++ c ∷ []) cs e) h

pub judge_fails : (e : ToolchainError) (dir : List ℕ) (configs : List DistToolchainConfig) (old new : Held)
    → config_verdict configs ≡ Err e → Holds old (λ files. IsSome (weak_map_at dir files))
    → OpeningFails e dir configs old new
judge_fails e dir configs old new verdict some = by e (verdict_is [] configs e verdict) verdict
  where
    by : (e : ToolchainError) → IsClash e → config_verdict configs ≡ Err e
        → OpeningFails e dir configs old new
    by e (inl is) v = subst (λ x. OpeningFails x dir configs old new) (sym is) (v ∙ ap Err is, some)
    by e (inr is) v = subst (λ x. OpeningFails x dir configs old new) (sym is) (v ∙ ap Err is, some)

pub some_of : (o : Option Weak) (w : Weak) → o ≡ Some w → IsSome o
some_of o w h = subst IsSome (sym h) (search rules)
