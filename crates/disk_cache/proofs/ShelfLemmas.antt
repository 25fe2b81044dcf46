-- What a call of the cache leaves of a client's toolchains.
use Rattle.std.proofs.Common.{◌≡◌, ◌≤◌, ◌++◌, ℕ, List, Option, IsSome, Result, Ok, Err, IfErr, OnOk, inl, inr}
use Rattle.std.proofs.Common.{sym, subst, ◌∙◌, arith}
use Rattle.folders.specs.Files.{Files, file_at, front}
use Rattle.folders.specs.Held.{Held, Became}
use Rattle.toolchain_cache.specs.Archives.{Archives, IsArchiveStore}
use Rattle.folders.specs.Changed.{ButUnder, SameAt}
use Rattle.folders.proofs.Became.{became_from, became_map}
use Rattle.dist_types.specs.declared.cache_error.Error.{Error}
use Rattle.dist_types.specs.declared.cache_error.Error.TheVariants.{FileTooLarge, FileNotInCache, Io}
use Rattle.dist_types.specs.declared.cache_error.Error.TheVariants.{PendingSpace, BadKey, NotPending}
use Rattle.dist_types.specs.declared.cache_error.Error.TheVariants.{WrongDigest, WriterRefused}
use Rattle.dist_types.specs.declared.cache_error.Error.TheVariants.{Memory as NoMemory}
use Rattle.listed_files.specs.Disk.{ButInsert, KeepsSpoiled}
use Rattle.listed_files.specs.Key.{insert_name}
use Rattle.lru_disk_cache.specs.Spoiling.{MaySpoil}
use Rattle.dist_types.specs.Cause.{counted}
use Rattle.std.specs.Prelude.{◌⊎◌}
use Rattle.disk_cache.specs.declared.names.Names.{Names}
use Rattle.disk_cache.specs.Names.{cache_path, weak_path}
use Rattle.disk_cache.specs.Others.{ButArchives, KeepsBeside, KeepsFailed}
use Rattle.disk_cache.specs.Shelf.{IsShelf}
use Rattle.disk_cache.specs.Toolchains.{Toolchains}
use Rattle.disk_cache.specs.WeakMaps.{weak_map_of}
use Rattle.disk_cache.proofs.NameLemmas.{weak_outside}

pub shelf_kept : (n : Names) (path later : List ℕ) (capacity size : ℕ) (archives others : Archives)
    (old new : Held) → IsShelf n path capacity archives old → later ≡ path
    → IsArchiveStore later size others new → Became (ButUnder (front path)) old.files new.files
    → IsShelf n later size others new
shelf_kept n path later capacity size archives others old new h same stands but = record {
  named = h.named;
  path_is = same ∙ h.path_is;
  stands = stands;
  reads = λ files told.
      let w = became_from (ButUnder (front path)) old.files new.files files but told in
      let same_file : file_at files (weak_path n.dir) ≡ file_at w.0 (weak_path n.dir) =
      w.2 (weak_path n.dir) (weak_outside n path (weak_path n.dir) h.named h.path_is
      (sym h.named.weak_is)) in
      subst (λ (o : Option (List ℕ)). IsSome (weak_map_of o)) (sym same_file) (h.reads w.0 w.1);
}

pub shelf_stands : (n : Names) (path : List ℕ) (capacity : ℕ) (archives : Archives) (held : Held)
    → IsShelf n path capacity archives held → IsArchiveStore (cache_path n.dir) capacity archives held
shelf_stands n path capacity archives held h =
    subst (λ (p : List ℕ). IsArchiveStore p capacity archives held) (h.path_is ∙ h.named.cache_is) h.stands

pub shelf_beside : (n : Names) (path : List ℕ) (capacity : ℕ) (archives : Archives) (old new : Held)
    (t u : Toolchains) → IsShelf n path capacity archives old
    → Became (ButUnder (front path)) old.files new.files → t.dir ≡ n.dir → t.held ≡ old → u.dir ≡ n.dir
    → u.held ≡ new → u.weak ≡ t.weak → KeepsFailed t u → KeepsBeside t u
shelf_beside n path capacity archives old new t u h but t_dir t_held u_dir u_held weak failed = record {
  dir = u_dir ∙ sym t_dir;
  weak = weak;
  files =
      let here : Became (ButUnder (front (cache_path n.dir))) old.files new.files =
      subst (λ (p : List ℕ). Became (ButUnder (front p)) old.files new.files) (h.path_is ∙ h.named.cache_is)
      but in
      let there : Became (ButArchives t.dir) old.files new.files =
      subst (λ (d : List ℕ). Became (ButArchives d) old.files new.files) (sym t_dir) here in
      subst (λ (o : Held). Became (ButArchives t.dir) o.files u.held.files) (sym t_held)
      (subst (λ (o : Held). Became (ButArchives t.dir) old.files o.files) (sym u_held) there);
  failed = failed;
}

-- what failed inserts left stays, by what a call of the cache says of it
pub shelf_failed : (n : Names) (path : List ℕ) (capacity spoiled : ℕ) (archives : Archives) (old new : Held)
    (t u : Toolchains) → IsShelf n path capacity archives old
    → Became (KeepsSpoiled (front path) spoiled) old.files new.files → t.dir ≡ n.dir → t.held ≡ old
    → t.spoiled ≡ spoiled → u.held ≡ new → t.spoiled ≤ u.spoiled → KeepsFailed t u
shelf_failed n path capacity spoiled archives old new t u h stays t_dir t_held t_count u_held count = record {
  count = count;
  files =
      let here : Became (KeepsSpoiled (front (cache_path n.dir)) spoiled) old.files new.files =
      subst (λ (p : List ℕ). Became (KeepsSpoiled (front p) spoiled) old.files new.files)
      (h.path_is ∙ h.named.cache_is) stays in
      let there : Became (KeepsSpoiled (front (cache_path t.dir)) t.spoiled) old.files new.files =
      subst (λ (k : ℕ). Became (KeepsSpoiled (front (cache_path t.dir)) k) old.files new.files) (sym t_count)
      (subst (λ (d : List ℕ). Became (KeepsSpoiled (front (cache_path d)) spoiled) old.files new.files)
      (sym t_dir) here) in
      subst (λ (o : Held). Became (KeepsSpoiled (front (cache_path t.dir)) t.spoiled) o.files u.held.files)
      (sym t_held)
      (subst (λ (o : Held). Became (KeepsSpoiled (front (cache_path t.dir)) t.spoiled) old.files o.files)
      (sym u_held) there);
}

-- a look-up leaves each file as it was
pub same_stays : (root : List ℕ) (spoiled : ℕ) (old new : Option Files) → Became SameAt old new
    → Became (KeepsSpoiled root spoiled) old new
same_stays root spoiled old new =
    became_map SameAt (KeepsSpoiled root spoiled) old new
    (λ f g same n less fits. same (root ++ insert_name n))

-- an insert takes the name of the next number
pub insert_stays : (root : List ℕ) (spoiled : ℕ) (old new : Option Files)
    → Became (ButInsert root spoiled) old new → Became (KeepsSpoiled root spoiled) old new
insert_stays root spoiled old new =
    became_map (ButInsert root spoiled) (KeepsSpoiled root spoiled) old new
    (λ f g but n less fits. but n (λ same. omega (arith, same, less)) fits)

-- the count of inserts that failed rose, or is as it was
spoils_or : (error : Error) (spoiled later : ℕ) (old new : Held) → MaySpoil error spoiled later old new
    → (later ≡ counted spoiled) ⊎ (later ≡ spoiled)
spoils_or (Io fault) spoiled later old new h = inl h
spoils_or NoMemory spoiled later old new (inl more) = inl more
spoils_or NoMemory spoiled later old new (inr same) = inr same.0
spoils_or BadKey spoiled later old new h = inr h.0
spoils_or FileTooLarge spoiled later old new h = inr h.0
spoils_or FileNotInCache spoiled later old new h = inr h.0
spoils_or PendingSpace spoiled later old new h = inr h.0
spoils_or NotPending spoiled later old new h = inr h.0
spoils_or WrongDigest spoiled later old new h = inr h.0
spoils_or WriterRefused spoiled later old new h = inr h.0

more_or : (spoiled later : ℕ) → spoiled ≤ 18446744073709551615
    → (later ≡ counted spoiled) ⊎ (later ≡ spoiled) → (spoiled ≤ later) × (later ≤ 18446744073709551615)
more_or spoiled later fits (inl more) = (omega (arith, more, fits), omega (arith, more))
more_or spoiled later fits (inr same) = (omega (arith, same), omega (arith, same, fits))

-- it is no less, and stops at the greatest number
pub spoils_more : {T : Type 0} (result : Result T Error) (spoiled later : ℕ) (old new : Held)
    → spoiled ≤ 18446744073709551615 → OnOk result (later ≡ spoiled)
    → IfErr result (λ e. MaySpoil e spoiled later old new)
    → (spoiled ≤ later) × (later ≤ 18446744073709551615)
spoils_more (Ok x) spoiled later old new fits ok err = more_or spoiled later fits (inr ok)
spoils_more (Err e) spoiled later old new fits ok err =
    more_or spoiled later fits (spoils_or e spoiled later old new err)
