-- What a call of the disk cache is to the cache of archives over it.
use Rattle.std.proofs.Common.{◌≡◌, ℕ, ◌+◌, ◌-◌, ◌⊎◌, Bool, true, false, cond, nat_le, nat_lt, List, [], ◌∷◌}
use Rattle.std.proofs.Common.{◌++◌, length, Option, Some, None, IsSome, Result, Ok, Err, is_ok, IfOk, IfErr}
use Rattle.std.proofs.Common.{OnOk, OnErr, inl, inr, refl, sym, ap, subst, ◌∙◌, true≢false, arith}
use Rattle.std.specs.List.{AllByRecursion, IsDistinct}
use Rattle.std.specs.Map.{keys_of, lookup}
use Rattle.std.specs.Option.{option_map}
use Rattle.std.specs.Str.{bytes_eq}
use Rattle.std.proofs.lemmas.Bool.Decides.{nat_tests}
use Rattle.std.proofs.lemmas.Slice.Eq.{bytes_eq-Decides}
use Rattle.lru_metered.proofs.Lookups.{others-none}
use Rattle.folders.specs.Files.{Files, file_at, front, touched, without}
use Rattle.listed_files.specs.Key.{is_key, insert_name}
use Rattle.folders.specs.Held.{Held, Holds, Became, BecameBy, Lacks}
use Rattle.dist_types.specs.declared.cache_error.Error.{Error}
use Rattle.dist_types.specs.declared.cache_error.Error.TheVariants.{FileTooLarge, FileNotInCache, Io}
use Rattle.dist_types.specs.declared.cache_error.Error.TheVariants.{PendingSpace, BadKey, NotPending}
use Rattle.dist_types.specs.declared.cache_error.Error.TheVariants.{WrongDigest, WriterRefused}
use Rattle.dist_types.specs.declared.cache_error.Error.TheVariants.{Memory as NoMemory}
use Rattle.listed_files.specs.Entries.{Entries, promoted_key}
use Rattle.listed_files.specs.Disk.{Keeps, IsInsertTemp, Left, staying, dropped, files_stored}
use Rattle.folders.specs.Changed.{SameAt, SameBelow}
use Rattle.listed_files.specs.Disk.{without_key}
use Rattle.lru_disk_cache.specs.Reserved.{held_size}
use Rattle.folders.specs.Failures.{Failures}
use Rattle.listed_files.specs.Told.{ToldStored}
use Rattle.lru_disk_cache.specs.Store.{Disk, LeftBy, Refuses, looked_up, removed, inserted, room_beside}
use Rattle.lru_disk_cache.specs.Store.{insert_verdict, InsertFails, LookUpFails, RemoveFails}
use Rattle.toolchain_cache.specs.Archives.{is_id, id_of, archive_of, archive_key, archive_path, archives_in}
use Rattle.toolchain_cache.specs.Archives.{IsInStep}
use Rattle.toolchain_cache.specs.Archiving.{with_archive, archive_verdict, StoreFails, FindFails, DropFails}
use Rattle.toolchain_cache.specs.Keyed.{id_in, unkeyed, IsArchiveKey, AllArchiveKeys, AllHold, IsKeyed}
use Rattle.toolchain_cache.proofs.ArchiveKeys.{id_is_key}
use Rattle.toolchain_cache.proofs.ArchivesKept.{SameArchives, step_kept}
use Rattle.lru_disk_cache.proofs.Asides.{kept_below}
use Rattle.folders.proofs.Became.{became_from}
use Rattle.folders.proofs.Exactly.{made_is}
use Rattle.toolchain_cache.proofs.InStep.{in_stored, in_touched, in_gone}
use Rattle.toolchain_cache.proofs.KeyLemmas.{id_long}
use Rattle.listed_files.proofs.Standing.{all_both, kept_by_same}
use Rattle.toolchain_cache.proofs.Unkeyed.{id_of_key, key_is_archive, looked_up_un, without_un}
use Rattle.toolchain_cache.proofs.Unkeyed.{promoted_key_un, stored_un, left_un, keys_out, keys_end}
use Rattle.toolchain_cache.proofs.Unkeyed.{keys_promoted, keys_stored, keys_of_end, staying_has, dropped_un}
use Rattle.toolchain_cache.proofs.Unkeyed.{keys_dropped, told_un}

-- ---- what stands behind a call

-- files that are as they were hold what they held
pub hold_kept : (root : List ℕ) (es : Entries) (f g : Files) → Keeps root es f g → AllHold root f es
    → AllHold root g es
hold_kept root es f g keeps h = all_both es h keeps (λ e held same. ap (option_map archive_of) same ∙ held)

-- a disk of the same place, whose keys are archives' and held what they should, and whose files are as they
-- were
pub keyed_on : (d e : Disk) (old new : Held) → IsKeyed old d → e.path ≡ d.path → e.root ≡ d.root
    → e.pending ≡ d.pending → AllArchiveKeys e.entries → Holds old (λ f. AllHold d.root f e.entries)
    → Became (Keeps d.root e.entries) old.files new.files → IsKeyed new e
keyed_on d e old new h path root pending keys hold keeps = record {
  keys = keys;
  root = root ∙ (h.root ∙ ap front (sym path));
  none = pending ∙ h.none;
  hold = λ files told.
      let w = became_from (Keeps d.root e.entries) old.files new.files files keeps told in
      subst (λ r. AllHold r files e.entries) (sym root)
      (hold_kept d.root e.entries w.0 files w.2 (hold w.0 w.1));
}

either_kept : (P : Disk → Type 0) (d e : Disk) (f : Disk → Disk) → P d → P (f d) → (e ≡ d) ⊎ (e ≡ f d) → P e
either_kept P d e f h g either = elim either [ inl is ↦ subst P (sym is) h | inr is ↦ subst P (sym is) g ]

-- ---- a look-up

pub looked_either : {T : Type 0} (key : List ℕ) (d e : Disk) (old new : Held) (result : Result T Error)
    → OnOk result (e ≡ looked_up d key) → IfErr result (λ x. LookUpFails key x d e old new) → (e ≡ d)
    ⊎ (e ≡ looked_up d key)
looked_either key d e old new (Ok x) ok fails = inr ok
looked_either key d e old new (Err FileNotInCache) ok fails = inl fails.0
looked_either key d e old new (Err (Io fault)) ok fails = inr fails.0
looked_either key d e old new (Err NoMemory) ok fails = fails.0
looked_either key d e old new (Err BadKey) ok fails = absurd fails
looked_either key d e old new (Err FileTooLarge) ok fails = absurd fails
looked_either key d e old new (Err PendingSpace) ok fails = absurd fails
looked_either key d e old new (Err NotPending) ok fails = absurd fails
looked_either key d e old new (Err WrongDigest) ok fails = absurd fails
looked_either key d e old new (Err WriterRefused) ok fails = absurd fails

same_kept : (root : List ℕ) (es : Entries) (old new : Option Files) → Became SameAt old new
    → Became (Keeps root es) old new
same_kept root es None new h = h
same_kept root es (Some f) new h = (h.0, h.1, kept_by_same root es f h.0 h.2)

pub looked_keyed : {T : Type 0} (key : List ℕ) (d e : Disk) (old new : Held) (result : Result T Error)
    → IsKeyed old d → OnOk result (e ≡ looked_up d key) → IfErr result (λ x. LookUpFails key x d e old new)
    → Became SameAt old.files new.files → IsKeyed new e
looked_keyed key d e old new result h ok fails same =
    either_kept (IsKeyed new) d e (λ x. looked_up x key)
    (keyed_on d d old new h refl refl refl h.keys h.hold
    (same_kept d.root d.entries old.files new.files same))
    (keyed_on d (looked_up d key) old new h refl refl refl
    (keys_promoted (λ x. IsArchiveKey x.0) (bytes_eq key) d.entries h.keys)
    (λ f told. keys_promoted (λ x. option_map archive_of (file_at f (d.root ++ x.0)) ≡ Some
    (id_in x.0, x.1)) (bytes_eq key) d.entries (h.hold f told))
    (same_kept d.root (promoted_key key d.entries) old.files new.files same))
    (looked_either key d e old new result ok fails)

pub looked_ok : {T : Type 0} (id key : List ℕ) (d e : Disk) (result : Result T Error) → is_id id ≡ true
    → key ≡ archive_key id → AllArchiveKeys d.entries → OnOk result (e ≡ looked_up d key)
    → OnOk result (unkeyed e.entries ≡ promoted_key id (unkeyed d.entries))
looked_ok id key d e (Ok x) fit is keys ok =
    ap (λ (k : Disk). unkeyed k.entries) ok
    ∙ (ap (λ k. unkeyed (promoted_key k d.entries)) is ∙ sym (promoted_key_un id d.entries fit keys))
looked_ok id key d e (Err x) fit is keys ok = tt

pub listed_un : (id key : List ℕ) (es : Entries) → is_id id ≡ true → key ≡ archive_key id → AllArchiveKeys es
    → lookup (bytes_eq key) es ≡ lookup (bytes_eq id) (unkeyed es)
listed_un id key es fit is keys = ap (λ k. lookup (bytes_eq k) es) is ∙ sym (looked_up_un id es fit keys)

pub looked_found : {T : Type 0} (id key : List ℕ) (es : Entries) (result : Result T Error) → is_id id ≡ true
    → key ≡ archive_key id → AllArchiveKeys es → OnOk result (IsSome (lookup (bytes_eq key) es))
    → OnOk result (IsSome (lookup (bytes_eq id) (unkeyed es)))
looked_found id key es (Ok x) fit is keys h = subst IsSome (listed_un id key es fit is keys) h
looked_found id key es (Err x) fit is keys h = tt

-- what a listed key's file holds
pub holds_found : (root key : List ℕ) (es : Entries) (files : Files) → AllHold root files es
    → IsSome (lookup (bytes_eq key) es) → (n : ℕ) × (lookup (bytes_eq key) es ≡ Some n)
    × (option_map archive_of (file_at files (root ++ key)) ≡ Some (id_in key, n))
holds_found root key [] files h found = absurd (true≢false (sym found))
holds_found root key (e ∷ es) files h found = by (bytes_eq key e.0) refl found
    (holds_found root key es files h.1)
  where
    by : (b : Bool) → bytes_eq key e.0 ≡ b → IsSome (cond b (Some e.1) (lookup (bytes_eq key) es))
        → (IsSome (lookup (bytes_eq key) es) → (n : ℕ) × (lookup (bytes_eq key) es ≡ Some n)
        × (option_map archive_of (file_at files (root ++ key)) ≡ Some (id_in key, n)))
        → (n : ℕ) × (cond b (Some e.1) (lookup (bytes_eq key) es) ≡ Some n)
        × (option_map archive_of (file_at files (root ++ key)) ≡ Some (id_in key, n))
    by true same found rest =
        let P : List ℕ → Type 0 = λ k. option_map archive_of (file_at files (root ++ k)) ≡ Some (id_in k, e.1)
        in
        (e.1, refl, subst P (sym ((bytes_eq-Decides key e.0).0 same)) h.0)
    by false other found rest = rest found

pub digest_found : {T : Type 0} (view : T → List ℕ) (id key : List ℕ) (d : Disk) (old : Held)
    (result : Result T Error) → is_id id ≡ true → key ≡ archive_key id → IsKeyed old d
    → OnOk result (IsSome (lookup (bytes_eq key) d.entries))
    → IfOk result (λ v. Holds old (λ files. file_at files (d.root ++ key) ≡ Some (view v)))
    → IfOk result (λ v. Holds old (λ files. id_of (view v) ≡ id))
digest_found view id key d old (Ok v) fit is h found content = λ files told.
    let w = holds_found d.root key d.entries files (h.hold files told) found in
    let both : Some (archive_of (view v)) ≡ Some (id_in key, w.0) =
    sym (ap (option_map archive_of) (content files told)) ∙ w.2 in
    let pair : archive_of (view v) ≡ (id_in key, w.0) = cc in
    ap (λ p. p.0) pair ∙ (ap id_in is ∙ id_of_key id (id_long id fit))
digest_found view id key d old (Err x) fit is h found content = tt

pub looked_fails : {T : Type 0} (id key : List ℕ) (d e : Disk) (old new : Held) (result : Result T Error)
    → is_id id ≡ true → key ≡ archive_key id → AllArchiveKeys d.entries
    → IfErr result (λ x. LookUpFails key x d e old new)
    → IfErr result (λ x. FindFails id x (unkeyed d.entries) (unkeyed e.entries) old new)
looked_fails id key d e old new (Ok x) fit is keys h = tt
looked_fails id key d e old new (Err FileNotInCache) fit is keys h =
    (ap (λ (k : Disk). unkeyed k.entries) h.0, h.1, sym (listed_un id key d.entries fit is keys) ∙ h.2)
looked_fails id key d e old new (Err (Io fault)) fit is keys h = (
  ap (λ (k : Disk). unkeyed k.entries) h.0
      ∙ (ap (λ k. unkeyed (promoted_key k d.entries)) is ∙ sym (promoted_key_un id d.entries fit keys)),
  h.1,
  subst IsSome (listed_un id key d.entries fit is keys) h.2,
)
looked_fails id key d e old new (Err NoMemory) fit is keys h = elim h.0 [
  | inl same ↦ inl (ap (λ (k : Disk). unkeyed k.entries) same)
  | inr same ↦ inr (ap (λ (k : Disk). unkeyed k.entries) same
      ∙ (ap (λ k. unkeyed (promoted_key k d.entries)) is ∙ sym (promoted_key_un id d.entries fit keys)))
]
looked_fails id key d e old new (Err BadKey) fit is keys h = absurd h
looked_fails id key d e old new (Err FileTooLarge) fit is keys h = absurd h
looked_fails id key d e old new (Err PendingSpace) fit is keys h = absurd h
looked_fails id key d e old new (Err NotPending) fit is keys h = absurd h
looked_fails id key d e old new (Err WrongDigest) fit is keys h = absurd h
looked_fails id key d e old new (Err WriterRefused) fit is keys h = absurd h

-- ---- a removal

pub removed_either : (key : List ℕ) (d e : Disk) (old new : Held) (result : Result (Unit {0}) Error)
    → OnOk result (e ≡ removed d key) → IfErr result (λ x. RemoveFails key x d e old new) → (e ≡ d)
    ⊎ (e ≡ removed d key)
removed_either key d e old new (Ok x) ok fails = inr ok
removed_either key d e old new (Err (Io fault)) ok fails = inr fails.0
removed_either key d e old new (Err NoMemory) ok fails = fails.0
removed_either key d e old new (Err FileNotInCache) ok fails = absurd fails
removed_either key d e old new (Err BadKey) ok fails = absurd fails
removed_either key d e old new (Err FileTooLarge) ok fails = absurd fails
removed_either key d e old new (Err PendingSpace) ok fails = absurd fails
removed_either key d e old new (Err NotPending) ok fails = absurd fails
removed_either key d e old new (Err WrongDigest) ok fails = absurd fails
removed_either key d e old new (Err WriterRefused) ok fails = absurd fails

pub removed_keyed : (key : List ℕ) (d e : Disk) (old new : Held) (result : Result (Unit {0}) Error)
    → IsKeyed old d → OnOk result (e ≡ removed d key) → IfErr result (λ x. RemoveFails key x d e old new)
    → Became (Keeps d.root e.entries) old.files new.files → IsKeyed new e
removed_keyed key d e old new result h ok fails kept =
    either_kept (λ x. Became (Keeps d.root x.entries) old.files new.files → IsKeyed new x) d e
    (λ x. removed x key)
    (λ k. keyed_on d d old new h refl refl refl h.keys h.hold k)
    (λ k. keyed_on d (removed d key) old new h refl refl refl
    (keys_out (λ x. IsArchiveKey x.0) (bytes_eq key) d.entries h.keys)
    (λ f told. keys_out (λ x. option_map archive_of (file_at f (d.root ++ x.0)) ≡ Some (id_in x.0, x.1))
    (bytes_eq key) d.entries (h.hold f told)) k)
    (removed_either key d e old new result ok fails) kept

out_un : (id key : List ℕ) (d e : Disk) → is_id id ≡ true → key ≡ archive_key id → AllArchiveKeys d.entries
    → e ≡ removed d key → unkeyed e.entries ≡ without_key id (unkeyed d.entries)
out_un id key d e fit is keys ok =
    ap (λ (k : Disk). unkeyed k.entries) ok
    ∙ (ap (λ k. unkeyed (without_key k d.entries)) is ∙ sym (without_un id d.entries fit keys))

pub removed_ok : (id key : List ℕ) (d e : Disk) (result : Result (Unit {0}) Error) → is_id id ≡ true
    → key ≡ archive_key id → AllArchiveKeys d.entries → OnOk result (e ≡ removed d key)
    → OnOk result (unkeyed e.entries ≡ without_key id (unkeyed d.entries))
removed_ok id key d e (Ok x) fit is keys ok = out_un id key d e fit is keys ok
removed_ok id key d e (Err x) fit is keys ok = tt

pub removed_fails : (id key : List ℕ) (d e : Disk) (old new : Held) (result : Result (Unit {0}) Error)
    → is_id id ≡ true → key ≡ archive_key id → AllArchiveKeys d.entries
    → IfErr result (λ x. RemoveFails key x d e old new)
    → IfErr result (λ x. DropFails id x (unkeyed d.entries) (unkeyed e.entries) old new)
removed_fails id key d e old new (Ok x) fit is keys h = tt
removed_fails id key d e old new (Err (Io fault)) fit is keys h = (
  out_un id key d e fit is keys h.0,
  h.1,
  subst IsSome (listed_un id key d.entries fit is keys) h.2,
)
removed_fails id key d e old new (Err NoMemory) fit is keys h =
    elim h.0 [
      | inl same ↦ inl (ap (λ (k : Disk). unkeyed k.entries) same)
      | inr same ↦ inr
          (out_un id key d e fit is keys same)
    ]
removed_fails id key d e old new (Err FileNotInCache) fit is keys h = absurd h
removed_fails id key d e old new (Err BadKey) fit is keys h = absurd h
removed_fails id key d e old new (Err FileTooLarge) fit is keys h = absurd h
removed_fails id key d e old new (Err PendingSpace) fit is keys h = absurd h
removed_fails id key d e old new (Err NotPending) fit is keys h = absurd h
removed_fails id key d e old new (Err WrongDigest) fit is keys h = absurd h
removed_fails id key d e old new (Err WriterRefused) fit is keys h = absurd h

-- ---- an insert

pub room_is : (d : Disk) (size : ℕ) → d.pending ≡ [] → room_beside d size ≡ d.capacity - size
room_is d size none = ap (λ p. d.capacity - (held_size p + size)) none ∙ ap (λ n. d.capacity - n)
    (omega arith)

pub stored_ok : (id key : List ℕ) (size : ℕ) (d e : Disk) (result : Result (Unit {0}) Error) → is_id id ≡ true
    → key ≡ archive_key id → AllArchiveKeys d.entries → d.pending ≡ [] → OnOk result (e ≡ inserted d key size)
    → OnOk result (unkeyed e.entries ≡ with_archive d.capacity id size (unkeyed d.entries))
stored_ok id key size d e (Ok x) fit is keys none ok =
    ap (λ (k : Disk). unkeyed k.entries) ok
    ∙ ((λ i. unkeyed (staying (is i) (room_is d size none i) d.entries ++ (is i, size) ∷ []))
    ∙ sym (stored_un id size (d.capacity - size) d.entries fit keys))
stored_ok id key size d e (Err x) fit is keys none ok = tt

left_kept : (P : List ℕ × ℕ → Type 0) (key : List ℕ) (limit : ℕ) (old new : Entries) → AllByRecursion P old
    → Left key limit old new → AllByRecursion P new
left_kept P key limit old new h left = elim left [
  | inl same ↦ subst (AllByRecursion P) (sym same) h
  | inr less ↦ keys_of_end P (without_key key old) new less.0.0 less.0.1 (keys_out P (bytes_eq key) old h)
]

left_keyed : (key : List ℕ) (limit : ℕ) (d e : Disk) (old new : Held) → IsKeyed old d → LeftBy key limit d e
    → Became (Keeps d.root e.entries) old.files new.files → IsKeyed new e
left_keyed key limit d e old new h left kept =
    keyed_on d e old new h left.path left.root left.pending
    (left_kept (λ x. IsArchiveKey x.0) key limit d.entries e.entries h.keys left.entries)
    (λ f told. left_kept (λ x. option_map archive_of (file_at f (d.root ++ x.0)) ≡ Some (id_in x.0, x.1))
    key limit d.entries e.entries (h.hold f told) left.entries) kept

refused_keyed : (key : List ℕ) (size : ℕ) (error : Error) (d e : Disk) (old new : Held) → IsKeyed old d
    → Refuses key size error d e old new → IsKeyed new e
refused_keyed key size error d e old new h refused =
    let P : Disk → Held → Type 0 = λ x k. IsKeyed k x in
    subst (λ x. P x new) (sym refused.0) (subst (λ k. P d k) (sym refused.1) h)

-- what stays holds what it held, and the last what was stored
stays_held : (key id bytes : List ℕ) (limit : ℕ) (root : List ℕ) (es : Entries) (old new : Held)
    → key ≡ archive_key id → is_id id ≡ true → id_of bytes ≡ id → Holds old (λ f. AllHold root f es)
    → Became (Keeps root (staying key limit es)) old.files new.files
    → Holds new (λ files. file_at files (root ++ key) ≡ Some bytes)
    → Holds new (λ files. AllHold root files (staying key limit es ++ (key, length bytes) ∷ []))
stays_held key id bytes limit root es old new is fit digest hold kept content = λ files told.
    let w = became_from (Keeps root (staying key limit es)) old.files new.files files kept told in
    let last : option_map archive_of (file_at files (root ++ key)) ≡ Some (id_in key, length bytes) =
    ap (option_map archive_of) (content files told) ∙ ap (λ k. Some (k, length bytes))
    (digest ∙ sym (ap id_in is ∙ id_of_key id (id_long id fit))) in
    let stays : AllHold root w.0 (staying key limit es) =
    staying_has (λ x. option_map archive_of (file_at w.0 (root ++ x.0)) ≡ Some (id_in x.0, x.1)) key limit
    es (hold w.0 w.1) in
    keys_end (λ x. option_map archive_of (file_at files (root ++ x.0)) ≡ Some (id_in x.0, x.1))
    (staying key limit es) (key, length bytes) (hold_kept root (staying key limit es) w.0 files w.2 stays)
    last

pub stored_keyed : (key id bytes : List ℕ) (d e : Disk) (old new : Held) (result : Result (Unit {0}) Error)
    → key ≡ archive_key id → is_id id ≡ true → id_of bytes ≡ id → IsKeyed old d
    → OnOk result (e ≡ inserted d key (length bytes))
    → IfErr result (λ x. InsertFails key (length bytes) x d e old new)
    → OnOk result (Became (Keeps d.root (staying key (room_beside d (length bytes)) d.entries)) old.files
    new.files) → OnErr result (Became (Keeps d.root e.entries) old.files new.files)
    → OnOk result (Holds new (λ files. file_at files (d.root ++ key) ≡ Some bytes)) → IsKeyed new e
stored_keyed key id bytes d e old new (Ok x) is fit digest h ok fails kept left content =
    let made : IsKeyed new (inserted d key (length bytes)) = record {
      keys = keys_stored (λ x. IsArchiveKey x.0) key (length bytes) (room_beside d (length bytes)) d.entries
          h.keys (subst IsArchiveKey (sym is) (key_is_archive id fit));
      root = h.root;
      none = h.none;
      hold = stays_held key id bytes (room_beside d (length bytes)) d.root d.entries old new is fit digest
          h.hold kept content;
    } in
    subst (IsKeyed new) (sym ok) made
stored_keyed key id bytes d e old new (Err BadKey) is fit digest h ok fails kept left content =
    refused_keyed key (length bytes) BadKey d e old new h fails
stored_keyed key id bytes d e old new (Err FileTooLarge) is fit digest h ok fails kept left content =
    refused_keyed key (length bytes) FileTooLarge d e old new h fails
stored_keyed key id bytes d e old new (Err PendingSpace) is fit digest h ok fails kept left content =
    refused_keyed key (length bytes) PendingSpace d e old new h fails
stored_keyed key id bytes d e old new (Err (Io fault)) is fit digest h ok fails kept left content =
    left_keyed key (room_beside d (length bytes)) d e old new h fails.0 left
stored_keyed key id bytes d e old new (Err NoMemory) is fit digest h ok fails kept left content =
    left_keyed key (room_beside d (length bytes)) d e old new h fails.0 left
stored_keyed key id bytes d e old new (Err FileNotInCache) is fit digest h ok fails kept left content =
    absurd fails
stored_keyed key id bytes d e old new (Err NotPending) is fit digest h ok fails kept left content =
    absurd fails
stored_keyed key id bytes d e old new (Err WrongDigest) is fit digest h ok fails kept left content =
    absurd fails
stored_keyed key id bytes d e old new (Err WriterRefused) is fit digest h ok fails kept left content =
    absurd fails

admitted : (result : Result (Unit {0}) Error) (error : Error) → result ≡ Ok (tt {0}) → result ≡ Err error → ⊥
admitted result error ok err = true≢false (ap is_ok (sym ok ∙ err))

left_by : (id key bytes : List ℕ) (d e : Disk) → is_id id ≡ true → key ≡ archive_key id
    → AllArchiveKeys d.entries → d.pending ≡ [] → LeftBy key (room_beside d (length bytes)) d e
    → Left id (d.capacity - length bytes) (unkeyed d.entries) (unkeyed e.entries)
left_by id key bytes d e fit is keys none left =
    let P : List ℕ → ℕ → Type 0 = λ k n. Left k n d.entries e.entries in
    left_un id (d.capacity - length bytes) d.entries e.entries fit keys
    (subst (λ n. P (archive_key id) n) (room_is d (length bytes) none)
    (subst (λ k. P k (room_beside d (length bytes))) is left.entries))

pub told_by : (id key bytes : List ℕ) (d e : Disk) (f g : Failures) (result : Result (Unit {0}) Error)
    → is_id id ≡ true → key ≡ archive_key id → AllArchiveKeys d.entries → d.pending ≡ []
    → ToldStored result key (room_beside d (length bytes)) d.entries e.entries f g
    → ToldStored result id (d.capacity - length bytes) (unkeyed d.entries) (unkeyed e.entries) f g
told_by id key bytes d e f g result fit is keys none told =
    let P : List ℕ → ℕ → Type 0 = λ k n. ToldStored result k n d.entries e.entries f g in
    told_un result id (d.capacity - length bytes) d.entries e.entries f g fit keys
    (subst (λ n. P (archive_key id) n) (room_is d (length bytes) none)
    (subst (λ k. P k (room_beside d (length bytes))) is told))

-- why it failed, by id: what may be stored is admitted, so its verdict refuses nothing
pub stored_fails : (id key bytes : List ℕ) (d e : Disk) (old new : Held) (result : Result (Unit {0}) Error)
    → is_id id ≡ true → key ≡ archive_key id → AllArchiveKeys d.entries → d.pending ≡ []
    → archive_verdict d.capacity id bytes ≡ Ok (tt {0}) → insert_verdict d key (length bytes) ≡ Ok (tt {0})
    → IfErr result (λ x. InsertFails key (length bytes) x d e old new)
    → IfErr result (λ x. StoreFails d.capacity id bytes x (unkeyed d.entries) (unkeyed e.entries) old new)
stored_fails id key bytes d e old new (Ok x) fit is keys none archive insert h = tt
stored_fails id key bytes d e old new (Err (Io fault)) fit is keys none archive insert h =
    (left_by id key bytes d e fit is keys none h.0, h.1, archive)
stored_fails id key bytes d e old new (Err NoMemory) fit is keys none archive insert h =
    (left_by id key bytes d e fit is keys none h.0, archive)
stored_fails id key bytes d e old new (Err BadKey) fit is keys none archive insert h =
    absurd (admitted (insert_verdict d key (length bytes)) BadKey insert h.2)
stored_fails id key bytes d e old new (Err FileTooLarge) fit is keys none archive insert h =
    absurd (admitted (insert_verdict d key (length bytes)) FileTooLarge insert h.2)
stored_fails id key bytes d e old new (Err PendingSpace) fit is keys none archive insert h =
    absurd (admitted (insert_verdict d key (length bytes)) PendingSpace insert h.2)
stored_fails id key bytes d e old new (Err FileNotInCache) fit is keys none archive insert h = absurd h
stored_fails id key bytes d e old new (Err NotPending) fit is keys none archive insert h = absurd h
stored_fails id key bytes d e old new (Err WrongDigest) fit is keys none archive insert h = absurd h
stored_fails id key bytes d e old new (Err WriterRefused) fit is keys none archive insert h = absurd h

-- ---- in step

told_then : (P : Files → Type 0) (f : Files → Files) (old new : Held) → BecameBy f old.files new.files
    → ((x : Files) → old.files ≡ Some x → P (f x)) → Holds new P
told_then P f old new made h = λ files told.
    let w = became_from (λ a b. b ≡ f a) old.files new.files files (made_is f old.files new.files made) told
    in
    subst P (sym w.2) (h w.0 w.1)

pub path_is : (id key : List ℕ) (d : Disk) → d.root ≡ front d.path → key ≡ archive_key id
    → d.root ++ key ≡ archive_path d.path id
path_is id key d root is = λ i. root i ++ is i

pub stored_in_step : (id key bytes : List ℕ) (d e : Disk) (old new : Held) (result : Result (Unit {0}) Error)
    → is_id id ≡ true → key ≡ archive_key id → id_of bytes ≡ id → IsKeyed old d
    → IsDistinct bytes_eq (keys_of (unkeyed d.entries)) → OnOk result (e ≡ inserted d key (length bytes))
    → OnOk result ((temp : List ℕ) × IsInsertTemp d.root temp
    × BecameBy (files_stored d.root temp (d.root ++ key) bytes
    (dropped (room_beside d (length bytes)) (without_key key d.entries))) old.files new.files)
    → IsInStep d.path old (unkeyed d.entries) → OnOk result (IsInStep e.path new (unkeyed e.entries))
stored_in_step id key bytes d e old new (Err x) fit is digest h distinct ok exact in_step = tt
stored_in_step id key bytes d e old new (Ok x) fit is digest h distinct ok exact in_step =
    let w = exact.1 in
    let temp_is : exact.0 ≡ front d.path ++ insert_name w.0 = w.2 ∙ ap (λ r. r ++ insert_name w.0) h.root in
    let gone = dropped (room_beside d (length bytes)) (without_key key d.entries) in
    let gone_is : unkeyed gone ≡ dropped (d.capacity - length bytes) (without_key id (unkeyed d.entries)) =
    sym (dropped_un (room_beside d (length bytes)) (without_key key d.entries))
    ∙ (λ i. dropped (room_is d (length bytes) h.none i)
    ((ap (λ k. unkeyed (without_key k d.entries)) is ∙ sym (without_un id d.entries fit h.keys)) i)) in
    let all = keys_dropped (room_beside d (length bytes)) (without_key key d.entries)
    (keys_out (λ x. IsArchiveKey x.0) (bytes_eq key) d.entries h.keys) in
    let archives : unkeyed e.entries ≡ with_archive d.capacity id (length bytes) (unkeyed d.entries) =
    stored_ok id key (length bytes) d e (Ok x) fit is h.keys h.none ok in
    told_then (λ files. archives_in e.path files ≡ unkeyed e.entries)
    (files_stored d.root exact.0 (d.root ++ key) bytes gone) old new exact.2 (λ files told.
    (λ i. archives_in (ap (λ (k : Disk). k.path) ok i)
    (files_stored (h.root i) (temp_is i) (path_is id key d h.root is i) bytes gone files))
    ∙ (in_stored d.path id bytes w.0 (d.capacity - length bytes) gone (unkeyed d.entries) files digest all
    gone_is distinct (in_step files told)
    ∙ sym archives))

pub looked_in_step : {T : Type 0} (id key : List ℕ) (d e : Disk) (old new : Held) (result : Result T Error)
    → is_id id ≡ true → key ≡ archive_key id → IsKeyed old d
    → IsDistinct bytes_eq (keys_of (unkeyed d.entries)) → OnOk result (e ≡ looked_up d key)
    → OnOk result (IsSome (lookup (bytes_eq key) d.entries))
    → OnOk result (BecameBy (touched (d.root ++ key)) old.files new.files)
    → IsInStep d.path old (unkeyed d.entries) → OnOk result (IsInStep e.path new (unkeyed e.entries))
looked_in_step id key d e old new (Err x) fit is h distinct ok found exact in_step = tt
looked_in_step id key d e old new (Ok x) fit is h distinct ok found exact in_step =
    told_then (λ files. archives_in e.path files ≡ unkeyed e.entries) (touched (d.root ++ key)) old new exact
    (λ files told.
    let w = holds_found d.root key d.entries files (h.hold files told) found in
    let held : option_map archive_of (file_at files (archive_path d.path id)) ≡ Some (id, w.0) =
    ap (λ p. option_map archive_of (file_at files p)) (sym (path_is id key d h.root is))
    ∙ (w.2 ∙ ap (λ k. Some (k, w.0)) (ap id_in is ∙ id_of_key id (id_long id fit))) in
    (λ i. archives_in (ap (λ (k : Disk). k.path) ok i) (touched (path_is id key d h.root is i) files))
    ∙ (in_touched d.path id w.0 (unkeyed d.entries) files held (sym (listed_un id key d.entries fit is h.keys)
    ∙ w.1) distinct (in_step files told)
    ∙ sym (looked_ok id key d e (Ok x) fit is h.keys ok)))

pub removed_in_step : (id key : List ℕ) (d e : Disk) (old new : Held) (result : Result (Unit {0}) Error)
    → is_id id ≡ true → key ≡ archive_key id → IsKeyed old d
    → IsDistinct bytes_eq (keys_of (unkeyed d.entries)) → OnOk result (e ≡ removed d key)
    → OnOk result (IsSome (lookup (bytes_eq key) d.entries)
    → BecameBy (without (d.root ++ key)) old.files new.files)
    → OnOk result (lookup (bytes_eq key) d.entries ≡ None → new ≡ old)
    → IsInStep d.path old (unkeyed d.entries) → OnOk result (IsInStep e.path new (unkeyed e.entries))
removed_in_step id key d e old new (Err x) fit is h distinct ok exact same in_step = tt
removed_in_step id key d e old new (Ok x) fit is h distinct ok exact same in_step =
    by (lookup (bytes_eq key) d.entries) refl
  where
    by : (o : Option ℕ) → lookup (bytes_eq key) d.entries ≡ o → IsInStep e.path new (unkeyed e.entries)
    by (Some n) listed =
        told_then (λ files. archives_in e.path files ≡ unkeyed e.entries) (without (d.root ++ key)) old new
        (exact (subst IsSome (sym listed) refl)) (λ files told.
        (λ i. archives_in (ap (λ (k : Disk). k.path) ok i) (without (path_is id key d h.root is i) files))
        ∙ (in_gone d.path id (unkeyed d.entries) files distinct (in_step files told)
        ∙ sym (out_un id key d e fit is h.keys ok)))
    by None absent = λ files told.
        ap (λ (k : Disk). archives_in k.path files) ok
        ∙ (in_step files (ap (λ (k : Held). k.files) (sym (same absent)) ∙ told)
        ∙ (sym (others-none (bytes_eq id) (unkeyed d.entries) (sym (listed_un id key d.entries fit is h.keys)
        ∙ absent)) ∙ sym (out_un id key d e fit is h.keys ok)))

pub removed_gone : (id key : List ℕ) (d : Disk) (old new : Held) (result : Result (Unit {0}) Error)
    → is_id id ≡ true → key ≡ archive_key id → IsKeyed old d
    → OnOk result (IsSome (lookup (bytes_eq key) d.entries) → Holds new (Lacks (d.root ++ key)))
    → OnOk result (IsSome (lookup (bytes_eq id) (unkeyed d.entries))
    → Holds new (Lacks (archive_path d.path id)))
removed_gone id key d old new (Err x) fit is h gone = tt
removed_gone id key d old new (Ok x) fit is h gone = λ listed.
    subst (λ p. Holds new (Lacks p)) (path_is id key d h.root is)
    (gone (subst IsSome (sym (listed_un id key d.entries fit is h.keys)) listed))

-- ---- what may be stored

not_over : (capacity size : ℕ) → nat_le size capacity ≡ true → nat_lt capacity size ≡ false
not_over capacity size small = grind (arith, nat_tests)

pub archive_admitted : (id bytes : List ℕ) (capacity : ℕ) → bytes_eq (id_of bytes) id ≡ true
    → nat_le (length bytes) capacity ≡ true → archive_verdict capacity id bytes ≡ Ok (tt {0})
archive_admitted id bytes capacity same small = rw (same, not_over capacity (length bytes) small) refl

pub insert_admitted : (id key : List ℕ) (size : ℕ) (d : Disk) → is_id id ≡ true → key ≡ archive_key id
    → d.pending ≡ [] → nat_le size d.capacity ≡ true → insert_verdict d key size ≡ Ok (tt {0})
insert_admitted id key size d fit is none small =
    let one : is_key key ≡ true = ap is_key is ∙ id_is_key id fit in
    let two : nat_lt d.capacity (held_size d.pending + size) ≡ false = ap (λ n. nat_lt d.capacity n)
    (ap (λ p. held_size p + size) none ∙ zero_more size) ∙ not_over d.capacity size small in
    rw (one, not_over d.capacity size small, two) refl
  where
    zero_more : (n : ℕ) → 0 + n ≡ n
    zero_more n = omega arith

-- ---- files that lie elsewhere

pub aside_keyed : (d e : Disk) (old new : Held) → IsKeyed old d → e ≡ d
    → Became (SameBelow d.root) old.files new.files → IsKeyed new e
aside_keyed d e old new h is same =
    subst (IsKeyed new) (sym is)
    (keyed_on d d old new h refl refl refl h.keys h.hold
    (kept_below d.root d.entries old.files new.files same))

pub aside_step : (d e : Disk) (old new : Held) → e ≡ d → Became (SameArchives d.path) old.files new.files
    → IsInStep d.path old (unkeyed d.entries) → IsInStep e.path new (unkeyed e.entries)
aside_step d e old new is same h =
    subst (λ (k : Disk). IsInStep k.path new (unkeyed k.entries)) (sym is)
    (step_kept d.path (unkeyed d.entries) old new same h)
