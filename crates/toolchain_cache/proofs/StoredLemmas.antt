-- What a call of the disk cache leaves of its files, told by the ids of archives.
use Rattle.std.proofs.Common.{◌≡◌, ℕ, List, [], ◌∷◌, ◌++◌, length, Option, Result, Ok, Err, IsSome}
use Rattle.std.proofs.Common.{Bool, true, false, is_some, Some, None, IfErr, OnOk, OnErr, refl, sym, ap}
use Rattle.std.proofs.Common.{subst, ◌∙◌, true≢false}
use Rattle.std.specs.Map.{lookup}
use Rattle.std.specs.Str.{bytes_eq}
use Rattle.folders.specs.Files.{Files, file_at, front, touched, without}
use Rattle.folders.specs.Held.{Held, Became, BecameBy}
use Rattle.folders.specs.Changed.{ButAt}
use Rattle.folders.proofs.Became.{became_map, became_same}
use Rattle.dist_types.specs.declared.cache_error.Error.{Error}
use Rattle.dist_types.specs.declared.cache_error.Error.TheVariants.{Memory as NoMemory}
use Rattle.listed_files.specs.Entries.{Entries, trim}
use Rattle.listed_files.specs.Disk.{Keeps, IsInsertTemp, staying, dropped, files_stored, without_key}
use Rattle.lru_disk_cache.specs.Store.{Disk, room_beside, LookUpFails, RemoveFails}
use Rattle.lru_metered.proofs.Lookups.{others-none}
use Rattle.toolchain_cache.specs.Archives.{Archives, is_id, archive_key, archive_path}
use Rattle.toolchain_cache.specs.Archiving.{dropped_for}
use Rattle.toolchain_cache.specs.Keyed.{unkeyed, with_keys, IsArchiveKey, AllArchiveKeys, IsKeyed}
use Rattle.toolchain_cache.specs.Stored.{KeepsArchives, staying_for, PlacesArchive}
use Rattle.toolchain_cache.proofs.TcSteps.{path_is, room_is, listed_un}
use Rattle.toolchain_cache.proofs.Unkeyed.{without_un, trim_un, dropped_un, keys_out, keys_dropped}
use Rattle.toolchain_cache.proofs.Unkeyed.{staying_has}

-- ---- nothing changed

pub archives_stay : (path : List ℕ) (archives : Archives) (o : Option Files)
    → Became (KeepsArchives path archives) o o
archives_stay path archives o = became_same (KeepsArchives path archives) o (λ f. all archives f)
  where
    all : (a : Archives) (f : Files) → KeepsArchives path a f f
    all [] f = tt
    all (x ∷ xs) f = (refl, all xs f)

pub one_stays : (path : List ℕ) (o : Option Files) → Became (ButAt path) o o
one_stays path o = became_same (ButAt path) o (λ f q other. refl)

-- ---- keys and ids

keys_again : (es : Entries) → AllArchiveKeys es → with_keys (unkeyed es) ≡ es
keys_again [] keys = refl
keys_again (e ∷ es) keys = λ i. (sym keys.0.path i, e.1) ∷ keys_again es keys.1 i

pub keeps_un : (path root : List ℕ) (es : Entries) (f g : Files) → root ≡ front path → AllArchiveKeys es
    → Keeps root es f g → KeepsArchives path (unkeyed es) f g
keeps_un path root [] f g is keys h = tt
keeps_un path root (e ∷ es) f g is keys h =
    let P : List ℕ → Type 0 = λ p. file_at g p ≡ file_at f p in
    (subst P (λ i. is i ++ keys.0.path i) h.0, keeps_un path root es f g is keys.1 h.1)

pub keeps_archives : (path root : List ℕ) (es : Entries) (old new : Option Files) → root ≡ front path
    → AllArchiveKeys es → Became (Keeps root es) old new → Became (KeepsArchives path (unkeyed es)) old new
keeps_archives path root es old new is keys h =
    became_map (Keeps root es) (KeepsArchives path (unkeyed es)) old new
    (λ f g keeps. keeps_un path root es f g is keys keeps) h

pub left_archives : (path root : List ℕ) (es : Entries) (result : Result (Unit {0}) Error)
    (old new : Option Files) → root ≡ front path → AllArchiveKeys es
    → OnErr result (Became (Keeps root es) old new)
    → OnErr result (Became (KeepsArchives path (unkeyed es)) old new)
left_archives path root es (Ok x) old new is keys h = tt
left_archives path root es (Err e) old new is keys h = keeps_archives path root es old new is keys h

-- ---- an insert

pub kept_archives : (id key bytes : List ℕ) (d : Disk) (held old new : Held)
    (result : Result (Unit {0}) Error) → is_id id ≡ true → key ≡ archive_key id → IsKeyed held d
    → OnOk result (Became (Keeps d.root (staying key (room_beside d (length bytes)) d.entries)) old.files
    new.files)
    → OnOk result (Became (KeepsArchives d.path (staying_for d.capacity id (length bytes)
    (unkeyed d.entries))) old.files new.files)
kept_archives id key bytes d held old new (Err e) fit is h kept = tt
kept_archives id key bytes d held old new (Ok x) fit is h kept =
    let room = room_beside d (length bytes) in
    let stays : unkeyed (staying key room d.entries) ≡ staying_for d.capacity id (length bytes)
    (unkeyed d.entries) =
    sym (trim_un room (without_key key d.entries))
    ∙ (λ i. trim (room_is d (length bytes) h.none i)
    ((ap (λ k. unkeyed (without_key k d.entries)) is ∙ sym (without_un id d.entries fit h.keys)) i)) in
    subst (λ l. Became (KeepsArchives d.path l) old.files new.files) stays
    (keeps_archives d.path d.root (staying key room d.entries) old.files new.files h.root
    (staying_has (λ x. IsArchiveKey x.0) key room d.entries h.keys) kept)

pub placed_archive : (id key bytes : List ℕ) (d : Disk) (held old new : Held)
    (result : Result (Unit {0}) Error) → is_id id ≡ true → key ≡ archive_key id → IsKeyed held d
    → OnOk result ((temp : List ℕ) × IsInsertTemp d.root temp
    × BecameBy (files_stored d.root temp (d.root ++ key) bytes
    (dropped (room_beside d (length bytes)) (without_key key d.entries))) old.files new.files)
    → OnOk result (PlacesArchive d.path id bytes (dropped_for d.capacity id (length bytes)
    (unkeyed d.entries)) old new)
placed_archive id key bytes d held old new (Err e) fit is h exact = tt
placed_archive id key bytes d held old new (Ok x) fit is h exact =
    let room = room_beside d (length bytes) in
    let gone = dropped room (without_key key d.entries) in
    let gone_is : unkeyed gone ≡ dropped_for d.capacity id (length bytes) (unkeyed d.entries) =
    sym (dropped_un room (without_key key d.entries))
    ∙ (λ i. dropped (room_is d (length bytes) h.none i)
    ((ap (λ k. unkeyed (without_key k d.entries)) is ∙ sym (without_un id d.entries fit h.keys)) i)) in
    let all = keys_dropped room (without_key key d.entries)
    (keys_out (λ x. IsArchiveKey x.0) (bytes_eq key) d.entries h.keys) in
    let keyed : gone ≡ with_keys (dropped_for d.capacity id (length bytes) (unkeyed d.entries)) =
    sym (keys_again gone all) ∙ ap with_keys gone_is in
    let P : List ℕ → List ℕ → Entries → Type 0 = λ r p l. BecameBy (files_stored r exact.0 p bytes l)
    old.files new.files in (
      exact.0,
      subst (λ r. IsInsertTemp r exact.0) h.root exact.1,
      subst (λ l. P (front d.path) (archive_path d.path id) l) keyed
          (subst (λ p. P (front d.path) p gone) (path_is id key d h.root is)
          (subst (λ r. P r (d.root ++ key) gone) h.root exact.2)),
    )

-- ---- a look-up

pub touched_archive : {T : Type 0} (id key : List ℕ) (d : Disk) (held old new : Held)
    (result : Result T Error) → key ≡ archive_key id → IsKeyed held d
    → OnOk result (BecameBy (touched (d.root ++ key)) old.files new.files)
    → OnOk result (BecameBy (touched (archive_path d.path id)) old.files new.files)
touched_archive id key d held old new (Err e) is h exact = tt
touched_archive id key d held old new (Ok x) is h exact =
    subst (λ p. BecameBy (touched p) old.files new.files) (path_is id key d h.root is) exact

-- ---- a removal

pub removed_archive : (id key : List ℕ) (d : Disk) (held old new : Held) (result : Result (Unit {0}) Error)
    → is_id id ≡ true → key ≡ archive_key id → IsKeyed held d
    → OnOk result (IsSome (lookup (bytes_eq key) d.entries)
    → BecameBy (without (d.root ++ key)) old.files new.files)
    → OnOk result (IsSome (lookup (bytes_eq id) (unkeyed d.entries))
    → BecameBy (without (archive_path d.path id)) old.files new.files)
removed_archive id key d held old new (Err e) fit is h exact = tt
removed_archive id key d held old new (Ok x) fit is h exact = λ listed.
    subst (λ p. BecameBy (without p) old.files new.files) (path_is id key d h.root is)
    (exact (subst IsSome (sym (listed_un id key d.entries fit is h.keys)) listed))

pub same_archive : (id key : List ℕ) (d : Disk) (held old new : Held) (result : Result (Unit {0}) Error)
    → is_id id ≡ true → key ≡ archive_key id → IsKeyed held d
    → OnOk result (lookup (bytes_eq key) d.entries ≡ None → new ≡ old)
    → OnOk result (lookup (bytes_eq id) (unkeyed d.entries) ≡ None → new ≡ old)
same_archive id key d held old new (Err e) fit is h same = tt
same_archive id key d held old new (Ok x) fit is h same = λ absent.
    same (listed_un id key d.entries fit is h.keys ∙ absent)

pub but_archive : (id key : List ℕ) (d : Disk) (held : Held) (old new : Option Files)
    → key ≡ archive_key id → IsKeyed held d → Became (ButAt (d.root ++ key)) old new
    → Became (ButAt (archive_path d.path id)) old new
but_archive id key d held old new is h others =
    subst (λ p. Became (ButAt p) old new) (path_is id key d h.root is) others

-- ---- what a closure writes

pub all_ok : {T E : Type 0} (A B C : Type 0) (result : Result T E) → OnOk result A → OnOk result B
    → OnOk result C → OnOk result (A × B × C)
all_ok A B C (Ok x) a b c = (a, b, c)
all_ok A B C (Err e) a b c = tt

-- ---- want of memory

-- an archive that is not listed is not missed
pub absent_out : (id : List ℕ) (archives : Archives) (b : Bool)
    → b ≡ is_some (lookup (bytes_eq id) archives) → b ≡ false → archives ≡ without_key id archives
absent_out id archives b is none =
    sym (others-none (bytes_eq id) archives (none_at (lookup (bytes_eq id) archives) (sym is ∙ none)))
  where
    none_at : (o : Option ℕ) → is_some o ≡ false → o ≡ None
    none_at None h = refl
    none_at (Some n) h = absurd (true≢false h)

-- Where memory ran out a listed key was looked for.
pub memory_un : {T : Type 0} (id key : List ℕ) (d e : Disk) (old new : Held) (result : Result T Error)
    → is_id id ≡ true → key ≡ archive_key id → AllArchiveKeys d.entries
    → IfErr result (λ x. LookUpFails key x d e old new)
    → result ≡ Err NoMemory → IsSome (lookup (bytes_eq id) (unkeyed d.entries))
memory_un {T} id key d e old new result fit is keys fails starved =
    let P : Result T Error → Type 0 = λ r. IfErr r (λ x. LookUpFails key x d e old new) in
    subst IsSome (listed_un id key d.entries fit is keys) ((subst P starved fails).1)

pub removed_memory_un : (id key : List ℕ) (d e : Disk) (old new : Held) (result : Result (Unit {0}) Error)
    → is_id id ≡ true → key ≡ archive_key id → AllArchiveKeys d.entries
    → IfErr result (λ x. RemoveFails key x d e old new)
    → result ≡ Err NoMemory → IsSome (lookup (bytes_eq id) (unkeyed d.entries))
removed_memory_un id key d e old new result fit is keys fails starved =
    let P : Result (Unit {0}) Error → Type 0 = λ r. IfErr r (λ x. RemoveFails key x d e old new) in
    subst IsSome (listed_un id key d.entries fit is keys) ((subst P starved fails).1)
