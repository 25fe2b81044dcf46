-- What each call of a cache of archives answers and leaves.
use Rattle.std.specs.Prelude.{◌≡◌, ℕ, ◌-◌, ◌≤◌, ◌⊎◌, not, nat_lt, if◌then◌else◌, List, None, Some, Result, Ok}
use Rattle.std.specs.Prelude.{Err, IsSome, length}
use Rattle.std.specs.List.{AllByRecursion}
use Rattle.std.specs.Map.{lookup}
use Rattle.std.specs.Str.{bytes_eq}
use Rattle.folders.specs.Files.{Files}
use Rattle.folders.specs.Held.{Held}
use Rattle.dist_types.specs.declared.cache_error.Error.{Error}
use Rattle.dist_types.specs.declared.cache_error.Error.TheVariants.{FileTooLarge, FileNotInCache, Io}
use Rattle.dist_types.specs.declared.cache_error.Error.TheVariants.{PendingSpace, BadKey, NotPending}
use Rattle.dist_types.specs.declared.cache_error.Error.TheVariants.{WrongDigest, WriterRefused}
use Rattle.dist_types.specs.declared.cache_error.Error.TheVariants.{Memory as NoMemory}
use Rattle.listed_files.specs.Entries.{total, promoted_key}
use Rattle.listed_files.specs.Disk.{Left, stored, dropped, without_key}
use Rattle.lru_disk_cache.specs.Store.{IoCause}
use Rattle.toolchain_cache.specs.Archives.{Archives, id_of, AllVerified, archives_in, sound_archives}
use Rattle.toolchain_cache.specs.Archives.{opened_archives}
use Rattle.lru_disk_cache.specs.declared.error.WriteFault.{WriteFault}
use Rattle.lru_disk_cache.specs.declared.error.WriteFault.TheVariants.{Refused}
use Rattle.lru_disk_cache.specs.Moving.{OfBytes}

-- whether bytes may be stored as an archive of this id
abbrev pub archive_verdict : ℕ → List ℕ → List ℕ → Result (Unit {0}) Error
archive_verdict capacity id bytes =
    if not (bytes_eq (id_of bytes) id) then Err WrongDigest
    else if nat_lt capacity (length bytes) then Err FileTooLarge
    else Ok (tt {0})

-- the archives once one is stored, of this size and within a capacity: the others that still fit, and it as
-- the most recent
abbrev pub with_archive : ℕ → List ℕ → ℕ → Archives → Archives
with_archive capacity id size archives = stored id size (capacity - size) archives

-- those that are dropped where one is stored
abbrev pub dropped_for : ℕ → List ℕ → ℕ → Archives → Archives
dropped_for capacity id size archives = dropped (capacity - size) (without_key id archives)

-- a refusal by the verdict leaves all as it was
abbrev pub RefusesArchive : ℕ → List ℕ → List ℕ → Error → Archives → Archives → Held → Held → Type 0
RefusesArchive capacity id bytes error a b old new = (b ≡ a) × (new ≡ old)
    × (archive_verdict capacity id bytes ≡ Err error)

-- Why storing an archive failed, and what it leaves: the list as it was, or that id unlisted and then some of
-- the least recent gone, none more than had to go. Io and want of memory come only where the verdict admits.
abbrev pub StoreFails : ℕ → List ℕ → List ℕ → Error → Archives → Archives → Held → Held → Type 0
StoreFails capacity id bytes WrongDigest a b old new =
    RefusesArchive capacity id bytes WrongDigest a b old new
StoreFails capacity id bytes FileTooLarge a b old new =
    RefusesArchive capacity id bytes FileTooLarge a b old new
StoreFails capacity id bytes (Io fault) a b old new =
    Left id (capacity - length bytes) a b × IoCause fault old new
    × (archive_verdict capacity id bytes ≡ Ok (tt {0}))
StoreFails capacity id bytes NoMemory a b old new = Left id (capacity - length bytes) a b
    × (archive_verdict capacity id bytes ≡ Ok (tt {0}))
StoreFails capacity id bytes BadKey a b old new = ⊥
StoreFails capacity id bytes PendingSpace a b old new = ⊥
StoreFails capacity id bytes FileNotInCache a b old new = ⊥
StoreFails capacity id bytes NotPending a b old new = ⊥
StoreFails capacity id bytes WriterRefused a b old new = ⊥

-- Why a look-up failed, and what it leaves: Io comes only where the archive is listed, and leaves it so, as
-- the most recent.
abbrev pub FindFails : List ℕ → Error → Archives → Archives → Held → Held → Type 0
FindFails id FileNotInCache a b old new = (b ≡ a) × (new ≡ old) × (lookup (bytes_eq id) a ≡ None)
FindFails id (Io fault) a b old new = (b ≡ promoted_key id a) × IoCause fault old new
    × IsSome (lookup (bytes_eq id) a)
FindFails id NoMemory a b old new = (b ≡ a) ⊎ (b ≡ promoted_key id a)
FindFails id BadKey a b old new = ⊥
FindFails id FileTooLarge a b old new = ⊥
FindFails id PendingSpace a b old new = ⊥
FindFails id NotPending a b old new = ⊥
FindFails id WrongDigest a b old new = ⊥
FindFails id WriterRefused a b old new = ⊥

-- Why a removal failed, and what it leaves: Io comes only where the archive is listed, and leaves it
-- unlisted.
abbrev pub DropFails : List ℕ → Error → Archives → Archives → Held → Held → Type 0
DropFails id (Io fault) a b old new = (b ≡ without_key id a) × IoCause fault old new
    × IsSome (lookup (bytes_eq id) a)
DropFails id NoMemory a b old new = (b ≡ a) ⊎ (b ≡ without_key id a)
DropFails id FileNotInCache a b old new = ⊥
DropFails id BadKey a b old new = ⊥
DropFails id FileTooLarge a b old new = ⊥
DropFails id PendingSpace a b old new = ⊥
DropFails id NotPending a b old new = ⊥
DropFails id WrongDigest a b old new = ⊥
DropFails id WriterRefused a b old new = ⊥

-- whether an archive is among those listed, with its size
abbrev pub IsListed : List ℕ × ℕ → Archives → Type 0
IsListed a archives = lookup (bytes_eq a.0) archives ≡ Some a.1

-- Of the files that an opening finds, each archive that had been listed, whose file still stands and is
-- within the capacity, is listed again or is dropped as one of the least recent, to fit.
abbrev pub Relists : List ℕ → ℕ → Files → Archives → Type 0
Relists path capacity files new =
    (old : Archives) → AllVerified path files old → total old ≤ capacity
    → AllByRecursion (λ a. IsListed a new
    ⊎ IsListed a (dropped capacity (sound_archives path capacity files))) old

-- archives that are in step with the files and fit are what an opening lists
abbrev pub ArchivesReopen : Type 0
ArchivesReopen = (path : List ℕ) (capacity : ℕ) (files : Files) (archives : Archives)
    → archives_in path files ≡ archives → total archives ≤ capacity
    → opened_archives path capacity files ≡ archives

-- Why storing what a closure writes as an archive failed, and what it leaves.
abbrev pub StoreWithFails : (Result (Unit {0}) WriteFault → List ℕ → Type 0) → ℕ → List ℕ → Error → Archives
    → Archives → Held → Held → Type 0
StoreWithFails wrote capacity id WriterRefused a b old new = (b ≡ a) × (new ≡ old)
    × ((bytes : List ℕ) × wrote (Err Refused) bytes)
StoreWithFails wrote capacity id WrongDigest a b old new =
    OfBytes wrote (λ bytes. StoreFails capacity id bytes WrongDigest a b old new)
StoreWithFails wrote capacity id FileTooLarge a b old new =
    OfBytes wrote (λ bytes. StoreFails capacity id bytes FileTooLarge a b old new)
StoreWithFails wrote capacity id (Io fault) a b old new =
    OfBytes wrote (λ bytes. StoreFails capacity id bytes (Io fault) a b old new)
StoreWithFails wrote capacity id NoMemory a b old new =
    ((b ≡ a) × (new ≡ old)) ⊎ OfBytes wrote (λ bytes. StoreFails capacity id bytes NoMemory a b old new)
StoreWithFails wrote capacity id BadKey a b old new = ⊥
StoreWithFails wrote capacity id PendingSpace a b old new = ⊥
StoreWithFails wrote capacity id FileNotInCache a b old new = ⊥
StoreWithFails wrote capacity id NotPending a b old new = ⊥
