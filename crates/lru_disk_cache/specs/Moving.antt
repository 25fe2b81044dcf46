-- What storing a file of the folder, or what a closure writes, answers and leaves.
use Rattle.std.specs.Prelude.{◌≡◌, ℕ, ◌⊎◌, true, false, List, [], None, Some, Result, Ok, Err, length}
use Rattle.std.specs.Borrow.{MutBor}
use Rattle.std.specs.Fn.{Once, FnOnceReturnsAtMut}
use Rattle.dist_types.specs.Cause.{Rose}
use Rattle.folders.specs.Files.{size_at}
use Rattle.folders.specs.Held.{Held, Holds, Lacks}
use Rattle.dist_types.specs.declared.folder_fault.FolderFault.{FolderFault}
use Rattle.dist_types.specs.declared.folder_fault.FolderFault.TheVariants.{Missing, Failed, Memory}
use Rattle.dist_types.specs.declared.cache_error.Error.{Error}
use Rattle.dist_types.specs.declared.cache_error.Error.TheVariants.{FileTooLarge, FileNotInCache, Io}
use Rattle.dist_types.specs.declared.cache_error.Error.TheVariants.{PendingSpace, BadKey, NotPending}
use Rattle.dist_types.specs.declared.cache_error.Error.TheVariants.{WrongDigest, WriterRefused}
use Rattle.dist_types.specs.declared.cache_error.Error.TheVariants.{Memory as NoMemory}
use Rattle.lru_disk_cache.specs.declared.error.WriteFault.{WriteFault}
use Rattle.lru_disk_cache.specs.declared.error.WriteFault.TheVariants.{Refused}
use Rattle.listed_files.specs.Key.{is_key}
use Rattle.lru_disk_cache.specs.Store.{Disk, LeftBy, room_beside, insert_verdict, InsertFails}

-- ---- a file of the folder

-- the file at a path has this size, where files are told
abbrev pub IsSized : List ℕ → Held → ℕ → Type 0
IsSized path held n = Holds held (λ files. size_at files path ≡ Some n)

-- Why the folder failed: the count rose, or files are not told, or there is no file to be moved, which leaves
-- all.
abbrev pub MoveCause : List ℕ → FolderFault → Disk → Disk → Held → Held → Type 0
MoveCause path Failed d e old new = Rose old.faults new.faults
MoveCause path Missing d e old new = (old.files ≡ None) ⊎ ((e ≡ d) × (new ≡ old) × Holds old (Lacks path))
MoveCause path Memory d e old new = ⊥

-- what it leaves where the folder or memory failed: all as it was, or what a failed insert leaves
abbrev pub MoveBroke : List ℕ → List ℕ → Disk → Disk → Held → Type 0
MoveBroke key path d e old =
    (e ≡ d) ⊎ ((n : ℕ) × IsSized path old n × (insert_verdict d key n ≡ Ok (tt {0}))
    × LeftBy key (room_beside d n) d e)

-- a refusal by the verdict leaves all as it was
abbrev pub RefusesMove : List ℕ → List ℕ → Error → Disk → Disk → Held → Held → Type 0
RefusesMove key path error d e old new =
    (e ≡ d) × (new ≡ old) × ((n : ℕ) × IsSized path old n × (insert_verdict d key n ≡ Err error))

-- Why storing a file of the folder failed, and what it leaves. The folder is asked, and memory taken, only
-- where the key is one.
abbrev pub MoveFails : List ℕ → List ℕ → Error → Disk → Disk → Held → Held → Type 0
MoveFails key path BadKey d e old new = (e ≡ d) × (new ≡ old) × (is_key key ≡ false)
MoveFails key path FileTooLarge d e old new = RefusesMove key path FileTooLarge d e old new
MoveFails key path PendingSpace d e old new = RefusesMove key path PendingSpace d e old new
MoveFails key path (Io fault) d e old new = MoveBroke key path d e old × MoveCause path fault d e old new
    × (is_key key ≡ true)
MoveFails key path NoMemory d e old new = MoveBroke key path d e old × (is_key key ≡ true)
MoveFails key path FileNotInCache d e old new = ⊥
MoveFails key path NotPending d e old new = ⊥
MoveFails key path WrongDigest d e old new = ⊥
MoveFails key path WriterRefused d e old new = ⊥

-- ---- what a closure writes

-- A call of the closure at an empty vector may give this answer, and leave these bytes.
abbrev pub Wrote : {W V : Type 0} → Once W (MutBor V × Unit {0}) (Result (Unit {0}) WriteFault
    × (MutBor V × Unit {0})) → (V → List ℕ) → W → Result (Unit {0}) WriteFault → List ℕ → Type 0
Wrote {W} {V} call seen closure answer bytes =
    (empty filled : V) × FnOnceReturnsAtMut call closure empty answer filled × (seen empty ≡ [])
    × (seen filled ≡ bytes)

-- it wrote bytes of this size
abbrev pub WroteSize : (Result (Unit {0}) WriteFault → List ℕ → Type 0) → ℕ → Type 0
WroteSize wrote n = (bytes : List ℕ) × wrote (Ok (tt {0})) bytes × (length bytes ≡ n)

-- why a closure wrote nothing that is to be stored
abbrev pub WriterFails : (Result (Unit {0}) WriteFault → List ℕ → Type 0) → Error → Type 0
WriterFails wrote WriterRefused = (bytes : List ℕ) × wrote (Err Refused) bytes
WriterFails wrote NoMemory = Unit {0}
WriterFails wrote BadKey = ⊥
WriterFails wrote FileTooLarge = ⊥
WriterFails wrote FileNotInCache = ⊥
WriterFails wrote (Io fault) = ⊥
WriterFails wrote PendingSpace = ⊥
WriterFails wrote NotPending = ⊥
WriterFails wrote WrongDigest = ⊥

-- a refusal of such a store of bytes is that of the bytes that were written
abbrev pub OfBytes : (Result (Unit {0}) WriteFault → List ℕ → Type 0) → (List ℕ → Type 0) → Type 0
OfBytes wrote fails = (bytes : List ℕ) × wrote (Ok (tt {0})) bytes × fails bytes

-- Why storing what a closure writes failed, and what it leaves. The closure is called only where the key is
-- one.
abbrev pub WithFails : (Result (Unit {0}) WriteFault → List ℕ → Type 0) → List ℕ → Error → Disk → Disk → Held
    → Held → Type 0
WithFails wrote key BadKey d e old new = (e ≡ d) × (new ≡ old) × (is_key key ≡ false)
WithFails wrote key WriterRefused d e old new = (e ≡ d) × (new ≡ old)
    × ((bytes : List ℕ) × wrote (Err Refused) bytes) × (is_key key ≡ true)
WithFails wrote key FileTooLarge d e old new =
    OfBytes wrote (λ bytes. InsertFails key (length bytes) FileTooLarge d e old new)
WithFails wrote key PendingSpace d e old new =
    OfBytes wrote (λ bytes. InsertFails key (length bytes) PendingSpace d e old new)
WithFails wrote key (Io fault) d e old new =
    OfBytes wrote (λ bytes. InsertFails key (length bytes) (Io fault) d e old new)
WithFails wrote key NoMemory d e old new =
    ((e ≡ d) × (new ≡ old) × (is_key key ≡ true))
    ⊎ OfBytes wrote (λ bytes. InsertFails key (length bytes) NoMemory d e old new)
WithFails wrote key FileNotInCache d e old new = ⊥
WithFails wrote key NotPending d e old new = ⊥
WithFails wrote key WrongDigest d e old new = ⊥
