-- A disk cache: its disk and its folder, and what each call leaves.
use Rattle.std.specs.Prelude.{◌≡◌, ℕ, ◌+◌, ◌-◌, ◌≤◌, [], ◌⊎◌, not, nat_lt, if◌then◌else◌, List, None, Result}
use Rattle.std.specs.Prelude.{Ok, Err, IsSome, OnOk}
use Rattle.std.specs.Map.{lookup}
use Rattle.std.specs.Str.{bytes_eq}
use Rattle.dist_types.specs.Cause.{Rose, counted}
use Rattle.folders.specs.Files.{Files, front}
use Rattle.folders.specs.Held.{Held, Holds}
use Rattle.dist_types.specs.declared.folder_fault.FolderFault.{FolderFault}
use Rattle.dist_types.specs.declared.folder_fault.FolderFault.TheVariants.{Missing, Failed, Memory}
use Rattle.dist_types.specs.declared.cache_error.Error.{Error}
use Rattle.dist_types.specs.declared.cache_error.Error.TheVariants.{FileTooLarge, FileNotInCache, Io}
use Rattle.dist_types.specs.declared.cache_error.Error.TheVariants.{PendingSpace, BadKey, NotPending}
use Rattle.dist_types.specs.declared.cache_error.Error.TheVariants.{WrongDigest, WriterRefused}
use Rattle.dist_types.specs.declared.cache_error.Error.TheVariants.{Memory as NoMemory}
use Rattle.listed_files.specs.Key.{is_key}
use Rattle.listed_files.specs.Entries.{Entries, total, promoted_key}
use Rattle.listed_files.specs.Opened.{opened, InStep}
use Rattle.listed_files.specs.Disk.{Stands, Turns, TurnsBy, stored, Left, without_key}
use Rattle.lru_disk_cache.specs.Reserved.{Reservation, held_size, AllReserved, NumbersDiffer, AllSure}

-- The path of a cache and what the path of each of its files begins with, its capacity, its keys with sizes,
-- least recent first, and its open reservations.
pub record Disk : Type 0 where
  pub path : List ℕ
  pub root : List ℕ
  pub capacity : ℕ
  pub entries : Entries
  pub pending : List Reservation

-- A cache over a folder, and how many inserts failed, as a count that stops at 2^64 - 1. What those left of
-- their temporary files stays till the next opening.
pub record Store (F : Type 0) : Type 0 where
  pub disk : Disk
  pub folder : F
  pub spoiled : ℕ

-- A cache whose files stand, whose entries and reservations fit its capacity, and whose reservations' numbers
-- differ. The temporary files that are sure to be there are, where files are told.
pub record IsStore (held : Held) (d : Disk) : Type 0 where
  pub stands : Stands d.root held d.entries
  pub root : d.root ≡ front d.path
  pub fits : total d.entries + held_size d.pending ≤ d.capacity
  pub reserved : AllReserved d.root d.pending
  pub numbers : NumbersDiffer d.pending
  pub sure : Holds held (λ files. AllSure files d.pending)

-- the list is in step with the files, where they are told
abbrev pub DiskInStep : Held → Disk → Type 0
DiskInStep held d = Holds held (λ files. InStep d.root files d.entries)

-- where a call succeeds, a list that was in step with the files is so still
abbrev pub KeepsInStep : {F T E : Type 0} → (F → Held) → Result T E → Store F → Store F → Type 0
KeepsInStep held result old new = DiskInStep (held old.folder) old.disk
    → OnOk result (DiskInStep (held new.folder) new.disk)

-- the files of a cache's folder became so, or exactly what this makes of them
abbrev pub Leaves : {F : Type 0} → (F → Held) → (Files → Files → Type 0) → Store F → Store F → Type 0
Leaves held part old new = Turns part (held old.folder) (held new.folder)

abbrev pub Makes : {F : Type 0} → (F → Held) → (Files → Files) → Store F → Store F → Type 0
Makes held done old new = TurnsBy done (held old.folder) (held new.folder)

-- Io and want of memory raise the count of inserts that failed, and a refusal leaves it
abbrev pub Spoils : Error → ℕ → ℕ → Type 0
Spoils (Io fault) old new = new ≡ counted old
Spoils NoMemory old new = new ≡ counted old
Spoils BadKey old new = new ≡ old
Spoils FileTooLarge old new = new ≡ old
Spoils PendingSpace old new = new ≡ old
Spoils FileNotInCache old new = new ≡ old
Spoils NotPending old new = new ≡ old
Spoils WrongDigest old new = new ≡ old
Spoils WriterRefused old new = new ≡ old

-- why the folder failed: the count rose, or files are not told
abbrev pub IoCause : FolderFault → Held → Held → Type 0
IoCause Failed old new = Rose old.faults new.faults
IoCause Missing old new = old.files ≡ None
IoCause Memory old new = ⊥

-- whether a key may be stored with a size
abbrev pub insert_verdict : Disk → List ℕ → ℕ → Result (Unit {0}) Error
insert_verdict d key size =
    if not (is_key key) then Err BadKey
    else if nat_lt d.capacity size then Err FileTooLarge
    else if nat_lt d.capacity (held_size d.pending + size) then Err PendingSpace
    else Ok (tt {0})

-- what the sizes of the other entries may sum to where one of this size is stored
abbrev pub room_beside : Disk → ℕ → ℕ
room_beside d size = d.capacity - (held_size d.pending + size)

-- the disk once a key is stored with a size
abbrev pub inserted : Disk → List ℕ → ℕ → Disk
inserted d key size = record d { entries = stored key size (room_beside d size) d.entries }

-- the disk once a key was looked up
abbrev pub looked_up : Disk → List ℕ → Disk
looked_up d key = record d { entries = promoted_key key d.entries }

-- the disk without a key
abbrev pub removed : Disk → List ℕ → Disk
removed d key = record d { entries = without_key key d.entries }

-- the disk that an opening makes of the files
abbrev pub opened_disk : List ℕ → ℕ → Files → Disk
opened_disk path capacity files = record {
  path = path;
  root = front path;
  capacity = capacity;
  entries = opened (front path) capacity files;
  pending = [];
}

-- why an opening failed
abbrev pub OpenFails : Error → Held → Held → Type 0
OpenFails (Io fault) old new = IoCause fault old new
OpenFails NoMemory old new = Unit {0}
OpenFails BadKey old new = ⊥
OpenFails FileTooLarge old new = ⊥
OpenFails FileNotInCache old new = ⊥
OpenFails PendingSpace old new = ⊥
OpenFails NotPending old new = ⊥
OpenFails WrongDigest old new = ⊥
OpenFails WriterRefused old new = ⊥

-- what a failed insert leaves: the list as it was, or the key out and some of the least recent gone, none
-- more than had to go
pub record LeftBy (key : List ℕ) (limit : ℕ) (old new : Disk) : Type 0 where
  pub path : new.path ≡ old.path
  pub root : new.root ≡ old.root
  pub capacity : new.capacity ≡ old.capacity
  pub pending : new.pending ≡ old.pending
  pub entries : Left key limit old.entries new.entries

-- a refusal by the verdict leaves all as it was
abbrev pub Refuses : List ℕ → ℕ → Error → Disk → Disk → Held → Held → Type 0
Refuses key size error d e old new = (e ≡ d) × (new ≡ old) × (insert_verdict d key size ≡ Err error)

-- Why an insert failed, and what it leaves. The folder is asked, and memory taken, only where the verdict
-- admits.
abbrev pub InsertFails : List ℕ → ℕ → Error → Disk → Disk → Held → Held → Type 0
InsertFails key size BadKey d e old new = Refuses key size BadKey d e old new
InsertFails key size FileTooLarge d e old new = Refuses key size FileTooLarge d e old new
InsertFails key size PendingSpace d e old new = Refuses key size PendingSpace d e old new
InsertFails key size (Io fault) d e old new = LeftBy key (room_beside d size) d e × IoCause fault old new
    × (insert_verdict d key size ≡ Ok (tt {0}))
InsertFails key size NoMemory d e old new = LeftBy key (room_beside d size) d e
    × (insert_verdict d key size ≡ Ok (tt {0}))
InsertFails key size FileNotInCache d e old new = ⊥
InsertFails key size NotPending d e old new = ⊥
InsertFails key size WrongDigest d e old new = ⊥
InsertFails key size WriterRefused d e old new = ⊥

-- Why a look-up failed, and what it leaves. The folder is asked, and memory taken, only where the key is
-- listed.
abbrev pub LookUpFails : List ℕ → Error → Disk → Disk → Held → Held → Type 0
LookUpFails key FileNotInCache d e old new = (e ≡ d) × (new ≡ old) × (lookup (bytes_eq key) d.entries ≡ None)
LookUpFails key (Io fault) d e old new = (e ≡ looked_up d key) × IoCause fault old new
    × IsSome (lookup (bytes_eq key) d.entries)
LookUpFails key NoMemory d e old new = ((e ≡ d) ⊎ (e ≡ looked_up d key))
    × IsSome (lookup (bytes_eq key) d.entries)
LookUpFails key BadKey d e old new = ⊥
LookUpFails key FileTooLarge d e old new = ⊥
LookUpFails key PendingSpace d e old new = ⊥
LookUpFails key NotPending d e old new = ⊥
LookUpFails key WrongDigest d e old new = ⊥
LookUpFails key WriterRefused d e old new = ⊥

-- Why a removal failed, and what it leaves. The folder is asked, and memory taken, only where the key is
-- listed.
abbrev pub RemoveFails : List ℕ → Error → Disk → Disk → Held → Held → Type 0
RemoveFails key (Io fault) d e old new = (e ≡ removed d key) × IoCause fault old new
    × IsSome (lookup (bytes_eq key) d.entries)
RemoveFails key NoMemory d e old new = ((e ≡ d) ⊎ (e ≡ removed d key))
    × IsSome (lookup (bytes_eq key) d.entries)
RemoveFails key FileNotInCache d e old new = ⊥
RemoveFails key BadKey d e old new = ⊥
RemoveFails key FileTooLarge d e old new = ⊥
RemoveFails key PendingSpace d e old new = ⊥
RemoveFails key NotPending d e old new = ⊥
RemoveFails key WrongDigest d e old new = ⊥
RemoveFails key WriterRefused d e old new = ⊥
