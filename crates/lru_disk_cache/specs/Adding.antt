-- What the calls on reservations answer and leave.
use Rattle.std.specs.Prelude.{◌≡◌, ℕ, ◌+◌, ◌-◌, ◌⊎◌, true, false, nat_lt, if◌then◌else◌, List, [], ◌∷◌, ◌++◌}
use Rattle.std.specs.Prelude.{None, Option, Some, Result, Ok, Err}
use Rattle.dist_types.specs.Cause.{Rose}
use Rattle.folders.specs.Files.{size_at}
use Rattle.folders.specs.Held.{Held, Holds, Lacks}
use Rattle.dist_types.specs.CacheError.{error_of}
use Rattle.dist_types.specs.declared.folder_fault.FolderFault.{FolderFault}
use Rattle.dist_types.specs.declared.folder_fault.FolderFault.TheVariants.{Missing, Failed, Memory}
use Rattle.dist_types.specs.declared.cache_error.Error.{Error}
use Rattle.dist_types.specs.declared.cache_error.Error.TheVariants.{FileTooLarge, FileNotInCache, Io}
use Rattle.dist_types.specs.declared.cache_error.Error.TheVariants.{PendingSpace, BadKey, NotPending}
use Rattle.dist_types.specs.declared.cache_error.Error.TheVariants.{WrongDigest, WriterRefused}
use Rattle.dist_types.specs.declared.cache_error.Error.TheVariants.{Memory as NoMemory}
use Rattle.listed_files.specs.Key.{temp_name}
use Rattle.listed_files.specs.Entries.{trim, IsEnd}
use Rattle.listed_files.specs.Disk.{Left, stored}
use Rattle.lru_disk_cache.specs.Reserved.{Reservation, AddEntry, held_size, is_pending, is_sure}
use Rattle.lru_disk_cache.specs.Reserved.{without_number, unsure}
use Rattle.lru_disk_cache.specs.Store.{Disk, room_beside, insert_verdict, Refuses, IoCause}

-- ---- a reservation is made

-- the path of the temporary file of an entry
abbrev pub entry_path : Disk → AddEntry → List ℕ
entry_path d e = d.root ++ temp_name e.number

-- the reservation of an entry, whose temporary file is there
abbrev pub reservation : Disk → AddEntry → Reservation
reservation d e = record { number = e.number; key = e.key; size = e.size; temp = entry_path d e; sure = true }

-- The disk once an entry is announced: entries went from the front until list, reservations and its size fit.
abbrev pub prepared : Disk → AddEntry → Disk
prepared d e = record d {
  entries = trim (room_beside d e.size) d.entries;
  pending = d.pending ++ reservation d e ∷ [];
}

-- what a failed announcement leaves: some of the least recent gone, none more than had to go
pub record RoomBy (limit : ℕ) (old new : Disk) : Type 0 where
  pub disk : new ≡ record old { entries = new.entries }
  pub entries : IsEnd new.entries old.entries
  pub needed : trim limit new.entries ≡ trim limit old.entries

-- Why it failed. The folder is asked, and memory taken, only where the verdict admits.
abbrev pub PrepareFails : List ℕ → ℕ → Error → Disk → Disk → Held → Held → Type 0
PrepareFails key size BadKey d e old new = Refuses key size BadKey d e old new
PrepareFails key size FileTooLarge d e old new = Refuses key size FileTooLarge d e old new
PrepareFails key size PendingSpace d e old new = Refuses key size PendingSpace d e old new
PrepareFails key size (Io fault) d e old new = RoomBy (room_beside d size) d e × IoCause fault old new
    × (insert_verdict d key size ≡ Ok (tt {0}))
PrepareFails key size NoMemory d e old new = RoomBy (room_beside d size) d e
    × (insert_verdict d key size ≡ Ok (tt {0}))
PrepareFails key size FileNotInCache d e old new = ⊥
PrepareFails key size NotPending d e old new = ⊥
PrepareFails key size WrongDigest d e old new = ⊥
PrepareFails key size WriterRefused d e old new = ⊥

-- ---- it is used

-- the temporary file of an entry was not sure to be there, and is not, which leaves all
abbrev pub TempMissing : AddEntry → Disk → Disk → Held → Held → Type 0
TempMissing entry d e old new = (e ≡ d) × (new ≡ old) × (is_sure entry d.pending ≡ false)
    × Holds old (Lacks (entry_path d entry))

-- why the folder failed: the count rose, or files are not told, or the temporary file is missing
abbrev pub EntryCause : AddEntry → Disk → Disk → FolderFault → Held → Held → Type 0
EntryCause entry d e Failed old new = Rose old.faults new.faults
EntryCause entry d e Missing old new = (old.files ≡ None) ⊎ TempMissing entry d e old new
EntryCause entry d e Memory old new = ⊥

-- an entry that is not pending leaves all as it was
abbrev pub RefusesEntry : AddEntry → Disk → Disk → Held → Held → Type 0
RefusesEntry entry d e old new = (e ≡ d) × (new ≡ old) × (is_pending entry d.pending ≡ false)

-- Why writing failed. The folder is asked, and memory taken, only where the entry is pending.
abbrev pub WriteFails : AddEntry → Error → Disk → Disk → Held → Held → Type 0
WriteFails entry NotPending d e old new = RefusesEntry entry d e old new
WriteFails entry (Io fault) d e old new = EntryCause entry d e fault old new
    × (is_pending entry d.pending ≡ true)
WriteFails entry NoMemory d e old new = is_pending entry d.pending ≡ true
WriteFails entry BadKey d e old new = ⊥
WriteFails entry FileTooLarge d e old new = ⊥
WriteFails entry PendingSpace d e old new = ⊥
WriteFails entry FileNotInCache d e old new = ⊥
WriteFails entry WrongDigest d e old new = ⊥
WriteFails entry WriterRefused d e old new = ⊥

-- ---- it is committed

-- the sizes that the other reservations announced
abbrev pub held_beside : Disk → AddEntry → ℕ
held_beside d e = held_size (without_number e.number d.pending)

-- what the sizes of the other entries may sum to where the file of an entry has this size
abbrev pub room_for : Disk → AddEntry → ℕ → ℕ
room_for d e size = d.capacity - (held_beside d e + size)

-- whether an entry whose file has this size may be committed
abbrev pub commit_verdict : Disk → AddEntry → ℕ → Result (Unit {0}) Error
commit_verdict d e size =
    if nat_lt d.capacity size then Err FileTooLarge
    else if nat_lt d.capacity (held_beside d e + size) then Err PendingSpace
    else Ok (tt {0})

-- the disk once it is: its reservation is closed, and its key is stored with that size
abbrev pub committed : Disk → AddEntry → ℕ → Disk
committed d e size = record d {
  entries = stored e.key size (room_for d e size) d.entries;
  pending = without_number e.number d.pending;
}

-- the file of an entry has this size, where files are told
abbrev pub HasSize : Disk → AddEntry → Held → ℕ → Type 0
HasSize d e held n = Holds held (λ files. size_at files (entry_path d e) ≡ Some n)

-- what a failed commit leaves: the reservation, whose file is not sure to be there any more, and of the list
-- what a failed insert leaves
pub record CommitLeft (entry : AddEntry) (limit : ℕ) (old new : Disk) : Type 0 where
  pub disk : new ≡ record old { entries = new.entries; pending = unsure entry.number old.pending }
  pub entries : Left entry.key limit old.entries new.entries

-- what it leaves where the folder or memory failed: all as it was, or that
abbrev pub CommitBroke : AddEntry → Disk → Disk → Held → Type 0
CommitBroke entry d e old =
    (e ≡ d) ⊎ ((n : ℕ) × HasSize d entry old n × (commit_verdict d entry n ≡ Ok (tt {0}))
    × CommitLeft entry (room_for d entry n) d e)

-- a refusal by the verdict leaves all as it was
abbrev pub RefusesCommit : AddEntry → Error → Disk → Disk → Held → Held → Type 0
RefusesCommit entry error d e old new =
    (e ≡ d) × (new ≡ old) × ((n : ℕ) × HasSize d entry old n × (commit_verdict d entry n ≡ Err error))

-- Why it failed. The folder is asked, and memory taken, only where the entry is pending.
abbrev pub CommitFails : AddEntry → Error → Disk → Disk → Held → Held → Type 0
CommitFails entry NotPending d e old new = RefusesEntry entry d e old new
CommitFails entry FileTooLarge d e old new = RefusesCommit entry FileTooLarge d e old new
CommitFails entry PendingSpace d e old new = RefusesCommit entry PendingSpace d e old new
CommitFails entry (Io fault) d e old new = CommitBroke entry d e old × EntryCause entry d e fault old new
    × (is_pending entry d.pending ≡ true)
CommitFails entry NoMemory d e old new = CommitBroke entry d e old × (is_pending entry d.pending ≡ true)
CommitFails entry BadKey d e old new = ⊥
CommitFails entry FileNotInCache d e old new = ⊥
CommitFails entry WrongDigest d e old new = ⊥
CommitFails entry WriterRefused d e old new = ⊥

-- ---- it is abandoned

-- the disk once the reservation of an entry is closed
abbrev pub abandoned : Disk → AddEntry → Disk
abandoned d e = record d { pending = without_number e.number d.pending }

-- the answer, by that of the removal of its file
abbrev pub abandon_answer : Result (Unit {0}) FolderFault → Result (Unit {0}) (Error × Option AddEntry)
abandon_answer (Ok x) = Ok (tt {0})
abandon_answer (Err fault) = Err (error_of fault, None)

-- Why that failed. The entry comes back where it was not pending, and else its reservation is closed.
abbrev pub AbandonFails : AddEntry → Error → Option AddEntry → Disk → Disk → Held → Held → Type 0
AbandonFails entry NotPending back d e old new = (back ≡ Some entry) × RefusesEntry entry d e old new
AbandonFails entry (Io fault) back d e old new = (back ≡ None) × (e ≡ abandoned d entry)
    × (is_pending entry d.pending ≡ true) × IoCause fault old new
AbandonFails entry NoMemory back d e old new = (back ≡ None) × (e ≡ abandoned d entry)
    × (is_pending entry d.pending ≡ true)
AbandonFails entry BadKey back d e old new = ⊥
AbandonFails entry FileTooLarge back d e old new = ⊥
AbandonFails entry PendingSpace back d e old new = ⊥
AbandonFails entry FileNotInCache back d e old new = ⊥
AbandonFails entry WrongDigest back d e old new = ⊥
AbandonFails entry WriterRefused back d e old new = ⊥
