-- Folders that never fail.
use Rattle.std.specs.Prelude.{◌≡◌, ℕ, List}
use Rattle.dist_types.specs.declared.folder_fault.FolderFault.{FolderFault}
use Rattle.dist_types.specs.declared.folder_fault.FolderFault.TheVariants.{Missing}
use Rattle.folders.specs.Held.{Holds, Lacks}
use Rattle.folders.specs.InMemory.{reliable_held}
use Rattle.folders.specs.declared.reliable_folder.ReliableFolder.{ReliableFolder}
use Rattle.lru_disk_cache.specs.Reserved.{AddEntry}
use Rattle.lru_disk_cache.specs.Store.{Disk, IoCause}
use Rattle.lru_disk_cache.specs.Adding.{EntryCause, TempMissing}
use Rattle.lru_disk_cache.specs.Moving.{MoveCause}

-- no fault of a call has a cause over such a folder
abbrev pub NeverFails : Type 0
NeverFails = (fault : FolderFault) (old new : ReliableFolder)
    → ¬ (IoCause fault (reliable_held old) (reliable_held new))

-- but of the one that moves a file, that there is no such file
abbrev pub FailsToMove : Type 0
FailsToMove = (path : List ℕ) (d e : Disk) (fault : FolderFault) (old new : ReliableFolder)
    → MoveCause path fault d e (reliable_held old) (reliable_held new)
    → (fault ≡ Missing) × Holds (reliable_held old) (Lacks path)

-- and of one of an entry, that its file is not there since a commit of it failed
abbrev pub FailsUnsure : Type 0
FailsUnsure = (entry : AddEntry) (d e : Disk) (fault : FolderFault) (old new : ReliableFolder)
    → EntryCause entry d e fault (reliable_held old) (reliable_held new)
    → (fault ≡ Missing) × TempMissing entry d e (reliable_held old) (reliable_held new)
