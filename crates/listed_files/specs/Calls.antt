-- Why a call of a folder failed, as the error of a cache.
use Rattle.std.specs.Prelude.{◌≡◌}
use Rattle.dist_types.specs.Cause.{Rose}
use Rattle.dist_types.specs.declared.folder_fault.FolderFault.{FolderFault}
use Rattle.dist_types.specs.declared.folder_fault.FolderFault.TheVariants.{Missing, Failed, Memory}
use Rattle.dist_types.specs.declared.cache_error.Error.{Error}
use Rattle.dist_types.specs.declared.cache_error.Error.TheVariants.{FileTooLarge, FileNotInCache, Io}
use Rattle.dist_types.specs.declared.cache_error.Error.TheVariants.{PendingSpace, BadKey, NotPending}
use Rattle.dist_types.specs.declared.cache_error.Error.TheVariants.{WrongDigest, WriterRefused}
use Rattle.dist_types.specs.declared.cache_error.Error.TheVariants.{Memory as NoMemory}
use Rattle.folders.specs.Files.{Files}
use Rattle.folders.specs.Held.{Held, Holds}

-- why the folder failed: the count rose, or there was no file for the call, which leaves all
abbrev pub CallCause : (Files → Type 0) → FolderFault → Held → Held → Type 0
CallCause lacking Failed old new = Rose old.faults new.faults
CallCause lacking Missing old new = (new ≡ old) × Holds old lacking
CallCause lacking Memory old new = ⊥

-- why a call of it failed
abbrev pub CallFails : (Files → Type 0) → Error → Held → Held → Type 0
CallFails lacking (Io fault) old new = CallCause lacking fault old new
CallFails lacking NoMemory old new = Unit {0}
CallFails lacking BadKey old new = ⊥
CallFails lacking FileTooLarge old new = ⊥
CallFails lacking FileNotInCache old new = ⊥
CallFails lacking PendingSpace old new = ⊥
CallFails lacking NotPending old new = ⊥
CallFails lacking WrongDigest old new = ⊥
CallFails lacking WriterRefused old new = ⊥

-- want of memory leaves the count of faults as it was
abbrev pub Uncounted : Error → Held → Held → Type 0
Uncounted error old new = error ≡ NoMemory → new.faults ≡ old.faults
