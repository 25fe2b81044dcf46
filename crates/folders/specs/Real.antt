-- What a folder of the system tells.
use Rattle.std.specs.Prelude.{◌≡◌, ℕ, ◌≤◌, None}
use Rattle.dist_types.specs.Cause.{Rose}
use Rattle.folders.specs.Held.{Held}
use Rattle.dist_types.specs.declared.folder_fault.FolderFault.{FolderFault}
use Rattle.dist_types.specs.declared.folder_fault.FolderFault.TheVariants.{Missing, Failed, Memory}
use Rattle.folders.specs.declared.real_folder.RealFolder.{RealFolder}

-- how often it failed
abbrev pub real_faults : {R F D : Type 0} → RealFolder R F D → ℕ
real_faults s = s.faults

-- what it tells: nothing of its files
abbrev pub real_held : {R F D : Type 0} → RealFolder R F D → Held
real_held s = record { files = None; faults = s.faults }

-- what a fault makes of the count
abbrev pub Told : FolderFault → ℕ → ℕ → Type 0
Told Failed old new = Rose old new × (old ≤ new)
Told Missing old new = new ≡ old
Told Memory old new = new ≡ old
