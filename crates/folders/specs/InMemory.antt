-- What a folder in memory shows, and what its calls answer and leave.
use Rattle.std.specs.Prelude.{◌≡◌, ℕ, Bool, is_none, if◌then◌else◌, List, Option, Some, None, Result, Ok, Err}
use Rattle.std.specs.Option.{option_map}
use Rattle.folders.specs.Files.{Files, file_at}
use Rattle.folders.specs.Failures.{Failures}
use Rattle.folders.specs.Held.{Held}
use Rattle.folders.specs.Numbers.{fails_before, fails_after, piece_fails, piece_breaks}
use Rattle.dist_types.specs.declared.folder_fault.FolderFault.{FolderFault}
use Rattle.dist_types.specs.declared.folder_fault.FolderFault.TheVariants.{Missing, Failed, Memory}
use Rattle.folders.specs.declared.calls.Calls.{Calls}
use Rattle.folders.specs.declared.mem_folder.MemFolder.{MemFolder}
use Rattle.folders.specs.declared.reliable_folder.ReliableFolder.{ReliableFolder}

-- the files
abbrev pub folder_files : MemFolder → Files
folder_files s = s.files.items

-- the calls so far and those that are to fail
abbrev pub folder_calls : MemFolder → Calls
folder_calls s = s.calls

-- how many calls were made
abbrev pub folder_count : MemFolder → ℕ
folder_count s = s.calls.count

-- the numbers of the calls that are to fail stay
abbrev pub SameNumbers : Calls → Calls → Type 0
SameNumbers old new = (new.before ≡ old.before) × (new.after ≡ old.after) × (new.middle ≡ old.middle)

-- what it tells
abbrev pub folder_held : MemFolder → Held
folder_held s = record { files = Some s.files.items; faults = s.calls.faults }

-- how often its calls failed, by kind
abbrev pub folder_failures : MemFolder → Failures
folder_failures s = s.failures

-- whether there is a file at a path, as what is found there
abbrev pub there : Files → List ℕ → Option (Unit {0})
there files path = option_map (λ _. tt) (file_at files path)

-- a call that finds nothing is Missing, and one that fails behind what it did is Failed
abbrev pub end_verdict : {T : Type 0} → Bool → Option T → Result T FolderFault
end_verdict after None = Err Missing
end_verdict after (Some x) = if after then Err Failed else Ok x

-- the answer of a call that finds this
abbrev pub verdict : {T : Type 0} → Calls → Option T → Result T FolderFault
verdict c found = if fails_before c then Err Failed else end_verdict (fails_after c) found

-- what it leaves, where it makes these of the files
abbrev pub left : {T : Type 0} → Calls → Option T → Files → Files → Files
left c found old done = if fails_before c then old else if is_none found then old else done

-- the same of a call that writes these bytes
abbrev pub piece_verdict : {T : Type 0} → Calls → List ℕ → Option T → Result T FolderFault
piece_verdict c bytes found = if piece_fails c bytes then Err Failed else end_verdict (piece_breaks c) found

abbrev pub piece_left : {T : Type 0} → Calls → List ℕ → Option T → Files → Files → Files
piece_left c bytes found old done = if piece_fails c bytes then old else if is_none found then old else done

-- The answer, seen through a view, is the verdict, and the files are what is left, unless memory ran out,
-- which leaves all.
abbrev pub Acts : {T U : Type 0} → (T → U) → Result T FolderFault → Result U FolderFault → Files → Files
    → Files → Type 0
Acts seen (Ok x) verdict left old new = (verdict ≡ Ok (seen x)) × (new ≡ left)
Acts seen (Err Missing) verdict left old new = (verdict ≡ Err Missing) × (new ≡ left)
Acts seen (Err Failed) verdict left old new = (verdict ≡ Err Failed) × (new ≡ left)
Acts seen (Err Memory) verdict left old new = new ≡ old

-- the files of a folder that never fails
abbrev pub reliable_files : ReliableFolder → Files
reliable_files s = s.files.items

-- what it tells: that it never failed
abbrev pub reliable_held : ReliableFolder → Held
reliable_held s = record { files = Some s.files.items; faults = 0 }

-- how often its calls failed: for want of memory alone
abbrev pub reliable_failures : ReliableFolder → Failures
reliable_failures s = s.failures
