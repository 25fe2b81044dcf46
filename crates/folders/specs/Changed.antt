-- What a step leaves of the files, and what it says of its faults.
use Rattle.std.specs.Prelude.{◌≡◌, ℕ, ◌≤◌, false, List, ◌++◌}
use Rattle.std.specs.Prelude.{Some, None, Result, Ok, Err}
use Rattle.std.specs.Str.{bytes_eq}
use Rattle.dist_types.specs.Cause.{Rose}
use Rattle.folders.specs.Files.{Files, file_at, front}
use Rattle.folders.specs.Held.{Held}
use Rattle.dist_types.specs.declared.folder_fault.FolderFault.{FolderFault}
use Rattle.dist_types.specs.declared.folder_fault.FolderFault.TheVariants.{Missing, Failed, Memory}

-- the file at each path is as it was
abbrev pub SameAt : Files → Files → Type 0
SameAt old new = (q : List ℕ) → file_at new q ≡ file_at old q

-- each file that is left is as it was
abbrev pub OnlyRemoved : Files → Files → Type 0
OnlyRemoved old new = (q bytes : List ℕ) → file_at new q ≡ Some bytes → file_at old q ≡ Some bytes

-- the file at each path but this one is as it was
abbrev pub ButAt : List ℕ → Files → Files → Type 0
ButAt path old new = (q : List ℕ) → bytes_eq path q ≡ false → file_at new q ≡ file_at old q

-- the file at this path is removed or as it was, and each other is as it was
abbrev pub RemovedAt : List ℕ → Files → Files → Type 0
RemovedAt path old new = OnlyRemoved old new × ButAt path old new

-- a file at this path does not lie below that directory
abbrev pub IsOutside : List ℕ → List ℕ → Type 0
IsOutside path q = (k : List ℕ) → bytes_eq (front path ++ k) q ≡ false

-- the file at each path below the root is as it was
abbrev pub SameBelow : List ℕ → Files → Files → Type 0
SameBelow root old new = (k : List ℕ) → file_at new (root ++ k) ≡ file_at old (root ++ k)

-- the file at each path outside the root is as it was
abbrev pub ButUnder : List ℕ → Files → Files → Type 0
ButUnder root old new = (q : List ℕ) → ((k : List ℕ) → bytes_eq (root ++ k) q ≡ false)
    → file_at new q ≡ file_at old q

-- files below the root are removed or as they were, and each other is as it was
abbrev pub RemovedUnder : List ℕ → Files → Files → Type 0
RemovedUnder root old new = OnlyRemoved old new × ButUnder root old new

-- the file at each path outside the root but one is as it was
abbrev pub ButUnderAnd : List ℕ → List ℕ → Files → Files → Type 0
ButUnderAnd root from old new = (q : List ℕ) → ((k : List ℕ) → bytes_eq (root ++ k) q ≡ false)
    → bytes_eq from q ≡ false → file_at new q ≡ file_at old q

-- the file at each such path is removed or as it was
abbrev pub RemovedOrSame : (List ℕ → Type 0) → Files → Files → Type 0
RemovedOrSame P old new = (q bytes : List ℕ) → P q → file_at new q ≡ Some bytes → file_at old q ≡ Some bytes

-- it is neither of these two paths
abbrev pub IsNeither : List ℕ → List ℕ → List ℕ → Type 0
IsNeither from path q = (bytes_eq from q ≡ false) × (bytes_eq path q ≡ false)

-- Why a step failed: Failed only where the count rose, and Missing only where files are not told. The count
-- never falls, and want of memory leaves it.
abbrev pub Caused : FolderFault → Held → Held → Type 0
Caused Failed old new = Rose old.faults new.faults × (old.faults ≤ new.faults)
Caused Missing old new = (old.files ≡ None) × (old.faults ≤ new.faults)
Caused Memory old new = new.faults ≡ old.faults

-- a step that succeeds has no fault, and one that fails has its cause
abbrev pub Counts : {T : Type 0} → Result T FolderFault → Held → Held → Type 0
Counts (Ok x) old new = new.faults ≡ old.faults
Counts (Err e) old new = Caused e old new
