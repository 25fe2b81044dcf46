-- How often calls of a folder failed, by kind.
use Rattle.std.specs.Prelude.{ℕ, Result, Ok, Err}
use Rattle.dist_types.specs.Cause.{counted}
use Rattle.dist_types.specs.declared.folder_fault.FolderFault.{FolderFault}
use Rattle.dist_types.specs.declared.folder_fault.FolderFault.TheVariants.{Missing, Failed, Memory}
use Rattle.folders.specs.Held.{Held, Holds}

-- how often a rename and a removal answered Failed or Memory, and how often any call answered Memory; each
-- stops at 2^64 - 1
pub record Failures : Type 0 where
  pub renames : ℕ
  pub removals : ℕ
  pub memory : ℕ

-- what they are after a call that is neither a rename nor a removal
abbrev pub call_failed : {T : Type 0} → Result T FolderFault → Failures → Failures
call_failed (Ok x) f = f
call_failed (Err Missing) f = f
call_failed (Err Failed) f = f
call_failed (Err Memory) f = record f { memory = counted f.memory }

-- after a rename
abbrev pub rename_failed : {T : Type 0} → Result T FolderFault → Failures → Failures
rename_failed (Ok x) f = f
rename_failed (Err Missing) f = f
rename_failed (Err Failed) f = record f { renames = counted f.renames }
rename_failed (Err Memory) f = record f { renames = counted f.renames; memory = counted f.memory }

-- after a removal
abbrev pub removal_failed : {T : Type 0} → Result T FolderFault → Failures → Failures
removal_failed (Ok x) f = f
removal_failed (Err Missing) f = f
removal_failed (Err Failed) f = record f { removals = counted f.removals }
removal_failed (Err Memory) f = record f { removals = counted f.removals; memory = counted f.memory }

-- what holds where a folder tells its files
abbrev pub WhereTold : Held → Type 0 → Type 0
WhereTold held P = Holds held (λ files. P)
