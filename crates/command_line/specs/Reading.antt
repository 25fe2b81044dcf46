-- What reading a configuration from files comes to.
use Rattle.std.specs.Prelude.{◌≡◌, ℕ, List, Option, Some, None, IfSome, Result, Ok, Err}
use Rattle.dist_types.specs.Cause.{Rose}
use Rattle.line_program.specs.declared.fault.ConfigCause.{ConfigCause}
use Rattle.line_program.specs.declared.fault.ConfigCause.TheVariants.{Missing, Unreadable, NotToml, Key}
use Rattle.command_line.specs.declared.cause.ConfigFault.{ConfigFault}
use Rattle.command_line.specs.declared.cause.ConfigFault.TheVariants.{Cause, Memory}
use Rattle.command_line.specs.declared.files.NamedFile.{NamedFile}
use Rattle.command_line.specs.Files.{file_at}

-- what a file says by its bytes, or that there is none
abbrev pub of_file : {A : Type 0} → (List ℕ → Result A ConfigCause) → Option (List ℕ) → Result A ConfigCause
of_file reads None = Err Missing
of_file reads (Some bytes) = reads bytes

-- what the file of a name says
abbrev pub says : {A : Type 0} → (List ℕ → Result A ConfigCause) → List ℕ → List NamedFile
    → Result A ConfigCause
says reads name files = of_file reads (file_at name files)

-- the bytes themselves
abbrev pub of_bytes : List ℕ → Result (List ℕ) ConfigCause
of_bytes bytes = Ok bytes

-- Why nothing was read: the file says so, where files are told, and nothing failed; or reading failed, which
-- was counted; or memory ran out.
abbrev pub IsFileFault : {A : Type 0} → ConfigFault → (List NamedFile → Result A ConfigCause)
    → Option (List NamedFile) → ℕ → ℕ → Type 0
IsFileFault (Cause Unreadable) verdict files before after = Rose before after
IsFileFault (Cause Missing) verdict files before after = (after ≡ before)
    × IfSome files (λ told. verdict told ≡ Err Missing)
IsFileFault (Cause NotToml) verdict files before after = (after ≡ before)
    × IfSome files (λ told. verdict told ≡ Err NotToml)
IsFileFault (Cause (Key key)) verdict files before after = (after ≡ before)
    × IfSome files (λ told. verdict told ≡ Err (Key key))
IsFileFault Memory verdict files before after = after ≡ before

-- The answer, seen through a view, is what the files say where they are told; else it has its fault. Counts
-- of faults stand last, before and after.
abbrev pub IsRead : {T A : Type 0} → (T → A) → Result T ConfigFault → (List NamedFile → Result A ConfigCause)
    → Option (List NamedFile) → ℕ → ℕ → Type 0
IsRead seen (Ok x) verdict files before after = (after ≡ before)
    × IfSome files (λ told. verdict told ≡ Ok (seen x))
IsRead seen (Err fault) verdict files before after = IsFileFault fault verdict files before after
