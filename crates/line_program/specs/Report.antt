-- How a fault is told on errs, and its status.
use Rattle.std.specs.Prelude.{◌≡◌, ◌⊎◌, ℕ, List, Result, Ok, Err, ⊤, codes}
use Rattle.dist_types.specs.Cause.{Rose}
use Rattle.dist_types.specs.Content.{Added, Began}
use Rattle.line_program.specs.declared.fault.ConfigCause.TheVariants.{Key}
use Rattle.line_program.specs.declared.fault.FarmFault.{FarmFault}
use Rattle.line_program.specs.declared.fault.FarmFault.TheVariants.{Usage, BadLine, DuplicateAddress}
use Rattle.line_program.specs.declared.fault.FarmFault.TheVariants.{ScopedAddress, OverlappingIds}
use Rattle.line_program.specs.declared.fault.FarmFault.TheVariants.{ReadFault, WriteFault}
use Rattle.line_program.specs.declared.fault.FarmFault.TheVariants.{BadConfig, ServeFault, Memory, AuditRefused}
use Rattle.line_program.specs.FaultText.{said_text}
use Rattle.line_program.specs.Side.{Side}
use Rattle.line_program.specs.Texts.{◌⧺◌}

-- what stands behind the program's name
unfoldable pub told_text : FarmFault → List ℕ
told_text f = codes ": " ⧺ said_text f ⧺ codes "\n"

-- what stands on errs, of a program of this name
abbrev pub fault_text : List ℕ → FarmFault → List ℕ
fault_text program f = program ⧺ told_text f

-- the status of a fault that is told
abbrev pub fault_status : FarmFault → ℕ
fault_status (BadLine n) = 1
fault_status (DuplicateAddress n) = 1
fault_status (ScopedAddress n) = 1
fault_status (OverlappingIds n) = 1
fault_status Usage = 2
fault_status Memory = 3
fault_status ReadFault = 4
fault_status WriteFault = 5
fault_status (BadConfig cause) = 6
fault_status ServeFault = 7
fault_status (AuditRefused n why) = 8

-- a fault that names a line of a script
abbrev pub NamesLine : FarmFault → Type 0
NamesLine (BadLine n) = Unit {0}
NamesLine (DuplicateAddress n) = Unit {0}
NamesLine (ScopedAddress n) = Unit {0}
NamesLine (OverlappingIds n) = Unit {0}
NamesLine other = ⊥

-- A text was written on errs, and the answer is its status; or errs failed, has a front of it, and the answer
-- is 5.
abbrev pub IsSaid : List ℕ → ℕ → ℕ → Side → Side → Type 0
IsSaid text status answer before after =
    ((answer ≡ status) × Added text before.content after.content × (after.faults ≡ before.faults))
    ⊎ ((answer ≡ 5) × Began text before.content after.content × Rose before.faults after.faults)

-- The program of this name says the fault so.
abbrev pub IsTold : List ℕ → FarmFault → ℕ → Side → Side → Type 0
IsTold program f answer before after = IsSaid (fault_text program f) (fault_status f) answer before after

-- a fault whose text takes memory: it names a line or a key
abbrev pub IsLong : FarmFault → Type 0
IsLong (BadLine n) = Unit {0}
IsLong (DuplicateAddress n) = Unit {0}
IsLong (ScopedAddress n) = Unit {0}
IsLong (OverlappingIds n) = Unit {0}
IsLong (BadConfig (Key key)) = Unit {0}
IsLong (AuditRefused n why) = Unit {0}
IsLong other = ⊥

-- What is told of a fault: the fault, or want of memory, where memory ran out for its text.
abbrev pub StandsFor : FarmFault → FarmFault → Type 0
StandsFor met told = (told ≡ met) ⊎ ((told ≡ Memory) × IsLong met)

-- 0 where there is no fault, and errs is as it was; else the fault is told.
abbrev pub IsReported : List ℕ → Result ⊤ FarmFault → ℕ → Side → Side → Type 0
IsReported program (Ok x) answer before after = (answer ≡ 0) × (after ≡ before)
IsReported program (Err met) answer before after = (told : FarmFault) × StandsFor met told
    × IsTold program told answer before after
