-- What is read from the bytes of a file is what the file says.
use Rattle.std.proofs.Common.{◌≡◌, ℕ, List, [], Option, Some, None, IfSome, Result, Ok, Err, ok_or}
use Rattle.std.proofs.Common.{ap, subst, ◌∙◌}
use Rattle.line_program.specs.declared.fault.ConfigCause.{ConfigCause}
use Rattle.line_program.specs.declared.fault.ConfigCause.TheVariants.{Missing, Unreadable, NotToml, Key}
use Rattle.command_line.specs.declared.cause.ConfigFault.{ConfigFault}
use Rattle.command_line.specs.declared.cause.ConfigFault.TheVariants.{Cause, Memory}
use Rattle.command_line.specs.declared.files.NamedFile.{NamedFile}
use Rattle.command_line.specs.Files.{file_at}
use Rattle.command_line.specs.Told.{IsConfigAnswer}
use Rattle.command_line.specs.Reading.{of_file, says, of_bytes, IsRead}

-- what a file's bytes are told to be, so its bytes in the files
bytes_there : (found : Option (List ℕ)) (bytes : List ℕ) → of_file of_bytes found ≡ Ok bytes
    → found ≡ Some bytes
bytes_there None bytes e = absurd cc
bytes_there (Some other) bytes e = cc

there : {A : Type 0} (reads : List ℕ → Result A ConfigCause) (bytes name : List ℕ)
    (files : Option (List NamedFile)) (verdict : Result A ConfigCause)
    → IfSome files (λ told. says of_bytes name told ≡ Ok bytes) → reads bytes ≡ verdict
    → IfSome files (λ told. says reads name told ≡ verdict)
there reads bytes name None verdict found e = tt
there reads bytes name (Some told) verdict found e =
    ap (of_file reads) (bytes_there (file_at name told) bytes found) ∙ e

-- what was read of bytes that are a file's
pub read_from : {A : Type 0} (reads : List ℕ → Result A ConfigCause) (answer : Result A ConfigFault)
    (bytes name : List ℕ) (files : Option (List NamedFile)) (before after : ℕ)
    → (after ≡ before) × IfSome files (λ told. says of_bytes name told ≡ Ok bytes)
    → IsConfigAnswer (λ x. x) (reads bytes) answer
    → IsRead (λ x. x) answer (says reads name) files before after
read_from reads (Ok x) bytes name files before after found gives =
    (found.0, there reads bytes name files _ found.1 gives)
read_from reads (Err Memory) bytes name files before after found gives = found.0
read_from reads (Err (Cause Missing)) bytes name files before after found gives = absurd gives.1
read_from reads (Err (Cause Unreadable)) bytes name files before after found gives = absurd gives.1
read_from reads (Err (Cause NotToml)) bytes name files before after found gives =
    (found.0, there reads bytes name files _ found.1 gives.0)
read_from reads (Err (Cause (Key key))) bytes name files before after found gives =
    (found.0, there reads bytes name files _ found.1 gives.0)
