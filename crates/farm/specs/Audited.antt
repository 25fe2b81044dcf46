-- What the audit of a printed run has to do: say that it holds, or name its first fault.
use Rattle.std.specs.Prelude.{◌≡◌, ℕ, List, IfSome, Result, Ok, Err, ⊤, codes}
use Rattle.dist_types.specs.Cause.{Rose}
use Rattle.dist_types.specs.Content.{Added, Began}
use Rattle.line_program.specs.declared.fault.FarmFault.{FarmFault}
use Rattle.line_program.specs.declared.fault.FarmFault.TheVariants.{ReadFault, WriteFault, Memory, AuditRefused}
use Rattle.line_program.specs.declared.why.Why.{Why}
use Rattle.line_program.specs.declared.why.Why.TheVariants.{Text, Core, Build, Books}
use Rattle.line_program.specs.Input.{IsReadTo, IsReadWithin}
use Rattle.line_program.specs.Limits.{run_bytes_read}
use Rattle.line_program.specs.Side.{Side}
use Rattle.audit.specs.Reading.{Read}
use Rattle.audit.specs.FirstBad.{IsFirstBad, IsPrinted}
use Rattle.audit.specs.Held.{IsHeld, IsFault, IsWrongBook}

-- what is written of a printed run that holds
abbrev pub holds_text : List ℕ
holds_text = codes "audit holds\n"

-- The text does not hold, and this line is why, for this cause: it is the first outside the grammar; or the text
-- is a printed run, and the line is the first of its core entries and builds that is not good; or they are good,
-- and it is the first line of the books that is not theirs.
abbrev pub IsRefusedFor : List ℕ → ℕ → Why → Type 0
IsRefusedFor text n Text = IsFirstBad text n
IsRefusedFor text n Core = (run : Read) × IsPrinted text run × IsFault run (n, Core)
IsRefusedFor text n Build = (run : Read) × IsPrinted text run × IsFault run (n, Build)
IsRefusedFor text n Books = IsWrongBook text n

-- Input is read to its end, or to one byte past the limit, before it is judged. It holds, and that was written;
-- or it does not, and its first fault has this line and cause, and nothing was written; or a fault has its cause.
-- Where reading failed or memory ran out, input was read in part at most.
abbrev pub IsAuditRun : Result ⊤ FarmFault → Side → Side → Side → Side → Type 0
IsAuditRun (Ok x) input input_after out out_after = IsReadTo run_bytes_read input input_after
    × (out_after.faults ≡ out.faults) × IfSome input.content (λ bytes. IsHeld bytes)
    × Added holds_text out.content out_after.content
IsAuditRun (Err (AuditRefused n why)) input input_after out out_after =
    IsReadTo run_bytes_read input input_after × (out_after ≡ out)
    × IfSome input.content (λ bytes. IsRefusedFor bytes n why)
IsAuditRun (Err ReadFault) input input_after out out_after = Rose input.faults input_after.faults
    × (out_after ≡ out) × IsReadWithin run_bytes_read input input_after
IsAuditRun (Err WriteFault) input input_after out out_after = IsReadTo run_bytes_read input input_after
    × Rose out.faults out_after.faults × IfSome input.content (λ bytes. IsHeld bytes)
    × Began holds_text out.content out_after.content
IsAuditRun (Err Memory) input input_after out out_after = (input_after.faults ≡ input.faults)
    × (out_after ≡ out) × IsReadWithin run_bytes_read input input_after
IsAuditRun (Err other) input input_after out out_after = ⊥

-- why a text is not said to hold: it does not, or memory ran out
abbrev pub IsNoHold : List ℕ → FarmFault → Type 0
IsNoHold text (AuditRefused n why) = IsRefusedFor text n why
IsNoHold text Memory = Unit {0}
IsNoHold text other = ⊥
