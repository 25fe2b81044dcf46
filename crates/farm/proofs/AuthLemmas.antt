-- A command for an authority that writes no line.
use Rattle.std.proofs.Common.{◌≡◌, ◌≢◌, ◌⊎◌, inl, inr, None, Err, refl}
use Rattle.rand_core.specs.Stream.{Stream}
use Rattle.line_program.specs.declared.fault.ConfigCause.TheVariants.{Missing, Unreadable, NotToml, Key}
use Rattle.line_program.specs.declared.fault.FarmFault.{FarmFault}
use Rattle.line_program.specs.declared.fault.FarmFault.TheVariants.{Usage, BadLine, DuplicateAddress}
use Rattle.line_program.specs.declared.fault.FarmFault.TheVariants.{ScopedAddress, OverlappingIds, ReadFault}
use Rattle.line_program.specs.declared.fault.FarmFault.TheVariants.{WriteFault, BadConfig, ServeFault, Memory}
use Rattle.line_program.specs.declared.fault.FarmFault.TheVariants.{AuditRefused}
use Rattle.line_program.specs.Side.{Side}
use Rattle.command_line.specs.declared.command.AuthSubcommand.{AuthSubcommand}
use Rattle.command_line.specs.Line.{auth_line, stream_left, IsLineFault}
use Rattle.farm.specs.Command.{IsAuthRun}

-- where its key is bad nothing was drawn, and where memory ran out that or what the line takes
pub no_line : (auth : AuthSubcommand) (f : FarmFault) (s t : Stream) (o : Side)
    → (f ≡ Memory) ⊎ ((auth_line auth s ≡ None) × IsLineFault f) → (t ≡ s) ⊎ (t ≡ stream_left auth s)
    → (f ≢ Memory → t ≡ s) → IsAuthRun auth (Err f) s t o o
no_line auth Memory s t o err drawn undrawn = (refl, drawn)
no_line auth (BadConfig (Key key)) s t o (inr p) drawn undrawn = (p.0, p.1, undrawn (λ e. cc e), refl)
no_line auth (BadConfig (Key key)) s t o (inl e) drawn undrawn = absurd (cc e)
no_line auth (BadConfig Missing) s t o (inr p) drawn undrawn = absurd p.1
no_line auth (BadConfig Missing) s t o (inl e) drawn undrawn = absurd (cc e)
no_line auth (BadConfig Unreadable) s t o (inr p) drawn undrawn = absurd p.1
no_line auth (BadConfig Unreadable) s t o (inl e) drawn undrawn = absurd (cc e)
no_line auth (BadConfig NotToml) s t o (inr p) drawn undrawn = absurd p.1
no_line auth (BadConfig NotToml) s t o (inl e) drawn undrawn = absurd (cc e)
no_line auth (BadLine n) s t o (inr p) drawn undrawn = absurd p.1
no_line auth (BadLine n) s t o (inl e) drawn undrawn = absurd (cc e)
no_line auth (DuplicateAddress n) s t o (inr p) drawn undrawn = absurd p.1
no_line auth (DuplicateAddress n) s t o (inl e) drawn undrawn = absurd (cc e)
no_line auth (ScopedAddress n) s t o (inr p) drawn undrawn = absurd p.1
no_line auth (ScopedAddress n) s t o (inl e) drawn undrawn = absurd (cc e)
no_line auth (OverlappingIds n) s t o (inr p) drawn undrawn = absurd p.1
no_line auth (OverlappingIds n) s t o (inl e) drawn undrawn = absurd (cc e)
no_line auth (AuditRefused n why) s t o (inr p) drawn undrawn = absurd p.1
no_line auth (AuditRefused n why) s t o (inl e) drawn undrawn = absurd (cc e)
no_line auth Usage s t o (inr p) drawn undrawn = absurd p.1
no_line auth Usage s t o (inl e) drawn undrawn = absurd (cc e)
no_line auth ReadFault s t o (inr p) drawn undrawn = absurd p.1
no_line auth ReadFault s t o (inl e) drawn undrawn = absurd (cc e)
no_line auth WriteFault s t o (inr p) drawn undrawn = absurd p.1
no_line auth WriteFault s t o (inl e) drawn undrawn = absurd (cc e)
no_line auth ServeFault s t o (inr p) drawn undrawn = absurd p.1
no_line auth ServeFault s t o (inl e) drawn undrawn = absurd (cc e)
