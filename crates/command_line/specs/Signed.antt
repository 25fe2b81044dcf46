-- Faults of configurations, as those of commands.
use Rattle.std.specs.Prelude.{◌≡◌, Result, Ok, Err}
use Rattle.line_program.specs.declared.fault.ConfigCause.{ConfigCause}
use Rattle.line_program.specs.declared.fault.ConfigCause.TheVariants.{Key}
use Rattle.line_program.specs.declared.fault.FarmFault.{FarmFault}
use Rattle.line_program.specs.declared.fault.FarmFault.TheVariants.{BadConfig, Memory}
use Rattle.command_line.specs.declared.cause.ConfigFault.{ConfigFault}
use Rattle.command_line.specs.declared.cause.ConfigFault.TheVariants as config
use Rattle.command_line.specs.declared.command.Command.{Command}

abbrev pub fault_of : ConfigFault → FarmFault
fault_of (config.Cause cause) = BadConfig cause
fault_of config.Memory = Memory

-- the answer is what the signing key says, or that there is none, unless memory ran out
abbrev pub IsSigned : Result Command ConfigCause → Result Command FarmFault → Type 0
IsSigned said (Ok command) = said ≡ Ok command
IsSigned said (Err (BadConfig (Key key))) = said ≡ Err (Key key)
IsSigned said (Err Memory) = Unit {0}
IsSigned said (Err other) = ⊥
