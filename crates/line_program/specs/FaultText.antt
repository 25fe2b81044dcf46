-- What faults are told as.
use Rattle.std.specs.Prelude.{ℕ, List, codes}
use Rattle.std.specs.Fmt.{decimal}
use Rattle.line_program.specs.Texts.{◌⧺◌}
use Rattle.line_program.specs.declared.fault.ConfigCause.{ConfigCause}
use Rattle.line_program.specs.declared.fault.ConfigCause.TheVariants.{Missing, Unreadable, NotToml, Key}
use Rattle.line_program.specs.declared.fault.FarmFault.{FarmFault}
use Rattle.line_program.specs.declared.fault.FarmFault.TheVariants.{Usage, BadLine, DuplicateAddress}
use Rattle.line_program.specs.declared.fault.FarmFault.TheVariants.{ScopedAddress, OverlappingIds}
use Rattle.line_program.specs.declared.fault.FarmFault.TheVariants.{ReadFault, WriteFault}
use Rattle.line_program.specs.declared.fault.FarmFault.TheVariants.{BadConfig, ServeFault, Memory, AuditRefused}
use Rattle.line_program.specs.declared.why.Why.{Why}
use Rattle.line_program.specs.declared.why.Why.TheVariants.{Text, Core, Build, Books}

-- why a configuration is none
abbrev pub cause_text : ConfigCause → List ℕ
cause_text Missing = codes "file missing"
cause_text Unreadable = codes "file unreadable"
cause_text NotToml = codes "not TOML"
cause_text (Key name) = codes "key " ⧺ name

-- why a printed run is refused
abbrev pub why_text : Why → List ℕ
why_text Text = codes "text"
why_text Core = codes "core"
why_text Build = codes "build"
why_text Books = codes "books"

-- why a command did not do its work
abbrev pub said_text : FarmFault → List ℕ
said_text Usage = codes "these words name no command"
said_text (BadLine n) = codes "bad line " ⧺ decimal n
said_text (DuplicateAddress n) = codes "duplicate address on line " ⧺ decimal n
said_text (ScopedAddress n) = codes "scoped address on line " ⧺ decimal n
said_text (OverlappingIds n) = codes "overlapping ids on line " ⧺ decimal n
said_text ReadFault = codes "read fault"
said_text WriteFault = codes "write fault"
said_text (BadConfig cause) = codes "bad configuration: " ⧺ cause_text cause
said_text ServeFault = codes "serve fault"
said_text Memory = codes "out of memory"
said_text (AuditRefused n why) = codes "audit refused line " ⧺ decimal n ⧺ codes ": " ⧺ why_text why
