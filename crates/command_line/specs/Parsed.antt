-- The command that words ask for, over the files that it reads.
use Rattle.std.specs.Prelude.{◌≡◌, ℕ, List, [], Option, IfSome, Result, Ok, Err, codes}
use Rattle.dist_types.specs.declared.addr.Addr.{Addr}
use Rattle.dist_config.specs.declared.config.SchedulerConfig.{SchedulerConfig}
use Rattle.dist_config.specs.declared.config.ServerConfig.{ServerConfig}
use Rattle.dist_config.specs.declared.config.ServerAuth.{ServerAuth}
use Rattle.dist_config.specs.declared.config.ServerAuth.TheVariants as auth
use Rattle.line_program.specs.declared.fault.ConfigCause.{ConfigCause}
use Rattle.line_program.specs.declared.fault.ConfigCause.TheVariants.{Key}
use Rattle.line_program.specs.declared.fault.FarmFault.{FarmFault}
use Rattle.line_program.specs.declared.fault.FarmFault.TheVariants.{BadConfig, Memory}
use Rattle.command_line.specs.declared.cause.ConfigFault.TheVariants.{Cause}
use Rattle.command_line.specs.declared.files.NamedFile.{NamedFile}
use Rattle.command_line.specs.Told.{◌>>=◌}
use Rattle.command_line.specs.Profile.{scheduler_config_in, server_config_in}
use Rattle.command_line.specs.Reading.{says, IsFileFault}
use Rattle.command_line.specs.declared.command.Command.{Command}
use Rattle.command_line.specs.declared.command.Command.TheVariants.{Auth, Scheduler, Server, Farm, Storm, Audit}
use Rattle.command_line.specs.declared.command.AuthSubcommand.TheVariants.{Base64, JwtHS256ServerToken}
use Rattle.command_line.specs.Asked.{Invocation, farm, random, token_under, token_of, scheduler, server, storm}
use Rattle.command_line.specs.Asked.{audit}

-- the token of a server under the signing key of a scheduler, which has one
abbrev pub signed : Addr → ServerAuth → Result Command ConfigCause
signed address (auth.JwtHS256 key) = Ok (Auth (JwtHS256ServerToken key address))
signed address auth.Insecure = Err (Key (codes "server_auth"))
signed address (auth.Token shared) = Err (Key (codes "server_auth"))

-- the command that is asked for, over files
abbrev pub command_in : Invocation → List NamedFile → Result Command ConfigCause
command_in farm files = Ok Farm
command_in (random n) files = Ok (Auth (Base64 n))
command_in (token_under address key) files = Ok (Auth (JwtHS256ServerToken key address))
command_in (token_of address path) files = says scheduler_config_in path files >>=
    (λ config. signed address config.server_auth)
command_in (scheduler path) files = says scheduler_config_in path files >>= (λ config. Ok (Scheduler config))
command_in (server path) files = says server_config_in path files >>= (λ config. Ok (Server config))
command_in (storm n) files = Ok (Storm n)
command_in audit files = Ok Audit

-- what is said over the files that a command reads, where they are told; over none for a command that reads
-- none
abbrev pub OverFiles : Invocation → Option (List NamedFile) → (List NamedFile → Type 0) → Type 0
OverFiles farm files says = says []
OverFiles (random n) files says = says []
OverFiles (token_under address key) files says = says []
OverFiles (token_of address path) files says = IfSome files says
OverFiles (scheduler path) files says = IfSome files says
OverFiles (server path) files says = IfSome files says
OverFiles (storm n) files says = says []
OverFiles audit files says = says []

-- the command is of the kind that is asked for, whatever the file says that it reads
abbrev pub IsKind : Invocation → Command → Type 0
IsKind farm command = Unit {0}
IsKind (random n) command = Unit {0}
IsKind (token_under address key) command = Unit {0}
IsKind (token_of address path) command = (key : List ℕ) × (command ≡ Auth (JwtHS256ServerToken key address))
IsKind (scheduler path) command = (config : SchedulerConfig) × (command ≡ Scheduler config)
IsKind (server path) command = (config : ServerConfig) × (command ≡ Server config)
IsKind (storm n) command = Unit {0}
IsKind audit command = Unit {0}

-- a command that reads a file
abbrev pub ReadsFile : Invocation → Type 0
ReadsFile farm = ⊥
ReadsFile (random n) = ⊥
ReadsFile (token_under address key) = ⊥
ReadsFile (token_of address path) = Unit {0}
ReadsFile (scheduler path) = Unit {0}
ReadsFile (server path) = Unit {0}
ReadsFile (storm n) = ⊥
ReadsFile audit = ⊥

-- The answer is the command that is asked for over the files, in each case of its kind, and reading did not
-- fail; or its file has a fault, which is told; or memory ran out.
abbrev pub IsParsed : Invocation → Result Command FarmFault → Option (List NamedFile) → ℕ → ℕ → Type 0
IsParsed asked (Ok command) files before after = (after ≡ before)
    × OverFiles asked files (λ told. command_in asked told ≡ Ok command) × IsKind asked command
IsParsed asked (Err (BadConfig cause)) files before after = ReadsFile asked
    × IsFileFault (Cause cause) (command_in asked) files before after
IsParsed asked (Err Memory) files before after = after ≡ before
IsParsed asked (Err other) files before after = ⊥
