-- The kind of a command that is parsed.
use Rattle.std.proofs.Common.{◌≡◌, ℕ, List, Ok, refl, sym}
use Rattle.dist_types.specs.declared.addr.Addr.{Addr}
use Rattle.dist_config.specs.declared.config.SchedulerConfig.{SchedulerConfig}
use Rattle.dist_config.specs.declared.config.ServerConfig.{ServerConfig}
use Rattle.dist_config.specs.declared.config.ServerAuth.{ServerAuth}
use Rattle.dist_config.specs.declared.config.ServerAuth.TheVariants as auth
use Rattle.command_line.specs.declared.command.AuthSubcommand.TheVariants.{JwtHS256ServerToken}
use Rattle.command_line.specs.declared.command.Command.{Command}
use Rattle.command_line.specs.declared.command.Command.TheVariants.{Auth, Scheduler, Server}
use Rattle.command_line.specs.Asked.{token_of, scheduler, server}
use Rattle.command_line.specs.Parsed.{signed, IsKind}

-- a scheduler's key signs a token of that server
pub token_kind : (address : Addr) (path : List ℕ) (server_auth : ServerAuth) (command : Command)
    → signed address server_auth ≡ Ok command → IsKind (token_of address path) command
token_kind address path (auth.JwtHS256 key) command e =
    let same : Auth (JwtHS256ServerToken key address) ≡ command = cc e in (key, sym same)
token_kind address path auth.Insecure command e = cc e
token_kind address path (auth.Token shared) command e = cc e

pub scheduler_kind : (path : List ℕ) (config : SchedulerConfig) → IsKind (scheduler path) (Scheduler config)
scheduler_kind path config = (config, refl)

pub server_kind : (path : List ℕ) (config : ServerConfig) → IsKind (server path) (Server config)
server_kind path config = (config, refl)
