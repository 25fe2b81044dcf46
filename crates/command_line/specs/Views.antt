-- What is asked for, as the Rust enum holds it.
use Rattle.command_line.specs.Asked.{Invocation, farm, random, token_under, token_of, scheduler, server, storm}
use Rattle.command_line.specs.Asked.{audit}
use Rattle.command_line.specs.declared.asked.Asked as code
use Rattle.command_line.specs.declared.asked.Asked.TheVariants.{Farm, Random, TokenUnder, TokenOf, Scheduler}
use Rattle.command_line.specs.declared.asked.Asked.TheVariants.{Server, Storm, Audit}

abbrev pub asked_of : code.Asked → Invocation
asked_of Farm = farm
asked_of (Random n) = random n
asked_of (TokenUnder address key) = token_under address key.now
asked_of (TokenOf address path) = token_of address path.now
asked_of (Scheduler path) = scheduler path.now
asked_of (Server path) = server path.now
asked_of (Storm count) = storm count
asked_of Audit = audit
