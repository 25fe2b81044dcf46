-- What a command needs of the system beside its words, files and streams.
use Rattle.std.specs.Prelude.{ℕ, List, Option, Some, None}
use Rattle.command_line.specs.Asked.{Invocation, farm, random, token_under, token_of, scheduler, server, storm}
use Rattle.command_line.specs.Asked.{audit, asked_by}
use Rattle.command_line.specs.declared.need.Need.{Need}
use Rattle.command_line.specs.declared.need.Need.TheVariants.{Nothing, RandomWords, Serving}

-- Random words for a key or a shared token, and what serves for a scheduler and a build server.
abbrev pub need_for : Option Invocation → Need
need_for None = Nothing
need_for (Some farm) = Nothing
need_for (Some (random n)) = RandomWords
need_for (Some (token_under address key)) = Nothing
need_for (Some (token_of address path)) = Nothing
need_for (Some (scheduler path)) = Serving
need_for (Some (server path)) = Serving
need_for (Some (storm n)) = Nothing
need_for (Some audit) = Nothing

-- what the command of these words needs
abbrev pub needed_by : List (List ℕ) → Need
needed_by words = need_for (asked_by words)
