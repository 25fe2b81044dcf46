-- What the scheduler of a farm has seen.
use Rattle.std.specs.Prelude.{ℕ, List, Option, Some, None}
use Rattle.std.specs.Result.{result_ok}
use Rattle.std.specs.List.{filter_map}
use Rattle.dist_types.specs.Addr.{addr_text}
use Rattle.dist_types.specs.declared.addr.Addr.{Addr}
use Rattle.dist_token.specs.Token.{plain_text, token_text, server_claims_text}
use Rattle.dist_token.specs.Verdict.{plain_server, server_verdict}
use Rattle.core_rules.specs.declared.start.Start.{Start}
use Rattle.core_rules.specs.Log.{Core, logged}
use Rattle.core_rules.specs.declared.entry.CoreEntry.{CoreEntry}
use Rattle.farm_entries.specs.declared.site.Site.{Site as Setup}
use Rattle.farm_script.specs.declared.setup.SetupAuth.{SetupAuth}
use Rattle.farm_script.specs.declared.setup.SetupAuth.TheVariants.{Plain, Jwt}
use Rattle.farm_entries.specs.declared.entry.Entry.{Entry}

-- the core entries of a log
abbrev pub core_log : List Entry → List CoreEntry
core_log log = filter_map (λ e. e.core) log

-- where the ids of the scheduler begin, and the rules that it goes by
abbrev pub ids_start : Setup → Start
ids_start setup =
    record { base = setup.scheduler.base; count = setup.scheduler.count; rules = setup.rules }

-- what the scheduler has seen, where the entries are these
abbrev pub core_of : Setup → List Entry → Core
core_of setup log = record { start = ids_start setup; log = core_log log }

-- the scheduler with the core entry that was made, if any
abbrev pub with_core : Core → Option CoreEntry → Core
with_core core None = core
with_core core (Some e) = logged core e

-- the server that a token which is shown is accepted for, if it is accepted: all build servers have one
-- token, or each has its own under a key
abbrev pub serves : SetupAuth → List ℕ → Option Addr
serves (Plain token) = plain_server token
serves (Jwt key) = λ shown. result_ok (server_verdict key shown)

-- the token that the server at an address shows
abbrev pub shown_by : SetupAuth → Addr → List ℕ
shown_by (Plain token) addr = plain_text (addr_text addr) token
shown_by (Jwt key) addr = token_text key (server_claims_text (addr_text addr))

abbrev pub server_token : Setup → Addr → List ℕ
server_token setup addr = shown_by setup.scheduler.auth addr
