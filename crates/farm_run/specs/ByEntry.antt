-- What the scheduler does with what is asked of it, by the entry of its call: as the running scheduler's
-- clauses say it.
use Rattle.std.specs.Prelude.{ℕ, List, [], Bool, Option, Some, None}
use Rattle.std.specs.Option.{option_map}
use Rattle.core_rules.specs.Log.{Core}
use Rattle.core_rules.specs.declared.entry.CoreEntry.{CoreEntry}
use Rattle.core_rules.specs.declared.entry.CoreKind.{CoreKind}
use Rattle.http_routes.specs.declared.reply.Response.{Response}
use Rattle.http_routes.specs.declared.route.SchedRouted.{SchedRouted}
use Rattle.http_routes.specs.declared.route.SchedRouted.TheVariants.{Alloc}
use Rattle.scheduler_replies.specs.ByEntry.{reply_by, reply_without}
use Rattle.farm_entries.specs.Answers.{assign_call}
use Rattle.farm_entries.specs.Effects.{reply_effect, call_effect, reply_to}
use Rattle.farm_entries.specs.Tickets.{ticket_by}
use Rattle.farm_entries.specs.declared.entry.Effect.{Effect}

-- the toolchain of an allocation
abbrev pub toolchain_of : SchedRouted → List ℕ
toolchain_of (Alloc tc) = tc
toolchain_of other = []

-- the reply that the entry gives, or where it gives none, the call that asks its reservation's server
abbrev pub told_effect : Core → ℕ → List ℕ → CoreEntry → CoreKind → Option Response → Effect
told_effect seen number tc made kind (Some reply) = reply_effect (Some made) (reply_to number reply)
told_effect seen number tc made kind None =
    call_effect (Some made) (option_map (assign_call tc) (ticket_by seen.log kind))

-- the reply where no call is made
abbrev pub refused_effect : ℕ → Option Response → Effect
refused_effect number (Some reply) = reply_effect None (reply_to number reply)
refused_effect number None = call_effect None None

-- by the entry that was made, if any
abbrev pub effect_by : Core → ℕ → Bool → SchedRouted → Option CoreEntry → Effect
effect_by seen number json what (Some made) = told_effect seen number (toolchain_of what) made made.kind
    (reply_by json what made.kind)
effect_by seen number json what None = refused_effect number (reply_without what)
