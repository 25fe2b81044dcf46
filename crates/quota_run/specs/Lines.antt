-- The calls that a script's events make, and the line of each.
use Rattle.std.specs.Prelude.{ℕ, List, [], ◌∷◌, ◌++◌, map, slice_get, codes}
use Rattle.std.specs.Fmt.{decimal}
use Rattle.core_rules.specs.declared.entry.CoreEntry.{CoreEntry}
use Rattle.dist_types.specs.declared.rules.Rules.TheVariants.{One}
use Rattle.farm_entries.specs.Printed.{core_line}
use Rattle.line_program.specs.Texts.{◌⧺◌}
use Rattle.quota.specs.Calls.{outcome}
use Rattle.quota.specs.Clients.{client_of}
use Rattle.quota.specs.Quota.{Quota}
use Rattle.quota.specs.declared.call.QuotaAnswer.{QuotaAnswer}
use Rattle.quota.specs.declared.call.QuotaAnswer.TheVariants as answer
use Rattle.quota.specs.declared.call.QuotaCall.{QuotaCall}
use Rattle.quota.specs.declared.call.QuotaCall.TheVariants as call
use Rattle.quota_script.specs.Script.{Said}
use Rattle.quota_script.specs.declared.event.Event.{Event}
use Rattle.quota_script.specs.declared.event.EventKind.{EventKind}
use Rattle.quota_script.specs.declared.event.EventKind.TheVariants as event

-- the call of what happens at a moment; a heartbeat has an empty key, which no line shows
abbrev pub call_by : ℕ → EventKind → QuotaCall
call_by at (event.Alloc client) = call.Alloc at client
call_by at (event.Commit job is_ready) = call.Commit at (record { 0 = job }) is_ready
call_by at (event.Undo job) = call.Undo at (record { 0 = job })
call_by at (event.Beat server nonce cpus) = call.Beat at server nonce cpus []
call_by at (event.Update server job state) = call.Update at server (record { 0 = job }) state
call_by at event.Status = call.Status at

abbrev pub call_of : Event → QuotaCall
call_of e = call_by e.at e.kind

-- the calls of a script, in order
abbrev pub calls_of : Said → List QuotaCall
calls_of s = map call_of s.events

-- where a script begins: an empty log, whose first job has the number that it says, and its clients
abbrev pub start_of : Said → Quota
start_of s = record {
  core = record { start = record { base = s.base; count = 0; rules = One }; log = [] };
  clients = map (λ c. client_of c.0 c.1) s.clients;
  owners = [];
}

-- The line of an answer, over the log that its call left: the core line of the entry that the call made, or why it
-- made none.
abbrev pub told_text : List CoreEntry → QuotaAnswer → List ℕ
told_text log (answer.Logged number) = core_line number (slice_get log number)
told_text log (answer.Full held limit) = codes "full " ⧺ decimal held ⧺ codes " " ⧺ decimal limit ⧺ codes "\n"
told_text log answer.NoClient = codes "no client\n"
told_text log answer.NoReservation = codes "no reservation\n"
told_text log answer.BadCpus = codes "bad cpus\n"

-- the line of a call, over what the calls before it left
abbrev pub line_of : Quota → QuotaCall → List ℕ
line_of q c = told_text (outcome q c).left.core.log (outcome q c).told

-- one line a call, each over the calls before it
abbrev pub lines_of : Quota → List QuotaCall → List ℕ
lines_of q [] = []
lines_of q (c ∷ calls) = line_of q c ++ lines_of (outcome q c).left calls
