-- The line of each call, read off the log that all calls leave.
use Rattle.std.proofs.Common.{◌≡◌, ℕ, ◌<◌, List, [], ◌∷◌, ◌++◌, Bool, true, false, cond, ◌&&◌, length, map, Option, Some, None}
use Rattle.std.proofs.Common.{refl, sym, ap, ◌∙◌, append_assoc, append-nil, arith}
use Rattle.std.specs.Prelude.{nat_le, Result, Ok, Err, IfOk}
use Rattle.std.specs.List.{flat_map}
use Rattle.std.proofs.lemmas.List.{length-append}
use Rattle.core_rules.specs.Calls.{number_of}
use Rattle.core_rules.specs.declared.call.Call.{Call}
use Rattle.core_rules.specs.declared.call.Call.TheVariants as core_call
use Rattle.core_rules.specs.declared.entry.CoreEntry.{CoreEntry}
use Rattle.core_rules.specs.Rule.{rule}
use Rattle.core_rules.proofs.Lists.{map-map}
use Rattle.farm_entries.specs.Printed.{core_line}
use Rattle.quota.specs.Asked.{refusal}
use Rattle.quota.specs.Calls.{Outcome, unchanged, made, alloc_by, spent_by, state_if, outcome, after_all, answers_of}
use Rattle.quota.specs.Clients.{Client, place_of, client_of}
use Rattle.quota_script.specs.Script.{Said}
use Rattle.dist_types.specs.declared.rules.Rules.TheVariants.{One}
use Rattle.quota.specs.Quota.{Quota}
use Rattle.quota.specs.declared.call.QuotaAnswer.{QuotaAnswer}
use Rattle.quota.specs.declared.call.QuotaAnswer.TheVariants as answer
use Rattle.quota.specs.declared.call.QuotaCall.{QuotaCall}
use Rattle.quota.specs.declared.call.QuotaCall.TheVariants as call
use Rattle.quota.specs.declared.picked.QuotaPicked.{QuotaPicked}
use Rattle.quota.specs.declared.picked.QuotaPicked.TheVariants as picked
use Rattle.quota.proofs.ListLemmas.{got_before}
use Rattle.quota_run.specs.Lines.{told_text, line_of, lines_of, start_of, calls_of}
use Rattle.quota_run.specs.Program.{script_lines}

-- the entry that an answer names stands in the log
abbrev IsIn : List CoreEntry → QuotaAnswer → Type 0
IsIn log (answer.Logged number) = number < length log
IsIn log other = Unit {0}

-- A call adds to the log, and the entry that it answers with stands there.
record Adds (q : Quota) (o : Outcome) : Type 0 where
  more : List CoreEntry
  log_is : o.left.core.log ≡ q.core.log ++ more
  stands : IsIn o.left.core.log o.told

none_added : (q : Quota) (a : QuotaAnswer) → IsIn q.core.log a → Adds q (unchanged q a)
none_added q a is = record { more = []; log_is = sym (append-nil q.core.log); stands = is }

last_in : (log : List CoreEntry) (e : CoreEntry) → length log < length (log ++ e ∷ [])
last_in log e = let all = length-append log (e ∷ []) in omega (arith, all)

made_adds : (q : Quota) (asked : Call) → Adds q (made q asked)
made_adds q asked = record {
  more = rule q.core asked ∷ [];
  log_is = refl;
  stands = last_in q.core.log (rule q.core asked);
}

alloc_adds : (q : Quota) (now : ℕ) (why : Option QuotaPicked) (place : Option ℕ) → Adds q (alloc_by why q now place)
alloc_adds q now (Some (picked.Full held limit)) place = none_added q (answer.Full held limit) tt
alloc_adds q now (Some picked.NoClient) place = none_added q answer.NoClient tt
alloc_adds q now (Some (picked.Picked p)) place = none_added q answer.NoClient tt
alloc_adds q now None None = none_added q answer.NoClient tt
alloc_adds q now None (Some place) = record {
  more = rule q.core (core_call.Reserve now) ∷ [];
  log_is = refl;
  stands = last_in q.core.log (rule q.core (core_call.Reserve now));
}

spent_adds : (q : Quota) (asked : ℕ → Call) (number : Option ℕ) → Adds q (spent_by q asked number)
spent_adds q asked None = none_added q answer.NoReservation tt
spent_adds q asked (Some number) = made_adds q (asked number)

beat_adds : (q : Quota) (asked : Call) (b : Bool) → Adds q (cond b (made q asked) (unchanged q answer.BadCpus))
beat_adds q asked true = made_adds q asked
beat_adds q asked false = none_added q answer.BadCpus tt

adds : (q : Quota) (c : QuotaCall) → Adds q (outcome q c)
adds q (call.Alloc now client) = alloc_adds q now (refusal q client) (place_of q.clients client)
adds q (call.Commit now job is_ready) = spent_adds q
    (λ number. core_call.Commit now number job (state_if is_ready)) (number_of q.core.log job)
adds q (call.Undo now job) = spent_adds q (λ number. core_call.Undo now number job) (number_of q.core.log job)
adds q (call.Beat now server nonce cpus key) = beat_adds q (core_call.Beat now server nonce cpus key)
    (nat_le 1 cpus && nat_le cpus 4294967295)
adds q (call.Update now server job state) = made_adds q (core_call.Update now server job state)
adds q (call.Status now) = made_adds q (core_call.Status now)

-- the log only grows
grows : (q : Quota) (calls : List QuotaCall)
    → (more : List CoreEntry) × ((after_all q calls).core.log ≡ q.core.log ++ more)
grows q [] = ([], sym (append-nil q.core.log))
grows q (c ∷ calls) =
    let first = adds q c in
    let rest = grows (outcome q c).left calls in (
      first.more ++ rest.0,
      rest.1 ∙ ap (λ l. l ++ rest.0) first.log_is ∙ append_assoc q.core.log first.more rest.0,
    )

-- so the line of an answer stays what it was
same_text : (log more : List CoreEntry) (a : QuotaAnswer) → IsIn log a → told_text (log ++ more) a ≡ told_text log a
same_text log more (answer.Logged number) is = ap (core_line number) (got_before log more number is)
same_text log more (answer.Full held limit) is = refl
same_text log more answer.NoClient is = refl
same_text log more answer.NoReservation is = refl
same_text log more answer.BadCpus is = refl

lines_in : (log : List CoreEntry) (q : Quota) (calls : List QuotaCall) → (after_all q calls).core.log ≡ log
    → flat_map (told_text log) (answers_of q calls) ≡ lines_of q calls
lines_in log q [] is = refl
lines_in log q (c ∷ calls) is =
    let o = outcome q c in
    let rest = grows o.left calls in
    let all : log ≡ o.left.core.log ++ rest.0 = sym is ∙ rest.1 in
    ap (λ t. t ++ flat_map (told_text log) (answers_of o.left calls))
    (ap (λ l. told_text l o.told) all ∙ same_text o.left.core.log rest.0 o.told (adds q c).stands)
    ∙ ap (λ t. line_of q c ++ t) (lines_in log o.left calls is)

-- the lines of all answers are those of the calls
pub lines_are : (q : Quota) (calls : List QuotaCall) (log : List CoreEntry) (answers : List QuotaAnswer)
    → log ≡ (after_all q calls).core.log → answers ≡ answers_of q calls
    → flat_map (told_text log) answers ≡ lines_of q calls
lines_are q calls log answers left told =
    ap (flat_map (told_text log)) told ∙ lines_in log q calls (sym left)

-- where a script begins, by its clients as they are listed
pub clients_are : {K : Type 0} (text : K → List ℕ) (items : List (K × ℕ)) (clients : List (List ℕ × ℕ))
    → map (λ e. (text e.0, e.1)) items ≡ clients
    → map (λ c. client_of (text c.0) c.1) items ≡ map (λ c. client_of c.0 c.1) clients
clients_are text items clients is = sym (map-map (λ c. client_of c.0 c.1) (λ e. (text e.0, e.1)) items)
    ∙ ap (map (λ c. client_of c.0 c.1)) is

-- a scheduler with an empty log
abbrev begin : ℕ → List Client → Quota
begin base clients = record {
  core = record { start = record { base = base; count = 0; rules = One }; log = [] };
  clients = clients;
  owners = [];
}

-- the lines of a script, by its calls over the scheduler that it begins with
pub script_is : (s : Said) (run : Quota) (calls : List QuotaCall) (clients : List Client)
    → run ≡ begin s.base clients → clients ≡ map (λ c. client_of c.0 c.1) s.clients → calls ≡ calls_of s
    → lines_of run calls ≡ script_lines s
script_is s run calls clients is are made =
    ap (λ q. lines_of q calls) (is ∙ ap (begin s.base) are) ∙ ap (lines_of (start_of s)) made

pub lines_then : {K E : Type 0} (text : K → List ℕ) (r : Result K E) (a b : List ℕ) → a ≡ b
    → IfOk r (λ s. text s ≡ a) → IfOk r (λ s. text s ≡ b)
lines_then text (Ok s) a b same is = is ∙ same
lines_then text (Err e) a b same is = tt
