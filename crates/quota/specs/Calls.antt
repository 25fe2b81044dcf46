-- What a list of calls makes of a scheduler with quotas, and what each is answered.
use Rattle.std.specs.Prelude.{◌≡◌, ℕ, List, [], ◌∷◌, length, filter, Bool, true, false, not, Option}
use Rattle.std.specs.Prelude.{Some, None}
use Rattle.std.specs.Prelude.{if◌then◌else◌, ◌&&◌, nat_le}
use Rattle.dist_types.specs.declared.results.JobState.{JobState}
use Rattle.dist_types.specs.declared.results.JobState.TheVariants.{Pending, Ready}
use Rattle.core_rules.specs.Calls.{number_of}
use Rattle.core_rules.specs.declared.call.Call.{Call}
use Rattle.core_rules.specs.declared.call.Call.TheVariants as core_call
use Rattle.core_rules.specs.Log.{logged}
use Rattle.core_rules.specs.Rule.{rule}
use Rattle.quota.specs.Asked.{refusal}
use Rattle.quota.specs.Clients.{place_of}
use Rattle.quota.specs.Quota.{Quota, logged_for, over_core}
use Rattle.quota.specs.declared.call.QuotaAnswer.{QuotaAnswer}
use Rattle.quota.specs.declared.call.QuotaAnswer.TheVariants as answer
use Rattle.quota.specs.declared.call.QuotaCall.{QuotaCall}
use Rattle.quota.specs.declared.call.QuotaCall.TheVariants as call
use Rattle.quota.specs.declared.picked.QuotaPicked.{QuotaPicked}
use Rattle.quota.specs.declared.picked.QuotaPicked.TheVariants as picked

-- What one call makes: the scheduler after it, and what it is answered.
pub record Outcome : Type 0 where
  pub left : Quota
  pub told : QuotaAnswer

-- nothing changed
abbrev pub unchanged : Quota → QuotaAnswer → Outcome
unchanged q told = record { left = q; told = told }

-- the call made the rule's entry, which stands in the next place of the log
abbrev pub made : Quota → Call → Outcome
made q asked = record {
  left = over_core q (logged q.core (rule q.core asked));
  told = answer.Logged (length q.core.log);
}

-- the same of a reserve for the client in that place
abbrev pub made_for : Quota → ℕ → Option ℕ → Outcome
made_for q now None = unchanged q answer.NoClient
made_for q now (Some place) = record {
  left = logged_for q place (rule q.core (core_call.Reserve now));
  told = answer.Logged (length q.core.log);
}

-- a reserve for a client, by why it is refused, if it is
abbrev pub alloc_by : Option QuotaPicked → Quota → ℕ → Option ℕ → Outcome
alloc_by (Some (picked.Full held limit)) q now place = unchanged q (answer.Full held limit)
alloc_by (Some other) q now place = unchanged q answer.NoClient
alloc_by None q now place = made_for q now place

-- a job is committed ready, or else pending
abbrev pub state_if : Bool → JobState
state_if true = Ready
state_if false = Pending

-- the call of a reservation, by its number, if its job has an unspent one
abbrev pub spent_by : Quota → (ℕ → Call) → Option ℕ → Outcome
spent_by q asked None = unchanged q answer.NoReservation
spent_by q asked (Some number) = made q (asked number)

-- what each call makes
abbrev pub outcome : Quota → QuotaCall → Outcome
outcome q (call.Alloc now client) = alloc_by (refusal q client) q now (place_of q.clients client)
outcome q (call.Commit now job is_ready) = spent_by q
    (λ number. core_call.Commit now number job (state_if is_ready)) (number_of q.core.log job)
outcome q (call.Undo now job) = spent_by q (λ number. core_call.Undo now number job) (number_of q.core.log
    job)
outcome q (call.Beat now server nonce cpus key) = if nat_le 1 cpus && nat_le cpus 4294967295
    then made q (core_call.Beat now server nonce cpus key) else unchanged q answer.BadCpus
outcome q (call.Update now server job state) = made q (core_call.Update now server job state)
outcome q (call.Status now) = made q (core_call.Status now)

-- the scheduler after some calls, and what each is answered
abbrev pub after_all : Quota → List QuotaCall → Quota
after_all q [] = q
after_all q (c ∷ calls) = after_all (outcome q c).left calls

abbrev pub answers_of : Quota → List QuotaCall → List QuotaAnswer
answers_of q [] = []
answers_of q (c ∷ calls) = (outcome q c).told ∷ answers_of (outcome q c).left calls

-- whether an answer refuses a client: it is not listed, or holds as many reservations as it may
abbrev pub refuses : QuotaAnswer → Bool
refuses (answer.Full held limit) = true
refuses answer.NoClient = true
refuses other = false

-- the calls that are not answered so
abbrev pub granted : Quota → List QuotaCall → List QuotaCall
granted q [] = []
granted q (c ∷ calls) = if refuses (outcome q c).told then granted (outcome q c).left calls
    else c ∷ granted (outcome q c).left calls

-- Without the calls that were answered so, the scheduler ends as with them, its log too, and all other
-- calls are
-- answered as with them.
pub record IsIsolated (q : Quota) (calls : List QuotaCall) : Type 0 where
  pub left : after_all q (granted q calls) ≡ after_all q calls
  pub told : answers_of q (granted q calls) ≡ filter (λ a. not (refuses a)) (answers_of q calls)
