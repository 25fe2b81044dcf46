-- A client that is refused leaves all other answers, and the log, as they were.
use Rattle.std.proofs.Common.{◌≡◌, ℕ, List, [], ◌∷◌, Bool, true, false, cond, not, ◌&&◌, filter, Option}
use Rattle.std.proofs.Common.{Some, None}
use Rattle.std.proofs.Common.{refl, ap, subst}
use Rattle.std.specs.Prelude.{if◌then◌else◌, nat_le}
use Rattle.core_rules.specs.Calls.{number_of}
use Rattle.core_rules.specs.declared.call.Call.{Call}
use Rattle.core_rules.specs.declared.call.Call.TheVariants as core_call
use Rattle.quota.specs.Asked.{refusal}
use Rattle.quota.specs.Calls.{Outcome, unchanged, made, alloc_by, spent_by, state_if, outcome}
use Rattle.quota.specs.Calls.{after_all}
use Rattle.quota.specs.Calls.{answers_of, refuses, granted, IsIsolated}
use Rattle.quota.specs.Clients.{place_of}
use Rattle.quota.specs.Quota.{Quota}
use Rattle.quota.specs.declared.call.QuotaAnswer.TheVariants as answer
use Rattle.quota.specs.declared.call.QuotaCall.{QuotaCall}
use Rattle.quota.specs.declared.call.QuotaCall.TheVariants as call
use Rattle.quota.specs.declared.picked.QuotaPicked.{QuotaPicked}
use Rattle.quota.specs.declared.picked.QuotaPicked.TheVariants as picked

-- where an outcome refuses a client it leaves all as it was
abbrev Leaves : Quota → Outcome → Type 0
Leaves q o = refuses o.told ≡ true → o.left ≡ q

alloc_leaves : (q : Quota) (now : ℕ) (why : Option QuotaPicked) (place : Option ℕ)
    → Leaves q (alloc_by why q now place)
alloc_leaves q now (Some (picked.Full held limit)) place is = refl
alloc_leaves q now (Some picked.NoClient) place is = refl
alloc_leaves q now (Some (picked.Picked p)) place is = refl
alloc_leaves q now None None is = refl
alloc_leaves q now None (Some place) is = absurd cc

spent_leaves : (q : Quota) (asked : ℕ → Call) (number : Option ℕ) → Leaves q (spent_by q asked number)
spent_leaves q asked None is = absurd cc
spent_leaves q asked (Some number) is = absurd cc

beat_leaves : (q : Quota) (asked : Call) (b : Bool)
    → Leaves q (if b then made q asked else unchanged q answer.BadCpus)
beat_leaves q asked true is = absurd cc
beat_leaves q asked false is = absurd cc

leaves : (q : Quota) (c : QuotaCall) → Leaves q (outcome q c)
leaves q (call.Alloc now client) is = alloc_leaves q now (refusal q client) (place_of q.clients client) is
leaves q (call.Commit now job is_ready) is = spent_leaves q
    (λ number. core_call.Commit now number job (state_if is_ready)) (number_of q.core.log job) is
leaves q (call.Undo now job) is = spent_leaves q (λ number. core_call.Undo now number job)
    (number_of q.core.log job) is
leaves q (call.Beat now server nonce cpus key) is = beat_leaves q (core_call.Beat now server nonce cpus key)
    (nat_le 1 cpus && nat_le cpus 4294967295) is
leaves q (call.Update now server job state) is = absurd cc
leaves q (call.Status now) is = absurd cc

-- the calls that are left of some, by whether the first is refused
abbrev granted_by : Bool → QuotaCall → List QuotaCall → List QuotaCall
granted_by refused c rest = if refused then rest else c ∷ rest

left_step : (q : Quota) (c : QuotaCall) (calls : List QuotaCall) (refused : Bool)
    → refuses (outcome q c).told ≡ refused
    → after_all (outcome q c).left (granted (outcome q c).left calls) ≡ after_all (outcome q c).left calls
    → after_all q (granted_by refused c (granted (outcome q c).left calls)) ≡ after_all (outcome q c).left
    calls
left_step q c calls true is rest =
    subst (λ s. after_all s (granted (outcome q c).left calls) ≡ after_all (outcome q c).left calls)
    (leaves q c is) rest
left_step q c calls false is rest = rest

same_left : (q : Quota) (calls : List QuotaCall) → after_all q (granted q calls) ≡ after_all q calls
same_left q [] = refl
same_left q (c ∷ calls) = left_step q c calls (refuses (outcome q c).told) refl (same_left (outcome q
    c).left calls)

told_step : (q : Quota) (c : QuotaCall) (calls : List QuotaCall) (refused : Bool)
    → refuses (outcome q c).told ≡ refused
    → answers_of (outcome q c).left (granted (outcome q c).left calls)
    ≡ filter (λ a. not (refuses a)) (answers_of (outcome q c).left calls)
    → answers_of q (granted_by refused c (granted (outcome q c).left calls))
    ≡ cond (not refused) ((outcome q c).told ∷ filter (λ a. not (refuses a)) (answers_of (outcome q c).left
    calls))
    (filter (λ a. not (refuses a)) (answers_of (outcome q c).left calls))
told_step q c calls true is rest =
    subst (λ s. answers_of s (granted (outcome q c).left calls)
    ≡ filter (λ a. not (refuses a)) (answers_of (outcome q c).left calls)) (leaves q c is) rest
told_step q c calls false is rest = ap (λ l. (outcome q c).told ∷ l) rest

same_told : (q : Quota) (calls : List QuotaCall)
    → answers_of q (granted q calls) ≡ filter (λ a. not (refuses a)) (answers_of q calls)
same_told q [] = refl
same_told q (c ∷ calls) = told_step q c calls (refuses (outcome q c).told) refl
    (same_told (outcome q c).left calls)

pub isolated : (q : Quota) (calls : List QuotaCall) → IsIsolated q calls
isolated q calls = record { left = same_left q calls; told = same_told q calls }
