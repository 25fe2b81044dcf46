-- Over a legal log an entry of the core rule is that of one call alone.
use Rattle.std.proofs.Common.{◌≡◌, ℕ, ◌<◌, ◌^◌, List, Bool, true, Some, refl, ap, ◌∙◌, eqb-true}
use Rattle.std.specs.Prelude.{◌==◌, ◌&&◌}
use Rattle.std.specs.List.{AllByRecursion, list_any}
use Rattle.std.specs.Option.{option_map}
use Rattle.std.proofs.lemmas.Bool.{and_parts}
use Rattle.dist_types.specs.declared.ids.JobId.{JobId}
use Rattle.core_rules.specs.declared.start.Start.{Start}
use Rattle.core_rules.specs.declared.entry.CoreEntry.{CoreEntry}
use Rattle.core_rules.specs.declared.call.Call.{Call}
use Rattle.core_rules.specs.declared.call.Call.TheVariants as call
use Rattle.core_rules.specs.Log.{same_job}
use Rattle.core_rules.specs.Reservation.{Booking, bookings, is_unspent, unspent}
use Rattle.core_rules.specs.Rule.{rule, IsCall, is_among}
use Rattle.core_rules.specs.Calls.{number_of, call_of}
use Rattle.core_rules.specs.Laws.{IsLegal}
use Rattle.core_rules.proofs.LegalLemmas.{core_of}
use Rattle.core_rules.proofs.AllLemmas.{same_job-sym, same_job-trans, all-weaker, any-weaker, found}
use Rattle.core_rules.proofs.AllLemmas.{distinct-filter, own_only}
use Rattle.core_rules.proofs.SortLemmas.{found_first}
use Rattle.core_rules.proofs.SoundLemmas.{legal_distinct}

-- the unspent reservation of a job has the number that is known of one
number_is : (start : Start) (log : List CoreEntry) (number : ℕ) (job : JobId) → start.count < 2 ^ 64
    → IsLegal start log → is_among (unspent log) number job ≡ true → number_of log job ≡ Some number
number_is start log number job fits legal among =
    let it : Booking → Bool = λ b. (b.number == number) && same_job b.job job in
    let one = found (λ x. AllByRecursion (λ y. same_job y.job x.job ≡ true → y ≡ x) (unspent log)) it
    (unspent log) (own_only (λ b. b.job) (unspent log)
    (distinct-filter (λ b. b.job) is_unspent (bookings log) (legal_distinct start log fits legal)))
    among in
    let parts = and_parts (one.0.number == number) (same_job one.0.job job) one.2 in
    let all : AllByRecursion (λ b. same_job b.job job ≡ true → b.number ≡ number) (unspent log) =
    all-weaker (λ y. same_job y.job one.0.job ≡ true → y ≡ one.0) (λ b. same_job b.job job ≡ true
    → b.number ≡ number)
    (λ y only same. ap (λ (z : Booking). z.number)
    (only (same_job-trans y.job job one.0.job same (same_job-sym one.0.job job parts.1)))
    ∙ eqb-true one.0.number number parts.0) (unspent log) one.1 in
    let some : list_any (λ b. same_job b.job job) (unspent log) ≡ true =
    any-weaker it (λ b. same_job b.job job)
    (λ b t. (and_parts (b.number == number) (same_job b.job job) t).1) (unspent log) among in
    let first = found_first (λ b. same_job b.job job ≡ true → b.number ≡ number) (λ b. same_job b.job job)
    (unspent log) all some in
    ap (option_map (λ (b : Booking). b.number)) first.1 ∙ ap (λ n. Some n) (first.2 first.3)

pub call_told : (start : Start) (log : List CoreEntry) (c : Call) → start.count < 2 ^ 64 → IsLegal start log
    → IsCall (core_of start log) c → call_of log (rule (core_of start log) c) ≡ Some c
call_told start log (call.Reserve now) fits legal is = refl
call_told start log (call.Commit now number job state) fits legal is =
    ap (option_map (λ n. call.Commit now n job state)) (number_is start log number job fits legal is.0)
call_told start log (call.Undo now number job) fits legal is = ap (option_map (λ n. call.Undo now n job))
    (number_is start log number job fits legal is)
call_told start log (call.Beat now server nonce cpus key) fits legal is = refl
call_told start log (call.Update now server job state) fits legal is = refl
call_told start log (call.Status now) fits legal is = refl
call_told start log (call.Drain now addr nonce on) fits legal is = refl
