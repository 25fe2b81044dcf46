-- The promises of before, from a turn.
use Rattle.std.proofs.Common.{◌≡◌, ◌⊎◌, ◌<◌, ◌≤◌, ℕ, List, length, Bool, true, false, ◌&&◌, Option, Some}
use Rattle.std.proofs.Common.{None, Result, Ok, Err, refl, sym, ap, subst, ◌∙◌, inl, inr, arith}
use Rattle.std.specs.Prelude.{◌↔◌, IfErr, IfSome, if◌then◌else◌}
use Rattle.std.proofs.lemmas.Bool.Decides.{leb_tells}
use Rattle.dist_types.specs.Clock.{next_moment}
use Rattle.dist_types.specs.declared.addr.Addr.{Addr}
use Rattle.dist_types.specs.declared.ids.JobId.{JobId}
use Rattle.dist_types.specs.declared.results.JobState.{JobState}
use Rattle.dist_types.specs.declared.results.HeartbeatServerResult.{HeartbeatServerResult}
use Rattle.dist_types.specs.declared.results.SchedulerStatusResult.{SchedulerStatusResult}
use Rattle.dist_types.specs.declared.results.UpdateJobStateResult.{UpdateJobStateResult}
use Rattle.core_rules.specs.Advance.{follows, is_at, advance_by}
use Rattle.core_rules.specs.Answers.{verdict}
use Rattle.core_rules.specs.Log.{Core}
use Rattle.core_rules.specs.declared.call.Call.TheVariants as call
use Rattle.core_rules.specs.declared.entry.CoreEntry.{CoreEntry}
use Rattle.core_rules.specs.declared.entry.UpdateAnswer.{UpdateAnswer}
use Rattle.core_rules.specs.declared.entry.UpdateAnswer.TheVariants.{Accepted, Unknown, Wrong, Transition}
use Rattle.core_rules.specs.declared.error.SchedError.TheVariants as error
use Rattle.core_rules.specs.declared.rows.OpenRow.{OpenRow}
use Rattle.scheduler_steps.specs.Faults.{faulted}
use Rattle.scheduler_steps.specs.Step.{Gives}
use Rattle.scheduler_steps.specs.Telling.{hears, reported_by, TellsHeard, RefusesHeard, TellsReported}
use Rattle.scheduler_steps.specs.Telling.{TellsCounted, TellsDrained, WantsMemory}
use Rattle.scheduler_steps.specs.declared.fault.SchedFault.{SchedFault}
use Rattle.scheduler_steps.specs.declared.fault.SchedFault.TheVariants as fault
use Rattle.sched.specs.Before.{fault_entries, one_entry, WasHeard, WasUpdated, WasCounted, WasDrained}
use Rattle.sched.specs.Before.{TellsUpdate}
use Rattle.sched.specs.Heard.{IsHeard, IsUpdated, IsCounted, IsDrained}
use Rattle.sched.specs.Outside.{Moments, IsRead, IsReadAt}
use Rattle.sched.specs.Pass.{Told, Counted}
use Rattle.sched.specs.Turn.{count_made, place_made, core_before}

-- ---- the clock

last_of : (coming : Option (List ℕ)) (last new now : ℕ) → IfSome coming (λ ms. now ≡ next_moment ms last)
    → new ≡ now → IfSome coming (λ ms. new ≡ next_moment ms last)
last_of None last new now given is = tt
last_of (Some ms) last new now given is = is ∙ given

was_read : (now : ℕ) (old new : Moments) → IsReadAt now old new → IsRead old new
was_read now old new read =
    record { left = read.left; last = last_of old.coming old.last new.last now read.given read.last }

-- ---- what is counted

long_made : (place : ℕ) (made : Option CoreEntry) → length (place_made place made) ≡ count_made made
long_made place None = refl
long_made place (Some e) = refl

counts_as : {X : Type 0} (answer : Result X SchedFault) (place : ℕ) (made : Option CoreEntry)
    (old new : Told)
    → count_made made ≡ one_entry answer → Counted (length (place_made place made)) old new
    → Counted (one_entry answer) old new
counts_as answer place made old new is counted =
    subst (λ k. Counted k old new) (long_made place made ∙ is) counted

-- ---- answers

one_ok : {X : Type 0} (answer : Result X SchedFault) (x : X) → answer ≡ Ok x → 1 ≡ one_entry answer
one_ok (Ok y) x is = refl
one_ok (Err e) x is = absurd cc

one_err : {X : Type 0} (answer : Result X SchedFault) (e : SchedFault) → answer ≡ Err e
    → fault_entries e ≡ one_entry answer
one_err (Ok y) e is = absurd cc
one_err (Err d) e is = let same : e ≡ d = cc in ap fault_entries same

if_ok : {X : Type 0} (P : SchedFault → Type 0) (answer : Result X SchedFault) (x : X) → answer ≡ Ok x
    → IfErr answer P
if_ok P (Ok y) x is = tt
if_ok P (Err e) x is = absurd cc

if_err : {X : Type 0} (P : SchedFault → Type 0) (answer : Result X SchedFault) (e : SchedFault)
    → answer ≡ Err e → P e → IfErr answer P
if_err P (Ok y) e is p = absurd cc
if_err P (Err d) e is p = let same : e ≡ d = cc in subst P same p

-- ---- the number of processors

out_by : (a b : Bool) (cpus : ℕ) → ((a ≡ true) × (1 ≤ cpus)) ⊎ ((a ≡ false) × (cpus < 1))
    → ((b ≡ true) × (cpus ≤ 4294967295)) ⊎ ((b ≡ false) × (4294967295 < cpus)) → (a && b) ≡ false
    → (cpus ≡ 0) ⊎ (4294967295 < cpus)
out_by a b cpus (inr l) t is = inl (omega (arith, l.1))
out_by a b cpus (inl l) (inr r) is = inr r.1
out_by a b cpus (inl l) (inl r) is = let h : (true && true) ≡ false = rw (l.0, r.0) at is in absurd cc

in_by : (a b : Bool) (cpus : ℕ) → ((a ≡ true) × (1 ≤ cpus)) ⊎ ((a ≡ false) × (cpus < 1))
    → ((b ≡ true) × (cpus ≤ 4294967295)) ⊎ ((b ≡ false) × (4294967295 < cpus)) → (a && b) ≡ true
    → (cpus ≡ 0) ⊎ (4294967295 < cpus) → ⊥
in_by a b cpus (inl l) (inl r) is (inl z) = absurd (omega (arith, l.1, z))
in_by a b cpus (inl l) (inl r) is (inr z) = absurd (omega (arith, r.1, z))
in_by a b cpus (inr l) t is z = let h : (false && b) ≡ true = rw l.0 at is in absurd cc
in_by a b cpus (inl l) (inr r) is z = let h : (true && false) ≡ true = rw (l.0, r.0) at is in absurd cc

out_of_range : (cpus : ℕ) → hears cpus ≡ false → (cpus ≡ 0) ⊎ (4294967295 < cpus)
out_of_range cpus is = out_by _ _ cpus (leb_tells 1 cpus) (leb_tells cpus 4294967295) is

in_range : (cpus : ℕ) → hears cpus ≡ true → (cpus ≡ 0) ⊎ (4294967295 < cpus) → ⊥
in_range cpus is z = in_by _ _ cpus (leb_tells 1 cpus) (leb_tells cpus 4294967295) is z

-- ---- heartbeats

-- by whether the heartbeat is taken
not_heard : (b : Bool) (cpus : ℕ) (answer : Result HeartbeatServerResult SchedFault) → hears cpus ≡ b
    → answer ≡ Err (if b then fault.Memory else fault.Core (error.BadCpus cpus))
    → (0 ≡ one_entry answer)
    × ((answer ≡ Err (fault.Core (error.BadCpus cpus))) ↔ ((cpus ≡ 0) ⊎ (4294967295 < cpus)))
    × IfErr answer (λ e. (e ≡ fault.Core (error.BadCpus cpus)) ⊎ (e ≡ fault.Memory))
not_heard true cpus answer taken is = (
  one_err answer fault.Memory is,
  (λ bad. absurd (cc (is, bad)), λ z. absurd (in_range cpus taken z)),
  if_err (λ e. (e ≡ fault.Core (error.BadCpus cpus)) ⊎ (e ≡ fault.Memory)) answer fault.Memory is (inr refl),
)
not_heard false cpus answer taken is = (
  one_err answer (fault.Core (error.BadCpus cpus)) is,
  (λ bad. out_of_range cpus taken, λ z. is),
  if_err (λ e. (e ≡ fault.Core (error.BadCpus cpus)) ⊎ (e ≡ fault.Memory)) answer
      (fault.Core (error.BadCpus cpus)) is (inl refl),
)

heard_made : (server : Addr) (nonce cpus : ℕ) (key : List ℕ) (now : ℕ) (core : Core)
    (made : Option CoreEntry)
    (answer : Result HeartbeatServerResult SchedFault)
    → Gives (call.Beat now server nonce cpus key) (TellsHeard cpus) (RefusesHeard cpus) core made answer
    → (count_made made ≡ one_entry answer)
    × ((answer ≡ Err (fault.Core (error.BadCpus cpus))) ↔ ((cpus ≡ 0) ⊎ (4294967295 < cpus)))
    × IfErr answer (λ e. (e ≡ fault.Core (error.BadCpus cpus)) ⊎ (e ≡ fault.Memory))
heard_made server nonce cpus key now core (Some e) answer gives = (
  one_ok answer _ gives.1.1,
  (λ bad. absurd (cc (gives.1.1, bad)), λ z. absurd (in_range cpus gives.1.0 z)),
  if_ok (λ e. (e ≡ fault.Core (error.BadCpus cpus)) ⊎ (e ≡ fault.Memory)) answer _ gives.1.1,
)
heard_made server nonce cpus key now core None answer gives = not_heard (hears cpus) cpus answer refl gives

pub was_heard : (server : Addr) (nonce cpus : ℕ) (key : List ℕ) (old new : Told) (clock ticked : Moments)
    (answer : Result HeartbeatServerResult SchedFault)
    → IsHeard server nonce cpus key old new clock ticked answer → WasHeard cpus old new clock ticked answer
was_heard server nonce cpus key old new clock ticked answer t =
    let is = heard_made server nonce cpus key t.step.now (core_before new t.place) t.made answer t.step.gives
    in
    record {
      counted = counts_as answer t.place t.made old new is.0 t.added.counted;
      read = was_read t.step.now clock ticked t.step.read;
      bad_cpus = is.1;
      refused = is.2;
    }

-- ---- reports

one_verdict : (a : UpdateAnswer) (state : JobState) (answer : Result UpdateJobStateResult SchedFault)
    → answer ≡ faulted (verdict a state) → 1 ≡ one_entry answer
one_verdict Accepted state answer is = one_ok answer _ is
one_verdict Unknown state answer is = one_err answer (fault.Core error.UnknownJob) is
one_verdict Wrong state answer is = one_err answer (fault.Core error.WrongServer) is
one_verdict (Transition from) state answer is =
    one_err answer (fault.Core (error.BadTransition from state)) is

by_tests : (here follow : Bool) (from state : JobState) → follows from state ≡ follow
    → TellsUpdate state
    (faulted (verdict (if here then (if follow then Accepted else Transition from) else Wrong) state))
by_tests true true from state is = refl
by_tests true false from state is = (refl, is)
by_tests false follow from state is = tt {0}

told_by : (found : Option OpenRow) (server : Addr) (state : JobState)
    → TellsUpdate state (faulted (verdict (advance_by found server state) state))
told_by None server state = tt {0}
told_by (Some job) server state =
    by_tests (is_at job.server server) (follows job.state state) job.state state refl

reported_made : (job : JobId) (server : Addr) (state : JobState) (now : ℕ) (core : Core)
    (made : Option CoreEntry) (answer : Result UpdateJobStateResult SchedFault)
    → Gives (call.Update now server job state) TellsReported WantsMemory core made answer
    → (count_made made ≡ one_entry answer) × TellsUpdate state answer
reported_made job server state now core (Some e) answer gives =
    let is = gives.1 ∙ ap reported_by gives.0 in
    (one_verdict _ state answer is, subst (TellsUpdate state) (sym is) (told_by _ server state))
reported_made job server state now core None answer gives =
    (one_err answer fault.Memory gives, subst (TellsUpdate state) (sym gives) (tt {0}))

pub was_updated : (job : JobId) (server : Addr) (state : JobState) (old new : Told) (clock ticked : Moments)
    (answer : Result UpdateJobStateResult SchedFault)
    → IsUpdated job server state old new clock ticked answer → WasUpdated state old new clock ticked answer
was_updated job server state old new clock ticked answer t =
    let is = reported_made job server state t.step.now (core_before new t.place) t.made answer t.step.gives
    in
    record {
      counted = counts_as answer t.place t.made old new is.0 t.added.counted;
      read =
          was_read t.step.now clock ticked t.step.read;
      told = is.1;
    }

-- ---- status requests

counted_made : (now : ℕ) (core : Core) (made : Option CoreEntry)
    (answer : Result SchedulerStatusResult SchedFault)
    → Gives (call.Status now) TellsCounted WantsMemory core made answer
    → (count_made made ≡ one_entry answer) × IfErr answer (λ e. e ≡ fault.Memory)
counted_made now core (Some e) answer gives =
    (one_ok answer _ gives.1, if_ok (λ e. e ≡ fault.Memory) answer _ gives.1)
counted_made now core None answer gives =
    (one_err answer fault.Memory gives, if_err (λ e. e ≡ fault.Memory) answer fault.Memory gives refl)

pub was_counted : (old new : Told) (clock ticked : Moments)
    (answer : Result SchedulerStatusResult SchedFault)
    → IsCounted old new clock ticked answer → WasCounted old new clock ticked answer
was_counted old new clock ticked answer t =
    let is = counted_made t.step.now (core_before new t.place) t.made answer t.step.gives in
    record {
      counted = counts_as answer t.place t.made old new is.0 t.added.counted;
      read =
          was_read t.step.now clock ticked t.step.read;
      refused = is.1;
    }

-- ---- drains

drained_made : (server : Addr) (nonce : ℕ) (on : Bool) (now : ℕ) (core : Core) (made : Option CoreEntry)
    (answer : Result Bool SchedFault)
    → Gives (call.Drain now server nonce on) TellsDrained WantsMemory core made answer
    → (count_made made ≡ one_entry answer) × IfErr answer (λ e. e ≡ fault.Memory)
drained_made server nonce on now core (Some e) answer gives =
    (one_ok answer _ gives.1, if_ok (λ e. e ≡ fault.Memory) answer _ gives.1)
drained_made server nonce on now core None answer gives =
    (one_err answer fault.Memory gives, if_err (λ e. e ≡ fault.Memory) answer fault.Memory gives refl)

pub was_drained : (server : Addr) (nonce : ℕ) (on : Bool) (old new : Told) (clock ticked : Moments)
    (answer : Result Bool SchedFault) → IsDrained server nonce on old new clock ticked answer
    → WasDrained old new clock ticked answer
was_drained server nonce on old new clock ticked answer t =
    let is = drained_made server nonce on t.step.now (core_before new t.place) t.made answer t.step.gives in
    record {
      counted = counts_as answer t.place t.made old new is.0 t.added.counted;
      read = was_read t.step.now clock ticked t.step.read;
      refused = is.1;
    }
