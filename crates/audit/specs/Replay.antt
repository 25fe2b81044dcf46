-- Judging the core entries and the builds of a printed run, each over those before it.
use Rattle.std.specs.Prelude.{◌≡◌, ℕ, ◌==◌, ◌&&◌, nat_le, Bool, true, false, not, if◌then◌else◌, List, [], ◌∷◌}
use Rattle.std.specs.Prelude.{◌++◌, length, map, Option, Some, None, Result, Ok, Err}
use Rattle.std.specs.List.{list_any}
use Rattle.std.specs.Option.{option_map}
use Rattle.dist_types.specs.Addr.{◌>>=◌}
use Rattle.dist_types.specs.declared.ids.JobId.{JobId}
use Rattle.dist_types.specs.declared.rules.Rules.{Rules}
use Rattle.dist_types.specs.declared.rules.Rules.TheVariants.{One, Two}
use Rattle.core_rules.specs.declared.entry.CoreEntry.{CoreEntry}
use Rattle.core_rules.specs.declared.call.Call.{Call}
use Rattle.core_rules.specs.declared.call.Call.TheVariants as call
use Rattle.core_rules.specs.Log.{Core, logged, names_job, same_job}
use Rattle.core_rules.specs.Same.{same_but_key}
use Rattle.core_rules.specs.Reservation.{Booking, unspent, claims_by}
use Rattle.core_rules.specs.Rule.{rule, IsCall, is_among, is_initial}
use Rattle.core_rules.specs.Calls.{call_by}
use Rattle.audit.specs.Keyless.{keyless}
use Rattle.core_rules.specs.declared.entry.CoreKind.{CoreKind}
use Rattle.core_rules.specs.declared.entry.CoreKind.TheVariants as core
use Rattle.core_rules.specs.Ticket.{Ticket}
use Rattle.audit.specs.declared.mark.Mark.{Mark}
use Rattle.audit.specs.declared.mark.Mark.TheVariants as mark
use Rattle.line_program.specs.declared.why.Why.{Why}
use Rattle.line_program.specs.declared.why.Why.TheVariants as why

-- The entry is the rule's for some call, whatever key a heartbeat had.
abbrev pub IsRuleButKey : Core → CoreEntry → Type 0
IsRuleButKey s e = (c : Call) × IsCall s c × (same_but_key (rule s c) e ≡ true)

-- whether the rules are those of version 2
abbrev pub is_two : Rules → Bool
is_two One = false
is_two Two = true

-- what a call asks of its arguments and of the rules: a commit to pending or ready, 1 to 4294967295
-- processors, version 2 for a drain
abbrev pub is_call : Rules → Call → Bool
is_call rules (call.Commit now number job state) = is_initial state
is_call rules (call.Beat now server nonce cpus key) = nat_le 1 cpus && nat_le cpus 4294967295
is_call rules (call.Drain now server nonce on) = is_two rules
is_call rules other = true

-- the call, where it asks nothing that fails
abbrev pub checked : Rules → Call → Option Call
checked rules c = if is_call rules c then Some c else None

-- the one call that an entry of this kind over the log can be of, under an empty key, if it may be made
abbrev pub due_by : Core → ℕ → CoreKind → Option Call
due_by s now kind = call_by s.log now (keyless kind) >>= checked s.start.rules

-- the entry that the rule gives for a call, where the entry that is told is the same but for its key
abbrev pub same_rule : Core → CoreEntry → Call → Option CoreEntry
same_rule s e c = if same_but_key (rule s c) e then Some (rule s c) else None

-- the entry that the rule gives for the call of an entry, where the two are the same but for the key
abbrev pub replayed : Core → CoreEntry → Option CoreEntry
replayed s e = due_by s e.now e.kind >>= same_rule s e

-- the scheduler behind a core entry that has the number that is due and is the rule's
abbrev pub judged : Core → ℕ → CoreEntry → Option Core
judged s number e = if number == length s.log then option_map (logged s) (replayed s e) else None

-- whether an earlier entry accepted that the job's build has begun
abbrev pub is_begun : List CoreEntry → JobId → Bool
is_begun log job = list_any (λ e. claims_by e.kind job) log

-- the scheduler, and the jobs that were built
pub record Judged : Type 0 where
  pub core : Core
  pub built : List JobId

-- behind a core entry, if it is good
abbrev pub behind_core : ℕ → List JobId → Option Core → Result Judged (ℕ × Why)
behind_core line built None = Err (line, why.Core)
behind_core line built (Some core) = Ok (record { core = core; built = built })

-- one mark more, or its line and why it is refused
abbrev pub judge : Judged → Mark → Result Judged (ℕ × Why)
judge j (mark.Core line number e) = behind_core line j.built (judged j.core number e)
judge j (mark.Built line job) = if is_begun j.core.log job && not (names_job j.built job)
    then Ok (record { core = j.core; built = j.built ++ job ∷ [] }) else Err (line, why.Build)

-- the next step behind a mark that is good
abbrev pub judge_then : Result Judged (ℕ × Why) → (Judged → Result Judged (ℕ × Why)) → Result Judged (ℕ × Why)
judge_then (Ok j) f = f j
judge_then (Err x) f = Err x

-- the marks in order, or the first that is refused
unfoldable pub judge_all : Judged → List Mark → Result Judged (ℕ × Why)
judge_all j [] = Ok j
judge_all j (m ∷ ms) = judge_then (judge j m) (λ k. judge_all k ms)

-- ---- the code's own

-- a reservation, as it is known by
abbrev pub ticket_key : Ticket → ℕ × JobId
ticket_key t = (t.number, t.job)

abbrev pub booking_key : Booking → ℕ × JobId
booking_key b = (b.number, b.job)

-- A call was made, and the scheduler is behind its entry; or none may be made.
abbrev pub IsCalled : Bool → Option Call → Core → Core → Type 0
IsCalled true o old new = (c : Call) × (o ≡ Some c) × (new ≡ logged old (rule old c))
IsCalled false o old new = o ≡ None

-- whether it is good, and what it left then
abbrev pub IsLeft : {A : Type 0} → Bool → Option A → A → Type 0
IsLeft true o x = o ≡ Some x
IsLeft false o x = o ≡ None

-- what was refused, if anything; else what was left
abbrev pub IsJudged : Option (ℕ × Why) → Result Judged (ℕ × Why) → Judged → Type 0
IsJudged None given j = given ≡ Ok j
IsJudged (Some x) given j = given ≡ Err x

-- ---- the laws

-- unspent reservations of one job have one number, as in each legal log
abbrev pub HasOneNumber : List CoreEntry → Type 0
HasOneNumber log = (a b : ℕ) (j k : JobId) → is_among (unspent log) a j ≡ true → is_among (unspent log) b k ≡ true
    → same_job k j ≡ true → a ≡ b
