-- What a reserve for a client leaves, by what it picked or why it is refused.
use Rattle.std.proofs.Common.{◌≡◌, ℕ, ◌+◌, ◌-◌, ◌<◌, ◌≤◌, ◌^◌, ◌%◌, List, [], ◌∷◌, ◌++◌, Bool, true, false}
use Rattle.std.proofs.Common.{◌&&◌, map, length, Option, Some, None, Err, refl, ap, ◌∙◌, sym}
use Rattle.std.proofs.Common.{subst, arith}
use Rattle.std.proofs.Common.{append-nil}
use Rattle.std.specs.Prelude.{slice_get, ◌==◌, if◌then◌else◌}
use Rattle.std.proofs.lemmas.Bool.{eqb-true}
use Rattle.std.proofs.lemmas.List.{map-append}
use Rattle.core_rules.specs.declared.entry.CoreEntry.{CoreEntry}
use Rattle.core_rules.specs.declared.entry.CoreKind.{CoreKind}
use Rattle.core_rules.specs.declared.entry.CoreKind.TheVariants.{Reserve}
use Rattle.core_rules.specs.declared.entry.Reserved.{Reserved}
use Rattle.core_rules.specs.declared.entry.Reserved.TheVariants.{Job, NoRoom, Spent}
use Rattle.core_rules.specs.declared.error.SchedError.{SchedError}
use Rattle.core_rules.specs.declared.error.SchedError.TheVariants as error
use Rattle.core_rules.specs.declared.call.Call.TheVariants as call
use Rattle.core_rules.specs.declared.rows.ServerRow.{ServerRow}
use Rattle.core_rules.specs.Answers.{Leaves, RefusesReserve}
use Rattle.core_rules.specs.Log.{Core, logged}
use Rattle.core_rules.specs.Pick.{pick, forgiven}
use Rattle.core_rules.specs.Reservation.{bookings}
use Rattle.core_rules.specs.Rows.{servers_of}
use Rattle.core_rules.specs.Rule.{rule, reserved_at}
use Rattle.sched_core.specs.Picked.{IsReservedAs, IsPicked}
use Rattle.sched_core.specs.declared.answers.Picked.{Picked}
use Rattle.sched_core.specs.declared.answers.Picked.TheVariants as picked
use Rattle.quota.specs.Asked.{IsReserve, fault_of}
use Rattle.quota.specs.Clients.{Client}
use Rattle.quota.specs.Holdings.{Owned, Held, count_of, owner_of, owned_after}
use Rattle.quota.specs.Kept.{Agree, AreWithin, IsKept, FollowsIn, owned_picked}
use Rattle.quota.specs.Quota.{logged_for}
use Rattle.quota.proofs.AgreeLemmas.{agree_next, next_owned, new_owner}
use Rattle.quota.proofs.ListLemmas.{counted_push, one_if}
use Rattle.quota.proofs.QuotaLemmas.{made_length}
use Rattle.quota.proofs.KeptWords.{IsBelow, quota_of, owned_new}

-- what is picked has the next number, and its job's id follows
pub record Follows (log : List CoreEntry) (base given client : ℕ) (kind : CoreKind) (p : Picked) : Type 0
  where
    pub kept : owned_picked p client ≡ owned_new kind (length log) client
    pub id : (held : Held) → held.first + length held.owned ≡ base + given → FollowsIn p held

picked_job : {A : Type 0} (key_of : A → List ℕ) (token_for : A → ℕ → List ℕ) (log : List CoreEntry)
    (row : ServerRow) (rows : List ServerRow) (now base given client : ℕ) (p : Picked) (spent : Bool)
    → IsReservedAs key_of token_for log (if spent then Spent
    else Job (record { 0 = (base + given) % 2 ^ 64 }) row.reg (forgiven now rows)) (Some p)
    → Follows log base given client (Reserve (if spent then Spent
    else Job (record { 0 = (base + given) % 2 ^ 64 }) row.reg (forgiven now rows))) p
picked_job key_of token_for log row rows now base given client (picked.Reserved r) true is = absurd is
picked_job key_of token_for log row rows now base given client (picked.NoRoom n) true is = absurd is
picked_job key_of token_for log row rows now base given client (picked.NoRoom n) false is = absurd is
picked_job key_of token_for log row rows now base given client (picked.Reserved r) false is = record {
  kept = rw (is.number, is.job, is.reg) refl;
  id = λ held same. ap (λ j. j.0) is.job ∙ ap (λ n. n % 2 ^ 64) (sym same);
}

pub picked_follows : {A : Type 0} (key_of : A → List ℕ) (token_for : A → ℕ → List ℕ) (log : List CoreEntry)
    (there : Option ServerRow) (rows : List ServerRow) (now base given client : ℕ) (p : Picked)
    → IsReservedAs key_of token_for log (reserved_at there rows now base given) (Some p)
    → Follows log base given client (Reserve (reserved_at there rows now base given)) p
picked_follows key_of token_for log None rows now base given client (picked.Reserved r) is = absurd is
picked_follows key_of token_for log None rows now base given client (picked.NoRoom n) is =
    record { kept = refl; id = λ held same. tt }
picked_follows key_of token_for log (Some row) rows now base given client p is =
    picked_job key_of token_for log row rows now base given client p (given == 2 ^ 64 - 1) is

-- the entry of a reserve
abbrev pub entry_of : Core → ℕ → CoreEntry
entry_of core now = rule core (call.Reserve now)

-- what was picked by a reserve of a kept scheduler
pub follows : {A : Type 0} (key_of : A → List ℕ) (token_for : A → ℕ → List ℕ) (core : Core)
    (clients : List Client) (held : Held) (now client : ℕ) (p : Picked) → IsKept core clients held
    → IsPicked key_of token_for core.log (entry_of core now).kind p → FollowsIn p held
follows key_of token_for core clients held now client p kept is =
    let given = core.start.count + length (bookings core.log) in
    let made = made_length core.log held.owned kept.agree in
    let first = kept.first in
    let begins = kept.begins in
    (picked_follows key_of token_for core.log (pick (servers_of core.log)) (servers_of core.log) now
    core.start.base given client p is).id held (omega (arith, made, first, begins))

pub picked_kept : {A : Type 0} (key_of : A → List ℕ) (token_for : A → ℕ → List ℕ) (core : Core)
    (now client : ℕ) (p : Picked) → IsPicked key_of token_for core.log (entry_of core now).kind p
    → owned_picked p client ≡ owned_new (entry_of core now).kind (length core.log) client
picked_kept key_of token_for core now client p is =
    (picked_follows key_of token_for core.log (pick (servers_of core.log)) (servers_of core.log) now
    core.start.base (core.start.count + length (bookings core.log)) client p is).kept

-- a reserve ends nothing
reserve_leaves : (r : Reserved) (owned : List Owned) → map (owned_after (Reserve r)) owned ≡ owned
reserve_leaves r [] = refl
reserve_leaves r (o ∷ owned) =
    ap (λ b. record o { unended = b } ∷ map (owned_after (Reserve r)) owned) (and_yes o.unended)
    ∙ ap (λ l. o ∷ l) (reserve_leaves r owned)
  where
    and_yes : (b : Bool) → (b && true) ≡ b
    and_yes true = refl
    and_yes false = refl

and_none : (b : Bool) → one_if (b && false) ≡ 0
and_none true = refl
and_none false = refl

at_most_one : (b : Bool) → one_if b ≤ 1
at_most_one true = omega arith
at_most_one false = omega arith

-- one reservation more leaves a client within its limit that was below it
within_one : (clients : List Client) (owned : List Owned) (o : Owned)
    → AreWithin clients owned → IsBelow clients owned o.client → AreWithin clients (owned ++ o ∷ [])
within_one clients owned o within below place c is = by (o.client == place) refl
  where
    by : (t : Bool) → (o.client == place) ≡ t → count_of (owned ++ o ∷ []) place ≤ c.limit
    by true e =
        let same : o.client ≡ place = eqb-true o.client place e in
        let less = below c (ap (slice_get clients) same ∙ is) in
        let fewer = subst (λ n. count_of owned n < c.limit) same less in
        let all = counted_push (λ q. q.unended && (q.client == place)) owned o in
        let most = at_most_one (o.unended && (o.client == place)) in
        omega (arith, fewer, all, most)
    by false e =
        let before = within place c is in
        let all = counted_push (λ q. q.unended && (q.client == place)) owned o in
        let none = ap (λ b. one_if (o.unended && b)) e ∙ and_none o.unended in
        omega (arith, before, all, none)

within_new : (r : Reserved) (clients : List Client) (owned : List Owned) (number client : ℕ)
    → AreWithin clients owned → IsBelow clients owned client
    → AreWithin clients (owned ++ owned_new (Reserve r) number client)
within_new (Job job reg forgot) clients owned number client within below =
    within_one clients owned (record {
      number = number;
      job = job;
      reg = reg;
      client = client;
      unended =
          true;
    })
    within below
within_new (NoRoom n) clients owned number client within below =
    subst (AreWithin clients) (sym (append-nil owned)) within
within_new Spent clients owned number client within below =
    subst (AreWithin clients) (sym (append-nil owned)) within

-- what became of a reserve
abbrev pub reserved_of : Core → ℕ → Reserved
reserved_of core now = reserved_at (pick (servers_of core.log)) (servers_of core.log) now core.start.base
    (core.start.count + length (bookings core.log))

-- the reservations after a reserve
next_reserved : (core : Core) (now client : ℕ) (owned : List Owned)
    → next_owned owned (entry_of core now) (length core.log) client
    ≡ owned ++ owned_new (entry_of core now).kind (length core.log) client
next_reserved core now client owned =
    ap (λ l. l ++ owned_new (entry_of core now).kind (length core.log) client)
    (reserve_leaves (reserved_of core now) owned)

-- a reserve for a client that holds less than it may leaves all kept
pub kept_reserved : (core : Core) (clients : List Client) (held : Held) (after : Held) (now client : ℕ)
    → IsKept core clients held → IsBelow clients held.owned client
    → after.owned ≡ held.owned ++ owned_new (entry_of core now).kind (length core.log) client
    → after.first ≡ held.first → after.clients ≡ held.clients
    → IsKept (logged core (entry_of core now)) clients after
kept_reserved core clients held after now client kept below owned first listed = record {
  first = first ∙ kept.first;
  begins = kept.begins;
  rules = kept.rules;
  listed = listed ∙ kept.listed;
  agree = subst (Agree (core.log ++ entry_of core now ∷ []))
      (next_reserved core now client held.owned ∙ sym owned)
      (agree_next core.log held.owned (entry_of core now) client kept.agree);
  within = subst (AreWithin clients) (sym owned)
      (within_new (reserved_of core now) clients held.owned (length core.log) client kept.within below);
}

-- and what contracts see then
pub seen_reserved : (core : Core) (clients : List Client) (owned after : List Owned) (now client : ℕ)
    → after ≡ owned ++ owned_new (entry_of core now).kind (length core.log) client
    → quota_of (logged core (entry_of core now)) clients after
    ≡ logged_for (quota_of core clients owned) client (entry_of core now)
seen_reserved core clients owned after now client is =
    ap (λ l. record { core = logged core (entry_of core now); clients = clients; owners = l })
    (ap (map owner_of) is
    ∙ map-append owner_of owned (owned_new (entry_of core now).kind (length core.log) client)
    ∙ ap (λ l. map owner_of owned ++ l)
    (new_owner (length core.log) client (entry_of core now).kind))

-- a reserve that is refused
pub not_reserved : {A : Type 0} (key_of : A → List ℕ) (token_for : A → ℕ → List ℕ) (core new : Core)
    (clients : List Client) (held after : Held) (now client : ℕ) (e : SchedError)
    → IsKept core clients held → IsBelow clients held.owned client → after ≡ held
    → RefusesReserve (entry_of core now).kind e → Leaves e core new (entry_of core now)
    → IsReserve key_of token_for now client (quota_of core clients held.owned)
    (quota_of new clients after.owned) (Err (fault_of e)) × IsKept new clients after
not_reserved key_of token_for core new clients held after now client error.IdsSpent kept below same spent
    left =
    let none : held.owned ≡ held.owned ++ owned_new (entry_of core now).kind (length core.log) client =
    sym (append-nil held.owned) ∙ ap (λ k. held.owned ++ owned_new k (length core.log) client) (sym spent) in
    subst (λ h. IsReserve key_of token_for now client (quota_of core clients held.owned)
    (quota_of new clients h.owned) (Err (fault_of error.IdsSpent)) × IsKept new clients h) (sym same)
    (subst (λ n. IsReserve key_of token_for now client (quota_of core clients held.owned)
    (quota_of n clients held.owned) (Err (fault_of error.IdsSpent)) × IsKept n clients held) (sym left) (
      (seen_reserved core clients held.owned held.owned now client none, spent),
      kept_reserved core clients held held now client kept below none refl refl,
    ))
not_reserved key_of token_for core new clients held after now client error.Memory kept below same refused
    left =
    subst (λ h. IsReserve key_of token_for now client (quota_of core clients held.owned)
    (quota_of new clients h.owned) (Err (fault_of error.Memory)) × IsKept new clients h) (sym same)
    (subst (λ n. IsReserve key_of token_for now client (quota_of core clients held.owned)
    (quota_of n clients held.owned) (Err (fault_of error.Memory)) × IsKept n clients held) (sym left)
    (refl, kept))
not_reserved key_of token_for core new clients held after now client (error.BadCpus cpus) kept below same
    refused
    left = absurd refused
not_reserved key_of token_for core new clients held after now client error.UnknownJob kept below same refused
    left = absurd refused
not_reserved key_of token_for core new clients held after now client error.WrongServer kept below same refused
    left = absurd refused
not_reserved key_of token_for core new clients held after now client (error.BadTransition from to) kept below
    same refused left = absurd refused
