-- A reservation at the last own place is unspent.
use Rattle.std.proofs.Common.{◌≡◌, ℕ, zero, suc, ◌+◌, ◌≤◌, List, [], ◌∷◌, ◌++◌, length, take, drop, Bool}
use Rattle.std.proofs.Common.{true, false}
use Rattle.std.proofs.Common.{Option, Some, None, Result, Ok, Err, refl, sym, ap, ◌∙◌, subst, arith}
use Rattle.std.specs.Prelude.{slice_get, IfOk}
use Rattle.std.specs.List.{AllByRecursion}
use mathlib.Core.List.{IsPrefix}
use mathlib.Core.Logic.{dite}
use native.Mathlib.Decide.{dec_le}
use Rattle.atomic_table.specs.Seated.{TableId}
use Rattle.core_rules.specs.Laws.{Reserves}
use Rattle.core_rules.specs.Log.{Core, same_job}
use Rattle.core_rules.specs.Reservation.{spends_by, unspent}
use Rattle.core_rules.specs.Rule.{is_among, rule}
use Rattle.core_rules.specs.Standing.{reserves_job}
use Rattle.core_rules.specs.Ticket.{Ticket}
use Rattle.core_rules.specs.declared.call.Call.{Call}
use Rattle.core_rules.specs.declared.call.Call.TheVariants as call
use Rattle.core_rules.specs.declared.entry.CoreEntry.{CoreEntry}
use Rattle.core_rules.specs.declared.entry.CoreKind.{CoreKind}
use Rattle.core_rules.specs.declared.entry.CoreKind.TheVariants.{Reserve, Commit, Undo, Beat, Update, Status}
use Rattle.core_rules.specs.declared.entry.CoreKind.TheVariants.{Drain}
use Rattle.core_rules.specs.declared.entry.Reserved.TheVariants.{Job, NoRoom, Spent}
use Rattle.core_rules.proofs.AllLemmas.{same_job-eq, same_job-refl}
use Rattle.core_rules.proofs.OwnLemmas.{own-made, own-through}
use Rattle.dist_types.specs.declared.ids.JobId.{JobId}
use Rattle.dist_types.specs.declared.outgoing.CallFault.{CallFault}
use Rattle.dist_types.specs.declared.results.AssignJobResult.{AssignJobResult}
use Rattle.sched_core.specs.Picked.{IsPicked}
use Rattle.sched_core.specs.declared.answers.Picked.{Picked}
use Rattle.sched_core.specs.declared.answers.Picked.TheVariants as picked
use Rattle.scheduler_steps.specs.Settling.{spend_call, TellsSettle, RefusesSettle}
use Rattle.scheduler_steps.specs.Step.{Gives, IsStep}
use Rattle.scheduler_steps.specs.Telling.{TellsReserve, WantsMemory}
use Rattle.scheduler_steps.specs.declared.fault.SchedFault.{SchedFault}
use Rattle.scheduler_steps.specs.declared.settled.Settled.{Settled}
use Rattle.sched.specs.Course.{Never}
use Rattle.sched.specs.Hand.{Begins, HasPicked, IsLastOwn}
use Rattle.sched.specs.Lists.{Has, times, AreBelow}
use Rattle.sched.specs.Outside.{Moments}
use Rattle.sched.specs.Pass.{Told}
use Rattle.sched.specs.Rule.{Seen, SpendsOwn, IsOwnSpending}
use Rattle.sched.specs.Turn.{IsTurn, core_before}
use Rattle.sched.specs.View.{told_of, told_by, IsPass}
use Rattle.sched.specs.declared.view.View.{View}
use Rattle.sched.proofs.PrefixLemmas.{prefix_get, got_below, length_take}
use Rattle.sched.proofs.RisingLemmas.{times_above}
use Rattle.sched.proofs.SumLemmas.{times_last, only_same, only_other}

-- a list cut at one of its places
cut_at : {A : Type 0} (xs : List A) (k : ℕ) (x : A) → slice_get xs k ≡ Some x
    → xs ≡ (take k xs ++ x ∷ []) ++ drop (suc k) xs
cut_at [] k x h = absurd (cc h)
cut_at (y ∷ xs) zero x h = let same : y ≡ x = cc h in ap (λ z. z ∷ xs) same
cut_at (y ∷ xs) (suc k) x h = ap (λ l. y ∷ l) (cut_at xs k x h)

get_drop : {A : Type 0} (n k : ℕ) (xs : List A) → slice_get (drop n xs) k ≡ slice_get xs (n + k)
get_drop zero k xs = let e : k ≡ 0 + k = omega arith in ap (slice_get xs) e
get_drop (suc n) k [] = refl
get_drop (suc n) k (x ∷ xs) =
    let e : suc n + k ≡ suc (n + k) = omega arith in get_drop n k xs ∙ ap (slice_get (x ∷ xs)) (sym e)

-- what holds at each place holds of all
each_place : {A : Type 0} (P : A → Type 0) (xs : List A) → ((k : ℕ) (x : A) → slice_get xs k ≡ Some x → P x)
    → AllByRecursion P xs
each_place P [] at = tt
each_place P (x ∷ xs) at = (at 0 x refl, each_place P xs (λ k y there. at (suc k) y there))

not_true : (b : Bool) → (b ≡ true → ⊥) → b ≡ false
not_true true never = absurd (never refl)
not_true false never = refl

-- an entry that reserves the job
reserves_as : (k : CoreKind) (job : JobId) → reserves_job k job ≡ true
    → (reg : ℕ) × (forgiven : List ℕ) × (k ≡ Reserve (Job job reg forgiven))
reserves_as (Reserve (Job j reg forgiven)) job is =
    (reg, forgiven, ap (λ (x : JobId). Reserve (Job x reg forgiven)) (same_job-eq j job is))
reserves_as (Reserve (NoRoom n)) job is = absurd (cc is)
reserves_as (Reserve Spent) job is = absurd (cc is)
reserves_as (Commit j state kept) job is = absurd (cc is)
reserves_as (Undo j noted ended) job is = absurd (cc is)
reserves_as (Beat server nonce cpus key pruned reaped replaced is_new) job is = absurd (cc is)
reserves_as (Update server j state answer) job is = absurd (cc is)
reserves_as (Status pruned servers cpus n) job is = absurd (cc is)
reserves_as (Drain server nonce on reg) job is = absurd (cc is)

-- a reservation behind which nothing is own is unspent
unspent_own : (front log : List CoreEntry) (own : List ℕ) (number : ℕ) (job : JobId) → IsPrefix front log
    → SpendsOwn log own → Reserves front number job → Has number own → ((k : ℕ) → Has k own → k ≤ number)
    → is_among (unspent log) number job ≡ true
unspent_own front log own number job begins spends reserved has last =
    let e = reserved.0 in
    let at = prefix_get front log number e begins reserved.1 in
    let kind = reserves_as e.kind job reserved.2 in
    let len : length (take number log) ≡ number = length_take log number (got_below log number e at) in
    let made : is_among (unspent (take number log ++ e ∷ [])) number job ≡ true =
    subst (λ (n : ℕ). is_among (unspent (take number log ++ e ∷ [])) n job ≡ true) len
    (own-made (take number log) e job kind.0 kind.1 kind.2) in
    let apart : AllByRecursion (λ (d : CoreEntry). spends_by d.kind job ≡ false) (drop (suc number) log) =
    each_place (λ (d : CoreEntry). spends_by d.kind job ≡ false) (drop (suc number) log)
    (λ k x there. not_true (spends_by x.kind job) (λ is.
    let mine = spends number (suc number + k) (record {
      job = job;
      later = omega arith;
      reserved = (e, at, reserved.2);
      spent = (x, sym (get_drop (suc number) k log) ∙ there, is);
    }) has in
    let low = last (suc number + k) mine in
    omega arith)) in
    subst (λ (l : List CoreEntry). is_among (unspent l) number job ≡ true) (sym (cut_at log number e at))
    (own-through (take number log ++ e ∷ []) (drop (suc number) log) number job made apart)

-- the reservation at the last own place of a pass is unspent in the log that its turn finds
pub own_is_unspent : (entries passes : ℕ) (of : TableId) (views : List View) (w : View) (before : Seen)
    (told : Told)
    (number : ℕ) (job : JobId) (p : IsPass entries passes views) → Begins p.view w before
    → told_by of views ≡ told
    → IsLastOwn told number job → is_among (unspent before.core.log) number job ≡ true
own_is_unspent entries passes of views w before told number job p b told_is mine =
    let m : IsLastOwn (told_of of p.view) number job =
    subst (λ (t : Told). IsLastOwn t number job) (sym told_is ∙ ap (told_by of) p.is) mine in
    ap (λ (d : Seen). is_among (unspent d.core.log) number job) b.desk_is
    ∙ unspent_own p.view.front b.log p.view.own number job b.front b.spends m.reserved m.own m.last

-- so its spending is never refused
by_made : (core : Core) (r : Ticket) (heard : Result AssignJobResult CallFault) (asked : Call)
    (made : Option CoreEntry) (settled : Settled) → is_among (unspent core.log) r.number r.job ≡ true
    → Gives asked (TellsSettle r heard) (RefusesSettle r heard) core made settled
    → Gives asked (TellsSettle r heard) Never core made settled
by_made core r heard asked None settled own gives = absurd (cc (own, gives.0))
by_made core r heard asked (Some e) settled own gives = gives

never_refused : (asked : Call) (r : Ticket) (heard : Result AssignJobResult CallFault) (core after : Core)
    (settled : Settled) → is_among (unspent core.log) r.number r.job ≡ true
    → IsStep asked (TellsSettle r heard) (RefusesSettle r heard) core after settled
    → IsStep asked (TellsSettle r heard) Never core after settled
never_refused asked r heard core after settled own step =
    record {
      made = step.made;
      left = step.left;
      gives =
          by_made core r heard asked step.made settled own step.gives;
    }

pub settles_own : (asked : Call) (r : Ticket) (heard : Result AssignJobResult CallFault) (entries passes : ℕ)
    (of : TableId) (views : List View) (w : View) (state after : Core) (n : ℕ) (before : Seen) (told : Told)
    (settled : Settled) (p : IsPass entries passes views) → record { core = state; made = n } ≡ before
    → Begins p.view w before → told_by of views ≡ told → IsLastOwn told r.number r.job
    → IsStep asked (TellsSettle r heard) (RefusesSettle r heard) state after settled
    → IsStep asked (TellsSettle r heard) Never state after settled
settles_own asked r heard entries passes of views w state after n before told settled p is b told_is mine
    step =
    never_refused asked r heard state after settled
    (ap (λ (d : Seen). is_among (unspent d.core.log) r.number r.job) is
    ∙ own_is_unspent entries passes of views w before told r.number r.job p b told_is mine) step

-- the spending of one's own reservation
spends_only : (now : ℕ) (r : Ticket) (heard : Result AssignJobResult CallFault) (core : Core) (job : JobId)
    → spends_by (rule core (spend_call now r heard)).kind job ≡ true → same_job r.job job ≡ true
spends_only now r (Ok taken) core job is = is
spends_only now r (Err cause) core job is = is

pub spends_mine : (entries passes : ℕ) (of : TableId) (views : List View) (told : Told) (now : ℕ)
    (r : Ticket)
    (heard : Result AssignJobResult CallFault) (p : IsPass entries passes views) → told_by of views ≡ told
    → IsLastOwn told r.number r.job → (log : List CoreEntry) → IsPrefix p.view.front log
    → IsOwnSpending log p.view.own
    (rule (record { start = p.view.start; log = log }) (spend_call now r heard))
spends_mine entries passes of views told now r heard p told_is mine log begins job is =
    let m : IsLastOwn (told_of of p.view) r.number r.job =
    subst (λ (t : Told). IsLastOwn t r.number r.job) (sym told_is ∙ ap (told_by of) p.is) mine in
    let same : r.job ≡ job = same_job-eq r.job job
    (spends_only now r heard (record { start = p.view.start; log = log }) job is) in
    let reserved = m.reserved in (
      r.number,
      m.own,
      (
        reserved.0,
        prefix_get p.view.front log r.number reserved.0 begins reserved.1,
        ap (reserves_job reserved.0.kind) (sym same) ∙ reserved.2,
      ),
    )

-- the reservation that a turn made

last_at : {A : Type 0} (key_of : A → List ℕ) (token_for : A → ℕ → List ℕ) (told new : Told) (place : ℕ)
    (e : CoreEntry) (r : Ticket) → new.own ≡ told.own ++ place ∷ [] → length new.front ≡ place + 1
    → slice_get new.front place ≡ Some e → AreBelow (length told.front) told.own → length told.front ≤ place
    → (k : CoreKind) → e.kind ≡ k → IsPicked key_of token_for (take place new.front) k (picked.Reserved r)
    → IsLastOwn new r.number r.job
last_at key_of token_for told new place e r own ends there low later
    (Reserve (Job job reg forgiven)) kind t =
    let number : r.number ≡ place = t.number ∙ length_take new.front place (omega arith) in
    record {
      own = omega (
        arith,
        number,
        ap (times r.number) own,
        times_last r.number place told.own,
        only_same r.number place (sym number),
      );
      reserved = (
        e,
        ap (slice_get new.front) number ∙ there,
        ap (λ (x : CoreKind). reserves_job x r.job) kind
            ∙ (ap (λ (j : JobId). same_job job j) t.job ∙ same_job-refl job),
      );
      last = λ k has. dite (dec_le k r.number) (λ le. le) (λ more. absurd (omega (
        arith,
        number,
        has,
        ap (times k) own,
        times_last k place told.own,
        only_other k place (λ same. more (omega (arith, number))),
        times_above (length told.front) told.own k low (omega (arith, number, later)),
      )));
    }
last_at key_of token_for told new place e r own ends there low later (Reserve (NoRoom n)) kind t = absurd t
last_at key_of token_for told new place e r own ends there low later (Reserve Spent) kind t = absurd t
last_at key_of token_for told new place e r own ends there low later (Commit j state kept) kind t = absurd t
last_at key_of token_for told new place e r own ends there low later (Undo j noted ended) kind t = absurd t
last_at key_of token_for told new place e r own ends there low later
    (Beat server nonce cpus key pruned reaped replaced is_new) kind t = absurd t
last_at key_of token_for told new place e r own ends there low later (Update server j state answer) kind t =
    absurd t
last_at key_of token_for told new place e r own ends there low later (Status pruned servers cpus n) kind t =
    absurd t
last_at key_of token_for told new place e r own ends there low later (Drain server nonce on reg) kind t =
    absurd t

has_picked : {A : Type 0} (key_of : A → List ℕ) (token_for : A → ℕ → List ℕ) (told new : Told)
    (clock ticked : Moments) (p : Picked)
    (t : IsTurn (λ now. call.Reserve now) (TellsReserve key_of token_for)
    WantsMemory told new clock ticked (Ok p)) → AreBelow (length told.front) told.own
    → (made : Option CoreEntry)
    → t.made ≡ made → HasPicked new p
has_picked key_of token_for told new clock ticked (picked.NoRoom n) t low made is = tt
has_picked key_of token_for told new clock ticked (picked.Reserved r) t low None is =
    let none : Gives (call.Reserve t.step.now) (TellsReserve key_of token_for) WantsMemory
    (core_before new t.place)
    None (Ok (picked.Reserved r)) = rw is at t.step.gives in
    absurd (cc none)
has_picked key_of token_for told new clock ticked (picked.Reserved r) t low (Some e) is =
    let gives : Gives (call.Reserve t.step.now) (TellsReserve key_of token_for) WantsMemory
    (core_before new t.place)
    (Some e) (Ok (picked.Reserved r)) = rw is at t.step.gives in
    let own = rw is at t.added.own in
    let ends = rw is at t.ends in
    let there = rw is at t.step.there in
    let later = rw is at t.added.later in
    last_at key_of token_for told new t.place e r own ends there low later.0 e.kind refl gives.1

pub picked_if : {A : Type 0} (key_of : A → List ℕ) (token_for : A → ℕ → List ℕ) (told new : Told)
    (clock ticked : Moments) (answer : Result Picked SchedFault) → IsTurn (λ now. call.Reserve now)
    (TellsReserve key_of token_for) WantsMemory told new clock ticked answer
    → AreBelow (length told.front) told.own → IfOk answer (HasPicked new)
picked_if key_of token_for told new clock ticked (Ok p) t low =
    has_picked key_of token_for told new clock ticked p t low t.made refl
picked_if key_of token_for told new clock ticked (Err fault) t low = tt
