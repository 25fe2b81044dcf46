-- An allocation, by its places.
use Rattle.std.proofs.Common.{◌≡◌, ℕ, List, take, Option, Some, None, Result, Ok, Err, refl}
use Rattle.std.proofs.Common.{sym, ap, ◌∙◌, subst, true}
use Rattle.std.specs.Prelude.{slice_get}
use Rattle.dist_types.specs.Outgoing.{Assigned}
use Rattle.dist_types.specs.declared.dialer.Asked.{Asked}
use Rattle.dist_types.specs.declared.ids.JobId.{JobId}
use Rattle.dist_types.specs.declared.results.AllocJobResult.{AllocJobResult}
use Rattle.core_rules.specs.Laws.{Reserves}
use Rattle.core_rules.specs.Log.{Core as Known, same_job}
use Rattle.core_rules.specs.Standing.{reserves_job}
use Rattle.core_rules.specs.Ticket.{Ticket}
use Rattle.core_rules.specs.declared.call.Call.{Call}
use Rattle.core_rules.specs.declared.call.Call.TheVariants as call
use Rattle.core_rules.specs.declared.entry.CoreEntry.{CoreEntry}
use Rattle.core_rules.specs.declared.entry.CoreKind.{CoreKind}
use Rattle.core_rules.specs.declared.entry.CoreKind.TheVariants.{Reserve, Commit, Undo, Beat, Update, Status}
use Rattle.core_rules.specs.declared.entry.CoreKind.TheVariants.{Drain}
use Rattle.core_rules.specs.declared.entry.Reserved.TheVariants.{Job, NoRoom, Spent}
use Rattle.core_rules.specs.declared.error.SchedError.TheVariants as error
use Rattle.sched_core.specs.Picked.{IsPicked}
use Rattle.sched_core.specs.declared.answers.Picked.{Picked}
use Rattle.sched_core.specs.declared.answers.Picked.TheVariants as picked
use Rattle.scheduler_steps.specs.Settling.{judged, spend_call, TellsSettle}
use Rattle.scheduler_steps.specs.Telling.{TellsReserve, WantsMemory}
use Rattle.scheduler_steps.specs.declared.fault.SchedFault.{SchedFault}
use Rattle.scheduler_steps.specs.declared.fault.SchedFault.TheVariants.{Core, AssignFailed, Memory}
use Rattle.sched.specs.Course.{GoesOn, IsAllocation, Never}
use Rattle.sched.specs.Outside.{Moments, Requests}
use Rattle.sched.specs.Pass.{Told, Adds}
use Rattle.sched.specs.Places.{IsEntered, WasAllocated, unmade, alone, both}
use Rattle.sched.specs.Turn.{IsCallAt, core_before}
use Rattle.sched.proofs.PrefixLemmas.{got_below, length_take}
use Rattle.core_rules.proofs.AllLemmas.{same_job-refl}

-- the entry that a call made is the rule's
entered : {X : Type 0} (asked : ℕ → Call) (tells : Known → CoreEntry → X → Type 0)
    (refuses : Known → X → Type 0) (new : Told) (place : ℕ) (e : CoreEntry) (clock ticked : Moments)
    (answer : X) (s : IsCallAt asked tells refuses new place (Some e) clock ticked answer)
    → IsEntered new place (asked s.now)
entered asked tells refuses new place e clock ticked answer s = s.there ∙ ap Some s.gives.0

module _ {A : Type 0} (key_of : A → List ℕ) (token_for : A → ℕ → List ℕ) (new : Told) (place : ℕ)
    (e : CoreEntry) (there : slice_get new.front place ≡ Some e) where
  -- a reservation that was picked has the place's number, and the entry there reserves its job
  ticket_at : (r : Ticket) (k : CoreKind) → e.kind ≡ k
      → IsPicked key_of token_for (take place new.front) k (picked.Reserved r)
      → (r.number ≡ place) × Reserves new.front place r.job
  ticket_at r (Reserve (Job job reg forgiven)) kind t = (
    t.number ∙ length_take new.front place (got_below new.front place e there),
    (
      e,
      there,
      ap (λ (x : CoreKind). reserves_job x r.job) kind
          ∙ (ap (λ (j : JobId). same_job job j) t.job ∙ same_job-refl job),
    ),
  )
  ticket_at r (Reserve (NoRoom n)) kind t = absurd t
  ticket_at r (Reserve Spent) kind t = absurd t
  ticket_at r (Commit j state kept) kind t = absurd t
  ticket_at r (Undo j noted ended) kind t = absurd t
  ticket_at r (Beat server nonce cpus key pruned reaped replaced is_new) kind t = absurd t
  ticket_at r (Update server j state answer) kind t = absurd t
  ticket_at r (Status pruned servers cpus n) kind t = absurd t
  ticket_at r (Drain server nonce on reg) kind t = absurd t

  reserves_by : (k : CoreKind) (job : JobId) → e.kind ≡ k → Reserves new.front place job
      → reserves_job k job ≡ true
  reserves_by k job kind d =
      let same : d.0 ≡ e = cc (d.1, there) in
      ap (λ (x : CoreKind). reserves_job x job) (sym kind)
      ∙ (ap (λ (x : CoreEntry). reserves_job x.kind job) (sym same) ∙ d.2)

  -- where none had room the entry reserves no job
  none_at : (n : ℕ) (k : CoreKind) → e.kind ≡ k
      → IsPicked key_of token_for (take place new.front) k (picked.NoRoom n)
      → (job : JobId) → Reserves new.front place job → ⊥
  none_at n (Reserve (Job j reg forgiven)) kind t job d = absurd t
  none_at n (Reserve (NoRoom s)) kind t job d =
      let h = reserves_by (Reserve (NoRoom s)) job kind d in absurd (cc h)
  none_at n (Reserve Spent) kind t job d = absurd t
  none_at n (Commit j state kept) kind t job d = absurd t
  none_at n (Undo j noted ended) kind t job d = absurd t
  none_at n (Beat server nonce cpus key pruned reaped replaced is_new) kind t job d = absurd t
  none_at n (Update server j state answer) kind t job d = absurd t
  none_at n (Status pruned servers cpus m) kind t job d = absurd t
  none_at n (Drain server nonce on reg) kind t job d = absurd t

  -- nor where the ids are spent
  spent_at : (core : Known) (fault : SchedFault) → TellsReserve key_of token_for core e (Err fault)
      → (job : JobId) → Reserves new.front place job → ⊥
  spent_at core (Core error.IdsSpent) t job d =
      let h = reserves_by (Reserve Spent) job t d in absurd (cc h)
  spent_at core (Core (error.BadCpus cpus)) t job d = absurd t
  spent_at core (Core error.UnknownJob) t job d = absurd t
  spent_at core (Core error.WrongServer) t job d = absurd t
  spent_at core (Core (error.BadTransition from to)) t job d = absurd t
  spent_at core (Core error.Memory) t job d = absurd t
  spent_at core (AssignFailed u cause) t job d = absurd t
  spent_at core Memory t job d = absurd t

module _ {A : Type 0} (key_of : A → List ℕ) (token_for : A → ℕ → List ℕ)
    (says : Assigned → Asked → Type 0) (tc : List ℕ) (old new : Told) (clock ticked : Moments)
    (before after : Requests) (answer : Result AllocJobResult SchedFault) where
  by_picked : (places : List ℕ) → Adds places old new → (ticking : Moments) (place : ℕ)
      (made : Option CoreEntry) (p : Result Picked SchedFault)
      → IsCallAt (λ now. call.Reserve now) (TellsReserve key_of token_for) WantsMemory new place made clock
      ticking p
      → GoesOn says tc p place made places new ticking ticked before after answer → WasAllocated old new
  by_picked places added ticking place None (Ok (picked.Reserved r)) s f = absurd (cc s.gives)
  by_picked places added ticking place None (Ok (picked.NoRoom n)) s f = absurd (cc s.gives)
  by_picked places added ticking place None (Err fault) s f = record {
    deed = unmade;
    added = subst (λ (ps : List ℕ). Adds ps old new) f.0.places_are added;
    runs = tt;
  }
  by_picked places added ticking place (Some e) (Ok (picked.Reserved r)) s f =
      let at = ticket_at key_of token_for new place e s.there r e.kind refl s.gives.1 in
      record {
        deed = both place r f.heard f.spent;
        added = subst (λ (ps : List ℕ). Adds ps old new) f.places_are added;
        runs = record {
          now = s.now;
          entered = entered (λ now. call.Reserve now) (TellsReserve key_of token_for) WantsMemory new place e
              clock ticking (Ok (picked.Reserved r)) s;
          number = at.0;
          reserved = at.1;
          later = f.later;
          moment = f.step.now;
          spending = entered (λ now. spend_call now r (judged f.heard)) (TellsSettle r (judged f.heard)) Never
              new f.spent f.spending ticking ticked f.settled f.step;
        };
      }
  by_picked places added ticking place (Some e) (Ok (picked.NoRoom n)) s f = record {
    deed = alone place;
    added = subst (λ (ps : List ℕ). Adds ps old new) f.0.places_are added;
    runs = record {
      now = s.now;
      entered = entered (λ now. call.Reserve now) (TellsReserve key_of token_for) WantsMemory new place e clock
          ticking (Ok (picked.NoRoom n)) s;
      none = none_at key_of token_for new place e s.there n e.kind refl s.gives.1;
    };
  }
  by_picked places added ticking place (Some e) (Err fault) s f = record {
    deed = alone place;
    added = subst (λ (ps : List ℕ). Adds ps old new) f.0.places_are added;
    runs = record {
      now = s.now;
      entered = entered (λ now. call.Reserve now) (TellsReserve key_of token_for) WantsMemory new place e clock
          ticking (Err fault) s;
      none = spent_at key_of token_for new place e s.there (core_before new place) fault s.gives.1;
    };
  }

  pub was_allocated : IsAllocation key_of token_for says tc old new clock ticked before after answer
      → WasAllocated old new
  was_allocated a = by_picked a.places a.added a.ticking a.place a.made a.picked a.step a.follows
