-- An allocation, put together from its turns.
use Rattle.std.proofs.Common.{◌≡◌, ℕ, ◌+◌, ◌<◌, ◌≤◌, List, [], ◌∷◌, ◌++◌, length, take, Option, Some}
use Rattle.std.proofs.Common.{None, Result, Ok, refl, sym, ap, ◌∙◌, subst, arith, append_assoc}
use Rattle.std.specs.Prelude.{IfSome, slice_get}
use mathlib.Core.List.{IsPrefix}
use Rattle.dist_types.specs.Outgoing.{Assigned}
use Rattle.dist_types.specs.declared.dialer.Asked.{Asked}
use Rattle.dist_types.specs.declared.outgoing.CallFault.{CallFault}
use Rattle.dist_types.specs.declared.results.AllocJobResult.{AllocJobResult}
use Rattle.dist_types.specs.declared.results.AssignJobResult.{AssignJobResult}
use Rattle.core_rules.specs.Log.{Core}
use Rattle.core_rules.specs.Ticket.{Ticket}
use Rattle.core_rules.specs.declared.call.Call.{Call}
use Rattle.core_rules.specs.declared.call.Call.TheVariants as call
use Rattle.core_rules.specs.declared.entry.CoreEntry.{CoreEntry}
use Rattle.sched_core.specs.declared.answers.Picked.TheVariants.{Reserved}
use Rattle.scheduler_steps.specs.Settling.{judged, spend_call, TellsSettle, Answers}
use Rattle.scheduler_steps.specs.Step.{Gives}
use Rattle.scheduler_steps.specs.Telling.{TellsReserve, WantsMemory}
use Rattle.scheduler_steps.specs.declared.fault.SchedFault.{SchedFault}
use Rattle.scheduler_steps.specs.declared.settled.Settled.{Settled}
use Rattle.sched.specs.Course.{Never, IsAllocation}
use Rattle.sched.specs.Outside.{Moments, Requests, IsCalled}
use Rattle.sched.specs.Pass.{Told, Counted}
use Rattle.sched.specs.Turn.{IsTurn, IsCallAt, core_before}
use Rattle.sched.proofs.PrefixLemmas.{prefix_get, prefix_trans, take_within}

-- ---- a call of the core, as a later front shows it

core_same : (mid new : Told) (place : ℕ) → new.start ≡ mid.start → IsPrefix mid.front new.front
    → place < length mid.front → core_before new place ≡ core_before mid place
core_same mid new place start begins within =
    ap (λ s. record { start = s; log = take place new.front }) start
    ∙ ap (λ (l : List CoreEntry). record { start = mid.start; log = l })
    (take_within mid.front new.front place begins within)

there_later : (mid new : Told) (place : ℕ) (made : Option CoreEntry) → IsPrefix mid.front new.front
    → IfSome made (λ e. slice_get mid.front place ≡ Some e)
    → IfSome made (λ e. slice_get new.front place ≡ Some e)
there_later mid new place None begins there = tt
there_later mid new place (Some e) begins there = prefix_get mid.front new.front place e begins there

seen_later : {X : Type 0} (asked : ℕ → Call) (tells : Core → CoreEntry → X → Type 0) (refuses : Core → X
    → Type 0)
    (mid new : Told) (place : ℕ) (made : Option CoreEntry) (clock ticked : Moments) (answer : X)
    → new.start ≡ mid.start → IsPrefix mid.front new.front → place < length mid.front
    → IsCallAt asked tells refuses mid place made clock ticked answer
    → IsCallAt asked tells refuses new place made clock ticked answer
seen_later asked tells refuses mid new place made clock ticked answer start begins within step = record {
  now = step.now;
  read = step.read;
  there = there_later mid new place made begins step.there;
  gives = subst (λ (core : Core). Gives (asked step.now) tells refuses core made answer)
      (sym (core_same mid new place start begins within)) step.gives;
}

-- ---- a turn whose call made an entry

record Made (place : ℕ) (e : CoreEntry) (old new : Told) : Type 0 where
  pub ends : length new.front ≡ place + 1
  pub later : length old.front ≤ place
  pub begins : IsPrefix old.front new.front
  pub own : new.own ≡ old.own ++ place ∷ []
  pub counted : Counted 1 old new

made_one : {X : Type 0} (asked : ℕ → Call) (tells : Core → CoreEntry → X → Type 0) (refuses : Core → X
    → Type 0)
    (old new : Told) (clock ticked : Moments) (answer : X)
    (t : IsTurn asked tells refuses old new clock ticked answer)
    (e : CoreEntry) → t.made ≡ Some e → Made t.place e old new
made_one asked tells refuses old new clock ticked answer t e is = record {
  ends = rw is at t.ends;
  later = (rw is at t.added.later).0;
  begins = t.added.begins;
  own = rw is at t.added.own;
  counted = rw is at t.added.counted;
}

-- ---- a job was reserved, and its reservation spent

module _ {A : Type 0} (key_of : A → List ℕ) (token_for : A → ℕ → List ℕ) (says : Assigned → Asked → Type 0)
    (tc : List ℕ) (r : Ticket) (heard : Result AssignJobResult CallFault) (old mid new : Told)
    (clock ticking ticked : Moments) (before after : Requests) (settled : Settled)
    (answer : Result AllocJobResult SchedFault)
    (t : IsTurn (λ now. call.Reserve now) (TellsReserve key_of token_for) WantsMemory old mid clock ticking
    (Ok (Reserved r)))
    (u : IsTurn (λ now. spend_call now r (judged heard)) (TellsSettle r (judged heard)) Never mid new ticking
    ticked
    settled) (called : IsCalled says r tc heard before after) (told : Answers settled answer) where
  both : (e d : CoreEntry) → t.made ≡ Some e → u.made ≡ Some d
      → IsAllocation key_of token_for says tc old new clock ticked before after answer
  both e d made spent =
      let one = made_one _ _ _ old mid clock ticking _ t e made in
      let two = made_one _ _ _ mid new ticking ticked settled u d spent in
      let within : t.place < length mid.front = omega (arith, one.ends) in
      let later : t.place < u.place = omega (arith, one.ends, two.later) in
      record {
        places = t.place ∷ u.place ∷ [];
        added = record {
          begins = prefix_trans old.front mid.front new.front one.begins two.begins;
          later = (one.later, (omega (arith, one.later, later), tt));
          own = two.own ∙ (ap (λ (l : List ℕ). l ++ u.place ∷ []) one.own
              ∙ append_assoc old.own (t.place ∷ []) (u.place ∷ []));
          counted = record {
            of = two.counted.of ∙ one.counted.of;
            start = two.counted.start ∙ one.counted.start;
            count = omega (arith, one.counted.count, two.counted.count);
            held = two.counted.held ∙ one.counted.held;
            splits = two.counted.splits ∙ one.counted.splits;
          };
        };
        picked = Ok (Reserved r);
        ticking = ticking;
        place = t.place;
        made = t.made;
        step = seen_later (λ now. call.Reserve now) (TellsReserve key_of token_for) WantsMemory mid new
            t.place t.made
            clock ticking (Ok (Reserved r)) two.counted.start two.begins within t.step;
        follows = record {
          heard = heard;
          called = called;
          settled = settled;
          spent = u.place;
          spending = d;
          later = later;
          step = rw spent at u.step;
          ends = two.ends;
          places_are = refl;
          told = told;
        };
      }

  by_made : (m n : Option CoreEntry) → t.made ≡ m → u.made ≡ n
      → IsAllocation key_of token_for says tc old new clock ticked before after answer
  by_made None n made spent =
      let none : Gives (call.Reserve t.step.now) (TellsReserve key_of token_for) WantsMemory
      (core_before mid t.place)
      None (Ok (Reserved r)) = rw made at t.step.gives in
      absurd (cc none)
  by_made (Some e) None made spent = let never : ⊥ = rw spent at u.step.gives in absurd never
  by_made (Some e) (Some d) made spent = both e d made spent

  pub was_asked : IsAllocation key_of token_for says tc old new clock ticked before after answer
  was_asked = by_made t.made u.made refl refl
