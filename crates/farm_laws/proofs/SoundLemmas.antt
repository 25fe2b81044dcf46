-- The core log of a run is legal, and the calls that wait have unspent reservations.
use Rattle.std.proofs.Common.{◌≡◌, ◌⊎◌, inl, inr, ℕ, ◌<◌, ◌^◌, true, false, List, [], ◌∷◌, ◌++◌, length, take}
use Rattle.std.proofs.Common.{Option, Some, None, refl, sym, ap, subst, ◌∙◌, append-nil, arith}
use Rattle.std.specs.Prelude.{slice_get, option_to_list}
use Rattle.std.proofs.lemmas.Bool.{cases_lt}
use Rattle.std.proofs.lemmas.List.{length-append}
use Rattle.std.proofs.lemmas.Option.{same_Some, slice_get_within}
use Rattle.dist_types.specs.Addr.{◌>>=◌}
use Rattle.dist_types.specs.declared.ids.JobId.{JobId}
use Rattle.dist_types.proofs.AddrLemmas.{bind_some}
use Rattle.core_rules.proofs.Lists.{end_cut}
use Rattle.core_rules.specs.Log.{same_job}
use Rattle.core_rules.specs.Ticket.{Ticket}
use Rattle.core_rules.specs.Standing.{address_of, key_at}
use Rattle.core_rules.specs.Reservation.{unspent, spends_by}
use Rattle.core_rules.specs.Rule.{is_among}
use Rattle.core_rules.specs.Laws.{IsRule, IsLegal}
use Rattle.core_rules.specs.declared.entry.CoreEntry.{CoreEntry}
use Rattle.core_rules.specs.declared.entry.CoreKind.{CoreKind}
use Rattle.core_rules.specs.declared.entry.CoreKind.TheVariants.{Reserve, Commit, Undo, Beat, Update}
use Rattle.core_rules.specs.declared.entry.CoreKind.TheVariants.{Status, Drain}
use Rattle.core_rules.specs.declared.entry.Reserved.TheVariants.{Job, NoRoom, Spent}
use Rattle.core_rules.proofs.AllLemmas.{is_false, true_false, same_job-sym}
use Rattle.core_rules.proofs.LegalLemmas.{legal-push}
use Rattle.farm_entries.specs.declared.site.Site.{Site as Setup}
use Rattle.farm_entries.specs.declared.entry.Entry.{Entry}
use Rattle.farm_entries.specs.Calls.{settled_at, waiting_at}
use Rattle.farm_entries.specs.Seen.{ids_start, core_log, core_of}
use Rattle.farm_entries.specs.Tickets.{ticket_by, ticket_of, ticket_at}
use Rattle.farm_entries.specs.Lawful.{IsSound}
use Rattle.farm_script.proofs.WordLemmas.{guard_off}
use Rattle.farm_laws.proofs.CallLemmas.{get_left, get_end, waiting-push, waiting-end}
use Rattle.farm_laws.proofs.NumberLemmas.{numbers_rise, take_left, take_end}
use Rattle.core_rules.proofs.OwnLemmas.{own-kept, own-made, one_number}
use Rattle.farm_laws.proofs.RunLemmas.{core_log-push}

-- ---- what an entry may add

-- no core entry
pub record AddsNone (e : Entry) : Type 0 where
  pub core : e.core ≡ None

-- a core entry that spends no reservation
pub record AddsQuiet (setup : Setup) (log : List Entry) (e : Entry) : Type 0 where
  pub made : CoreEntry
  pub core : e.core ≡ Some made
  pub rule : IsRule (core_of setup log) made
  pub spends : (j : JobId) → spends_by made.kind j ≡ false

-- a core entry that spends the reservation of a call, which is settled so
pub record AddsSpent (setup : Setup) (log : List Entry) (e : Entry) : Type 0 where
  pub number : ℕ
  pub waits : Entry
  pub ticket : Ticket
  pub made : CoreEntry
  pub core : e.core ≡ Some made
  pub call : e.call ≡ None
  pub rule : IsRule (core_of setup log) made
  pub spends : (j : JobId) → spends_by made.kind j ≡ same_job ticket.job j
  pub waiting : waiting_at log number ≡ Some waits
  pub reserved : ticket_at log number ≡ Some ticket
  pub settles : settled_at number (end_cut log e) ≡ true

abbrev pub Adds : Setup → List Entry → Entry → Type 0
Adds setup log e = AddsNone e ⊎ AddsQuiet setup log e ⊎ AddsSpent setup log e

-- ---- reservations by the numbers of their entries

pub ticket-left : (log : List Entry) (e : Entry) (n : ℕ) → n < length log
    → ticket_at (log ++ e ∷ []) n ≡ ticket_at log n
ticket-left log e n h =
    ap (λ (o : Option Entry). o >>= λ x. ticket_of (core_log (take n (log ++ e ∷ []))) x.core)
    (get_left log (e ∷ []) n h)
    ∙ ap (λ (l : List Entry). slice_get log n >>= λ x. ticket_of (core_log l) x.core)
    (take_left log (e ∷ []) n (omega arith))

pub ticket-end : (log : List Entry) (e : Entry) → ticket_at (log ++ e ∷ []) (length log) ≡ ticket_of
    (core_log log) e.core
ticket-end log e =
    ap (λ (o : Option Entry). o >>= λ x. ticket_of (core_log (take (length log) (log ++ e ∷ []))) x.core)
    (get_end log e)
    ∙ ap (λ (l : List Entry). ticket_of (core_log l) e.core) (take_end log e)

-- the number of a reservation is that of its core entry
ticket_number : (core : List CoreEntry) (o : Option CoreEntry) (t : Ticket) → ticket_of core o ≡ Some t
    → (c : CoreEntry) × (o ≡ Some c) × (t.number ≡ length core)
ticket_number core None t e = absurd cc
ticket_number core (Some c) t e = (c, refl, by_kind core c.kind t e)
  where
    by_kind : (core : List CoreEntry) (k : CoreKind) (t : Ticket) → ticket_by core k ≡ Some t
        → t.number ≡ length core
    by_kind core (Reserve (Job job reg forgiven)) t e =
        let a = bind_some (address_of core reg) _ t e in
        let b = bind_some (key_at core reg) _ t a.2 in
        sym (ap (λ (u : Ticket). u.number) (same_Some _ t b.2))
    by_kind core (Reserve (NoRoom n)) t e = absurd cc
    by_kind core (Reserve Spent) t e = absurd cc
    by_kind core (Commit job state kept) t e = absurd cc
    by_kind core (Undo job noted ended) t e = absurd cc
    by_kind core (Beat server nonce cpus key pruned reaped replaced is_new) t e = absurd cc
    by_kind core (Update server job state answer) t e = absurd cc
    by_kind core (Status pruned servers cpus jobs) t e = absurd cc
    by_kind core (Drain addr nonce on named) t e = absurd cc

-- reservations of two entries have two numbers
one_place : (log : List Entry) (n m : ℕ) (t u : Ticket) → ticket_at log n ≡ Some t → ticket_at log m ≡ Some u
    → t.number ≡ u.number → n ≡ m
one_place log n m t u at bt same =
    let a = bind_some (slice_get log n) _ t at in
    let b = bind_some (slice_get log m) _ u bt in
    let c = ticket_number (core_log (take n log)) a.0.core t a.2 in
    let d = ticket_number (core_log (take m log)) b.0.core u b.2 in
    elim (cases_lt n m) [
      | inl lt ↦ absurd (omega (arith, numbers_rise log n m a.0 c.0 lt a.1 c.1, c.2, d.2, same))
      | inr ge ↦ elim (cases_lt m n) [
        | inl lt ↦ absurd (omega (arith, numbers_rise log m n b.0 d.0 lt b.1 d.1, c.2, d.2, same))
        | inr le ↦ omega arith
      ]
    ]

-- ---- reservations of calls that wait

-- that the reservation is unspent after these core entries
abbrev IsOwn : List CoreEntry → Ticket → Type 0
IsOwn core t = is_among (unspent core) t.number t.job ≡ true

-- a reservation that the entry makes
own_new : (core : List CoreEntry) (now : ℕ) (k : CoreKind) (t : Ticket) → ticket_by core k ≡ Some t
    → IsOwn (core ++ record { now = now; kind = k } ∷ []) t
own_new core now (Reserve (Job job reg forgiven)) t e =
    let a = bind_some (address_of core reg) _ t e in
    let b = bind_some (key_at core reg) _ t a.2 in
    let made : CoreEntry = record { now = now; kind = Reserve (Job job reg forgiven) } in
    subst (IsOwn (core ++ made ∷ [])) (same_Some _ t b.2) (own-made core made job reg forgiven refl)
own_new core now (Reserve (NoRoom n)) t e = absurd cc
own_new core now (Reserve Spent) t e = absurd cc
own_new core now (Commit job state kept) t e = absurd cc
own_new core now (Undo job noted ended) t e = absurd cc
own_new core now (Beat server nonce cpus key pruned reaped replaced is_new) t e = absurd cc
own_new core now (Update server job state answer) t e = absurd cc
own_new core now (Status pruned servers cpus jobs) t e = absurd cc
own_new core now (Drain addr nonce on named) t e = absurd cc

-- the core log with the entry's core entry
core_with : (log : List Entry) (e : Entry) (o : Option CoreEntry) → e.core ≡ o
    → core_log (log ++ e ∷ []) ≡ core_log log ++ option_to_list o
core_with log e o is = core_log-push log e ∙ ap (λ (p : Option CoreEntry). core_log log ++ option_to_list p)
    is

-- a reservation of before stays unspent, where its call is not settled
old_own : (setup : Setup) (log : List Entry) (e : Entry) (n : ℕ) (w : Entry) (t : Ticket)
    → setup.scheduler.count < 2 ^ 64 → IsSound setup log → Adds setup log e
    → waiting_at log n ≡ Some w → ticket_at log n ≡ Some t → settled_at n (end_cut log e) ≡ false
    → IsOwn (core_log (log ++ e ∷ [])) t
old_own setup log e n w t fits sound (inl x) waits is off =
    subst (λ (l : List CoreEntry). IsOwn l t) (sym (core_with log e None x.core ∙ append-nil (core_log log)))
    (sound.own n w t waits is)
old_own setup log e n w t fits sound (inr (inl x)) waits is off =
    subst (λ (l : List CoreEntry). IsOwn l t) (sym (core_with log e (Some x.made) x.core))
    (own-kept (core_log log) x.made t.number t.job (sound.own n w t waits is) (x.spends t.job))
old_own setup log e n w t fits sound (inr (inr x)) waits is off =
    let own = sound.own n w t waits is in
    let spent = sound.own x.number x.waits x.ticket x.waiting x.reserved in
    let other : same_job x.ticket.job t.job ≡ false = is_false (same_job x.ticket.job t.job) (λ same.
    let one = one_number (ids_start setup) (core_log log) x.ticket.number t.number
    x.ticket.job t.job fits sound.legal spent own (same_job-sym x.ticket.job t.job same) in
    let place = one_place log x.number n x.ticket t x.reserved is one in
    true_false (settled_at n (end_cut log e))
    (subst (λ (m : ℕ). settled_at m (end_cut log e) ≡ true) place x.settles) off) in
    subst (λ (l : List CoreEntry). IsOwn l t) (sym (core_with log e (Some x.made) x.core))
    (own-kept (core_log log) x.made t.number t.job own (x.spends t.job ∙ other))

-- a call that the entry makes has the entry's reservation
last_own : (setup : Setup) (log : List Entry) (e : Entry) (w : Entry) (t : Ticket) → Adds setup log e
    → (e.call >>= λ c. Some e) ≡ Some w → ticket_of (core_log log) e.core ≡ Some t
    → IsOwn (core_log (log ++ e ∷ [])) t
last_own setup log e w t (inl x) waits is = let none : None ≡ Some t =
    sym (ap (ticket_of (core_log log)) x.core) ∙ is in absurd cc
last_own setup log e w t (inr (inl x)) waits is =
    subst (λ (l : List CoreEntry). IsOwn l t) (sym (core_with log e (Some x.made) x.core))
    (own_new (core_log log) x.made.now x.made.kind t (sym (ap (ticket_of (core_log log)) x.core) ∙ is))
last_own setup log e w t (inr (inr x)) waits is = let none : None ≡ Some w =
    sym (ap (λ (o : Option _). o >>= λ c. Some e) x.call) ∙ waits in absurd cc

legal_next : (setup : Setup) (log : List Entry) (e : Entry) → IsSound setup log → Adds setup log e
    → IsLegal (ids_start setup) (core_log (log ++ e ∷ []))
legal_next setup log e sound (inl x) = subst (IsLegal (ids_start setup))
    (sym (core_with log e None x.core ∙ append-nil (core_log log))) sound.legal
legal_next setup log e sound (inr (inl x)) =
    subst (IsLegal (ids_start setup)) (sym (core_with log e (Some x.made) x.core))
    (legal-push (ids_start setup) [] (core_log log) x.made sound.legal x.rule)
legal_next setup log e sound (inr (inr x)) =
    subst (IsLegal (ids_start setup)) (sym (core_with log e (Some x.made) x.core))
    (legal-push (ids_start setup) [] (core_log log) x.made sound.legal x.rule)

-- one more entry
pub sound-step : (setup : Setup) (log : List Entry) (e : Entry) → setup.scheduler.count < 2 ^ 64
    → IsSound setup log → Adds setup log e → IsSound setup (log ++ e ∷ [])
sound-step setup log e fits sound adds = record {
  legal = legal_next setup log e sound adds;
  own = λ n w t waits is. elim (cases_lt n (length log)) [
    | inl lt ↦
        let g = guard_off (settled_at n (end_cut log e)) (waiting_at log n) w
        (sym (waiting-push log e n lt) ∙ waits) in
        old_own setup log e n w t fits sound adds g.1 (sym (ticket-left log e n lt) ∙ is) g.0
    | inr ge ↦
        let a = bind_some (slice_get (log ++ e ∷ []) n) _ w waits in
        let within = slice_get_within (log ++ e ∷ []) n a.0 a.1 in
        let last : n ≡ length log = omega (arith, within, length-append log (e ∷ [])) in
        last_own setup log e w t adds
        (sym (waiting-end log e) ∙ ap (waiting_at (log ++ e ∷ [])) (sym last) ∙ waits)
        (sym (ticket-end log e) ∙ ap (ticket_at (log ++ e ∷ [])) (sym last) ∙ is)
  ];
}
