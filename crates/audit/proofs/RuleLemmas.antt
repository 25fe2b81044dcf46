-- An entry is replayed exactly where it is the rule's for some call, whatever its key.
use Rattle.std.proofs.Common.{◌≡◌, ℕ, ◌==◌, Bool, true, false, cond, ◌&&◌, ◌||◌, nat_le, List, [], ◌∷◌, Option, Some}
use Rattle.std.proofs.Common.{None, refl, sym, ap, subst, ◌∙◌}
use Rattle.std.specs.Prelude.{find}
use Rattle.std.specs.Option.{option_map}
use Rattle.std.proofs.lemmas.Bool.{eqb-true, and_parts, leb-true, le-leb, cases_Bool}
use Rattle.std.proofs.Common.{◌||◌, inl, inr}
use Rattle.std.proofs.lemmas.Option.{same_Some, cond_some}
use Rattle.std.proofs.lemmas.Cmp.{nat_eq_equiv}
use Rattle.dist_types.specs.Addr.{◌>>=◌, same_addr}
use Rattle.dist_types.specs.declared.addr.Addr.{Addr}
use Rattle.dist_types.specs.declared.ids.JobId.{JobId}
use Rattle.dist_types.specs.declared.results.JobState.{JobState}
use Rattle.dist_types.specs.declared.results.JobState.TheVariants.{Pending, Ready, Started, Complete}
use Rattle.dist_types.proofs.AddrLemmas.{bind_some}
use Rattle.farm_script.proofs.WordLemmas.{bind_is}
use Rattle.farm_script.proofs.PlaceLemmas.{same_is}
use Rattle.dist_types.specs.declared.rules.Rules.{Rules}
use Rattle.dist_types.specs.declared.rules.Rules.TheVariants.{One, Two}
use Rattle.core_rules.specs.declared.entry.CoreEntry.{CoreEntry}
use Rattle.core_rules.specs.declared.entry.CoreKind.{CoreKind}
use Rattle.core_rules.specs.declared.entry.CoreKind.TheVariants as core
use Rattle.core_rules.specs.declared.call.Call.{Call}
use Rattle.core_rules.specs.declared.call.Call.TheVariants as call
use Rattle.core_rules.specs.Log.{Core, same_job}
use Rattle.core_rules.specs.Same.{same_truth, same_state, same_but_key}
use Rattle.core_rules.specs.Reservation.{Booking, unspent}
use Rattle.core_rules.specs.Rule.{rule, IsCall, is_among}
use Rattle.core_rules.specs.Calls.{number_of, call_by}
use Rattle.run_lines.specs.Fields.{job_of}
use Rattle.audit.specs.Held.{HasNoKey}
use Rattle.audit.specs.Keyless.{keyless}
use Rattle.audit.specs.Replay.{IsRuleButKey, is_two, is_call, checked, due_by, same_rule, replayed, HasOneNumber}

same_refl : (n : ℕ) → (n == n) ≡ true
same_refl n = nat_eq_equiv.refl n

-- the reservation that is found is among those
pub among : (bs : List Booking) (job : JobId) (n : ℕ)
    → option_map (λ b. b.number) (find (λ b. same_job b.job job) bs) ≡ Some n → is_among bs n job ≡ true
among [] job n e = absurd cc
among (b ∷ bs) job n e = elim (cases_Bool (same_job b.job job)) [
  | inl on ↦
      let at : Some b.number ≡ Some n = sym (ap (λ (v : Bool). option_map (λ (c : Booking). c.number)
      (cond v (Some b) (find (λ c. same_job c.job job) bs))) on) ∙ e in
      let one : (b.number == n) ≡ true = ap (λ (k : ℕ). b.number == k) (sym (same_Some b.number n at))
      ∙ same_refl b.number in
      rw (one, on) refl
  | inr off ↦
      let rest : option_map (λ c. c.number) (find (λ c. same_job c.job job) bs) ≡ Some n =
      sym (ap (λ (v : Bool). option_map (λ (c : Booking). c.number)
      (cond v (Some b) (find (λ c. same_job c.job job) bs))) off) ∙ e in
      or_right ((b.number == n) && same_job b.job job) _ (among bs job n rest)
]
  where
    or_right : (a b : Bool) → b ≡ true → (a || b) ≡ true
    or_right true b e = refl
    or_right false b e = e

-- where one is among those, one is found
some_number : (bs : List Booking) (job : JobId) (n : ℕ) → is_among bs n job ≡ true
    → (m : ℕ) × (option_map (λ b. b.number) (find (λ b. same_job b.job job) bs) ≡ Some m)
some_number [] job n e = absurd cc
some_number (b ∷ bs) job n e = elim (cases_Bool (same_job b.job job)) [
  | inl on ↦ (
    b.number,
    ap (λ (v : Bool). option_map (λ (c : Booking). c.number) (cond v (Some b) (find (λ c. same_job c.job job) bs)))
        on,
  )
  | inr off ↦
      let rest : is_among bs n job ≡ true = or_rest ((b.number == n) && same_job b.job job) _
      (and_off (b.number == n) (same_job b.job job) off) e in
      let f = some_number bs job n rest in (
        f.0,
        ap (λ (v : Bool). option_map (λ (c : Booking). c.number)
            (cond v (Some b) (find (λ c. same_job c.job job) bs))) off ∙ f.1,
      )
]
  where
    or_rest : (a b : Bool) → a ≡ false → (a || b) ≡ true → b ≡ true
    or_rest true b off e = absurd cc
    or_rest false b off e = e

    and_off : (a b : Bool) → b ≡ false → (a && b) ≡ false
    and_off true b off = off
    and_off false b off = refl

number_is : (log : List CoreEntry) (n : ℕ) (job : JobId) → HasOneNumber log → is_among (unspent log) n job ≡ true
    → number_of log job ≡ Some n
number_is log n job one e =
    let f = some_number (unspent log) job n e in
    let there : is_among (unspent log) f.0 job ≡ true = among (unspent log) job f.0 f.1 in
    f.1 ∙ ap (λ (k : ℕ). Some k) (one f.0 n job job there e (same_refl job.0))

-- ---- what may be made

two_is : (rules : Rules) → is_two rules ≡ true → rules ≡ Two
two_is One e = absurd cc
two_is Two e = refl

call_is : (s : Core) (now : ℕ) (k : CoreKind) (c : Call) → call_by s.log now (keyless k) ≡ Some c → is_call s.start.rules c ≡ true
    → IsCall s c
call_is s now (core.Reserve r) c e on = subst (IsCall s) (same_Some (call.Reserve now) c e) tt
call_is s now (core.Commit job state kept) c e on = commit_is (number_of s.log job) refl e on
  where
    commit_is : (o : Option ℕ) → number_of s.log job ≡ o
        → option_map (λ n. call.Commit now n job state) o ≡ Some c → is_call s.start.rules c ≡ true → IsCall s c
    commit_is None is e on = absurd cc
    commit_is (Some n) is e on =
        let same : call.Commit now n job state ≡ c = same_Some (call.Commit now n job state) c e in
        subst (IsCall s) same (among (unspent s.log) job n is, ap (is_call s.start.rules) same ∙ on)
call_is s now (core.Undo job noted ended) c e on = undo_is (number_of s.log job) refl e
  where
    undo_is : (o : Option ℕ) → number_of s.log job ≡ o → option_map (λ n. call.Undo now n job) o ≡ Some c → IsCall s c
    undo_is None is e = absurd cc
    undo_is (Some n) is e = subst (IsCall s) (same_Some (call.Undo now n job) c e) (among (unspent s.log) job n is)
call_is s now (core.Beat server nonce cpus key pruned reaped replaced is_new) c e on =
    let same : call.Beat now server nonce cpus [] ≡ c = same_Some (call.Beat now server nonce cpus []) c e in
    let p = and_parts (nat_le 1 cpus) (nat_le cpus 4294967295) (ap (is_call s.start.rules) same ∙ on) in
    subst (IsCall s) same (leb-true 1 cpus p.0, leb-true cpus 4294967295 p.1)
call_is s now (core.Update server job state answer) c e on =
    subst (IsCall s) (same_Some (call.Update now server job state) c e) tt
call_is s now (core.Status pruned servers cpus jobs) c e on = subst (IsCall s) (same_Some (call.Status now) c e) tt
call_is s now (core.Drain server nonce flag reg) c e on =
    let same : call.Drain now server nonce flag ≡ c = same_Some (call.Drain now server nonce flag) c e in
    subst (IsCall s) same (two_is s.start.rules (ap (is_call s.start.rules) same ∙ on))

-- what is replayed is the rule's
pub replayed_sound : (s : Core) (e made : CoreEntry) → replayed s e ≡ Some made
    → (c : Call) × IsCall s c × (same_but_key (rule s c) e ≡ true) × (made ≡ rule s c)
replayed_sound s e made h =
    let a = bind_some (due_by s e.now e.kind) (same_rule s e) made h in
    let b = bind_some (call_by s.log e.now (keyless e.kind)) (checked s.start.rules) a.0 a.1 in
    let g = cond_some (is_call s.start.rules b.0) b.0 a.0 b.2 in
    let same = cond_some (same_but_key (rule s a.0) e) (rule s a.0) made a.2 in
    let on : is_call s.start.rules a.0 ≡ true = ap (is_call s.start.rules) (sym g.1) ∙ g.0 in
    (a.0, call_is s e.now e.kind a.0 (b.1 ∙ ap (λ (x : Call). Some x) g.1) on, same.0, sym same.1)

-- ---- what is the rule's

-- a call under an empty key
abbrev bare_call : Call → Call
bare_call (call.Beat now server nonce cpus key) = call.Beat now server nonce cpus []
bare_call other = other

job_is : (a b : JobId) → same_job a b ≡ true → a ≡ b
job_is a b e = ap job_of (eqb-true a.0 b.0 e)

state_is : (a b : JobState) → same_state a b ≡ true → a ≡ b
state_is Pending Pending e = refl
state_is Pending Ready e = absurd cc
state_is Pending Started e = absurd cc
state_is Pending Complete e = absurd cc
state_is Ready Pending e = absurd cc
state_is Ready Ready e = refl
state_is Ready Started e = absurd cc
state_is Ready Complete e = absurd cc
state_is Started Pending e = absurd cc
state_is Started Ready e = absurd cc
state_is Started Started e = refl
state_is Started Complete e = absurd cc
state_is Complete Pending e = absurd cc
state_is Complete Ready e = absurd cc
state_is Complete Started e = absurd cc
state_is Complete Complete e = refl

-- what a call says of its kind and its arguments
abbrev Tells : Core → Call → ℕ → CoreKind → Type 0
Tells s c now k = due_by s now k ≡ Some (bare_call c)

never : (a : Bool) → (a && false) ≡ true → ⊥
never true e = cc
never false e = cc

tells_reserve : (s : Core) (n now : ℕ) (k : CoreKind)
    → same_but_key (rule s (call.Reserve n)) (record { now = now; kind = k }) ≡ true → Tells s (call.Reserve n) now k
tells_reserve s n now (core.Reserve y) e =
    let p = and_parts (n == now) _ e in ap (λ (m : ℕ). Some (call.Reserve m)) (sym (eqb-true n now p.0))
tells_reserve s n now (core.Commit j st kept) e = absurd (never (n == now) e)
tells_reserve s n now (core.Undo j noted ended) e = absurd (never (n == now) e)
tells_reserve s n now (core.Beat a nn cc key pruned reaped replaced is_new) e = absurd (never (n == now) e)
tells_reserve s n now (core.Update a j st answer) e = absurd (never (n == now) e)
tells_reserve s n now (core.Status pruned servers cs jobs) e = absurd (never (n == now) e)
tells_reserve s n now (core.Drain place code flag named) e = absurd (never (n == now) e)

tells_status : (s : Core) (n now : ℕ) (k : CoreKind)
    → same_but_key (rule s (call.Status n)) (record { now = now; kind = k }) ≡ true → Tells s (call.Status n) now k
tells_status s n now (core.Status pruned servers cs jobs) e =
    let p = and_parts (n == now) _ e in ap (λ (m : ℕ). Some (call.Status m)) (sym (eqb-true n now p.0))
tells_status s n now (core.Reserve y) e = absurd (never (n == now) e)
tells_status s n now (core.Commit j st kept) e = absurd (never (n == now) e)
tells_status s n now (core.Undo j noted ended) e = absurd (never (n == now) e)
tells_status s n now (core.Beat a nn cc key pruned reaped replaced is_new) e = absurd (never (n == now) e)
tells_status s n now (core.Update a j st answer) e = absurd (never (n == now) e)
tells_status s n now (core.Drain place code flag named) e = absurd (never (n == now) e)

tells_commit : (s : Core) (n number : ℕ) (job : JobId) (state : JobState) (now : ℕ) (k : CoreKind)
    → HasOneNumber s.log → IsCall s (call.Commit n number job state)
    → same_but_key (rule s (call.Commit n number job state)) (record { now = now; kind = k }) ≡ true
    → Tells s (call.Commit n number job state) now k
tells_commit s n number job state now (core.Commit j st kept) one isc e =
    let p = and_parts (n == now) _ e in
    let q = and_parts (same_job job j && same_state state st) _ p.1 in
    let r = and_parts (same_job job j) (same_state state st) q.0 in
    let base : Tells s (call.Commit n number job state) n (core.Commit job state kept) =
    ap (λ (o : Option ℕ). option_map (λ m. call.Commit n m job state) o >>= checked s.start.rules)
    (number_is s.log number job one isc.0)
    ∙ ap (λ (b : Bool). cond b (Some (call.Commit n number job state)) None) isc.1 in
    let with_state : Tells s (call.Commit n number job state) n (core.Commit job st kept) =
    subst (λ (x : JobState). Tells s (call.Commit n number job state) n (core.Commit job x kept))
    (state_is state st r.1) base in
    let with_job : Tells s (call.Commit n number job state) n (core.Commit j st kept) =
    subst (λ (x : JobId). Tells s (call.Commit n number job state) n (core.Commit x st kept))
    (job_is job j r.0) with_state in
    subst (λ (m : ℕ). Tells s (call.Commit n number job state) m (core.Commit j st kept)) (eqb-true n now p.0) with_job
tells_commit s n number job state now (core.Reserve y) one isc e = absurd (never (n == now) e)
tells_commit s n number job state now (core.Undo j noted ended) one isc e = absurd (never (n == now) e)
tells_commit s n number job state now (core.Beat a nn cc key pruned reaped replaced is_new) one isc e = absurd (never (n == now) e)
tells_commit s n number job state now (core.Update a j st answer) one isc e = absurd (never (n == now) e)
tells_commit s n number job state now (core.Status pruned servers cs jobs) one isc e = absurd (never (n == now) e)
tells_commit s n number job state now (core.Drain place code flag named) one isc e = absurd (never (n == now) e)

tells_undo : (s : Core) (n number : ℕ) (job : JobId) (now : ℕ) (k : CoreKind)
    → HasOneNumber s.log → IsCall s (call.Undo n number job)
    → same_but_key (rule s (call.Undo n number job)) (record { now = now; kind = k }) ≡ true
    → Tells s (call.Undo n number job) now k
tells_undo s n number job now (core.Undo j noted ended) one isc e =
    let p = and_parts (n == now) _ e in
    let q = and_parts (same_job job j && _) _ p.1 in
    let r = and_parts (same_job job j) _ q.0 in
    let base : Tells s (call.Undo n number job) n (core.Undo job noted ended) =
    ap (λ (o : Option ℕ). option_map (λ m. call.Undo n m job) o >>= checked s.start.rules) (number_is s.log number job one isc) in
    let with_job : Tells s (call.Undo n number job) n (core.Undo j noted ended) =
    subst (λ (x : JobId). Tells s (call.Undo n number job) n (core.Undo x noted ended)) (job_is job j r.0) base in
    subst (λ (m : ℕ). Tells s (call.Undo n number job) m (core.Undo j noted ended)) (eqb-true n now p.0) with_job
tells_undo s n number job now (core.Reserve y) one isc e = absurd (never (n == now) e)
tells_undo s n number job now (core.Commit j st kept) one isc e = absurd (never (n == now) e)
tells_undo s n number job now (core.Beat a nn cc key pruned reaped replaced is_new) one isc e = absurd (never (n == now) e)
tells_undo s n number job now (core.Update a j st answer) one isc e = absurd (never (n == now) e)
tells_undo s n number job now (core.Status pruned servers cs jobs) one isc e = absurd (never (n == now) e)
tells_undo s n number job now (core.Drain place code flag named) one isc e = absurd (never (n == now) e)

tells_beat : (s : Core) (n : ℕ) (server : Addr) (nonce cpus : ℕ) (held : List ℕ) (now : ℕ) (k : CoreKind)
    → IsCall s (call.Beat n server nonce cpus held)
    → same_but_key (rule s (call.Beat n server nonce cpus held)) (record { now = now; kind = k }) ≡ true
    → Tells s (call.Beat n server nonce cpus held) now k
tells_beat s n server nonce cpus held now (core.Beat a nn cc key pruned reaped replaced is_new) isc e =
    let p = and_parts (n == now) _ e in
    let q = and_parts _ _ p.1 in
    let q2 = and_parts _ _ q.0 in
    let q3 = and_parts _ _ q2.0 in
    let q4 = and_parts _ _ q3.0 in
    let q5 = and_parts (same_addr server a && (nonce == nn)) (cpus == cc) q4.0 in
    let r = and_parts (same_addr server a) (nonce == nn) q5.0 in
    let within : (nat_le 1 cpus && nat_le cpus 4294967295) ≡ true =
    rw (le-leb 1 cpus isc.0, le-leb cpus 4294967295 isc.1) refl in
    let base : due_by s n (core.Beat server nonce cpus key pruned reaped replaced is_new) ≡ Some
    (call.Beat n server nonce cpus []) =
    ap (λ (b : Bool). cond b (Some (call.Beat n server nonce cpus [])) None) within in
    let with_cpus : due_by s n (core.Beat server nonce cc key pruned reaped replaced is_new) ≡ Some
    (call.Beat n server nonce cpus []) =
    subst (λ (x : ℕ). due_by s n (core.Beat server nonce x key pruned reaped replaced is_new) ≡ Some
    (call.Beat n server nonce cpus [])) (eqb-true cpus cc q5.1) base in
    let with_nonce : due_by s n (core.Beat server nn cc key pruned reaped replaced is_new) ≡ Some
    (call.Beat n server nonce cpus []) =
    subst (λ (x : ℕ). due_by s n (core.Beat server x cc key pruned reaped replaced is_new) ≡ Some
    (call.Beat n server nonce cpus [])) (eqb-true nonce nn r.1) with_cpus in
    let with_addr : due_by s n (core.Beat a nn cc key pruned reaped replaced is_new) ≡ Some
    (call.Beat n server nonce cpus []) =
    subst (λ (x : Addr). due_by s n (core.Beat x nn cc key pruned reaped replaced is_new) ≡ Some
    (call.Beat n server nonce cpus [])) (same_is server a r.0) with_nonce in
    subst (λ (m : ℕ). due_by s m (core.Beat a nn cc key pruned reaped replaced is_new) ≡ Some
    (call.Beat n server nonce cpus [])) (eqb-true n now p.0) with_addr
tells_beat s n server nonce cpus held now (core.Reserve y) isc e = absurd (never (n == now) e)
tells_beat s n server nonce cpus held now (core.Commit j st kept) isc e = absurd (never (n == now) e)
tells_beat s n server nonce cpus held now (core.Undo j noted ended) isc e = absurd (never (n == now) e)
tells_beat s n server nonce cpus held now (core.Update a j st answer) isc e = absurd (never (n == now) e)
tells_beat s n server nonce cpus held now (core.Status pruned servers cs jobs) isc e = absurd (never (n == now) e)
tells_beat s n server nonce cpus held now (core.Drain place code flag named) isc e = absurd (never (n == now) e)

tells_update : (s : Core) (n : ℕ) (server : Addr) (job : JobId) (state : JobState) (now : ℕ) (k : CoreKind)
    → same_but_key (rule s (call.Update n server job state)) (record { now = now; kind = k }) ≡ true
    → Tells s (call.Update n server job state) now k
tells_update s n server job state now (core.Update a j st answer) e =
    let p = and_parts (n == now) _ e in
    let q = and_parts ((same_addr server a && same_job job j) && same_state state st) _ p.1 in
    let r = and_parts (same_addr server a && same_job job j) (same_state state st) q.0 in
    let t = and_parts (same_addr server a) (same_job job j) r.0 in
    let with_state : Tells s (call.Update n server job state) n (core.Update server job st answer) =
    subst (λ (x : JobState). Tells s (call.Update n server job state) n (core.Update server job x answer))
    (state_is state st r.1) refl in
    let with_job : Tells s (call.Update n server job state) n (core.Update server j st answer) =
    subst (λ (x : JobId). Tells s (call.Update n server job state) n (core.Update server x st answer))
    (job_is job j t.1) with_state in
    let with_addr : Tells s (call.Update n server job state) n (core.Update a j st answer) =
    subst (λ (x : Addr). Tells s (call.Update n server job state) n (core.Update x j st answer))
    (same_is server a t.0) with_job in
    subst (λ (m : ℕ). Tells s (call.Update n server job state) m (core.Update a j st answer)) (eqb-true n now p.0)
    with_addr
tells_update s n server job state now (core.Reserve y) e = absurd (never (n == now) e)
tells_update s n server job state now (core.Commit j st kept) e = absurd (never (n == now) e)
tells_update s n server job state now (core.Undo j noted ended) e = absurd (never (n == now) e)
tells_update s n server job state now (core.Beat a nn cc key pruned reaped replaced is_new) e = absurd (never (n == now) e)
tells_update s n server job state now (core.Status pruned servers cs jobs) e = absurd (never (n == now) e)
tells_update s n server job state now (core.Drain place code flag named) e = absurd (never (n == now) e)

truth_is : (a b : Bool) → same_truth a b ≡ true → a ≡ b
truth_is true true e = refl
truth_is true false e = absurd cc
truth_is false true e = absurd cc
truth_is false false e = refl

tells_drain : (s : Core) (n : ℕ) (server : Addr) (nonce : ℕ) (on : Bool) (now : ℕ) (k : CoreKind)
    → IsCall s (call.Drain n server nonce on)
    → same_but_key (rule s (call.Drain n server nonce on)) (record { now = now; kind = k }) ≡ true
    → Tells s (call.Drain n server nonce on) now k
tells_drain s n server nonce on now (core.Drain place code flag named) isc e =
    let p = and_parts (n == now) _ e in
    let q = and_parts ((same_addr server place && (nonce == code)) && same_truth on flag) _ p.1 in
    let r = and_parts (same_addr server place && (nonce == code)) (same_truth on flag) q.0 in
    let t = and_parts (same_addr server place) (nonce == code) r.0 in
    let base : Tells s (call.Drain n server nonce on) n (core.Drain server nonce on named) =
    ap (λ (v : Rules). cond (is_two v) (Some (call.Drain n server nonce on)) None) isc in
    let with_flag : Tells s (call.Drain n server nonce on) n (core.Drain server nonce flag named) =
    subst (λ (x : Bool). Tells s (call.Drain n server nonce on) n (core.Drain server nonce x named))
    (truth_is on flag r.1) base in
    let with_nonce : Tells s (call.Drain n server nonce on) n (core.Drain server code flag named) =
    subst (λ (x : ℕ). Tells s (call.Drain n server nonce on) n (core.Drain server x flag named))
    (eqb-true nonce code t.1) with_flag in
    let with_addr : Tells s (call.Drain n server nonce on) n (core.Drain place code flag named) =
    subst (λ (x : Addr). Tells s (call.Drain n server nonce on) n (core.Drain x code flag named))
    (same_is server place t.0) with_nonce in
    subst (λ (m : ℕ). Tells s (call.Drain n server nonce on) m (core.Drain place code flag named))
    (eqb-true n now p.0) with_addr
tells_drain s n server nonce on now (core.Reserve y) isc e = absurd (never (n == now) e)
tells_drain s n server nonce on now (core.Commit j st kept) isc e = absurd (never (n == now) e)
tells_drain s n server nonce on now (core.Undo j noted ended) isc e = absurd (never (n == now) e)
tells_drain s n server nonce on now (core.Beat a nn cc key pruned reaped replaced is_new) isc e = absurd (never (n == now) e)
tells_drain s n server nonce on now (core.Update a j st answer) isc e = absurd (never (n == now) e)
tells_drain s n server nonce on now (core.Status pruned servers cs jobs) isc e = absurd (never (n == now) e)

tells : (s : Core) (c : Call) (now : ℕ) (k : CoreKind) → HasOneNumber s.log → IsCall s c
    → same_but_key (rule s c) (record { now = now; kind = k }) ≡ true → Tells s c now k
tells s (call.Reserve n) now k one isc e = tells_reserve s n now k e
tells s (call.Commit n number job state) now k one isc e = tells_commit s n number job state now k one isc e
tells s (call.Undo n number job) now k one isc e = tells_undo s n number job now k one isc e
tells s (call.Beat n server nonce cpus key) now k one isc e = tells_beat s n server nonce cpus key now k isc e
tells s (call.Update n server job state) now k one isc e = tells_update s n server job state now k e
tells s (call.Status n) now k one isc e = tells_status s n now k e
tells s (call.Drain n server nonce on) now k one isc e = tells_drain s n server nonce on now k isc e

-- the key of a heartbeat does not matter
bare_beat : (s : Core) (n : ℕ) (server : Addr) (nonce cpus : ℕ) (held : List ℕ) (now : ℕ) (k : CoreKind)
    → same_but_key (rule s (call.Beat n server nonce cpus [])) (record { now = now; kind = k })
    ≡ same_but_key (rule s (call.Beat n server nonce cpus held)) (record { now = now; kind = k })
bare_beat s n server nonce cpus held now (core.Reserve y) = refl
bare_beat s n server nonce cpus held now (core.Commit j st kept) = refl
bare_beat s n server nonce cpus held now (core.Undo j noted ended) = refl
bare_beat s n server nonce cpus held now (core.Beat a nn cc key pruned reaped replaced is_new) = refl
bare_beat s n server nonce cpus held now (core.Update a j st answer) = refl
bare_beat s n server nonce cpus held now (core.Status pruned servers cs jobs) = refl
bare_beat s n server nonce cpus held now (core.Drain place code flag named) = refl

bare_same : (s : Core) (c : Call) (e : CoreEntry) → same_but_key (rule s (bare_call c)) e ≡ same_but_key (rule s c) e
bare_same s (call.Reserve n) e = refl
bare_same s (call.Commit n number job state) e = refl
bare_same s (call.Undo n number job) e = refl
bare_same s (call.Beat n server nonce cpus key) e = bare_beat s n server nonce cpus key e.now e.kind
bare_same s (call.Update n server job state) e = refl
bare_same s (call.Status n) e = refl
bare_same s (call.Drain n server nonce on) e = refl

-- what is the rule's is replayed
pub replayed_complete : (s : Core) (e : CoreEntry) → HasOneNumber s.log → IsRuleButKey s e
    → (made : CoreEntry) × (replayed s e ≡ Some made)
replayed_complete s e one is =
    let c = is.0 in (
      rule s (bare_call c),
      bind_is (due_by s e.now e.kind) (same_rule s e) (bare_call c) (Some (rule s (bare_call c)))
          (tells s c e.now e.kind one is.1 is.2)
          (ap (λ (b : Bool). cond b (Some (rule s (bare_call c))) None) (bare_same s c e ∙ is.2)),
    )

-- ---- under an empty key

due_keyless : (s : Core) (now : ℕ) (k : CoreKind) (c : Call) → call_by s.log now (keyless k) ≡ Some c → HasNoKey c
due_keyless s now (core.Reserve r) c e = subst HasNoKey (same_Some (call.Reserve now) c e) tt
due_keyless s now (core.Commit job state kept) c e = commit_is (number_of s.log job) e
  where
    commit_is : (o : Option ℕ) → option_map (λ n. call.Commit now n job state) o ≡ Some c → HasNoKey c
    commit_is None e = absurd cc
    commit_is (Some n) e = subst HasNoKey (same_Some (call.Commit now n job state) c e) tt
due_keyless s now (core.Undo job noted ended) c e = undo_is (number_of s.log job) e
  where
    undo_is : (o : Option ℕ) → option_map (λ n. call.Undo now n job) o ≡ Some c → HasNoKey c
    undo_is None e = absurd cc
    undo_is (Some n) e = subst HasNoKey (same_Some (call.Undo now n job) c e) tt
due_keyless s now (core.Beat server nonce cpus key pruned reaped replaced is_new) c e =
    subst HasNoKey (same_Some (call.Beat now server nonce cpus []) c e) refl
due_keyless s now (core.Update server job state answer) c e =
    subst HasNoKey (same_Some (call.Update now server job state) c e) tt
due_keyless s now (core.Status pruned servers cpus jobs) c e = subst HasNoKey (same_Some (call.Status now) c e) tt
due_keyless s now (core.Drain server nonce on reg) c e =
    subst HasNoKey (same_Some (call.Drain now server nonce on) c e) tt

pub replayed_parts : (s : Core) (e made : CoreEntry) → replayed s e ≡ Some made
    → (c : Call) × HasNoKey c × IsCall s c × (same_but_key (rule s c) e ≡ true) × (made ≡ rule s c)
replayed_parts s e made h =
    let a = bind_some (due_by s e.now e.kind) (same_rule s e) made h in
    let b = bind_some (call_by s.log e.now (keyless e.kind)) (checked s.start.rules) a.0 a.1 in
    let g = cond_some (is_call s.start.rules b.0) b.0 a.0 b.2 in
    let same = cond_some (same_but_key (rule s a.0) e) (rule s a.0) made a.2 in
    let on : is_call s.start.rules a.0 ≡ true = ap (is_call s.start.rules) (sym g.1) ∙ g.0 in
    let from : call_by s.log e.now (keyless e.kind) ≡ Some a.0 = b.1 ∙ ap (λ (x : Call). Some x) g.1 in
    (a.0, due_keyless s e.now e.kind a.0 from, call_is s e.now e.kind a.0 from on, same.0, sym same.1)

bare_is : (c : Call) → HasNoKey c → bare_call c ≡ c
bare_is (call.Reserve n) none = refl
bare_is (call.Commit n number job state) none = refl
bare_is (call.Undo n number job) none = refl
bare_is (call.Beat n server nonce cpus key) none = ap (λ (k : List ℕ). call.Beat n server nonce cpus k) (sym none)
bare_is (call.Update n server job state) none = refl
bare_is (call.Status n) none = refl
bare_is (call.Drain n server nonce on) none = refl

pub replayed_as : (s : Core) (e : CoreEntry) (c : Call) → HasOneNumber s.log → HasNoKey c → IsCall s c
    → same_but_key (rule s c) e ≡ true → replayed s e ≡ Some (rule s c)
replayed_as s e c one none isc same =
    bind_is (due_by s e.now e.kind) (same_rule s e) c (Some (rule s c))
    (tells s c e.now e.kind one isc same ∙ ap (λ (x : Call). Some x) (bare_is c none))
    (ap (λ (b : Bool). cond b (Some (rule s c)) None) same)
