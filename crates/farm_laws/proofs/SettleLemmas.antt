-- Entries of a run by their places; a call is settled at most once.
use Rattle.std.proofs.Common.{◌≡◌, ◌⊎◌, inl, inr, ℕ, zero, suc, ◌<◌, ◌≤◌, ◌&&◌, ◌||◌, nat_lt, not, Bool, true}
use Rattle.std.proofs.Common.{false, cond, List, [], ◌∷◌, ◌++◌, length, take, drop, Option, Some, None, refl}
use Rattle.std.proofs.Common.{ap, ◌∙◌, sym, subst, append_assoc, append-nil, arith}
use Rattle.std.specs.Prelude.{slice_get}
use Rattle.std.specs.List.{list_any}
use Rattle.std.specs.Option.{option_map}
use Rattle.std.proofs.lemmas.Bool.{cases_lt, eqb-true, false≢true}
use Rattle.std.proofs.lemmas.Option.{same_Some}
use Rattle.dist_types.proofs.AddrLemmas.{bind_some}
use Rattle.core_rules.specs.Cuts.{cuts_behind}
use Rattle.core_rules.proofs.AllLemmas.{and_left, and_right, not_true, or_true, true_false}
use Rattle.farm_script.proofs.WordLemmas.{guard_off}
use Rattle.farm_script.specs.declared.event.Event.{Event}
use Rattle.farm_script.specs.declared.event.EventKind.{EventKind}
use Rattle.farm_script.specs.declared.event.EventKind.TheVariants.{Request, Deliver, Fail, Return, Answer}
use Rattle.farm_script.specs.declared.event.EventKind.TheVariants.{Beat, Restart}
use Rattle.farm_entries.specs.declared.site.Site.{Site as Setup}
use Rattle.farm_entries.specs.declared.entry.Effect.{Effect}
use Rattle.farm_entries.specs.declared.entry.Entry.{Entry}
use Rattle.farm_entries.specs.declared.entry.EntryWord.TheVariants.{Void}
use Rattle.farm_entries.specs.Builds.{SettlesCall, AreSettledOnce}
use Rattle.farm_entries.specs.Calls.{call_at, delivery_at, settles_by, is_void, is_of, settled_at, is_settled}
use Rattle.farm_entries.specs.Calls.{waiting_at}
use Rattle.farm_entries.specs.Effects.{word_effect, entry_of}
use Rattle.farm_entries.specs.Next.{IsSettled, IsMade, IsNext, EachNext}
use Rattle.farm_entries.specs.Ways.{Way, return_way, is_inside, way_of, to_nothing, to_call}
use Rattle.farm_entries.specs.Weather.{Weather}

-- ---- places

pub take_take : {X : Type 0} (xs : List X) (n m : ℕ) → n ≤ m → take n (take m xs) ≡ take n xs
take_take xs zero m h = refl
take_take [] (suc n) zero h = absurd (omega arith)
take_take [] (suc n) (suc m) h = refl
take_take (x ∷ xs) (suc n) zero h = absurd (omega arith)
take_take (x ∷ xs) (suc n) (suc m) h = ap (λ (ys : List _). x ∷ ys) (take_take xs n m (omega arith))

-- what stands in a front stands before its end, and in the whole
pub get_front : {X : Type 0} (xs : List X) (n m : ℕ) (x : X) → slice_get (take m xs) n ≡ Some x → (n < m)
    × (slice_get xs n ≡ Some x)
get_front [] n zero x e = absurd cc
get_front [] n (suc m) x e = absurd cc
get_front (y ∷ ys) n zero x e = absurd cc
get_front (y ∷ ys) zero (suc m) x e = (omega arith, e)
get_front (y ∷ ys) (suc n) (suc m) x e = let r = get_front ys n m x e in (omega (arith, r.0), r.1)

pub get_take : {X : Type 0} (xs : List X) (n m : ℕ) → n < m → slice_get (take m xs) n ≡ slice_get xs n
get_take [] n zero h = refl
get_take [] n (suc m) h = refl
get_take (y ∷ ys) n zero h = absurd (omega arith)
get_take (y ∷ ys) zero (suc m) h = refl
get_take (y ∷ ys) (suc n) (suc m) h = get_take ys n m (omega arith)

-- ---- the entries of a run

-- each entry is next over those before it
pub next_at : (w : Weather) (setup : Setup) (log : List Entry) (events : List Event) (entries : List Entry)
    (n : ℕ)
    (e : Entry) → EachNext w setup log events entries → slice_get entries n ≡ Some e
    → IsNext w setup (log ++ take n entries) e.event e
next_at w setup log [] [] n e each at = absurd cc
next_at w setup log (v ∷ vs) (x ∷ xs) zero e each at =
    let event : x.event ≡ v = ap (λ (y : Entry). y.event) each.0.2 in
    let own : IsNext w setup log x.event x = subst (λ (u : Event). IsNext w setup log u x) (sym event)
    each.0 in
    subst (λ (y : Entry). IsNext w setup (log ++ []) y.event y) (same_Some x e at)
    (subst (λ (l : List Entry). IsNext w setup l x.event x) (sym (append-nil log)) own)
next_at w setup log (v ∷ vs) (x ∷ xs) (suc n) e each at =
    subst (λ (l : List Entry). IsNext w setup l e.event e) (append_assoc log (x ∷ []) (take n xs))
    (next_at w setup (log ++ x ∷ []) vs xs n e each.1 at)
next_at w setup log [] (x ∷ xs) n e each at = absurd each
next_at w setup log (v ∷ vs) [] n e each at = absurd each

-- a front of a run is a run
pub each_front : (w : Weather) (setup : Setup) (log : List Entry) (events : List Event)
    (entries : List Entry) (n : ℕ)
    → EachNext w setup log events entries → EachNext w setup log (take n events) (take n entries)
each_front w setup log [] [] zero each = tt
each_front w setup log [] [] (suc n) each = tt
each_front w setup log (v ∷ vs) (x ∷ xs) zero each = tt
each_front w setup log (v ∷ vs) (x ∷ xs) (suc n) each =
    (each.0, each_front w setup (log ++ x ∷ []) vs xs n each.1)
each_front w setup log [] (x ∷ xs) n each = absurd each
each_front w setup log (v ∷ vs) [] n each = absurd each

-- ---- what an event that is to settle a call comes to

pub way_back : (setup : Setup) (log : List Entry) (k : EventKind) (n : ℕ) (reply : Option (List ℕ))
    → settles_by log k ≡ Some (n, reply) → (way_of setup log k ≡ to_call n reply)
    ⊎ (way_of setup log k ≡ to_nothing)
way_back setup log (Request target peer bytes) n reply e = absurd cc
way_back setup log (Deliver c) n reply e = absurd cc
way_back setup log (Fail c) n reply e =
    inl (ap (λ (p : ℕ × Option (List ℕ)). to_call p.0 p.1) (same_Some _ _ e))
way_back setup log (Return d) n reply e = by_delivery (delivery_at log d) e
  where
    by_delivery : (o : Option (ℕ × List ℕ)) → ◌≡◌ {A = Option (ℕ × Option (List ℕ))}
        (option_map (λ p. (p.0, Some p.1)) o) (Some (n, reply)) → (return_way o ≡ to_call n reply)
        ⊎ (return_way o ≡ to_nothing)
    by_delivery None e = absurd cc
    by_delivery (Some p) e = inl (ap (λ (q : ℕ × Option (List ℕ)). to_call q.0 q.1) (same_Some _ _ e))
way_back setup log (Answer c bytes) n reply e = by_test (is_inside setup (call_at log c))
  where
    by_test : (b : Bool) → (cond b to_nothing (to_call c (Some bytes)) ≡ to_call n reply)
        ⊎ (cond b to_nothing (to_call c (Some bytes)) ≡ to_nothing)
    by_test true = inr refl
    by_test false = inl (ap (λ (p : ℕ × Option (List ℕ)). to_call p.0 p.1) (same_Some _ _ e))
way_back setup log (Beat server) n reply e = absurd cc
way_back setup log (Restart server key nonce) n reply e = absurd cc

-- an effect that is void
pub void : (event : Event) (x : Effect) (e : Entry) → e ≡ entry_of event x → x ≡ word_effect Void
    → is_void e.word ≡ false → ⊥
void event x e is made off = false≢true (sym off ∙ ap (λ (y : Entry). is_void y.word) is
    ∙ ap (λ (y : Effect). is_void y.word) made)

-- what an entry settles waited
pub settles_waiting : (w : Weather) (setup : Setup) (log : List Entry) (e : Entry) (n : ℕ)
    (reply : Option (List ℕ))
    → IsNext w setup log e.event e → is_void e.word ≡ false → settles_by log e.event.kind ≡ Some (n, reply)
    → (w : Entry) × (waiting_at log n ≡ Some w)
settles_waiting w setup log e n reply (x, made, is) off settles =
    by_way (way_back setup log e.event.kind n reply settles)
  where
    by_wait : (o : Option Entry) → IsSettled w setup log e.event.at n reply o x → waiting_at log n ≡ o
        → (w : Entry) × (waiting_at log n ≡ Some w)
    by_wait None h same = absurd (void e.event x e is h off)
    by_wait (Some waits) h same = (waits, same)

    by_way : (way_of setup log e.event.kind ≡ to_call n reply) ⊎ (way_of setup log e.event.kind ≡ to_nothing)
        → (w : Entry) × (waiting_at log n ≡ Some w)
    by_way (inl same) = by_wait (waiting_at log n)
        (subst (λ (way : Way). IsMade w setup log e.event.at way x) same made) refl
    by_way (inr same) = absurd
        (void e.event x e is (subst (λ (way : Way). IsMade w setup log e.event.at way x) same made) off)

-- ---- once

-- the parts of a settlement
pub record Settlement (log : List Entry) (n : ℕ) (e : Entry) : Type 0 where
  pub later : nat_lt n (length log) ≡ true
  pub silent : is_void e.word ≡ false
  pub reply : Option (List ℕ)
  pub names : settles_by log e.event.kind ≡ Some (n, reply)

named : (n : ℕ) (o : Option (ℕ × Option (List ℕ))) → is_of n o ≡ true → (reply : Option (List ℕ))
    × (o ≡ Some (n, reply))
named n None t = absurd (false≢true t)
named n (Some p) t = (
  p.1,
  ap (λ (m : ℕ). let q : ℕ × Option (List ℕ) = (m, p.1) in Some q)
      (eqb-true p.0 n t),
)

pub settlement : (n : ℕ) (log after : List Entry) (e : Entry)
    → settled_at n (record { before = log; at = e; after = after }) ≡ true → Settlement log n e
settlement n log after e t =
    let front = and_left (nat_lt n (length log) && not (is_void e.word))
    (is_of n (settles_by log e.event.kind)) t in
    let o = named n (settles_by log e.event.kind) (and_right (nat_lt n (length log) && not (is_void e.word))
    (is_of n (settles_by log e.event.kind)) t) in
    record {
      later = and_left (nat_lt n (length log)) (not (is_void e.word)) front;
      silent = not_true (is_void e.word) (and_right (nat_lt n (length log)) (not (is_void e.word)) front);
      reply = o.0;
      names = o.1;
    }

-- a call that waits is not settled
pub waits_unsettled : (log : List Entry) (n : ℕ) (w : Entry) → waiting_at log n ≡ Some w
    → is_settled log n ≡ false
waits_unsettled log n w waits =
    let a = bind_some (slice_get log n) _ w waits in
    let b = bind_some a.0.call _ w a.2 in
    (guard_off (is_settled log n) (Some a.0) w b.2).0

settled_among : (n : ℕ) (front xs : List Entry) (k : ℕ) (e : Entry) → slice_get xs k ≡ Some e
    → settled_at n (record { before = front ++ take k xs; at = e; after = [] }) ≡ true
    → list_any (settled_at n) (cuts_behind front xs) ≡ true
settled_among n front [] k e at t = absurd cc
settled_among n front (x ∷ xs) zero e at t =
    let here : settled_at n (record { before = front; at = x; after = xs }) ≡ true =
    ap (λ (l : List Entry). settled_at n (record { before = l; at = x; after = [] })) (sym (append-nil front))
    ∙ ap (λ (y : Entry). settled_at n (record { before = front ++ []; at = y; after = [] }))
    (same_Some x e at) ∙ t in
    ap (λ (b : Bool). b || list_any (settled_at n) (cuts_behind (front ++ x ∷ []) xs)) here
settled_among n front (x ∷ xs) (suc k) e at t =
    or_true (settled_at n (record { before = front; at = x; after = xs }))
    (list_any (settled_at n) (cuts_behind (front ++ x ∷ []) xs))
    (settled_among n (front ++ x ∷ []) xs k e at
    (ap (λ (l : List Entry). settled_at n (record { before = l; at = e; after = [] }))
    (append_assoc front (x ∷ []) (take k xs)) ∙ t))

module _ (w : Weather) (setup : Setup) (events : List Event) (entries : List Entry)
    (each : EachNext w setup [] events entries) where
  twice : (n j k : ℕ) → j < k → SettlesCall entries n j → SettlesCall entries n k → ⊥
  twice n j k less a b =
      let s = settlement n (take k entries) (drop (suc k) entries) b.entry b.settles in
      let waits = settles_waiting w setup (take k entries) b.entry n s.reply
      (next_at w setup [] events entries k b.entry each b.there) s.silent s.names in
      let before : settled_at n (record { before = take j (take k entries); at = a.entry; after = [] })
      ≡ true =
      ap (λ (l : List Entry). settled_at n (record { before = l; at = a.entry; after = [] }))
      (take_take entries j k (omega (arith, less))) ∙ a.settles in
      true_false (is_settled (take k entries) n)
      (settled_among n [] (take k entries) j a.entry (get_take entries j k less ∙ a.there) before)
      (waits_unsettled (take k entries) n waits.0 waits.1)

  pub settled_once : AreSettledOnce entries
  settled_once = λ n j k a b. elim (cases_lt j k) [
    | inl less ↦ absurd (twice n j k less a b)
    | inr at_most ↦ elim (cases_lt k j) [
      | inl more ↦ absurd (twice n k j more b a)
      | inr least ↦ omega (arith, at_most, least)
    ]
  ]

-- at every prefix of a run a call is settled at most once
pub settled_throughout : (w : Weather) (setup : Setup) (events : List Event) (entries : List Entry)
    → EachNext w setup [] events entries → (n : ℕ) → AreSettledOnce (take n entries)
settled_throughout w setup events entries each n =
    settled_once w setup (take n events) (take n entries) (each_front w setup [] events entries n each)
