-- How many reservations a client holds, by the log and by what is kept; and what a reserve adds.
use Rattle.std.proofs.Common.{◌≡◌, ℕ, ◌+◌, ◌<◌, ◌≤◌, List, [], ◌∷◌, ◌++◌, Bool, true, false, cond}
use Rattle.std.proofs.Common.{not, ◌&&◌}
use Rattle.std.proofs.Common.{◌||◌, map, filter, length, Option, Some, None, refl, ap, ◌∙◌, sym, subst, arith}
use Rattle.std.specs.Prelude.{slice_get, count_by, ◌==◌, ltb, if◌then◌else◌, Result, Ok}
use Rattle.std.specs.List.{AllByRecursion}
use Rattle.std.proofs.lemmas.Bool.{eq-eqb, eqb-true, ltb-true, ltb-false}
use Rattle.std.proofs.lemmas.List.{length-map}
use Rattle.core_rules.specs.declared.entry.CoreEntry.{CoreEntry}
use Rattle.core_rules.specs.declared.entry.CoreKind.{CoreKind}
use Rattle.core_rules.specs.Laws.{AreRising}
use Rattle.core_rules.specs.Next.{place_of_booking}
use Rattle.core_rules.specs.Reservation.{bookings, unended, frees_by}
use Rattle.core_rules.proofs.AllLemmas.{all-unmap, true_false}
use Rattle.core_rules.proofs.Lists.{map-map}
use Rattle.quota.specs.Holdings.{Owned, Held, count_of, owner_of, owned_after}
use Rattle.core_rules.specs.Log.{Core, logged}
use Rattle.quota.specs.Kept.{Agree, AreWithin, place_of_owned, IsKept, with_made}
use Rattle.quota.specs.Kept.{after_made}
use Rattle.quota.specs.Quota.{Quota, owns, held_at, AreOwned, IsWithin, over_core}
use Rattle.quota.specs.Asked.{refusal_at, full_at, ByRefusal, IsReserve, IsReserveAt, IsReserveFor}
use Rattle.quota.specs.declared.fault.QuotaFault.{QuotaFault}
use Rattle.quota.specs.declared.picked.QuotaPicked.{QuotaPicked}
use Rattle.quota.specs.declared.picked.QuotaPicked.TheVariants.{Full, NoClient}
use Rattle.quota.specs.Clients.{Client, place_of}
use Rattle.quota.proofs.AgreeLemmas.{agree_after}
use Rattle.quota.proofs.ListLemmas.{counted_cons, one_if}
use Rattle.quota.proofs.KeptWords.{quota_of, IsBelow, MakesNone}

count_map : {X Y : Type 0} (p : Y → Bool) (f : X → Y) (xs : List X)
    → count_by p (map f xs) ≡ count_by (λ x. p (f x)) xs
count_map p f [] = refl
count_map p f (x ∷ xs) =
    let mine = counted_cons p (f x) (map f xs) in
    let its = counted_cons (λ y. p (f y)) x xs in
    let rest = count_map p f xs in
    omega (arith, mine, its, rest)

count_filter : {X : Type 0} (p q : X → Bool) (xs : List X)
    → count_by p (filter q xs) ≡ count_by (λ x. q x && p x) xs
count_filter p q [] = refl
count_filter p q (x ∷ xs) =
    by (q x) (count_filter p q xs) ∙ sym (counted_cons (λ y. q y && p y) x xs)
  where
    by : (b : Bool) → count_by p (filter q xs) ≡ count_by (λ y. q y && p y) xs
        → count_by p (cond b (x ∷ filter q xs) (filter q xs))
        ≡ one_if (b && p x) + count_by (λ y. q y && p y) xs
    by true rest = counted_cons p x (filter q xs) ∙ ap (λ n. one_if (p x) + n) rest
    by false rest = let same = rest in omega (arith, same)

-- no reservation whose number is greater is the one of that number
owns_none : (n client : ℕ) (xs : List Owned) → AllByRecursion (λ o. n < o.number) xs
    → owns (map owner_of xs) client n ≡ false
owns_none n client [] above = refl
owns_none n client (x ∷ xs) above =
    ap (λ b. (b && (x.client == client)) || owns (map owner_of xs) client n) (apart (x.number == n) refl)
    ∙ owns_none n client xs above.1
  where
    apart : (b : Bool) → (x.number == n) ≡ b → (x.number == n) ≡ false
    apart true e =
        let same : x.number ≡ n = eqb-true x.number n e in
        let lt = above.0 in
        absurd (omega (arith, same, lt))
    apart false e = e

-- one reservation more changes nothing for those whose numbers are greater
owns_later : (x : Owned) (client : ℕ) (all ys : List Owned) → AllByRecursion (λ o. x.number < o.number) ys
    → count_by (λ o. o.unended && owns (map owner_of (x ∷ all)) client o.number) ys
    ≡ count_by (λ o. o.unended && owns (map owner_of all) client o.number) ys
owns_later x client all [] above = refl
owns_later x client all (y ∷ ys) above =
    let mine = counted_cons (λ o. o.unended && owns (map owner_of (x ∷ all)) client o.number) y ys in
    let its = counted_cons (λ o. o.unended && owns (map owner_of all) client o.number) y ys in
    let rest = owns_later x client all ys above.1 in
    let here = ap (λ b. one_if (y.unended && ((b && (x.client == client))
    || owns (map owner_of all) client y.number))) (apart (x.number == y.number) refl) in
    omega (arith, mine, its, rest, here)
  where
    apart : (b : Bool) → (x.number == y.number) ≡ b → (x.number == y.number) ≡ false
    apart true e =
        let same : x.number ≡ y.number = eqb-true x.number y.number e in
        let lt = above.0 in
        absurd (omega (arith, same, lt))
    apart false e = e

-- where the numbers rise, a reservation is its client's alone
owned_count : (xs : List Owned) (client : ℕ) → AreRising (map (λ o. o.number) xs)
    → count_by (λ o. o.unended && owns (map owner_of xs) client o.number) xs ≡ count_of xs client
owned_count [] client rising = refl
owned_count (x ∷ xs) client rising =
    let above = all-unmap (λ m. x.number < m) (λ o. o.number) xs rising.0 in
    let mine = counted_cons (λ o. o.unended && owns (map owner_of (x ∷ xs)) client o.number) x xs in
    let its = counted_cons (λ o. o.unended && (o.client == client)) x xs in
    let later = owns_later x client xs xs above in
    let rest = owned_count xs client rising.1 in
    let none = owns_none x.number client xs above in
    let self : (x.number == x.number) ≡ true = eq-eqb x.number x.number refl in
    let here = ap (λ b. one_if (x.unended && ((b && (x.client == client))
    || owns (map owner_of xs) client x.number))) self
    ∙ ap (λ b. one_if (x.unended && ((true && (x.client == client)) || b))) none
    ∙ ap (λ b. one_if (x.unended && b)) (or_no (x.client == client)) in
    omega (arith, mine, its, later, rest, here)
  where
    or_no : (b : Bool) → ((true && b) || false) ≡ b
    or_no true = refl
    or_no false = refl

-- what a client holds by the log is what is kept
pub held_is : (core_log : List CoreEntry) (owned : List Owned) (client : ℕ) → Agree core_log owned
    → count_by (λ b. owns (map owner_of owned) client b.number) (unended core_log) ≡ count_of owned client
held_is core_log owned client agree =
    sym (count_map (λ p. owns (map owner_of owned) client p.0.0) place_of_booking (unended core_log))
    ∙ ap (count_by (λ p. owns (map owner_of owned) client p.0.0)) (sym agree.unended_are)
    ∙ count_map (λ p. owns (map owner_of owned) client p.0.0) place_of_owned (filter (λ o. o.unended) owned)
    ∙ count_filter (λ o. owns (map owner_of owned) client o.number) (λ o. o.unended) owned
    ∙ owned_count owned client agree.rising

-- each reservation has its owner
pub owners_are : (core_log : List CoreEntry) (owned : List Owned) → Agree core_log owned
    → map (λ o. o.number) (map owner_of owned) ≡ map (λ b. b.number) (bookings core_log)
owners_are core_log owned agree =
    map-map (λ o. o.number) owner_of owned
    ∙ sym (map-map (λ p. p.0.0) place_of_owned owned)
    ∙ ap (map (λ p. p.0.0)) agree.made
    ∙ map-map (λ p. p.0.0) place_of_booking (bookings core_log)

-- there are as many as the log makes
pub made_length : (core_log : List CoreEntry) (owned : List Owned) → Agree core_log owned
    → length owned ≡ length (bookings core_log)
made_length core_log owned agree =
    sym (length-map owned place_of_owned) ∙ ap length agree.made ∙ length-map (bookings core_log)
    place_of_booking

-- what an entry ends lowers what clients hold
pub count_after : (k : CoreKind) (owned : List Owned) (client : ℕ)
    → count_of (map (owned_after k) owned) client ≤ count_of owned client
count_after k [] client = omega arith
count_after k (o ∷ owned) client =
    let rest = count_after k owned client in
    let mine = counted_cons (λ q. q.unended && (q.client == client)) (owned_after k o) (map (owned_after k)
    owned) in
    let its = counted_cons (λ q. q.unended && (q.client == client)) o owned in
    let here = less o.unended (not (frees_by k o.job o.reg)) (o.client == client) in
    omega (arith, rest, mine, its, here)
  where
    less : (a b c : Bool) → one_if ((a && b) && c) ≤ one_if (a && c)
    less true true true = omega arith
    less true true false = omega arith
    less true false true = omega arith
    less true false false = omega arith
    less false true c = omega arith
    less false false c = omega arith

pub within_after : (k : CoreKind) (clients : List Client) (owned : List Owned) → AreWithin clients owned
    → AreWithin clients (map (owned_after k) owned)
within_after k clients owned within place c is =
    let fewer = count_after k owned place in
    let before = within place c is in
    omega (arith, fewer, before)

-- what is kept says that no client holds more than it may, and whose each reservation is
pub within_seen : (core : Core) (clients : List Client) (held : Held) → IsKept core clients held
    → IsWithin (quota_of core clients held.owned)
within_seen core clients held kept place c is =
    subst (λ n. n ≤ c.limit) (sym (held_is core.log held.owned place kept.agree)) (kept.within place c is)

pub owned_seen : (core : Core) (clients : List Client) (held : Held) → IsKept core clients held
    → AreOwned (quota_of core clients held.owned)
owned_seen core clients held kept = owners_are core.log held.owned kept.agree

-- the same once there is room
pub kept_alike : (core : Core) (clients : List Client) (old new : Held) → new.first ≡ old.first
    → new.owned ≡ old.owned → new.clients ≡ old.clients → IsKept core clients old → IsKept core clients new
kept_alike core clients old new first owned listed kept = record {
  first = first ∙ kept.first;
  begins = kept.begins;
  rules = kept.rules;
  listed = listed ∙ kept.listed;
  agree = subst (Agree core.log) (sym owned) kept.agree;
  within = subst (AreWithin clients) (sym owned) kept.within;
}

-- after an entry that makes no reservation
pub kept_after : (core : Core) (clients : List Client) (old new : Held) (made : Option CoreEntry)
    → new.first ≡ old.first → new.owned ≡ after_made made old.owned → new.clients ≡ old.clients
    → MakesNone made → IsKept core clients old → IsKept (with_made core made) clients new
kept_after core clients old new None first owned listed none kept =
    kept_alike core clients old new first owned listed kept
kept_after core clients old new (Some e) first owned listed none kept = record {
  first = first ∙ kept.first;
  begins = kept.begins;
  rules = kept.rules;
  listed = listed ∙ kept.listed;
  agree = subst (Agree (core.log ++ e ∷ [])) (sym owned)
      (agree_after core.log old.owned e kept.agree (none (length core.log) 0));
  within = subst (AreWithin clients) (sym owned) (within_after e.kind clients old.owned kept.within);
}

-- and the owners stay
pub seen_after : (core : Core) (clients : List Client) (old new : List Owned) (made : Option CoreEntry)
    → new ≡ after_made made old
    → quota_of (with_made core made) clients new ≡ over_core (quota_of core clients old) (with_made core made)
seen_after core clients old new None is = ap (quota_of core clients) is
seen_after core clients old new (Some e) is =
    ap (λ l. record { core = logged core e; clients = clients; owners = l })
    (ap (map owner_of) is ∙ map-map owner_of (owned_after e.kind) old)

-- a client that holds as many as it may, and one that holds less
pub full_is : (q : Quota) (place held limit : ℕ) (c : Client) → slice_get q.clients place ≡ Some c
    → held ≡ held_at q place → limit ≡ c.limit → (held == limit) ≡ true
    → refusal_at q (Some place) ≡ Some (Full held limit)
full_is q place held limit c at holds may is =
    ap (full_at (held_at q place)) at
    ∙ ap (λ n. full_at n (Some c)) (sym holds)
    ∙ ap (λ n. if held == n then Some (Full held n) else None) (sym may)
    ∙ ap (λ b. if b then Some (Full held limit) else None) is

pub free_is : (q : Quota) (place held limit : ℕ) (c : Client) → slice_get q.clients place ≡ Some c
    → held ≡ held_at q place → limit ≡ c.limit → (held == limit) ≡ false → refusal_at q (Some place) ≡ None
free_is q place held limit c at holds may is =
    ap (full_at (held_at q place)) at
    ∙ ap (λ n. full_at n (Some c)) (sym holds)
    ∙ ap (λ n. if held == n then Some (Full held n) else None) (sym may)
    ∙ ap (λ b. if b then Some (Full held limit) else None) is

-- which holds less than it may
pub below_is : (core : Core) (clients : List Client) (held : Held) (place holds limit : ℕ)
    → IsKept core clients held → holds ≡ count_of held.owned place
    → ((c : Client) → slice_get clients place ≡ Some c → limit ≡ c.limit) → (holds == limit) ≡ false
    → IsBelow clients held.owned place
below_is core clients held place holds limit kept counts may apart c at =
    let most = kept.within place c at in
    let limits = may c at in
    by (ltb (count_of held.owned place) c.limit) refl most limits
  where
    by : (t : Bool) → ltb (count_of held.owned place) c.limit ≡ t → count_of held.owned place ≤ c.limit
        → limit ≡ c.limit → count_of held.owned place < c.limit
    by true less most limits = ltb-true (count_of held.owned place) c.limit less
    by false more most limits =
        let ge = ltb-false (count_of held.owned place) c.limit more in
        let same : holds ≡ limit = omega (arith, counts, ge, most, limits) in
        absurd (true_false (holds == limit) (eq-eqb holds limit same) apart)

-- by whether the client is listed
pub for_listed : {A : Type 0} (key_of : A → List ℕ) (token_for : A → ℕ → List ℕ) (now : ℕ) (name : List ℕ)
    (q new : Quota) (answer : Result QuotaPicked QuotaFault) (place : ℕ) → place_of q.clients name ≡ Some
    place
    → ByRefusal (refusal_at q (Some place)) q new answer (IsReserve key_of token_for now place q new answer)
    → IsReserveFor key_of token_for now name q new answer
for_listed key_of token_for now name q new answer place is reserved =
    subst (λ o. ByRefusal (refusal_at q o) q new answer (IsReserveAt key_of token_for now o q new answer))
    (sym is)
    reserved

pub for_none : {A : Type 0} (key_of : A → List ℕ) (token_for : A → ℕ → List ℕ) (now : ℕ) (name : List ℕ)
    (q : Quota) → place_of q.clients name ≡ None → IsReserveFor key_of token_for now name q q (Ok NoClient)
for_none key_of token_for now name q is =
    subst (λ o. ByRefusal (refusal_at q o) q q (Ok NoClient) (IsReserveAt key_of token_for now o q q (Ok
    NoClient)))
    (sym is) (refl, refl)
