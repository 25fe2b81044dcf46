-- In each legal log no registration has more than its share.
use Rattle.std.proofs.Common.{◌≡◌, ℕ, ◌+◌, ◌/◌, ◌^◌, ◌<◌, ◌≤◌, List, [], ◌∷◌, ◌++◌, Bool, true, false, cond}
use Rattle.std.proofs.Common.{not, ◌||◌, map, filter, length, Option, Some, None, refl, ap, ◌∙◌, sym, subst}
use Rattle.std.proofs.Common.{arith, append-nil, eq-eqb, eqb-true, length-append}
use Rattle.std.specs.Prelude.{◌==◌, option_to_list, count_by, nat_lt}
use Rattle.std.specs.List.{AllByRecursion, list_any}
use Rattle.std.specs.Option.{option_map}
use Rattle.std.proofs.lemmas.Bool.Decides.{nat_tests}
use Rattle.std.proofs.lemmas.List.{map-append}
use Rattle.std.proofs.lemmas.List.Sums.{sum_by-cons, sum_by-append}
use Rattle.dist_types.specs.declared.ids.JobId.{JobId}
use Rattle.core_rules.specs.declared.start.Start.{Start}
use Rattle.core_rules.proofs.Lists.{map-map, map-same, end_cut}
use Rattle.core_rules.specs.declared.entry.CoreEntry.{CoreEntry}
use Rattle.core_rules.specs.declared.entry.CoreKind.{CoreKind}
use Rattle.core_rules.specs.declared.entry.CoreKind.TheVariants.{Beat, Reserve, Commit, Undo, Update}
use Rattle.core_rules.specs.declared.entry.CoreKind.TheVariants.{Status, Drain}
use Rattle.core_rules.specs.declared.entry.Reserved.TheVariants.{Job, NoRoom, Spent}
use Rattle.core_rules.specs.declared.rows.ServerRow.{ServerRow}
use Rattle.core_rules.specs.Log.{same_job, names}
use Rattle.core_rules.specs.Standing.{Registered, registered_by, registered_at, standing, ends_by, is_draining}
use Rattle.core_rules.specs.Reservation.{Booking, booked_by, unended, load_of}
use Rattle.core_rules.specs.Rows.{row_of, servers_of}
use Rattle.core_rules.specs.Pick.{has_room}
use Rattle.core_rules.specs.Laws.{IsRule, IsLegal, AreDistinct, AreRising, IsBounded}
use Rattle.core_rules.proofs.LegalLemmas.{core_of, legal_has}
use Rattle.core_rules.proofs.StandingLemmas.{standing-push}
use Rattle.core_rules.proofs.AllLemmas.{or_left, or_right, is_false, all-weaker, all-both, all-filter}
use Rattle.core_rules.proofs.AllLemmas.{all-map, all-unmap, all-step, found, distinct-push, distinct-filter}
use Rattle.core_rules.proofs.AllLemmas.{each_same, and_right}
use Rattle.core_rules.proofs.RisingLemmas.{rising-filter, rising-push}
use Rattle.core_rules.proofs.StepLemmas.{bare, held, regs, booked, held_stays, held-push}
use Rattle.core_rules.proofs.FactLemmas.{Facts, JobFacts, facts, pick_has, all_there}
use Rattle.core_rules.proofs.HeldLemmas.{Sound, no_sound, sound-step}

-- tests on numbers
pub lt_true : (a b : ℕ) → nat_lt a b ≡ true → a < b
lt_true a b e = grind (arith, nat_tests)

pub lt_false : (a b : ℕ) → nat_lt a b ≡ false → b ≤ a
lt_false a b e = grind (arith, nat_tests)

pub lt_is : (a b : ℕ) → a < b → nat_lt a b ≡ true
lt_is a b e = grind (arith, nat_tests)

pub ge_is : (a b : ℕ) → b ≤ a → nat_lt a b ≡ false
ge_is a b e = grind (arith, nat_tests)

-- counts
pub count-map : {X Y : Type 0} (p : Y → Bool) (f : X → Y) (xs : List X) → count_by p (map f xs) ≡ count_by
    (λ x. p (f x)) xs
count-map p f [] = refl
count-map p f (x ∷ xs) = sum_by-cons (λ y. cond (p y) 1 0) (f x) (map f xs) ∙ ap (λ n. cond (p (f x)) 1 0 + n)
    (count-map p f xs) ∙ sym (sum_by-cons (λ x. cond (p (f x)) 1 0) x xs)

count-kept : {X : Type 0} (p q : X → Bool) (xs : List X) → count_by p (filter q xs) ≤ count_by p xs
count-kept p q [] = omega arith
count-kept p q (x ∷ xs) =
    let rest : count_by p (filter q xs) ≤ count_by p xs = count-kept p q xs in
    let whole : count_by p (x ∷ xs) ≡ cond (p x) 1 0 + count_by p xs = sum_by-cons (λ y. cond (p y) 1 0) x xs
    in
    elim (q x) as (λ b. count_by p (cond b (x ∷ filter q xs) (filter q xs)) ≤ count_by p (x ∷ xs)) [
      | true ↦ let some : count_by p (x ∷ filter q xs) ≡ cond (p x) 1 0 + count_by p (filter q xs) =
          sum_by-cons (λ y. cond (p y) 1 0) x (filter q xs) in omega (arith, rest, whole, some)
      | false ↦ omega (arith, rest, whole)
    ]

pub count_none : {X : Type 0} (p : X → Bool) (xs : List X) → list_any p xs ≡ false → count_by p xs ≡ 0
count_none p [] e = refl
count_none p (x ∷ xs) e = sum_by-cons (λ y. cond (p y) 1 0) x xs ∙ ap (λ b. cond b 1 0 + count_by p xs)
    (or_left (p x) (list_any p xs) e)
    ∙ (let rest : count_by p xs ≡ 0 = count_none p xs (or_right (p x) (list_any p xs) e)
    in omega (arith, rest))

pub load_held : (log : List CoreEntry) (reg : ℕ) → load_of log reg ≡ count_by (λ b. b.reg == reg) (held log)
load_held log reg = sym (count-map (λ b. b.reg == reg) bare (unended log))

-- the load after one more entry
load-step : (log : List CoreEntry) (e : CoreEntry) (reg : ℕ)
    → load_of (log ++ e ∷ []) reg ≤ load_of log reg + count_by (λ b. b.reg == reg)
    (option_to_list (booked log e))
load-step log e reg =
    let p : Booking → Bool = λ b. b.reg == reg in
    let new : load_of (log ++ e ∷ []) reg ≡ count_by p (filter (held_stays e) (held log)) + count_by p
    (option_to_list (booked log e)) =
    load_held (log ++ e ∷ []) reg ∙ ap (count_by p) (held-push log e) ∙ sum_by-append (λ b. cond (p b) 1 0)
    (filter (held_stays e) (held log)) (option_to_list (booked log e)) in
    let less : count_by p (filter (held_stays e) (held log)) ≤ count_by p (held log) =
    count-kept p (held_stays e) (held log) in
    let old : load_of log reg ≡ count_by p (held log) = load_held log reg in
    omega (arith, new, less, old)

-- numbers of registrations, as ids
abbrev pub num : ℕ → JobId
num n = record { 0 = n }

-- a registration that stands, with its processors
abbrev pub view : Registered → ℕ × ℕ
view g = (g.reg, g.cpus)

abbrev pub pairs : List CoreEntry → List (ℕ × ℕ)
pairs log = map view (standing log)

abbrev pair_stays : CoreEntry → ℕ × ℕ → Bool
pair_stays e p = not (ends_by e.kind p.0)

pairs-push : (log : List CoreEntry) (e : CoreEntry) → pairs (log ++ e ∷ []) ≡ filter (pair_stays e)
    (pairs log) ++ option_to_list (option_map view (registered_at (end_cut log e)))
pairs-push log e =
    standing-push view (λ l d p. p) pair_stays (λ d g. refl) (λ l d g whole up. refl) log e
    ∙ ap (λ ps. ps ++ option_to_list (option_map view (registered_at (end_cut log e))))
    (map-same (λ p. p) (λ p. refl) (filter (pair_stays e) (pairs log)))

abbrev HasLoadRoom : List CoreEntry → ℕ × ℕ → Type 0
HasLoadRoom log p = load_of log p.0 ≤ p.1 + 1 + p.1 / 8

pub record Roomy (log : List CoreEntry) : Type 0 where
  pub below : AllByRecursion (λ p. p.0 < length log) (pairs log)
  pub distinct : AreDistinct (map (λ p. num p.0) (pairs log))
  pub rising : AreRising (map (λ p. p.0) (pairs log))
  pub positive : AllByRecursion (λ p. 1 ≤ p.1) (pairs log)
  pub bounded : AllByRecursion (HasLoadRoom log) (pairs log)

-- what a new registration has
abbrev NewPair : List CoreEntry → ℕ × ℕ → Type 0
NewPair log p = (p.0 ≡ length log) × (1 ≤ p.1)

new_pair : (start : Start) (log : List CoreEntry) (now : ℕ) (k : CoreKind) (at : CoreEntry)
    → Facts (core_of start log) k
    → AllByRecursion (NewPair log) (option_to_list (option_map view (registered_by k now log at [])))
new_pair start log now (Beat server nonce cpus key pruned reaped replaced true) at is =
    ((refl, is.some), tt)
new_pair start log now (Beat server nonce cpus key pruned reaped replaced false) at is = tt
new_pair start log now (Reserve r) at is = tt
new_pair start log now (Commit job state kept) at is = tt
new_pair start log now (Undo job noted was_ended) at is = tt
new_pair start log now (Update server job state answer) at is = tt
new_pair start log now (Status pruned servers cpus n) at is = tt
new_pair start log now (Drain addr nonce on named) at is = tt

-- an entry that registers books nothing
no_booking : (k : CoreKind) (number now : ℕ) (before : List CoreEntry) (at : CoreEntry)
    → AllByRecursion (λ p. booked_by k number now [] ≡ None)
    (option_to_list (option_map view (registered_by k now before at [])))
no_booking (Beat server nonce cpus key pruned reaped replaced true) number now before at = (refl, tt)
no_booking (Beat server nonce cpus key pruned reaped replaced false) number now before at = tt
no_booking (Reserve r) number now before at = tt
no_booking (Commit job state kept) number now before at = tt
no_booking (Undo job noted was_ended) number now before at = tt
no_booking (Update server job state answer) number now before at = tt
no_booking (Status pruned servers cpus n) number now before at = tt
no_booking (Drain addr nonce on named) number now before at = tt

-- the rows that stand have different numbers
pub rows_distinct : (log : List CoreEntry) → AreDistinct (map (λ p. num p.0) (pairs log))
    → AreDistinct (map (λ r. num r.reg) (servers_of log))
rows_distinct log distinct = subst AreDistinct (map-map (λ p. num p.0) view (standing log)
    ∙ sym (map-map (λ r. num r.reg) (row_of log) (standing log))) distinct

-- where a job is reserved, the registration has room
picked_room : (start : Start) (log : List CoreEntry) (job : JobId) (reg : ℕ)
    → AreDistinct (map (λ p. num p.0) (pairs log)) → JobFacts (core_of start log) job reg
    → AllByRecursion (λ p. (reg == p.0) ≡ true → nat_lt (load_of log p.0) (p.1 + 1 + p.1 / 8) ≡ true)
    (pairs log)
picked_room start log job reg distinct is =
    let rows : List ServerRow = servers_of log in
    let there : list_any (λ r. r.reg == is.row.reg) (filter has_room rows) ≡ true =
    pick_has (λ r. list_any (λ q. q.reg == r.reg) (filter has_room rows) ≡ true) rows is.row
    (all_there [] (filter has_room rows)) is.picked in
    let all : AllByRecursion (λ r. same_job (num r.reg) (num is.row.reg) ≡ true → has_room r ≡ true) rows =
    each_same (λ r. num r.reg) has_room (num is.row.reg) rows (rows_distinct log distinct) there in
    all-map (λ p. (reg == p.0) ≡ true → nat_lt (load_of log p.0) (p.1 + 1 + p.1 / 8) ≡ true) view
    (standing log)
    (all-weaker (λ g. (g.reg == is.row.reg) ≡ true → has_room (row_of log g) ≡ true)
    (λ g. (reg == g.reg) ≡ true → nat_lt (load_of log g.reg) (g.cpus + 1 + g.cpus / 8) ≡ true)
    (λ g h e. and_right (not (is_draining g)) (nat_lt (load_of log g.reg) (g.cpus + 1 + g.cpus / 8))
    (h (eq-eqb g.reg is.row.reg (sym (eqb-true reg g.reg e) ∙ is.at)))) (standing log)
    (all-unmap (λ r. (r.reg == is.row.reg) ≡ true → has_room r ≡ true) (row_of log) (standing log) all))

-- how much a new reservation adds to the load
abbrev extra : Option Booking → ℕ → ℕ
extra o reg = count_by (λ (b : Booking). b.reg == reg) (option_to_list o)

-- a new reservation adds at most one, and one only where there is room
added : (start : Start) (log : List CoreEntry) (k : CoreKind) (number now : ℕ)
    → AreDistinct (map (λ p. num p.0) (pairs log)) → Facts (core_of start log) k
    → AllByRecursion (HasLoadRoom log) (pairs log)
    → AllByRecursion (λ p. load_of log p.0 + extra (booked_by k number now []) p.0 ≤ p.1 + 1 + p.1 / 8)
    (pairs log)
added start log (Reserve (Job job reg forgiven)) number now distinct is old =
    all-both (HasLoadRoom log) (λ p. (reg == p.0) ≡ true → nat_lt (load_of log p.0) (p.1 + 1 + p.1 / 8)
    ≡ true)
    (λ p. load_of log p.0 + extra
    (Some (record { number = number; now = now; job = job; reg = reg; later = [] })) p.0 ≤ p.1 + 1 + p.1 /
    8)
    (λ p le room. one p le (reg == p.0) room) (pairs log) old (picked_room start log job reg distinct is)
  where
    one : (p : ℕ × ℕ) → HasLoadRoom log p → (b : Bool)
        → (b ≡ true → nat_lt (load_of log p.0) (p.1 + 1 + p.1 / 8) ≡ true)
        → load_of log p.0 + (0 + cond b 1 0) ≤ p.1 + 1 + p.1 / 8
    one p le true room = let lt : load_of log p.0 < p.1 + 1 + p.1 / 8 = lt_true (load_of log p.0)
        (p.1 + 1 + p.1 / 8) (room refl) in omega (arith, lt)
    one p le false room = omega (arith, le)
added start log (Reserve (NoRoom n)) number now distinct is old = all-weaker (HasLoadRoom log)
    (λ p. load_of log p.0 + 0 ≤ p.1 + 1 + p.1 / 8) (λ p le. omega (arith, le)) (pairs log) old
added start log (Reserve Spent) number now distinct is old = all-weaker (HasLoadRoom log)
    (λ p. load_of log p.0 + 0 ≤ p.1 + 1 + p.1 / 8) (λ p le. omega (arith, le)) (pairs log) old
added start log (Beat server nonce cpus key pruned reaped replaced is_new) number now distinct is old =
    all-weaker (HasLoadRoom log) (λ p. load_of log p.0 + 0 ≤ p.1 + 1 + p.1 / 8) (λ p le. omega (arith, le))
    (pairs log) old
added start log (Commit job state kept) number now distinct is old = all-weaker (HasLoadRoom log)
    (λ p. load_of log p.0 + 0 ≤ p.1 + 1 + p.1 / 8) (λ p le. omega (arith, le)) (pairs log) old
added start log (Undo job noted was_ended) number now distinct is old = all-weaker (HasLoadRoom log)
    (λ p. load_of log p.0 + 0 ≤ p.1 + 1 + p.1 / 8) (λ p le. omega (arith, le)) (pairs log) old
added start log (Update server job state answer) number now distinct is old = all-weaker (HasLoadRoom log)
    (λ p. load_of log p.0 + 0 ≤ p.1 + 1 + p.1 / 8) (λ p le. omega (arith, le)) (pairs log) old
added start log (Status pruned servers cpus n) number now distinct is old = all-weaker (HasLoadRoom log)
    (λ p. load_of log p.0 + 0 ≤ p.1 + 1 + p.1 / 8) (λ p le. omega (arith, le)) (pairs log) old
added start log (Drain addr nonce on named) number now distinct is old = all-weaker (HasLoadRoom log)
    (λ p. load_of log p.0 + 0 ≤ p.1 + 1 + p.1 / 8) (λ p le. omega (arith, le)) (pairs log) old

-- nothing is reserved yet at the number of the next entry
pub none_next : (log : List CoreEntry) → AllByRecursion (λ p. p.0 < length log) (pairs log)
    → AllByRecursion (λ b. names (regs log) b.reg ≡ true) (held log) → list_any (λ b. b.reg == length log)
    (held log) ≡ false
none_next log below stands = go (held log) stands
  where
    regs_below : AllByRecursion (λ r. r < length log) (regs log)
    regs_below = all-map (λ r. r < length log) (λ g. g.reg) (standing log)
        (all-unmap (λ p. p.0 < length log) view (standing log) below)

    go : (bs : List Booking) → AllByRecursion (λ b. names (regs log) b.reg ≡ true) bs
        → list_any (λ b. b.reg == length log) bs ≡ false
    go [] all = refl
    go (b ∷ bs) all =
        let there : (r : ℕ) × (r < length log) × ((r == b.reg) ≡ true) = found (λ r. r < length log)
        (λ r. r == b.reg) (regs log) regs_below all.0 in
        let here : b.reg < length log = subst (λ r. r < length log) (eqb-true there.0 b.reg there.2) there.1
        in
        ap (λ t. t || list_any (λ b. b.reg == length log) bs)
        (is_false (b.reg == length log) (λ t. let e : b.reg ≡ length log = eqb-true b.reg (length log) t
        in omega (arith, e, here))) ∙ go bs all.1

distinct_pair : (n : ℕ) (ps : List (ℕ × ℕ)) → AllByRecursion (λ p. p.0 < n) ps
    → AllByRecursion (λ p. same_job (num p.0) (num n) ≡ false) ps
distinct_pair n [] all = tt
distinct_pair n (p ∷ ps) all = (
  is_false (p.0 == n) (λ t. let e : p.0 ≡ n = eqb-true p.0 n t in let lt = all.0 in omega (arith, e, lt)),
  distinct_pair n ps all.1,
)

distinct_more : (n : ℕ) (ps : List (ℕ × ℕ)) (o : Option (ℕ × ℕ)) → AllByRecursion (λ p. p.0 < n) ps
    → AreDistinct (map (λ p. num p.0) ps) → AllByRecursion (λ p. p.0 ≡ n) (option_to_list o)
    → AreDistinct (map (λ p. num p.0) (ps ++ option_to_list o))
distinct_more n ps None below distinct new = subst (λ l. AreDistinct (map (λ p. num p.0) l))
    (sym (append-nil ps)) distinct
distinct_more n ps (Some p) below distinct new = subst AreDistinct (sym (map-push ps))
    (distinct-push (map (λ p. num p.0) ps) (num p.0) distinct
    (all-map (λ k. same_job k (num p.0) ≡ false) (λ p. num p.0) ps
    (distinct_pair p.0 ps (all-weaker (λ q. q.0 < n) (λ q. q.0 < p.0)
    (λ q lt. let e = new.0 in omega (arith, e, lt)) ps below))))
  where
    map-push : (ps : List (ℕ × ℕ)) → map (λ p. num p.0) (ps ++ p ∷ []) ≡ map (λ p. num p.0) ps ++ num p.0 ∷ []
    map-push [] = refl
    map-push (q ∷ qs) = ap (λ l. num q.0 ∷ l) (map-push qs)

rising_more : (n : ℕ) (ps : List (ℕ × ℕ)) (o : Option (ℕ × ℕ)) → AllByRecursion (λ p. p.0 < n) ps
    → AreRising (map (λ p. p.0) ps) → AllByRecursion (λ p. p.0 ≡ n) (option_to_list o)
    → AreRising (map (λ p. p.0) (ps ++ option_to_list o))
rising_more n ps None below rising new = subst (λ l. AreRising (map (λ p. p.0) l))
    (sym (append-nil ps)) rising
rising_more n ps (Some p) below rising new = subst AreRising (sym (map-append (λ q. q.0) ps (p ∷ [])))
    (rising-push (map (λ q. q.0) ps) p.0 rising
    (all-map (λ m. m < p.0) (λ q. q.0) ps
    (all-weaker (λ q. q.0 < n) (λ q. q.0 < p.0) (λ q lt. let at = new.0 in omega (arith, lt, at)) ps
    below)))

pub roomy-step : (start : Start) (log : List CoreEntry) (e : CoreEntry) → Sound start log → Roomy log
    → IsRule (core_of start log) e → Roomy (log ++ e ∷ [])
roomy-step start log e sound room rule_is =
    let next : List CoreEntry = log ++ e ∷ [] in
    let longer : length next ≡ length log + 1 = length-append log (e ∷ []) in
    let is : Facts (core_of start log) e.kind = facts (core_of start log) e rule_is in
    let made : Option (ℕ × ℕ) = option_map view (registered_at (end_cut log e)) in
    let new : AllByRecursion (NewPair log) (option_to_list made) = new_pair start log e.now e.kind e is
    in
    record {
      below = subst (AllByRecursion (λ p. p.0 < length next)) (sym (pairs-push log e))
          (all-step (λ p. p.0 < length log) (λ p. p.0 < length next) (pair_stays e) made
          (λ p lt t. omega (arith, lt, longer))
          (all-weaker (NewPair log) (λ p. p.0 < length next)
          (λ p h. let here = h.0 in omega (arith, here, longer)) (option_to_list made) new)
          (pairs log) room.below);
      distinct = subst (λ ps. AreDistinct (map (λ p. num p.0) ps)) (sym (pairs-push log e))
          (distinct_more (length log) (filter (pair_stays e) (pairs log)) made
          (all-filter (λ p. p.0 < length log) (λ p. p.0 < length log) (pair_stays e) (λ p lt t. lt)
          (pairs log) room.below) (distinct-filter (λ p. num p.0) (pair_stays e)
          (pairs log) room.distinct) (all-weaker (NewPair log) (λ p. p.0 ≡ length log) (λ p h. h.0)
          (option_to_list made) new));
      rising = subst (λ ps. AreRising (map (λ p. p.0) ps)) (sym (pairs-push log e))
          (rising_more (length log) (filter (pair_stays e) (pairs log)) made
          (all-filter (λ p. p.0 < length log) (λ p. p.0 < length log) (pair_stays e) (λ p lt t. lt)
          (pairs log) room.below) (rising-filter (λ p. p.0) (pair_stays e) (pairs log) room.rising)
          (all-weaker (NewPair log) (λ p. p.0 ≡ length log) (λ p h. h.0) (option_to_list made) new));
      positive = subst (AllByRecursion (λ p. 1 ≤ p.1)) (sym (pairs-push log e))
          (all-step (λ p. 1 ≤ p.1) (λ p. 1 ≤ p.1) (pair_stays e) made (λ p h t. h)
          (all-weaker (NewPair log) (λ p. 1 ≤ p.1) (λ p h. h.1) (option_to_list made) new)
          (pairs log) room.positive);
      bounded = subst (AllByRecursion (HasLoadRoom next)) (sym (pairs-push log e))
          (all-step (λ p. load_of log p.0 + count_by (λ b. b.reg == p.0) (option_to_list (booked log e))
          ≤ p.1 + 1 + p.1 / 8) (HasLoadRoom next) (pair_stays e) made
          (λ p le t. let step = load-step log e p.0 in omega (arith, le, step))
          (all-both (NewPair log) (λ p. booked log e ≡ None) (HasLoadRoom next)
          (λ p h none.
          let step : load_of next (length log) ≤ load_of log (length log) + count_by
          (λ b. b.reg == length log) (option_to_list (booked log e)) = load-step log e (length log) in
          let zero_now : load_of log (length log) ≡ 0 = load_held log (length log)
          ∙ count_none (λ b. b.reg == length log) (held log) (none_next log room.below sound.held_stands)
          in
          let no_more : count_by (λ b. b.reg == length log) (option_to_list (booked log e)) ≡ 0 =
          ap (λ o. count_by (λ b. b.reg == length log) (option_to_list o)) none in
          let here : load_of next p.0 ≡ load_of next (length log) = ap (load_of next) h.0 in
          omega (arith, step, zero_now, no_more, here))
          (option_to_list made) new (no_booking e.kind (length log) e.now log e))
          (pairs log) (added start log e.kind (length log) e.now room.distinct is room.bounded));
    }

pub no_roomy : Roomy []
no_roomy = record { below = tt; distinct = tt; rising = tt; positive = tt; bounded = tt }

pub record Fits (start : Start) (log : List CoreEntry) : Type 0 where
  pub sound : Sound start log
  pub room : Roomy log

pub legal_fits : (start : Start) (log : List CoreEntry) → start.count < 2 ^ 64 → IsLegal start log
    → Fits start log
legal_fits start log fits legal = legal_has start (Fits start)
    (record { sound = no_sound start fits; room = no_roomy })
    (λ l e h is. record {
      sound = sound-step start l e h.sound is;
      room = roomy-step start l e h.sound h.room is;
    }) log legal

pub legal_bounded : (start : Start) (log : List CoreEntry) → start.count < 2 ^ 64 → IsLegal start log
    → AllByRecursion (IsBounded log) (standing log)
legal_bounded start log fits legal = all-unmap (HasLoadRoom log) view (standing log)
    (legal_fits start log fits legal).room.bounded
