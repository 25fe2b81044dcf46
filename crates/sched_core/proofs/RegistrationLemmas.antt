-- What a change of one registration does, and what it costs.
use Rattle.std.proofs.Common.{◌≡◌, ◌<◌, ◌≤◌, ℕ, ◌+◌, ◌*◌, ◌-◌, List, [], ◌∷◌, Bool, true, false}
use Rattle.std.proofs.Common.{cond, not, ◌&&◌}
use Rattle.std.proofs.Common.{map, filter, length, Option, Some, None, refl, ap, ◌∙◌, sym, subst, arith}
use Rattle.std.proofs.Common.{get_or, drop}
use Rattle.std.proofs.Common.{eqb-true, eq-eqb, zero, suc}
use Rattle.std.specs.Prelude.{◌==◌, find, if◌then◌else◌, IfSome}
use Rattle.std.specs.Prelude.{is_some, IsSome}
use Rattle.std.specs.List.{AllByRecursion}
use Rattle.std.proofs.Math.Seq.{drop-cons}
use Rattle.std.proofs.lemmas.Nat.{mul-le}
use Rattle.std.proofs.lemmas.List.{length-map}
use Rattle.dist_types.specs.declared.addr.Addr.{Addr}
use Rattle.dist_types.specs.Addr.{same_addr}
use Rattle.row_index.specs.declared.keys.LoadKey.{LoadKey}
use Rattle.row_index.specs.declared.keys.MomentKey.{MomentKey}
use Rattle.row_index.specs.Keys.{load_before, moment_before}
use Rattle.row_index.specs.KeyLaws.{load_one_way, moment_one_way}
use Rattle.row_index.specs.Slots.{rows_in, IsPlaceOf}
use Rattle.row_index.specs.Ranks.{key_stays, touches, touched}
use Rattle.row_index.proofs.RankLemmas.{in_range}
use Rattle.core_rules.specs.declared.rows.ServerRow.{ServerRow}
use Rattle.sched_core.specs.declared.change.Change.{Change}
use Rattle.sched_core.specs.declared.change.Change.TheVariants.{Lower, Raise, Forgive, Note, See, LowerAndSee}
use Rattle.sched_core.specs.declared.change.Change.TheVariants.{Draining}
use Rattle.core_rules.specs.declared.entry.CoreKind.{CoreKind}
use Rattle.core_rules.specs.declared.entry.CoreKind.TheVariants.{Beat, Reserve, Commit, Undo, Update}
use Rattle.core_rules.specs.declared.entry.CoreKind.TheVariants.{Status, Drain}
use Rattle.core_rules.specs.Prune.{at_address, left, is_expired, prune}
use Rattle.core_rules.specs.Laws.{AreDifferent}
use Rattle.core_rules.specs.Next.{row_by}
use Rattle.sched_core.specs.Books.{row_lowered}
use Rattle.core_rules.proofs.GrowLemmas.{map-agree}
use Rattle.sched_core.specs.Changes.{row_changed, row_changed_at}
use Rattle.sched_core.specs.Registrations.{AreSoundRows}
use Rattle.core_rules.specs.Ranked.{load_if_room, load_key_by, load_key_of}
use Rattle.core_rules.specs.Ranked.{error_key_by}
use Rattle.core_rules.specs.Ranked.{error_key_of, sign_key_of}
use Rattle.sched_core.specs.Registrations.{trees_of, AreFew, heard_part}
use Rattle.sched_core.specs.Registrations.{IsFirstFull}
use Rattle.core_rules.proofs.AllLemmas.{is_false, true_false}
use Rattle.core_rules.proofs.AddressLemmas.{same_is}
use Rattle.core_rules.proofs.RowLemmas.{at_there}
use Rattle.sched_core.proofs.ChangeLemmas.{change_is, sound_map}
use Rattle.std.proofs.lemmas.List.Elements.{filter_agree}

-- the number, the address and the processors stay

record Stays (old new : ServerRow) : Type 0 where
  reg : new.reg ≡ old.reg
  server : new.server ≡ old.server
  cpus : new.cpus ≡ old.cpus

stays : (change : Change) (r : ServerRow) → Stays r (row_changed change r)
stays Lower r = record { reg = refl; server = refl; cpus = refl }
stays Raise r = record { reg = refl; server = refl; cpus = refl }
stays Forgive r = record { reg = refl; server = refl; cpus = refl }
stays (Note moment) r = record { reg = refl; server = refl; cpus = refl }
stays (See moment) r = record { reg = refl; server = refl; cpus = refl }
stays (LowerAndSee moment) r = record { reg = refl; server = refl; cpus = refl }
stays (Draining on) r = record { reg = refl; server = refl; cpus = refl }

pub reg_kept : (change : Change) (r : ServerRow) → (row_changed change r).reg ≡ r.reg
reg_kept change r = (stays change r).reg

pub server_kept : (change : Change) (r : ServerRow) → (row_changed change r).server ≡ r.server
server_kept change r = (stays change r).server

pub cpus_kept : (change : Change) (r : ServerRow) → (row_changed change r).cpus ≡ r.cpus
cpus_kept change r = (stays change r).cpus

pub at_kept : {X : Type 0} (f : ServerRow → X) (change : Change)
    → ((r : ServerRow) → f (row_changed change r) ≡ f r)
    → (n : ℕ) (r : ServerRow) → f (row_changed_at change n r) ≡ f r
at_kept f change keeps n r = elim (n == r.reg) as (λ b. f (cond b (row_changed change r) r) ≡ f r)
    [ true ↦ keeps r | false ↦ refl ]

pub sound_changed : (change : Change) (n : ℕ) (rows : List ServerRow) → AreSoundRows rows
    → AreSoundRows (map (row_changed_at change n) rows)
sound_changed change n rows sound =
    sound_map (row_changed_at change n) (at_kept (λ r. r.reg) change (reg_kept change) n)
    (at_kept (λ r. r.server) change (server_kept change) n)
    (at_kept (λ r. r.cpus) change (cpus_kept change) n) rows sound

all_unit : (rows : List ServerRow) → AllByRecursion (λ r. Unit {0}) rows
all_unit [] = tt
all_unit (r ∷ rows) = (tt, all_unit rows)

own_number : (n : ℕ) (rows : List ServerRow) (row : ServerRow) → find (λ r. r.reg == n) rows ≡ Some row
    → row.reg ≡ n
own_number n rows row found =
    eqb-true row.reg n (at_there (λ r. r.reg == n) rows row found (λ r. Unit {0}) (all_unit rows)).1

-- the row of a number is written over by the changed one
pub changed_rows : (change : Change) (n : ℕ) (row : ServerRow) (rows : List ServerRow)
    → find (λ r. r.reg == n) rows ≡ Some row → AllByRecursion (λ r. (r.reg == n) ≡ true → r ≡ row) rows
    → map (λ r. if r.reg == (row_changed change row).reg then row_changed change row else r) rows
    ≡ map (row_changed_at change n) rows
changed_rows change n row rows found only =
    subst (λ k. map (λ r. if r.reg == k then row_changed change row else r) rows
    ≡ map (row_changed_at change n) rows)
    (sym (reg_kept change row ∙ own_number n rows row found)) (change_is n change row rows only)

pub turned : (m n : ℕ) → (m == n) ≡ (n == m)
turned m n = split (m == n) (n == m) refl refl
  where
    split : (a b : Bool) → (m == n) ≡ a → (n == m) ≡ b → a ≡ b
    split true true x y = refl
    split false false x y = refl
    split true false x y = absurd (true_false (n == m) (eq-eqb n m (sym (eqb-true m n x))) y)
    split false true x y = absurd (true_false (m == n) (eq-eqb m n (sym (eqb-true n m y))) x)

-- where no row has the number, none changes
pub not_there : (change : Change) (n : ℕ) (rows : List ServerRow) → find (λ r. r.reg == n) rows ≡ None
    → rows ≡ map (row_changed_at change n) rows
not_there change n [] none = refl
not_there change n (r ∷ rows) none = split (r.reg == n) refl none (not_there change n rows)
  where
    split : (b : Bool) → (r.reg == n) ≡ b → cond b (Some r) (find (λ r. r.reg == n) rows) ≡ None
        → (find (λ r. r.reg == n) rows ≡ None → rows ≡ map (row_changed_at change n) rows)
        → r ∷ rows ≡ row_changed_at change n r ∷ map (row_changed_at change n) rows
    split true is gone rest = absurd cc
    split false is gone rest =
        ap (λ b. cond b (row_changed change r) r ∷ rows) (sym (turned n r.reg ∙ is))
        ∙ ap (λ l. row_changed_at change n r ∷ l) (rest gone)

pub ended_rows : (n : ℕ) (rows : List ServerRow)
    → filter (λ r. not (r.reg == n)) rows ≡ filter (λ r. not (n == r.reg)) rows
ended_rows n rows = filter_agree (λ r. not (r.reg == n)) (λ r. not (n == r.reg))
    (λ r. ap not (turned r.reg n)) rows

-- what a change costs

load_not_self : (k : LoadKey) → load_before k k ≡ false
load_not_self k = is_false (load_before k k) (λ t. true_false (load_before k k) t (load_one_way k k t))

moment_not_self : (k : MomentKey) → moment_before k k ≡ false
moment_not_self k = is_false (moment_before k k)
    (λ t. true_false (moment_before k k) t (moment_one_way k k t))

at_most : {K : Type 0} (before : K → K → Bool) (old new : Option K) → touches before old new ≤ 1
at_most before old new = elim (key_stays before old new) as
    (λ b. cond b 0 1 ≤ 1) [ true ↦ omega arith | false ↦ omega arith ]

no_touch : {K : Type 0} (before : K → K → Bool) → ((k : K) → before k k ≡ false) → (o : Option K)
    → touches before o o ≡ 0
no_touch before self None = refl
no_touch before self (Some k) = ap (λ b. cond (not b && not b) 0 1) (self k)

one_two : (a b c : ℕ) → a ≤ 1 → b ≤ 1 → c ≡ 0 → a + b + c ≤ 2
one_two a b c x y z = omega (arith, x, y, z)

only_first : (a b c : ℕ) → a ≤ 1 → b ≡ 0 → c ≡ 0 → a + b + c ≤ 1
only_first a b c x y z = omega (arith, x, y, z)

only_second : (a b c : ℕ) → a ≡ 0 → b ≤ 1 → c ≡ 0 → a + b + c ≤ 1
only_second a b c x y z = omega (arith, x, y, z)

only_third : (a b c : ℕ) → a ≡ 0 → b ≡ 0 → c ≤ 1 → a + b + c ≤ 1
only_third a b c x y z = omega (arith, x, y, z)

first_third : (a b c : ℕ) → a ≤ 1 → b ≡ 0 → c ≤ 1 → a + b + c ≤ 2
first_third a b c x y z = omega (arith, x, y, z)

second_third : (a b c : ℕ) → a ≡ 0 → b ≤ 1 → c ≤ 1 → a + b + c ≤ 2
second_third a b c x y z = omega (arith, x, y, z)

-- a load that changes touches the tree of the row's one key
one_tree : (o : Option ℕ) (r q : ServerRow) → r.reg ≡ q.reg → r.seen ≡ q.seen
    → touches load_before (load_key_by o r) (load_key_by o q) + touches moment_before (error_key_by o r)
    (error_key_by o q)
    + touches moment_before (sign_key_of r) (sign_key_of q) ≤ 1
one_tree o r q reg seen = split o
  where
    signs : touches moment_before (sign_key_of r) (sign_key_of q) ≡ 0
    signs = ap (λ k. touches moment_before (sign_key_of r) (Some k))
        (λ i. record { moment = sym seen i; number = sym reg i })
        ∙ no_touch moment_before moment_not_self (sign_key_of r)

    split : (e : Option ℕ) → touches load_before (load_key_by e r) (load_key_by e q)
        + touches moment_before (error_key_by e r) (error_key_by e q) + touches moment_before
        (sign_key_of r) (sign_key_of q) ≤ 1
    split None = only_first (touches load_before (load_if_room r) (load_if_room q)) 0
        (touches moment_before (sign_key_of r) (sign_key_of q))
        (at_most load_before (load_if_room r) (load_if_room q)) refl signs
    split (Some m) = only_second 0 (touches moment_before (error_key_by (Some m) r)
        (error_key_by (Some m) q))
        (touches moment_before (sign_key_of r) (sign_key_of q)) refl
        (at_most moment_before (error_key_by (Some m) r) (error_key_by (Some m) q)) signs

few_trees : (change : Change) (r : ServerRow)
    → touched load_key_of error_key_of sign_key_of (Some r) (Some (row_changed change r)) ≤ trees_of change
few_trees Lower r = one_tree r.error r (row_changed Lower r) refl refl
few_trees Raise r = one_tree r.error r (row_changed Raise r) refl refl
few_trees (Draining on) r = one_tree r.error r (row_changed (Draining on) r) refl refl
few_trees Forgive r = one_two (touches load_before (load_key_of r) (load_key_of (row_changed Forgive r)))
    (touches moment_before (error_key_of r) (error_key_of (row_changed Forgive r)))
    (touches moment_before (sign_key_of r) (sign_key_of (row_changed Forgive r)))
    (at_most load_before (load_key_of r) (load_key_of (row_changed Forgive r)))
    (at_most moment_before (error_key_of r) (error_key_of (row_changed Forgive r)))
    (no_touch moment_before moment_not_self (sign_key_of r))
few_trees (Note moment) r = one_two
    (touches load_before (load_key_of r) (load_key_of (row_changed (Note moment) r)))
    (touches moment_before (error_key_of r) (error_key_of (row_changed (Note moment) r)))
    (touches moment_before (sign_key_of r) (sign_key_of (row_changed (Note moment) r)))
    (at_most load_before (load_key_of r) (load_key_of (row_changed (Note moment) r)))
    (at_most moment_before (error_key_of r) (error_key_of (row_changed (Note moment) r)))
    (no_touch moment_before moment_not_self (sign_key_of r))
few_trees (See moment) r = only_third
    (touches load_before (load_key_of r) (load_key_of (row_changed (See moment) r)))
    (touches moment_before (error_key_of r) (error_key_of (row_changed (See moment) r)))
    (touches moment_before (sign_key_of r) (sign_key_of (row_changed (See moment) r)))
    (same_load r.error) (same_error r.error)
    (at_most moment_before (sign_key_of r) (sign_key_of (row_changed (See moment) r)))
  where
    same_load : (o : Option ℕ) → touches load_before (load_key_by o r)
        (load_key_by o (row_changed (See moment) r)) ≡ 0
    same_load None = no_touch load_before load_not_self (load_if_room r)
    same_load (Some m) = refl

    same_error : (o : Option ℕ) → touches moment_before (error_key_by o r)
        (error_key_by o (row_changed (See moment) r)) ≡ 0
    same_error None = refl
    same_error (Some m) = no_touch moment_before moment_not_self (error_key_by (Some m) r)
few_trees (LowerAndSee moment) r = split r.error
  where
    split : (e : Option ℕ)
        → touches load_before (load_key_by e r) (load_key_by e (row_changed (LowerAndSee moment) r))
        + touches moment_before (error_key_by e r) (error_key_by e (row_changed (LowerAndSee moment) r))
        + touches moment_before (sign_key_of r) (sign_key_of (row_changed (LowerAndSee moment) r)) ≤ 2
    split None = first_third
        (touches load_before (load_if_room r) (load_if_room (row_changed (LowerAndSee moment) r))) 0
        (touches moment_before (sign_key_of r) (sign_key_of (row_changed (LowerAndSee moment) r)))
        (at_most load_before (load_if_room r) (load_if_room (row_changed (LowerAndSee moment) r))) refl
        (at_most moment_before (sign_key_of r) (sign_key_of (row_changed (LowerAndSee moment) r)))
    split (Some m) = second_third 0
        (touches moment_before (error_key_by (Some m) r)
        (error_key_by (Some m) (row_changed (LowerAndSee moment) r)))
        (touches moment_before (sign_key_of r) (sign_key_of (row_changed (LowerAndSee moment) r))) refl
        (at_most moment_before (error_key_by (Some m) r)
        (error_key_by (Some m) (row_changed (LowerAndSee moment) r)))
        (at_most moment_before (sign_key_of r) (sign_key_of (row_changed (LowerAndSee moment) r)))

-- the row in the place of a number is the one that is found
pub placed_row : (n place : ℕ) (places : List (Option ServerRow)) (row : ServerRow)
    → (at : IsPlaceOf (λ r. r.reg) places n place) → get_or places place None ≡ Some row → at.row ≡ row
placed_row n place places row at is = let both : Some at.row ≡ Some row = sym at.is ∙ is in cc

pub found_there : (n place : ℕ) (places : List (Option ServerRow)) (row : ServerRow)
    → (at : IsPlaceOf (λ r. r.reg) places n place) → get_or places place None ≡ Some row
    → find (λ r. r.reg == n) (rows_in places) ≡ Some row
found_there n place places row at is = at.found ∙ sym at.is ∙ is

pub only_there : (n place : ℕ) (places : List (Option ServerRow)) (row : ServerRow)
    → (at : IsPlaceOf (λ r. r.reg) places n place) → get_or places place None ≡ Some row
    → AllByRecursion (λ r. (r.reg == n) ≡ true → r ≡ row) (rows_in places)
only_there n place places row at is =
    subst (λ q. AllByRecursion (λ r. (r.reg == n) ≡ true → r ≡ q) (rows_in places))
    (placed_row n place places row at is) at.only

-- it has a row
pub is_full : (n place : ℕ) (places : List (Option ServerRow)) → IsPlaceOf (λ r. r.reg) places n place
    → IsSome (get_or places place None)
is_full n place places at = subst IsSome (sym at.is) refl

-- it is still in its place once it is changed
pub place_kept : (change : Change) (n place : ℕ) (places : List (Option ServerRow)) (row : ServerRow)
    → IsPlaceOf (λ r. r.reg) places n place → get_or places place None ≡ Some row
    → IsPlaceOf (λ r. r.reg) places (row_changed change row).reg place
place_kept change n place places row at is =
    subst (λ k. IsPlaceOf (λ r. r.reg) places k place)
    (sym (reg_kept change row ∙ sym (ap (λ r. r.reg) (placed_row n place places row at is)) ∙ at.numbered)) at

pub changed_looks : (change : Change) (row : ServerRow) (looks old new : ℕ)
    → new ≤ old + touched load_key_of error_key_of sign_key_of (Some row)
    (Some (row_changed change row)) * looks
    → new ≤ old + trees_of change * looks
changed_looks change row looks old new le =
    let more = mul-le (touched load_key_of error_key_of sign_key_of (Some row)
    (Some (row_changed change row))) looks
    (trees_of change) looks (few_trees change row) (omega arith) in
    omega (arith, le, more)

pub looks_more : (at looks first second third : ℕ) → second ≤ first + 2 * at * looks
    → third ≤ second + 2 * looks
    → third ≤ first + 2 * (at + 1) * looks
looks_more at looks first second third one two = omega (arith, one, two)

pub job_looks : (n looks first second third : ℕ) → second ≤ first + 1 * looks
    → third ≤ second + 2 * n * looks
    → third ≤ first + (2 * n + 1) * looks
job_looks n looks first second third one two = omega (arith, one, two)

-- one reservation less
pub lowered_is : (n : ℕ) (rows : List ServerRow)
    → map (row_changed_at Lower n) rows ≡ map (row_lowered n) rows
lowered_is n rows = map-agree (row_changed_at Lower n) (row_lowered n)
    (λ r. elim (n == r.reg) as (λ b. cond b (record r { load = r.load - 1 }) r
    ≡ record r { load = cond b (r.load - 1) r.load })
    [ true ↦ refl | false ↦ refl ]) rows

-- rows by place

pub first_none : (places : List (Option ServerRow)) (i : ℕ) → length places ≤ i
    → rows_in places ≡ rows_in (drop i places)
    → rows_in places ≡ []
first_none places i le is = is ∙ ap rows_in (none places i le)
  where
    none : (ps : List (Option ServerRow)) (k : ℕ) → length ps ≤ k → drop k ps ≡ []
    none [] zero lt = refl
    none [] (suc k) lt = refl
    none (p ∷ ps) zero lt = absurd (omega (arith, lt))
    none (p ∷ ps) (suc k) lt = none ps k (omega (arith, lt))

drop_one : {X : Type 0} (xs : List X) (i : ℕ) (d : X) → i < length xs
    → drop i xs ≡ get_or xs i d ∷ drop (i + 1) xs
drop_one xs i d lt = drop-cons xs i d lt ∙ ap (λ n. get_or xs i d ∷ drop n xs) (one_more_place i)
  where
    one_more_place : (n : ℕ) → suc n ≡ n + 1
    one_more_place n = omega arith

-- what stands at a place and behind it
pub places_on : (places : List (Option ServerRow)) (i : ℕ) (o : Option ServerRow) → i < length places
    → o ≡ get_or places i None → rows_in (drop i places) ≡ rows_in (o ∷ drop (i + 1) places)
places_on places i o lt is = ap rows_in (drop_one places i None lt)
    ∙ ap (λ x. rows_in (x ∷ drop (i + 1) places)) (sym is)

pub first_later : (places : List (Option ServerRow)) (i : ℕ) (o : Option ServerRow) → i < length places
    → o ≡ get_or places i None → o ≡ None → rows_in places ≡ rows_in (drop i places)
    → rows_in places ≡ rows_in (drop (i + 1) places)
first_later places i o lt is none so_far =
    so_far ∙ places_on places i o lt is ∙ ap (λ x. rows_in (x ∷ drop (i + 1) places)) none

pub first_here : (places : List (Option ServerRow)) (i : ℕ) (o : Option ServerRow) (row : ServerRow)
    → i < length places
    → o ≡ get_or places i None → o ≡ Some row → rows_in places ≡ rows_in (drop i places)
    → IsFirstFull places i
first_here places i o row lt is some so_far = record {
  row = row;
  within = lt;
  is = sym is ∙ some;
  rest = so_far ∙ places_on places i o lt is ∙ ap (λ x. rows_in (x ∷ drop (i + 1) places)) some;
}

empty_place : (o : Option ServerRow) → is_some o ≡ false → o ≡ None
empty_place None e = refl
empty_place (Some r) e = absurd cc

pub first_passed : (places : List (Option ServerRow)) (i : ℕ) (o : Option ServerRow) → i < length places
    → o ≡ get_or places i o → is_some o ≡ false → rows_in places ≡ rows_in (drop i places)
    → rows_in places ≡ rows_in (drop (i + 1) places)
first_passed places i o lt is none so_far =
    first_later places i o lt (is ∙ in_range places i o None lt) (empty_place o none) so_far

pub first_some : (places : List (Option ServerRow)) (i : ℕ) (o : Option ServerRow) → i < length places
    → o ≡ get_or places i o → is_some o ≡ true → rows_in places ≡ rows_in (drop i places)
    → IsFirstFull places i
first_some places i None lt is some so_far = absurd cc
first_some places i (Some row) lt is some so_far =
    first_here places i (Some row) row lt (is ∙ in_range places i (Some row) None lt) refl so_far

-- where addresses differ, the survivor at an address is the row there, if that is heard
others_away : (server own : Addr) → same_addr own server ≡ true
    → (p : ServerRow → Bool) (rows : List ServerRow)
    → AllByRecursion (λ a. a ≡ own → ⊥) (map (λ r. r.server) rows) → at_address server (filter p rows) ≡ None
others_away server own is p [] away = refl
others_away server own is p (r ∷ rows) away =
    split (p r) (same_addr r.server server) refl (others_away server own is p rows away.1)
  where
    split : (b c : Bool) → same_addr r.server server ≡ c → at_address server (filter p rows) ≡ None
        → at_address server (cond b (r ∷ filter p rows) (filter p rows)) ≡ None
    split false c e rest = rest
    split true false e rest = ap (λ x. cond x (Some r) (at_address server (filter p rows))) e ∙ rest
    split true true e rest = absurd (away.0 (same_is r.server server e ∙ sym (same_is own server is)))

pub heard_is : (now : ℕ) (server : Addr) (rows : List ServerRow) → AreDifferent (map (λ r. r.server) rows)
    → heard_part now (at_address server rows) ≡ at_address server (left now rows)
heard_is now server [] apart = refl
heard_is now server (r ∷ rows) apart =
    split (same_addr r.server server) (is_expired now r) refl refl (heard_is now server rows apart.1)
  where
    split : (b x : Bool) → same_addr r.server server ≡ b → is_expired now r ≡ x
        → heard_part now (at_address server rows) ≡ at_address server (left now rows)
        → heard_part now (cond b (Some r) (at_address server rows))
        ≡ at_address server (cond (not x) (r ∷ left now rows) (left now rows))
    split false false at silent rest =
        rest ∙ sym (ap (λ c. cond c (Some r) (at_address server (left now rows))) at)
    split false true at silent rest = rest
    split true false at silent rest = ap (λ c. cond c None (Some r)) silent
        ∙ sym (ap (λ c. cond c (Some r) (at_address server (left now rows))) at)
    split true true at silent rest = ap (λ c. cond c None (Some r)) silent
        ∙ sym (others_away server r.server at (λ q. not (is_expired now q)) rows apart.0)

-- how many are left

pub left_few : (now : ℕ) (rows : List ServerRow)
    → length (left now rows) + length (filter (is_expired now) rows) ≡ length rows
left_few now [] = refl
left_few now (r ∷ rows) = split (is_expired now r) (left_few now rows)
  where
    split : (b : Bool) → length (left now rows) + length (filter (is_expired now) rows) ≡ length rows
        → length (cond (not b) (r ∷ left now rows) (left now rows)) + length
        (cond b (r ∷ filter (is_expired now) rows)
        (filter (is_expired now) rows)) ≡ length (r ∷ rows)
    split true rest = omega (arith, rest)
    split false rest = omega (arith, rest)

-- the number of the registration that an entry makes
pub row_by_number : (k : CoreKind) (number now : ℕ) → IfSome (row_by k number now) (λ r. r.reg ≡ number)
row_by_number (Beat server nonce cpus key pruned reaped replaced true) number now = refl
row_by_number (Beat server nonce cpus key pruned reaped replaced false) number now = tt
row_by_number (Reserve r) number now = tt
row_by_number (Commit job state kept) number now = tt
row_by_number (Undo job noted was_ended) number now = tt
row_by_number (Update server job state answer) number now = tt
row_by_number (Status pruned servers cpus n) number now = tt
row_by_number (Drain addr nonce on named) number now = tt

pub above_number : (k : CoreKind) (number now top : ℕ) → top ≤ number
    → IfSome (row_by k number now) (λ r. top ≤ r.reg)
above_number (Beat server nonce cpus key pruned reaped replaced true) number now top le = le
above_number (Beat server nonce cpus key pruned reaped replaced false) number now top le = tt
above_number (Reserve r) number now top le = tt
above_number (Commit job state kept) number now top le = tt
above_number (Undo job noted was_ended) number now top le = tt
above_number (Update server job state answer) number now top le = tt
above_number (Status pruned servers cpus n) number now top le = tt
above_number (Drain addr nonce on named) number now top le = tt

-- no registration is made by a reserve, so nothing is looked at for it
pub few_pushed : (k : CoreKind) (number now h first second third : ℕ)
    → (row_by k number now ≡ None → third ≡ second)
    → AreFew k h first second → AreFew k h first third
few_pushed (Reserve r) number now h first second third none few = let same : third ≡ second = none refl in
    omega (arith, same, few)
few_pushed (Beat server nonce cpus key pruned reaped replaced is_new) number now h first second third none
    few = tt
few_pushed (Commit job state kept) number now h first second third none few = tt
few_pushed (Undo job noted was_ended) number now h first second third none few = tt
few_pushed (Update server job state answer) number now h first second third none few = tt
few_pushed (Status pruned servers cpus n) number now h first second third none few = tt
few_pushed (Drain addr nonce on named) number now h first second third none few = tt

-- how many are left of so many rows
pub left_count : (now : ℕ) (rows : List ServerRow) (pruned : List ℕ) → pruned ≡ prune now rows
    → (length pruned ≤ length rows) × (length (left now rows) ≡ length rows - length pruned)
left_count now rows pruned is =
    let both = left_few now rows in
    let same : length pruned ≡ length (filter (is_expired now) rows) =
    ap length is ∙ length-map (filter (is_expired now) rows) (λ r. r.reg) in
    (omega (arith, both, same), omega (arith, both, same))
