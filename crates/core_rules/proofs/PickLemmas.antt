-- In each legal log each reserve goes to the first of the registrations with room: the lightest without a
-- remembered error, else that whose error is oldest, and of equals that of the least number.
use Rattle.std.proofs.Common.{◌≡◌, ◌*◌, ◌<◌, ◌≤◌, ◌^◌, List, [], ◌∷◌, ◌++◌, Bool, true, false, cond, map}
use Rattle.std.proofs.Common.{filter, Option, Some, None, refl, ap, ◌∙◌, sym, subst, arith}
use Rattle.std.specs.Prelude.{◌==◌, unwrap_or}
use Rattle.std.specs.List.{AllByRecursion, list_any, best_of}
use Rattle.std.proofs.Math.Nat.{mul-lt-mul_of_pos_right, lt_of_mul-lt-mul_right}
use Rattle.std.proofs.lemmas.Nat.{mul-le}
use Rattle.core_rules.specs.declared.start.Start.{Start}
use Rattle.core_rules.specs.Cuts.{cuts}
use Rattle.core_rules.proofs.Lists.{map-map, followed, cuts_behind-push, end_cut}
use Rattle.core_rules.specs.declared.entry.CoreEntry.{CoreEntry}
use Rattle.core_rules.specs.declared.entry.CoreKind.{CoreKind}
use Rattle.core_rules.specs.declared.entry.CoreKind.TheVariants.{Beat, Reserve, Commit, Undo, Update}
use Rattle.core_rules.specs.declared.entry.CoreKind.TheVariants.{Status, Drain}
use Rattle.core_rules.specs.declared.entry.Reserved.TheVariants.{Job, NoRoom, Spent}
use Rattle.core_rules.specs.declared.rows.ServerRow.{ServerRow}
use Rattle.core_rules.specs.Log.{same_job}
use Rattle.core_rules.specs.Standing.{standing}
use Rattle.core_rules.specs.Rows.{row_of, servers_of}
use Rattle.core_rules.specs.Pick.{pick, first_best, or_else, is_lighter, is_older, is_faultless, roomy}
use Rattle.core_rules.specs.Pick.{has_room}
use Rattle.core_rules.specs.Laws.{IsRule, IsLegal, AreDistinct, AreRising, IsFirst, IsFair, IsFairly}
use Rattle.core_rules.specs.Laws.{IsFairEntry}
use Rattle.core_rules.specs.Pick.{HasCpus}
use Rattle.core_rules.proofs.LegalLemmas.{core_of, legal_has}
use Rattle.core_rules.proofs.AllLemmas.{true_false, is_false, all-weaker, all-both, all-append, all-filter}
use Rattle.core_rules.proofs.AllLemmas.{all-map, all-unmap, own_only}
use Rattle.core_rules.proofs.RisingLemmas.{rising-filter}
use Rattle.core_rules.proofs.FactLemmas.{Facts, facts, best_has, first_has, pick_has, pick_there}
use Rattle.core_rules.proofs.HeldLemmas.{Sound, no_sound, sound-step}
use Rattle.core_rules.proofs.RoomLemmas.{lt_true, lt_false, lt_is, ge_is, num, view, pairs, Roomy, no_roomy}
use Rattle.core_rules.proofs.RoomLemmas.{roomy-step, rows_distinct}

-- the best of rows with rising numbers is the first of them all
best_first : (P : ServerRow → Type 0) (goes : ServerRow → ServerRow → Bool)
    → ((a x b : ServerRow) → P a → P x → goes x a ≡ false → goes x b ≡ true → goes a b ≡ true)
    → ((a x : ServerRow) → goes a x ≡ true → goes x a ≡ false) →
    (first : ServerRow) (rows : List ServerRow) → P first → AllByRecursion P rows
    → AreRising (map (λ r. r.reg) (first ∷ rows)) → IsFirst goes (best_of goes first rows) first
    × AllByRecursion (IsFirst goes (best_of goes first rows)) rows
best_first P goes through one_way first [] ok all rising = (
  (
    is_false (goes first first) (λ t. true_false (goes first first) t (one_way first first t)),
    λ h.
        omega arith,
  ),
  tt,
)
best_first P goes through one_way first (x ∷ rows) ok all rising = split (goes x first) refl
    (best_first P goes through one_way x rows all.0 all.1 rising.1)
    (best_first P goes through one_way first rows ok all.1 (rising.0.1, rising.1.1))
  where
    split : (b : Bool) → goes x first ≡ b → IsFirst goes (best_of goes x rows) x
        × AllByRecursion (IsFirst goes (best_of goes x rows)) rows
        → IsFirst goes (best_of goes first rows) first
        × AllByRecursion (IsFirst goes (best_of goes first rows)) rows →
        IsFirst goes (best_of goes (cond b x first) rows) first
        × AllByRecursion (IsFirst goes (best_of goes (cond b x first) rows)) (x ∷ rows)
    split true is to old =
        let best : ServerRow = best_of goes x rows in
        let fine : P best = best_has P goes x rows all.0 all.1 in (
          (
            is_false (goes first best)
                (λ t. true_false (goes x best) (through x first best all.0 ok (one_way x first is) t)
                to.0.0),
            λ h. absurd (true_false (goes best first) (through best x first fine all.0 to.0.0 is) h),
          ),
          (to.0, to.1),
        )
    split false is to old =
        let best : ServerRow = best_of goes first rows in
        let fine : P best = best_has P goes first rows ok all.1 in
        let front : goes best x ≡ false → best.reg ≤ x.reg = λ h.
        (let le : best.reg ≤ first.reg = old.0.1
        (is_false (goes best first)
        (λ t. true_false (goes x first) (through x best first all.0 fine h t) is)) in
        let lt : first.reg < x.reg = rising.0.0 in
        omega (arith, le, lt)) in (
          old.0,
          (
            (
              is_false (goes x best)
                  (λ t. true_false (goes first best) (through first x best ok all.0 is t) old.0.0),
              front,
            ),
            old.1,
          ),
        )

first_all : (P : ServerRow → Type 0) (goes : ServerRow → ServerRow → Bool)
    → ((a x b : ServerRow) → P a → P x → goes x a ≡ false → goes x b ≡ true → goes a b ≡ true)
    → ((a x : ServerRow) → goes a x ≡ true → goes x a ≡ false) →
    (rows : List ServerRow) (row : ServerRow) → AllByRecursion P rows → AreRising (map (λ r. r.reg) rows)
    → first_best goes rows ≡ Some row → AllByRecursion (IsFirst goes row) rows
first_all P goes through one_way [] row all rising e = tt
first_all P goes through one_way (r ∷ rows) row all rising e = let same : best_of goes r rows ≡ row =
    cc in subst (λ b. AllByRecursion (IsFirst goes b) (r ∷ rows)) same
    (best_first P goes through one_way r rows all.0 all.1 rising)

-- what is no heavier than what is lighter is lighter
lighter_through : (a x b : ServerRow) → 1 ≤ a.cpus → 1 ≤ x.cpus → is_lighter x a ≡ false
    → is_lighter x b ≡ true → is_lighter a b ≡ true
lighter_through a x b pa px first second =
    let le : a.load * x.cpus ≤ x.load * a.cpus = lt_false (x.load * a.cpus) (a.load * x.cpus) first in
    let lt : x.load * b.cpus < b.load * x.cpus = lt_true (x.load * b.cpus) (b.load * x.cpus) second in
    let one : (a.load * x.cpus) * b.cpus ≤ (x.load * a.cpus) * b.cpus = mul-le (a.load * x.cpus) b.cpus
    (x.load * a.cpus) b.cpus le (omega arith) in
    let two : (x.load * b.cpus) * a.cpus < (b.load * x.cpus) * a.cpus = mul-lt-mul_of_pos_right lt
    (omega (arith, pa)) in
    let both_are : (a.load * b.cpus) * x.cpus < (b.load * a.cpus) * x.cpus = omega (arith, one, two) in
    lt_is (a.load * b.cpus) (b.load * a.cpus) (lt_of_mul-lt-mul_right x.cpus both_are)

lighter_not : (a x : ServerRow) → is_lighter a x ≡ true → is_lighter x a ≡ false
lighter_not a x e = let lt : a.load * x.cpus < x.load * a.cpus =
    lt_true (a.load * x.cpus) (x.load * a.cpus) e
    in ge_is (x.load * a.cpus) (a.load * x.cpus) (omega (arith, lt))

-- the same of older errors
older_through : (a x b : ServerRow) → Unit {0} → Unit {0} → is_older x a ≡ false → is_older x b ≡ true
    → is_older a b ≡ true
older_through a x b pa px first second =
    let le : unwrap_or a.error 0 ≤ unwrap_or x.error 0 = lt_false (unwrap_or x.error 0)
    (unwrap_or a.error 0) first in
    let lt : unwrap_or x.error 0 < unwrap_or b.error 0 = lt_true (unwrap_or x.error 0)
    (unwrap_or b.error 0) second in
    lt_is (unwrap_or a.error 0) (unwrap_or b.error 0) (omega (arith, le, lt))

older_not : (a x : ServerRow) → is_older a x ≡ true → is_older x a ≡ false
older_not a x e = let lt : unwrap_or a.error 0 < unwrap_or x.error 0 = lt_true (unwrap_or a.error 0)
    (unwrap_or x.error 0) e in ge_is (unwrap_or x.error 0) (unwrap_or a.error 0) (omega (arith, lt))

all_unit : (rows : List ServerRow) → AllByRecursion (λ r. Unit {0}) rows
all_unit [] = tt
all_unit (r ∷ rows) = (tt, all_unit rows)

-- what holds of those that pass a test
unfilter : (P : ServerRow → Type 0) (p : ServerRow → Bool) (rows : List ServerRow)
    → AllByRecursion P (filter p rows) → AllByRecursion (λ r. p r ≡ true → P r) rows
unfilter P p [] all = tt
unfilter P p (r ∷ rows) all =
    let both_are : (p r ≡ true → P r) × AllByRecursion P (filter p rows) = split (p r) refl all in
    (both_are.0, unfilter P p rows both_are.1)
  where
    split : (b : Bool) → p r ≡ b → AllByRecursion P (cond b (r ∷ filter p rows) (filter p rows))
        → (p r ≡ true → P r) × AllByRecursion P (filter p rows)
    split true is h = ((λ t. h.0), h.1)
    split false is h = ((λ t. absurd (true_false (p r) t is)), h)

-- the pick is fair against each with room
pick_fair : (rows : List ServerRow) (row : ServerRow) → AllByRecursion HasCpus rows
    → AreRising (map (λ r. r.reg) rows) → pick rows ≡ Some row
    → AllByRecursion (λ r. has_room r ≡ true → IsFair row r) rows
pick_fair rows row ok rising e = by_list (filter is_faultless (roomy rows)) refl
  where
    room_rising : AreRising (map (λ r. r.reg) (roomy rows))
    room_rising = rising-filter (λ r. r.reg) has_room rows rising

    of_free : (list : List ServerRow) → filter is_faultless (roomy rows) ≡ list → AllByRecursion HasCpus list
        × AreRising (map (λ r. r.reg) list) × AllByRecursion (λ r. is_faultless r ≡ true) list
    of_free list is = (
      subst (AllByRecursion HasCpus) is (all-filter HasCpus HasCpus is_faultless (λ r h t. h) (roomy rows)
          (all-filter HasCpus HasCpus has_room (λ r h t. h) rows ok)),
      subst (λ l. AreRising (map (λ r. r.reg) l)) is
          (rising-filter (λ r. r.reg) is_faultless (roomy rows) room_rising),
      subst (AllByRecursion (λ r. is_faultless r ≡ true)) is
          (all-filter (λ r. Unit {0}) (λ r. is_faultless r ≡ true) is_faultless (λ r h t. t) (roomy rows)
          (all_unit (roomy rows))),
    )

    by_list : (list : List ServerRow) → filter is_faultless (roomy rows) ≡ list
        → AllByRecursion (λ r. has_room r ≡ true → IsFair row r) rows
    by_list [] is =
        let best : first_best is_older (roomy rows) ≡ Some row =
        ap (λ l. or_else (first_best is_lighter l) (first_best is_older (roomy rows))) (sym is) ∙ e in
        let none : AllByRecursion (λ r. is_faultless r ≡ true → ⊥) (roomy rows) =
        unfilter (λ r. ⊥) is_faultless (roomy rows) (subst (AllByRecursion (λ r. ⊥)) (sym is) tt) in
        let old : AllByRecursion (IsFirst is_older row) (roomy rows) =
        first_all (λ r. Unit {0}) is_older older_through older_not (roomy rows) row
        (all_unit (roomy rows)) room_rising best in
        unfilter (IsFair row) has_room rows
        (all-both (λ r. is_faultless r ≡ true → ⊥) (IsFirst is_older row) (IsFair row)
        (λ r no oldest. record { lightest = λ t. absurd (no t); oldest = λ f. oldest })
        (roomy rows) none old)
    by_list (r ∷ list) is =
        let best : first_best is_lighter (r ∷ list) ≡ Some row =
        ap (λ l. or_else (first_best is_lighter l) (first_best is_older (roomy rows))) (sym is) ∙ e in
        let have : AllByRecursion HasCpus (r ∷ list) × AreRising (map (λ r. r.reg) (r ∷ list))
        × AllByRecursion (λ r. is_faultless r ≡ true) (r ∷ list) = of_free (r ∷ list) is in
        let faultless : is_faultless row ≡ true = first_has (λ x. is_faultless x ≡ true) is_lighter
        (r ∷ list) row have.2 best in
        let light : AllByRecursion (IsFirst is_lighter row) (r ∷ list) =
        first_all HasCpus is_lighter lighter_through lighter_not (r ∷ list) row have.0 have.1 best in
        let light_all : AllByRecursion (λ q. is_faultless q ≡ true → IsFirst is_lighter row q) (roomy rows) =
        unfilter (IsFirst is_lighter row) is_faultless (roomy rows)
        (subst (AllByRecursion (IsFirst is_lighter row)) (sym is) light) in
        unfilter (IsFair row) has_room rows
        (all-weaker (λ q. is_faultless q ≡ true → IsFirst is_lighter row q) (IsFair row)
        (λ q h. record {
          lightest = λ t. (faultless, h t);
          oldest = λ f.
              absurd (true_false (is_faultless row) faultless f);
        }) (roomy rows) light_all)

-- a row that is first of all is the best
first_only : (P : ServerRow → Type 0) (goes : ServerRow → ServerRow → Bool)
    → ((a x b : ServerRow) → P a → P x → goes x a ≡ false → goes x b ≡ true → goes a b ≡ true)
    → ((a x : ServerRow) → goes a x ≡ true → goes x a ≡ false)
    → (rows : List ServerRow) (row : ServerRow) → AllByRecursion P rows → AreRising (map (λ r. r.reg) rows)
    → ((Q : ServerRow → Type 0) → AllByRecursion Q rows → Q row)
    → AllByRecursion (λ x. AllByRecursion (λ y. y.reg ≡ x.reg → y ≡ x) rows) rows
    → AllByRecursion (IsFirst goes row) rows → first_best goes rows ≡ Some row
first_only P goes through one_way rows row ok rising listed only first = split (first_best goes rows) refl
  where
    none : (rs : List ServerRow) → first_best goes rs ≡ None
        → ((Q : ServerRow → Type 0) → AllByRecursion Q rs → Q row) → ⊥
    none [] e has = has (λ r. ⊥) tt
    none (r ∷ rs) e has = absurd cc

    split : (o : Option ServerRow) → first_best goes rows ≡ o → o ≡ Some row
    split None is = absurd (none rows is listed)
    split (Some best) is =
        let of_row : IsFirst goes best row =
        listed (IsFirst goes best) (first_all P goes through one_way rows best ok rising is) in
        let of_best : IsFirst goes row best = first_has (IsFirst goes row) goes rows best first is in
        let le : best.reg ≤ row.reg = of_row.1 of_best.0 in
        let ge : row.reg ≤ best.reg = of_best.1 of_row.0 in
        let same : best.reg ≡ row.reg = omega (arith, le, ge) in
        let only_row : AllByRecursion (λ y. y.reg ≡ row.reg → y ≡ row) rows =
        listed (λ x. AllByRecursion (λ y. y.reg ≡ x.reg → y ≡ x) rows) only in
        ap Some (first_has (λ y. y.reg ≡ row.reg → y ≡ row) goes rows best only_row is same)

-- rows with rising numbers and one number are one
rising_apart : (r : ServerRow) (rows : List ServerRow)
    → AllByRecursion (λ m. r.reg < m) (map (λ r. r.reg) rows)
    → AllByRecursion (λ y. y.reg ≡ r.reg → y ≡ r) rows × AllByRecursion (λ y. r.reg ≡ y.reg → r ≡ y) rows
rising_apart r [] all = (tt, tt)
rising_apart r (y ∷ rows) all =
    let lt : r.reg < y.reg = all.0 in
    let rest = rising_apart r rows all.1 in
    (((λ e. absurd (omega (arith, lt, e))), rest.0), ((λ e. absurd (omega (arith, lt, e))), rest.1))

pub rising_only : (rows : List ServerRow) → AreRising (map (λ r. r.reg) rows)
    → AllByRecursion (λ x. AllByRecursion (λ y. y.reg ≡ x.reg → y ≡ x) rows) rows
rising_only [] rising = tt
rising_only (r ∷ rows) rising =
    let apart = rising_apart r rows rising.0 in (
      ((λ e. refl), apart.0),
      all-both (λ x. r.reg ≡ x.reg → r ≡ x) (λ x. AllByRecursion (λ y. y.reg ≡ x.reg → y ≡ x) rows)
          (λ x. AllByRecursion (λ y. y.reg ≡ x.reg → y ≡ x) (r ∷ rows))
          (λ x own rest. (own, rest)) rows apart.1 (rising_only rows rising.1),
    )

-- a row with room and no error that is first of all such is the pick
pub light_pick : (rows : List ServerRow) (row : ServerRow) → AllByRecursion HasCpus rows
    → AreRising (map (λ r. r.reg) rows)
    → ((Q : ServerRow → Type 0) → AllByRecursion Q rows → Q row) → has_room row ≡ true
    → is_faultless row ≡ true
    → AllByRecursion (λ r. has_room r ≡ true → is_faultless r ≡ true → IsFirst is_lighter row r) rows
    → pick rows ≡ Some row
light_pick rows row ok rising listed room free first = ap (λ o. or_else o (first_best is_older (roomy rows)))
    (first_only HasCpus is_lighter lighter_through lighter_not (filter is_faultless (roomy rows)) row
    (all-filter HasCpus HasCpus is_faultless (λ r h t. h) (roomy rows)
    (all-filter HasCpus HasCpus has_room (λ r h t. h) rows ok))
    free_rising there (rising_only (filter is_faultless (roomy rows)) free_rising)
    (all-filter (λ r. is_faultless r ≡ true → IsFirst is_lighter row r)
    (IsFirst is_lighter row) is_faultless (λ r h t. h t) (roomy rows)
    (all-filter (λ r. has_room r ≡ true → is_faultless r ≡ true → IsFirst is_lighter row r)
    (λ r. is_faultless r ≡ true → IsFirst is_lighter row r) has_room (λ r h t. h t) rows first)))
  where
    free_rising : AreRising (map (λ r. r.reg) (filter is_faultless (roomy rows)))
    free_rising = rising-filter (λ r. r.reg) is_faultless (roomy rows)
        (rising-filter (λ r. r.reg) has_room rows rising)

    there : (Q : ServerRow → Type 0) → AllByRecursion Q (filter is_faultless (roomy rows)) → Q row
    there Q all = listed (λ r. has_room r ≡ true → is_faultless r ≡ true → Q r)
        (unfilter (λ r. is_faultless r ≡ true → Q r) has_room rows
        (unfilter Q is_faultless (roomy rows) all)) room free

-- nothing passes, nothing is left
none_pass : (p : ServerRow → Bool) (rows : List ServerRow) → AllByRecursion (λ r. p r ≡ true → ⊥) rows
    → filter p rows ≡ []
none_pass p [] none = refl
none_pass p (r ∷ rows) none = rw (is_false (p r) none.0) (none_pass p rows none.1)

-- where each with room has an error, the row with room whose error is first of all is the pick
pub old_pick : (rows : List ServerRow) (row : ServerRow) → AreRising (map (λ r. r.reg) rows)
    → ((Q : ServerRow → Type 0) → AllByRecursion Q rows → Q row) → has_room row ≡ true
    → AllByRecursion (λ r. has_room r ≡ true → is_faultless r ≡ true → ⊥) rows
    → AllByRecursion (λ r. has_room r ≡ true → IsFirst is_older row r) rows → pick rows ≡ Some row
old_pick rows row rising listed room faulty first =
    ap (λ l. or_else (first_best is_lighter l) (first_best is_older (roomy rows)))
    (none_pass is_faultless (roomy rows)
    (all-filter (λ r. has_room r ≡ true → is_faultless r ≡ true → ⊥)
    (λ r. is_faultless r ≡ true → ⊥) has_room (λ r h t. h t) rows faulty))
    ∙ first_only (λ r. Unit {0}) is_older older_through older_not (roomy rows) row
    (all_unit (roomy rows)) room_rising
    (λ Q all. listed (λ r. has_room r ≡ true → Q r) (unfilter Q has_room rows all) room)
    (rising_only (roomy rows) room_rising)
    (all-filter (λ r. has_room r ≡ true → IsFirst is_older row r) (IsFirst is_older row) has_room
    (λ r h t. h t) rows first)
  where
    room_rising : AreRising (map (λ r. r.reg) (roomy rows))
    room_rising = rising-filter (λ r. r.reg) has_room rows rising

-- where none has room there is no pick
pub none_picked : (rows : List ServerRow) → AllByRecursion (λ r. has_room r ≡ true → ⊥) rows
    → pick rows ≡ None
none_picked rows full = ap (λ l. or_else (first_best is_lighter (filter is_faultless l))
    (first_best is_older l)) (none_pass has_room rows full)

-- none has room where none is picked
no_pick : (rows : List ServerRow) → pick rows ≡ None → AllByRecursion (λ r. has_room r ≡ false) rows
no_pick rows e = all-weaker (λ r. has_room r ≡ true → ⊥) (λ r. has_room r ≡ false)
    (λ r no. is_false (has_room r) no) rows
    (unfilter (λ r. ⊥) has_room rows
    (subst (AllByRecursion (λ r. ⊥))
    (sym (empty (first_best is_lighter (filter is_faultless (roomy rows))) (roomy rows) e)) tt))
  where
    empty : (o : Option ServerRow) (list : List ServerRow) → or_else o (first_best is_older list) ≡ None
        → list ≡ []
    empty None [] none = refl
    empty None (r ∷ list) none = absurd cc
    empty (Some r) list none = absurd cc

fair_entry : (start : Start) (log : List CoreEntry) (k : CoreKind) → AllByRecursion HasCpus (servers_of log)
    → AreRising (map (λ r. r.reg) (servers_of log)) → AreDistinct (map (λ r. num r.reg) (servers_of log))
    → Facts (core_of start log) k → IsFairEntry log k
fair_entry start log (Reserve (Job job reg forgiven)) ok rising distinct is =
    let rows : List ServerRow = servers_of log in
    let row : ServerRow = is.row in
    let there : (list_any (λ r. r.reg == row.reg) rows ≡ true) × (has_room row ≡ true) =
    pick_there rows row is.picked in
    let only_one : AllByRecursion (λ y. same_job (num y.reg) (num row.reg) ≡ true → y ≡ row) rows =
    pick_has (λ x. AllByRecursion (λ y. same_job (num y.reg) (num x.reg) ≡ true → y ≡ x) rows) rows row
    (all-filter (λ x. AllByRecursion (λ y. same_job (num y.reg) (num x.reg) ≡ true → y ≡ x) rows)
    (λ x. AllByRecursion (λ y. same_job (num y.reg) (num x.reg) ≡ true → y ≡ x) rows) has_room
    (λ x h t. h) rows (own_only (λ r. num r.reg) rows distinct)) is.picked in
    let fair : AllByRecursion (λ r. has_room r ≡ true → IsFair row r) rows =
    pick_fair rows row ok rising is.picked in
    subst (IsFairly rows) (sym is.at) (
      there.0,
      all-weaker (λ y. same_job (num y.reg) (num row.reg) ≡ true → y ≡ row) (λ y. (y.reg == row.reg) ≡ true
          → (has_room y ≡ true) × AllByRecursion (λ r. has_room r ≡ true → IsFair y r) rows)
          (λ y same h. subst (λ z. (has_room z ≡ true)
          × AllByRecursion (λ r. has_room r ≡ true → IsFair z r) rows) (sym (same h)) (there.1, fair))
          rows only_one,
    )
fair_entry start log (Reserve (NoRoom n)) ok rising distinct is = (is.1, no_pick (servers_of log) is.0)
fair_entry start log (Reserve Spent) ok rising distinct is = tt
fair_entry start log (Beat server nonce cpus key pruned reaped replaced is_new) ok rising distinct is =
    tt
fair_entry start log (Commit job state kept) ok rising distinct is = tt
fair_entry start log (Undo job noted was_ended) ok rising distinct is = tt
fair_entry start log (Update server job state answer) ok rising distinct is = tt
fair_entry start log (Status pruned servers cpus n) ok rising distinct is = tt
fair_entry start log (Drain addr nonce on named) ok rising distinct is = tt

pub rows_positive : (log : List CoreEntry) → AllByRecursion (λ p. 1 ≤ p.1) (pairs log)
    → AllByRecursion HasCpus (servers_of log)
rows_positive log all = all-map HasCpus (row_of log) (standing log)
    (all-unmap (λ p. 1 ≤ p.1) view (standing log) all)

pub rows_rising : (log : List CoreEntry) → AreRising (map (λ p. p.0) (pairs log))
    → AreRising (map (λ r. r.reg) (servers_of log))
rows_rising log rising =
    subst AreRising (map-map (λ p. p.0) view (standing log)
    ∙ sym (map-map (λ r. r.reg) (row_of log) (standing log))) rising

abbrev AreFair : List CoreEntry → Type 0
AreFair log = AllByRecursion (λ c. IsFairEntry c.before c.at.kind) (cuts log)

fair-step : (start : Start) (log : List CoreEntry) (e : CoreEntry) → AreFair log → Roomy log
    → IsRule (core_of start log) e → AreFair (log ++ e ∷ [])
fair-step start log e fair room is =
    subst (AllByRecursion (λ c. IsFairEntry c.before c.at.kind)) (sym (cuts_behind-push [] log e))
    (all-append (λ c. IsFairEntry c.before c.at.kind) (map (followed e) (cuts log)) (end_cut log e ∷ [])
    (all-map (λ c. IsFairEntry c.before c.at.kind) (followed e) (cuts log) fair) (
      fair_entry start log e.kind (rows_positive log room.positive) (rows_rising log room.rising)
          (rows_distinct log room.distinct) (facts (core_of start log) e is),
      tt,
    ))

record FitsFairly (start : Start) (log : List CoreEntry) : Type 0 where
  sound : Sound start log
  room : Roomy log
  fair : AreFair log

pub legal_fair : (start : Start) (log : List CoreEntry) → start.count < 2 ^ 64 → IsLegal start log
    → AllByRecursion (λ c. IsFairEntry c.before c.at.kind) (cuts log)
legal_fair start log fits legal =
    (legal_has start (FitsFairly start)
    (record { sound = no_sound start fits; room = no_roomy; fair = tt })
    (λ l e h is. record {
      sound = sound-step start l e h.sound is;
      room = roomy-step start l e h.sound h.room is;
      fair =
          fair-step start l e h.fair h.room is;
    }) log legal).fair
