-- The reservations of a registration, and the list of their places: what ends them, one more, and what is
-- read.
use Rattle.std.proofs.Common.{◌≡◌, ℕ, zero, suc, ◌+◌, ◌<◌, ◌≤◌, List, [], ◌∷◌, ◌++◌, Bool, true}
use Rattle.std.proofs.Common.{false, cond}
use Rattle.std.proofs.Common.{not, ◌&&◌, ◌||◌, map, filter, length, get_or, set, take, drop, Option, Some}
use Rattle.std.proofs.Common.{None}
use Rattle.std.proofs.Common.{refl, ap, ◌∙◌, sym, subst, arith, append-nil, length-append, eqb-true, eq-eqb}
use Rattle.std.specs.Prelude.{◌==◌, slice_get}
use Rattle.std.specs.List.{AllByRecursion, filter_map, cons_option}
use Rattle.std.specs.Option.{option_map}
use Rattle.std.proofs.lemmas.Bool.{false≢true}
use Rattle.std.proofs.lemmas.List.{map-append, take_more, drop_more}
use Rattle.std.proofs.lemmas.List.Elements.{filter-append}
use Rattle.dist_types.specs.declared.addr.Addr.{Addr}
use Rattle.dist_types.specs.declared.ids.JobId.{JobId}
use Rattle.dist_types.specs.declared.results.JobState.{JobState}
use Rattle.row_index.specs.Lists.{list_at, Puts, AreAlike}
use Rattle.reservations.specs.declared.booked.BookedRow.{BookedRow}
use Rattle.core_rules.specs.declared.entry.CoreEntry.{CoreEntry}
use Rattle.dist_types.specs.declared.rules.Rules.{Rules}
use Rattle.core_rules.specs.declared.entry.CoreKind.TheVariants.{Beat, Drain}
use Rattle.core_rules.specs.declared.rows.HeldRow.{HeldRow}
use Rattle.core_rules.specs.declared.rows.OpenRow.{OpenRow}
use Rattle.core_rules.specs.Log.{names, names_job, is_this, same_job}
use Rattle.core_rules.specs.Laws.{AreRising}
use Rattle.core_rules.specs.Reap.{is_reaped, reap}
use Rattle.core_rules.specs.Rule.{is_left}
use Rattle.core_rules.specs.Reservation.{frees_by}
use Rattle.reservations.specs.Booked.{booked_after}
use Rattle.reservations.specs.Booked.{held_part_of, held_view, open_view}
use Rattle.reservations.specs.Own.{is_own, is_own_in, is_own_at, own_part_of, own_row_at, own_places}
use Rattle.reservations.specs.Own.{IsOwnList, AreOwn}
use Rattle.reservations.specs.Own.{is_open_row, ended_row, ended_at, ended_at_all, ended_if, ended_job}
use Rattle.reservations.specs.Own.{ended_jobs}
use Rattle.reservations.specs.Own.{ended_in, ended_in_all}
use Rattle.core_rules.proofs.Lists.{map-map, map-same, filter-map, filter-filter}
use Rattle.core_rules.proofs.AllLemmas.{is_false, true_false, all-weaker, all-append, all-filter}
use Rattle.std.proofs.lemmas.List.Elements.{filter_agree}
use Rattle.core_rules.proofs.GrowLemmas.{map-agree}

-- lists

filter-again : {X : Type 0} (p q : X → Bool) → ((x : X) → q x ≡ true → p x ≡ true) → (xs : List X)
    → filter q (filter p xs) ≡ filter q xs
filter-again p q weaker [] = refl
filter-again {X} p q weaker (x ∷ xs) = split (p x) refl (filter-again p q weaker xs)
  where
    split : (t : Bool) → p x ≡ t → filter q (filter p xs) ≡ filter q xs
        → filter q (cond t (x ∷ filter p xs) (filter p xs)) ≡ filter q (x ∷ xs)
    split true e rest = ap (λ l. cond (q x) (x ∷ l) l) rest
    split false e rest = rest
        ∙ ap (λ t. cond t (x ∷ filter q xs) (filter q xs)) (sym (is_false (q x) (λ yes. true_false (p x)
        (weaker x yes) e)))

filter-agree : {X : Type 0} (p q : X → Bool) (xs : List X) → AllByRecursion (λ x. p x ≡ q x) xs
    → filter p xs ≡ filter q xs
filter-agree p q [] all = refl
filter-agree p q (x ∷ xs) all = ap (λ t. cond t (x ∷ filter p xs) (filter p xs)) all.0
    ∙ ap (λ l. cond (q x) (x ∷ l) l) (filter-agree p q xs all.1)

filter_map-mapped : {X Y Z : Type 0} (g : Y → Option Z) (f : X → Y) (xs : List X)
    → filter_map g (map f xs) ≡ filter_map (λ x. g (f x)) xs
filter_map-mapped g f [] = refl
filter_map-mapped g f (x ∷ xs) = ap (cons_option (g (f x))) (filter_map-mapped g f xs)

filter_map-filter : {X Y : Type 0} (g : X → Option Y) (p : X → Bool) → ((x : X) → p x ≡ false → g x ≡ None)
    → (xs : List X) → filter_map g (filter p xs) ≡ filter_map g xs
filter_map-filter g p none [] = refl
filter_map-filter g p none (x ∷ xs) = split (p x) refl (filter_map-filter g p none xs)
  where
    split : (t : Bool) → p x ≡ t → filter_map g (filter p xs) ≡ filter_map g xs
        → filter_map g (cond t (x ∷ filter p xs) (filter p xs)) ≡ cons_option (g x) (filter_map g xs)
    split true e rest = ap (cons_option (g x)) rest
    split false e rest = rest ∙ ap (λ o. cons_option o (filter_map g xs)) (sym (none x e))

-- what is own after a change was own before it

abbrev Fewer : ℕ → List BookedRow → List BookedRow → Type 0
Fewer n [] [] = Unit {0}
Fewer n [] (c ∷ cs) = ⊥
Fewer n (b ∷ bs) [] = ⊥
Fewer n (b ∷ bs) (c ∷ cs) = (is_own n c ≡ true → is_own n b ≡ true) × Fewer n bs cs

fewer_at : (n : ℕ) (bs cs : List BookedRow) → Fewer n bs cs → (p : ℕ) → is_own_at n cs p ≡ true
    → is_own_at n bs p ≡ true
fewer_at n [] [] fewer p e = e
fewer_at n [] (c ∷ cs) fewer p e = absurd fewer
fewer_at n (b ∷ bs) [] fewer p e = absurd fewer
fewer_at n (b ∷ bs) (c ∷ cs) fewer zero e = fewer.0 e
fewer_at n (b ∷ bs) (c ∷ cs) fewer (suc p) e = fewer_at n bs cs fewer.1 p e

fewer_length : (n : ℕ) (bs cs : List BookedRow) → Fewer n bs cs → length cs ≡ length bs
fewer_length n [] [] fewer = refl
fewer_length n [] (c ∷ cs) fewer = absurd fewer
fewer_length n (b ∷ bs) [] fewer = absurd fewer
fewer_length n (b ∷ bs) (c ∷ cs) fewer = ap suc (fewer_length n bs cs fewer.1)

fewer_places : (n : ℕ) (bs cs : List BookedRow) → Fewer n bs cs
    → filter (is_own_at n cs) (own_places n bs) ≡ own_places n cs
fewer_places n [] [] fewer = refl
fewer_places n [] (c ∷ cs) fewer = absurd fewer
fewer_places n (b ∷ bs) [] fewer = absurd fewer
fewer_places n (b ∷ bs) (c ∷ cs) fewer = split (is_own n b) refl
    (filter-map (is_own_at n (c ∷ cs)) suc (own_places n bs) ∙ ap (map suc) (fewer_places n bs cs fewer.1))
  where
    split : (t : Bool) → is_own n b ≡ t
        → filter (is_own_at n (c ∷ cs)) (map suc (own_places n bs)) ≡ map suc (own_places n cs)
        → filter (is_own_at n (c ∷ cs)) (cond t (0 ∷ map suc (own_places n bs)) (map suc (own_places n bs)))
        ≡ own_places n (c ∷ cs)
    split true e rest = ap (λ l. cond (is_own n c) (0 ∷ l) l) rest
    split false e rest = rest ∙ ap (λ t. cond t (0 ∷ map suc (own_places n cs)) (map suc (own_places n cs)))
        (sym (is_false (is_own n c) (λ yes. true_false (is_own n b) (fewer.0 yes) e)))

fewer_own : (n : ℕ) (bs cs : List BookedRow) (list : List ℕ) → Fewer n bs cs
    → filter (is_own_at n bs) list ≡ own_places n bs → filter (is_own_at n cs) list ≡ own_places n cs
fewer_own n bs cs list fewer own =
    sym (filter-again (is_own_at n bs) (is_own_at n cs) (fewer_at n bs cs fewer) list)
    ∙ ap (filter (is_own_at n cs)) own ∙ fewer_places n bs cs fewer

fewer_list : (n : ℕ) (bs cs : List BookedRow) (list : List ℕ) → Fewer n bs cs → IsOwnList n bs list
    → IsOwnList n cs list
fewer_list n bs cs list fewer own = (
  all-weaker (λ p. p < length bs) (λ p. p < length cs)
      (λ p lt. subst (λ k. p < k) (sym (fewer_length n bs cs fewer)) lt) list own.0,
  fewer_own n bs cs list fewer own.1,
)

fewer_map : (n : ℕ) (f : BookedRow → BookedRow) → ((b : BookedRow) → is_own n (f b) ≡ true
    → is_own n b ≡ true)
    → (bs : List BookedRow) → Fewer n bs (map f bs)
fewer_map n f stays [] = tt
fewer_map n f stays (b ∷ bs) = (stays b, fewer_map n f stays bs)

-- the lists stay, where what is own after a change was own before it
pub own_map : (f : BookedRow → BookedRow) → ((n : ℕ) (b : BookedRow) → is_own n (f b) ≡ true
    → is_own n b ≡ true)
    → (bs : List BookedRow) (lists : List (ℕ × List ℕ)) → AreOwn bs lists → AreOwn (map f bs) lists
own_map f stays bs lists own n =
    fewer_list n bs (map f bs) (list_at lists n) (fewer_map n f (stays n) bs) (own n)

less_own : (u f r : Bool) → ((u && f) && r) ≡ true → (u && r) ≡ true
less_own true true r e = e
less_own true false r e = absurd (false≢true e)
less_own false f r e = e

pub own_after : (e : CoreEntry) (bs : List BookedRow) (lists : List (ℕ × List ℕ)) → AreOwn bs lists
    → AreOwn (map (booked_after e) bs) lists
own_after e bs lists own = own_map (booked_after e)
    (λ n b is. less_own b.unended (not (frees_by e.kind b.job b.reg)) (b.reg == n) is) bs lists own

pub own_jobs : (jobs : List JobId) (bs : List BookedRow) (lists : List (ℕ × List ℕ)) → AreOwn bs lists
    → AreOwn (map (ended_jobs jobs) bs) lists
own_jobs jobs bs lists own = own_map (ended_jobs jobs)
    (λ n b e. less_own b.unended (not (names_job jobs b.job)) (b.reg == n) e) bs lists own

-- the reservations of a registration, ended by their places

and_not : (u r : Bool) → ((u && not r) && r) ≡ false
and_not true true = refl
and_not true false = refl
and_not false r = refl

not_twice : (u r : Bool) → ((u && not r) && not r) ≡ (u && not r)
not_twice true true = refl
not_twice true false = refl
not_twice false r = refl

not_own : (u r : Bool) → (u && r) ≡ false → u ≡ (u && not r)
not_own true true e = absurd (false≢true (sym e))
not_own true false e = refl
not_own false r e = refl

fewer_same : (n : ℕ) (bs : List BookedRow) → Fewer n bs bs
fewer_same n [] = tt
fewer_same n (b ∷ bs) = (λ e. e, fewer_same n bs)

fewer_ended : (n place : ℕ) (bs : List BookedRow) → Fewer n bs (ended_in n place bs)
fewer_ended n place [] = tt
fewer_ended n zero (b ∷ bs) = (less_own b.unended (not (b.reg == n)) (b.reg == n), fewer_same n bs)
fewer_ended n (suc place) (b ∷ bs) = (λ e. e, fewer_ended n place bs)

ended_gone : (n place : ℕ) (bs : List BookedRow) → is_own_at n (ended_in n place bs) place ≡ false
ended_gone n place [] = refl
ended_gone n zero (b ∷ bs) = and_not b.unended (b.reg == n)
ended_gone n (suc place) (b ∷ bs) = ended_gone n place bs

ended_same : (n place : ℕ) (bs : List BookedRow)
    → map (ended_at n) (ended_in n place bs) ≡ map (ended_at n) bs
ended_same n place [] = refl
ended_same n zero (b ∷ bs) = ap (λ u. record b { unended = u } ∷ map (ended_at n) bs)
    (not_twice b.unended (b.reg == n))
ended_same n (suc place) (b ∷ bs) = ap (λ l. ended_at n b ∷ l) (ended_same n place bs)

none_mapped : (ps : List ℕ) → map suc ps ≡ [] → ps ≡ []
none_mapped [] e = refl
none_mapped (p ∷ ps) e = (let some = ap length e in absurd (omega (arith, some)))

none_own : (n : ℕ) (bs : List BookedRow) → own_places n bs ≡ [] → bs ≡ map (ended_at n) bs
none_own n [] none = refl
none_own n (b ∷ bs) none = split (is_own n b) refl none (none_own n bs)
  where
    split : (t : Bool) → is_own n b ≡ t
        → cond t (0 ∷ map suc (own_places n bs)) (map suc (own_places n bs)) ≡ []
        → (own_places n bs ≡ [] → bs ≡ map (ended_at n) bs) → b ∷ bs ≡ map (ended_at n) (b ∷ bs)
    split true e none rest = (let some = ap length none in absurd (omega (arith, some)))
    split false e none rest = ap (λ u. record b { unended = u } ∷ bs) (not_own b.unended (b.reg == n) e)
        ∙ ap (λ l. ended_at n b ∷ l) (rest (none_mapped (own_places n bs) none))

-- where the places are those of all, all are ended
pub ended_each : (n : ℕ) (list : List ℕ) (bs : List BookedRow)
    → filter (is_own_at n bs) list ≡ own_places n bs
    → ended_in_all n list bs ≡ map (ended_at n) bs
ended_each n [] bs own = none_own n bs (sym own)
ended_each n (p ∷ list) bs own =
    ended_each n list (ended_in n p bs)
    (ap (λ t. cond t (p ∷ filter (is_own_at n (ended_in n p bs)) list) (filter (is_own_at n (ended_in n p
    bs)) list))
    (sym (ended_gone n p bs)) ∙ fewer_own n bs (ended_in n p bs) (p ∷ list) (fewer_ended n p bs) own)
    ∙ ended_same n p bs

-- then no place is left
none_left : (n : ℕ) (bs : List BookedRow) → own_places n (map (ended_at n) bs) ≡ []
none_left n [] = refl
none_left n (b ∷ bs) = ap (λ t. cond t (0 ∷ map suc (own_places n (map (ended_at n) bs)))
    (map suc (own_places n (map (ended_at n) bs)))) (and_not b.unended (b.reg == n))
    ∙ ap (map suc) (none_left n bs)

-- another list of a registration
pub own_put : (bs : List BookedRow) (old new : List (ℕ × List ℕ)) (number : ℕ) (list : List ℕ) → AreOwn bs old
    → IsOwnList number bs list → Puts old new number list → AreOwn bs new
own_put bs old new number list own is puts n =
    subst (IsOwnList n bs) (sym (puts n)) (split (number == n) refl)
  where
    split : (t : Bool) → (number == n) ≡ t → IsOwnList n bs (cond t list (list_at old n))
    split true e = subst (λ m. IsOwnList m bs list) (eqb-true number n e) is
    split false e = own n

pub own_alike : (bs : List BookedRow) (old new : List (ℕ × List ℕ)) → AreOwn bs old → AreAlike old new
    → AreOwn bs new
own_alike bs old new own alike n = subst (IsOwnList n bs) (sym (alike n)) (own n)

pub own_swept : (old kept new : List (ℕ × List ℕ)) (number : ℕ) (list : List ℕ) → Puts old kept number list
    → AreAlike kept new → list_at new number ≡ list
own_swept old kept new number list puts alike =
    alike number ∙ puts number ∙ ap (λ b. cond b list (list_at old number)) (eq-eqb number number refl)

pub own_forgotten : (n : ℕ) (bs : List BookedRow) (old new : List (ℕ × List ℕ)) → AreOwn bs old
    → Puts old new n [] → AreOwn (map (ended_at n) bs) new
own_forgotten n bs old new own puts = own_put (map (ended_at n) bs) old new n []
    (own_map (ended_at n) (λ m b e. less_own b.unended (not (b.reg == n)) (b.reg == m) e) bs old own)
    (tt, sym (none_left n bs)) puts

pub own_kept : (n : ℕ) (bs : List BookedRow) (list : List ℕ) → IsOwnList n bs list
    → IsOwnList n bs (filter (is_own_at n bs) list)
own_kept n bs list own = (
  all-filter (λ p. p < length bs) (λ p. p < length bs) (is_own_at n bs) (λ p lt yes. lt) list own.0,
  filter-again (is_own_at n bs) (is_own_at n bs) (λ p e. e) list ∙ own.1,
)

-- one reservation more

slice_front : (bs : List BookedRow) (b : BookedRow) (p : ℕ) → p < length bs
    → slice_get (bs ++ b ∷ []) p ≡ slice_get bs p
slice_front [] b p lt = absurd (omega (arith, lt))
slice_front (c ∷ bs) b zero lt = refl
slice_front (c ∷ bs) b (suc p) lt = slice_front bs b p (omega (arith, lt))

slice_last : (bs : List BookedRow) (b : BookedRow) → slice_get (bs ++ b ∷ []) (length bs) ≡ Some b
slice_last [] b = refl
slice_last (c ∷ bs) b = slice_last bs b

places_more : (n : ℕ) (bs : List BookedRow) (b : BookedRow)
    → own_places n (bs ++ b ∷ []) ≡ own_places n bs ++ cond (is_own n b) (length bs ∷ []) []
places_more n [] b = split (is_own n b)
  where
    split : (t : Bool) → ◌≡◌ {A = List ℕ} (cond t (0 ∷ []) []) ([] ++ cond t (0 ∷ []) [])
    split true = refl
    split false = refl
places_more n (c ∷ bs) b =
    ap (λ l. cond (is_own n c) (0 ∷ map suc l) (map suc l)) (places_more n bs b)
    ∙ ap (λ l. cond (is_own n c) (0 ∷ l) l)
    (map-append suc (own_places n bs) (cond (is_own n b) (length bs ∷ []) [])
    ∙ ap (λ l. map suc (own_places n bs) ++ l) (end (is_own n b)))
    ∙ front (is_own n c) (map suc (own_places n bs)) (cond (is_own n b) (suc (length bs) ∷ []) [])
  where
    end : (t : Bool) → map suc (cond t (length bs ∷ []) []) ≡ cond t (suc (length bs) ∷ []) []
    end true = refl
    end false = refl

    front : (t : Bool) (xs ys : List ℕ) → cond t (0 ∷ (xs ++ ys)) (xs ++ ys) ≡ cond t (0 ∷ xs) xs ++ ys
    front true xs ys = refl
    front false xs ys = refl

front_own : (n : ℕ) (bs : List BookedRow) (b : BookedRow) (list : List ℕ) → IsOwnList n bs list
    → filter (is_own_at n (bs ++ b ∷ [])) list ≡ own_places n bs
front_own n bs b list own = filter-agree (is_own_at n (bs ++ b ∷ [])) (is_own_at n bs) list
    (all-weaker (λ p. p < length bs) (λ p. is_own_at n (bs ++ b ∷ []) p ≡ is_own_at n bs p)
    (λ p lt. ap (is_own_in n) (slice_front bs b p lt)) list own.0) ∙ own.1

-- at another registration
pub push_other : (n : ℕ) (bs : List BookedRow) (b : BookedRow) (list : List ℕ) → (b.reg == n) ≡ false
    → IsOwnList n bs list → IsOwnList n (bs ++ b ∷ []) list
push_other n bs b list other own = (
  all-weaker (λ p. p < length bs) (λ p. p < length (bs ++ b ∷ []))
      (λ p lt. (let more = length-append bs (b ∷ []) in omega (arith, lt, more))) list own.0,
  front_own n bs b list own ∙ sym (append-nil (own_places n bs)) ∙ none b.unended
      ∙ ap (λ t. own_places n bs ++ cond (b.unended && t) (length bs ∷ []) []) (sym other)
      ∙ sym (places_more n bs b),
)
  where
    none : (u : Bool) → own_places n bs ++ [] ≡ own_places n bs ++ cond (u && false) (length bs ∷ []) []
    none true = refl
    none false = refl

-- at its own
pub push_own : (n : ℕ) (bs : List BookedRow) (b : BookedRow) (list : List ℕ) → IsOwnList n bs list
    → IsOwnList n (bs ++ b ∷ []) (list ++ length bs ∷ [])
push_own n bs b list own = (
  all-append (λ p. p < length (bs ++ b ∷ [])) list (length bs ∷ [])
      (all-weaker (λ p. p < length bs) (λ p. p < length (bs ++ b ∷ []))
      (λ p lt. (let more = length-append bs (b ∷ []) in omega (arith, lt, more))) list own.0)
      ((let more = length-append bs (b ∷ []) in omega (arith, more)), tt),
  filter-append (is_own_at n (bs ++ b ∷ [])) list (length bs ∷ [])
      ∙ ap (λ l. l ++ filter (is_own_at n (bs ++ b ∷ [])) (length bs ∷ [])) (front_own n bs b list own)
      ∙ ap (λ o. own_places n bs ++ cond (is_own_in n o) (length bs ∷ []) []) (slice_last bs b)
      ∙ sym (places_more n bs b),
)

pub own_push : (bs : List BookedRow) (b : BookedRow) (old new : List (ℕ × List ℕ)) → AreOwn bs old
    → Puts old new b.reg (list_at old b.reg ++ length bs ∷ []) → AreOwn (bs ++ b ∷ []) new
own_push bs b old new own puts n = subst (IsOwnList n (bs ++ b ∷ [])) (sym (puts n)) (split (b.reg == n) refl)
  where
    split : (t : Bool) → (b.reg == n) ≡ t
        → IsOwnList n (bs ++ b ∷ []) (cond t (list_at old b.reg ++ length bs ∷ []) (list_at old n))
    split true e = subst (λ m. IsOwnList m (bs ++ b ∷ []) (list_at old b.reg ++ length bs ∷ []))
        (eqb-true b.reg n e) (push_own b.reg bs b (list_at old b.reg) (own b.reg))
    split false e = push_other n bs b (list_at old n) e (own n)

-- the rows that are read

place_none : (n : ℕ) (bs : List BookedRow) (p : ℕ) → is_own_at n bs p ≡ false → own_row_at n bs p ≡ None
place_none n bs p e = split (slice_get bs p) e
  where
    inner : (b : BookedRow) (t : Bool) → t ≡ false → cond t (Some b) None ≡ None
    inner b true e = absurd (false≢true (sym e))
    inner b false e = refl

    split : (o : Option BookedRow) → is_own_in n o ≡ false → own_part_of n o ≡ None
    split None e = refl
    split (Some b) e = inner b (is_own n b) e

rows_at_places : (n : ℕ) (bs : List BookedRow)
    → filter_map (own_row_at n bs) (own_places n bs) ≡ filter (is_own n) bs
rows_at_places n [] = refl
rows_at_places n (b ∷ bs) = split (is_own n b) refl
    (filter_map-mapped (own_row_at n (b ∷ bs)) suc (own_places n bs) ∙ rows_at_places n bs)
  where
    split : (t : Bool) → is_own n b ≡ t
        → filter_map (own_row_at n (b ∷ bs)) (map suc (own_places n bs)) ≡ filter (is_own n) bs
        → filter_map (own_row_at n (b ∷ bs)) (cond t (0 ∷ map suc (own_places n bs)) (map suc (own_places
        n bs)))
        ≡ cond t (b ∷ filter (is_own n) bs) (filter (is_own n) bs)
    split true e rest = ap (λ t. cons_option (cond t (Some b) None)
        (filter_map (own_row_at n (b ∷ bs)) (map suc (own_places n bs)))) e ∙ ap (λ l. b ∷ l) rest
    split false e rest = rest

-- the rows in the places of a list are those of the registration
pub rows_own : (n : ℕ) (bs : List BookedRow) (list : List ℕ) → IsOwnList n bs list
    → filter_map (own_row_at n bs) list ≡ filter (is_own n) bs
rows_own n bs list own = sym (filter_map-filter (own_row_at n bs) (is_own_at n bs) (place_none n bs) list)
    ∙ ap (filter_map (own_row_at n bs)) own.1 ∙ rows_at_places n bs

-- what a heartbeat reaps
pub reap_own : (rules : Rules) (now n : ℕ) (bs : List BookedRow)
    → map (λ b. b.job) (filter (λ b. is_reaped rules now n (held_part_of b)) (filter (is_own n) bs))
    ≡ reap rules now n (held_view bs)
reap_own rules now n bs =
    let t : BookedRow → Bool = λ b. is_reaped rules now n (held_part_of b) in
    let up : List BookedRow = filter (λ b. b.unended) bs in
    ap (map (λ (b : BookedRow). b.job)) (sym (filter-filter t (is_own n) bs)
    ∙ filter_agree (λ b. is_own n b && t b) (λ b. b.unended && t b) (λ b. same b.unended (b.reg == n) _ _) bs
    ∙ filter-filter t (λ b. b.unended) bs)
    ∙ sym (map-map (λ (h : HeldRow). h.job) held_part_of (filter t up))
    ∙ ap (map (λ (h : HeldRow). h.job)) (sym (filter-map (is_reaped rules now n) held_part_of up))
  where
    same : (u r c o : Bool) → ((u && r) && ((r && c) && o)) ≡ (u && ((r && c) && o))
    same true true c o = refl
    same true false c o = refl
    same false r c o = refl

eq-turn : (a b : ℕ) → (a == b) ≡ (b == a)
eq-turn a b = split (a == b) refl (b == a) refl
  where
    split : (s : Bool) → (a == b) ≡ s → (t : Bool) → (b == a) ≡ t → s ≡ t
    split true e true d = refl
    split true e false d = absurd (false≢true (sym d ∙ eq-eqb b a (sym (eqb-true a b e))))
    split false e true d = absurd (false≢true (sym e ∙ eq-eqb a b (sym (eqb-true b a d))))
    split false e false d = refl

-- one registration after another

and_yes : (u : Bool) → (u && not false) ≡ u
and_yes true = refl
and_yes false = refl

or_both : (u r s m : Bool) → r ≡ s → ((u && not r) && not m) ≡ (u && not (s || m))
or_both true true true m same = refl
or_both true true false m same = absurd (false≢true (sym same))
or_both true false true m same = absurd (false≢true same)
or_both true false false m same = refl
or_both false r s m same = refl

pub ended_next : (n : ℕ) (ns : List ℕ) (bs : List BookedRow)
    → map (ended_at_all ns) (map (ended_at n) bs) ≡ map (ended_at_all (n ∷ ns)) bs
ended_next n ns bs = map-map (ended_at_all ns) (ended_at n) bs
    ∙ map-agree (λ b. ended_at_all ns (ended_at n b)) (ended_at_all (n ∷ ns))
    (λ b. ap (λ u. record b { unended = u })
    (or_both b.unended (b.reg == n) (n == b.reg) (names ns b.reg) (eq-turn b.reg n))) bs

pub ended_none : (bs : List BookedRow) → map (ended_at_all []) bs ≡ bs
ended_none [] = refl
ended_none (b ∷ bs) = ap (λ u. record b { unended = u } ∷ map (ended_at_all []) bs) (and_yes b.unended)
    ∙ ap (λ l. b ∷ l) (ended_none bs)

pub ended_this : (n : ℕ) (bs : List BookedRow) → map (ended_at n) bs ≡ map (ended_if (Some n)) bs
ended_this n bs = map-agree (ended_at n) (ended_if (Some n))
    (λ b. ap (λ t. record b { unended = b.unended && not t }) (eq-turn b.reg n)) bs

pub ended_nothing : (bs : List BookedRow) → bs ≡ map (ended_if None) bs
ended_nothing [] = refl
ended_nothing (b ∷ bs) = ap (λ u. record b { unended = u } ∷ bs) (sym (and_yes b.unended))
    ∙ ap (λ l. ended_if None b ∷ l) (ended_nothing bs)

pub job_next : (j : JobId) (js : List JobId) (bs : List BookedRow)
    → map (ended_jobs js) (map (ended_job j) bs) ≡ map (ended_jobs (j ∷ js)) bs
job_next j js bs = map-map (ended_jobs js) (ended_job j) bs
    ∙ map-agree (λ b. ended_jobs js (ended_job j b)) (ended_jobs (j ∷ js))
    (λ b. ap (λ u. record b { unended = u })
    (or_both b.unended (same_job b.job j) (same_job j b.job) (names_job js b.job) (eq-turn b.job.0 j.0))) bs

pub no_job : (bs : List BookedRow) → map (ended_jobs []) bs ≡ bs
no_job [] = refl
no_job (b ∷ bs) = ap (λ u. record b { unended = u } ∷ map (ended_jobs []) bs) (and_yes b.unended)
    ∙ ap (λ l. b ∷ l) (no_job bs)

-- a job's row

pub other_job : (job : JobId) (b : BookedRow) → (b.job.0 == job.0) ≡ false → ended_job job b ≡ b
other_job job b other = ap (λ t. record b { unended = b.unended && not t }) other
    ∙ ap (λ u. record b { unended = u }) (and_yes b.unended)

pub own_job : (job : JobId) (b : BookedRow) → b.job.0 ≡ job.0 → ended_row b ≡ ended_job job b
own_job job b own = sym (ap (λ t. record b { unended = b.unended && not t }) (eq-eqb b.job.0 job.0 own)
    ∙ ap (λ u. record b { unended = u }) (none b.unended))
  where
    none : (u : Bool) → (u && not true) ≡ false
    none true = refl
    none false = refl

-- a place's row

place_ended : (n : ℕ) (bs : List BookedRow) (p : ℕ) (d : BookedRow) → is_own_at n bs p ≡ true
    → set bs p (ended_row (get_or bs p d)) ≡ ended_in n p bs
place_ended n [] p d e = absurd (false≢true e)
place_ended n (b ∷ bs) zero d e = ap (λ u. record b { unended = u } ∷ bs) (gone b.unended (b.reg == n) e)
  where
    gone : (u r : Bool) → (u && r) ≡ true → false ≡ (u && not r)
    gone true true e = refl
    gone true false e = absurd (false≢true e)
    gone false r e = refl
place_ended n (b ∷ bs) (suc p) d e = ap (λ l. b ∷ l) (place_ended n bs p d e)

pub place_done : (n : ℕ) (bs : List BookedRow) (p : ℕ) (new : List BookedRow) → is_own_at n bs p ≡ true
    → ((d : BookedRow) → new ≡ set bs p (ended_row (get_or bs p d))) → new ≡ ended_in n p bs
place_done n [] p new e does = absurd (false≢true e)
place_done n (b ∷ bs) p new e does = does b ∙ place_ended n (b ∷ bs) p b e

pub place_kept : (n : ℕ) (bs : List BookedRow) (p : ℕ) → is_own_at n bs p ≡ false → bs ≡ ended_in n p bs
place_kept n [] p e = refl
place_kept n (b ∷ bs) zero e = ap (λ u. record b { unended = u } ∷ bs) (not_own b.unended (b.reg == n) e)
place_kept n (b ∷ bs) (suc p) e = ap (λ l. b ∷ l) (place_kept n bs p e)

-- what a heartbeat and a status do

unmarked : (b : BookedRow) (s : Option JobState) (c u e : Bool) → record b {
  state = option_map (λ t. t) s;
  claimed = c || false;
  unspent = u && true;
  unended = e;
} ≡ record b { state = s; claimed = c; unspent = u; unended = e }
unmarked b None true true e = refl
unmarked b None true false e = refl
unmarked b None false true e = refl
unmarked b None false false e = refl
unmarked b (Some t) true true e = refl
unmarked b (Some t) true false e = refl
unmarked b (Some t) false true e = refl
unmarked b (Some t) false false e = refl

three : (u p r j : Bool) → (((u && not p) && not r) && not j) ≡ (u && not ((j || false) || (p || r)))
three true true r true = refl
three true true r false = refl
three true false true true = refl
three true false true false = refl
three true false false true = refl
three true false false false = refl
three false p r j = refl

pub beat_is : (now : ℕ) (server : Addr) (nonce cpus : ℕ) (key pruned : List ℕ) (reaped : List JobId) (replaced :
    Option ℕ)
    (is_new : Bool) (bs : List BookedRow)
    → map (ended_jobs reaped) (map (ended_if replaced) (map (ended_at_all pruned) bs))
    ≡ map (booked_after (record { now = now; kind = Beat server nonce cpus key pruned reaped replaced is_new }))
    bs
beat_is now server nonce cpus key pruned reaped replaced is_new bs =
    let kind = Beat server nonce cpus key pruned reaped replaced is_new in
    let e : CoreEntry = record { now = now; kind = kind } in
    ap (map (ended_jobs reaped)) (map-map (ended_if replaced) (ended_at_all pruned) bs)
    ∙ map-map (ended_jobs reaped) (λ b. ended_if replaced (ended_at_all pruned b)) bs
    ∙ map-agree (λ b. ended_jobs reaped (ended_if replaced (ended_at_all pruned b))) (booked_after e)
    (λ b. ap (λ u. record b { unended = u })
    (three b.unended (names pruned b.reg) (is_this replaced b.reg) (names_job reaped b.job))
    ∙ sym (unmarked b b.state b.claimed b.unspent (b.unended && not (frees_by kind b.job b.reg)))) bs

-- a drain leaves all reservations
pub drain_is : (now : ℕ) (server : Addr) (nonce : ℕ) (on : Bool) (named : Option ℕ) (bs : List BookedRow)
    → bs ≡ map (booked_after (record { now = now; kind = Drain server nonce on named })) bs
drain_is now server nonce on named bs =
    sym (map-same (booked_after (record { now = now; kind = Drain server nonce on named }))
    (λ b. unmarked b b.state b.claimed b.unspent (b.unended && true)
    ∙ ap (λ u. record b { unended = u }) (and_all b.unended)) bs)
  where
    and_all : (u : Bool) → (u && true) ≡ u
    and_all true = refl
    and_all false = refl

-- the first of the rest

pub drop_none : {X : Type 0} (xs : List X) → drop 0 xs ≡ xs
drop_none [] = refl
drop_none (x ∷ xs) = refl

pub drop_all : {X : Type 0} (xs : List X) (i : ℕ) → length xs ≤ i → drop i xs ≡ []
drop_all [] zero le = refl
drop_all [] (suc i) le = refl
drop_all (x ∷ xs) zero le = absurd (omega (arith, le))
drop_all (x ∷ xs) (suc i) le = drop_all xs i (omega (arith, le))

pub drop_next : {X : Type 0} (xs : List X) (i : ℕ) (x : X) → i < length xs → x ≡ get_or xs i x
    → drop i xs ≡ x ∷ drop (i + 1) xs
drop_next xs i x lt is = drop_more xs i x lt ∙ ap (λ y. y ∷ drop (i + 1) xs) (sym is)

-- the open jobs that are left

abbrev left_of : List ℕ → List BookedRow → ℕ
left_of ns bs = length (filter (λ o. is_left ns o.reg) (open_view bs))

abbrev own_open : ℕ → List BookedRow → ℕ
own_open n bs = length (filter is_open_row (filter (is_own n) bs))

names_end : (ns : List ℕ) (n r : ℕ) → names (ns ++ n ∷ []) r ≡ (names ns r || (n == r))
names_end [] n r = none (n == r)
  where
    none : (t : Bool) → (t || false) ≡ t
    none true = refl
    none false = refl
names_end (m ∷ ns) n r = ap (λ t. (m == r) || t) (names_end ns n r) ∙ turn (m == r)
  where
    turn : (t : Bool) → (t || (names ns r || (n == r))) ≡ ((t || names ns r) || (n == r))
    turn true = refl
    turn false = refl

-- one registration less
left_less : (ns : List ℕ) (n : ℕ) (bs : List BookedRow) → names ns n ≡ false
    → left_of ns bs ≡ left_of (ns ++ n ∷ []) bs + own_open n bs
left_less ns n [] none = refl
left_less ns n (b ∷ bs) none = split b.unended b.unspent b.state (left_less ns n bs none)
  where
    parts : Bool → Bool → Option JobState → BookedRow
    parts u s state = record b { unended = u; unspent = s; state = state }

    row : JobState → OpenRow
    row s = record { job = b.job; reg = Some b.reg; server = Some b.server; state = s }

    closed : (r : Bool) (c : BookedRow) → is_open_row c ≡ false
        → length (filter is_open_row (cond r (c ∷ filter (is_own n) bs) (filter (is_own n) bs)))
        ≡ own_open n bs
    closed true c shut =
        ap (λ t. length (cond t (c ∷ filter is_open_row (filter (is_own n) bs))
        (filter is_open_row (filter (is_own n) bs)))) shut
    closed false c shut = refl

    counted : (a c r : Bool) → a ≡ names ns b.reg → c ≡ (a || r) → r ≡ (b.reg == n) → (s : JobState)
        → left_of ns bs ≡ left_of (ns ++ n ∷ []) bs + own_open n bs
        → length (cond (not a) (row s ∷ filter (λ o. is_left ns o.reg) (open_view bs))
        (filter (λ o. is_left ns o.reg) (open_view bs)))
        ≡ length (cond (not c) (row s ∷ filter (λ o. is_left (ns ++ n ∷ []) o.reg) (open_view bs))
        (filter (λ o. is_left (ns ++ n ∷ []) o.reg) (open_view bs)))
        + length (filter is_open_row (cond r (parts true false (Some s) ∷ filter (is_own n) bs)
        (filter (is_own n) bs)))
    counted true c true named both same s rest =
        absurd (false≢true (sym none ∙ ap (names ns) (sym (eqb-true b.reg n (sym same))) ∙ sym named))
    counted true true false named both same s rest = rest
    counted true false false named both same s rest = absurd (false≢true both)
    counted false true true named both same s rest = omega (arith, rest)
    counted false false true named both same s rest = absurd (false≢true both)
    counted false true false named both same s rest = absurd (false≢true (sym both))
    counted false false false named both same s rest = omega (arith, rest)

    split : (u s : Bool) (state : Option JobState)
        → left_of ns bs ≡ left_of (ns ++ n ∷ []) bs + own_open n bs
        → left_of ns (parts u s state ∷ bs)
        ≡ left_of (ns ++ n ∷ []) (parts u s state ∷ bs) + own_open n (parts u s state ∷ bs)
    split false s state rest = rest
    split true true state rest = rest
        ∙ ap (λ k. left_of (ns ++ n ∷ []) bs + k) (sym (closed (b.reg == n) (parts true true state) refl))
    split true false None rest = rest
        ∙ ap (λ k. left_of (ns ++ n ∷ []) bs + k) (sym (closed (b.reg == n) (parts true false None) refl))
    split true false (Some s) rest = counted (names ns b.reg) (names (ns ++ n ∷ []) b.reg) (b.reg == n) refl
        (names_end ns n b.reg ∙ ap (λ t. names ns b.reg || t) (eq-turn n b.reg)) refl s rest

all-at : {X : Type 0} (P : X → Type 0) (xs : List X) (i : ℕ) (d : X) → AllByRecursion P xs → i < length xs
    → P (get_or xs i d)
all-at P [] i d all lt = absurd (omega (arith, lt))
all-at P (x ∷ xs) zero d all lt = all.0
all-at P (x ∷ xs) (suc i) d all lt = all-at P xs i d all.1 (omega (arith, lt))

not_before : (ns : List ℕ) (i n : ℕ) → AreRising ns → i < length ns → n ≡ get_or ns i n
    → names (take i ns) n ≡ false
not_before [] i n rising lt is = absurd (omega (arith, lt))
not_before (m ∷ ns) zero n rising lt is = refl
not_before (m ∷ ns) (suc i) n rising lt is =
    let less : m < get_or ns i n = all-at (λ k. m < k) ns i n rising.0 (omega (arith, lt)) in
    ap (λ t. t || names (take i ns) n) (is_false (m == n) (λ e. apart m n (eqb-true m n e) is less))
    ∙ not_before ns i n rising.1 (omega (arith, lt)) is
  where
    apart : (m n : ℕ) → m ≡ n → n ≡ get_or ns i n → m < get_or ns i n → ⊥
    apart m n e is less = omega (arith, e, is, less)

-- one registration of some whose numbers rise
pub left_next : (ns : List ℕ) (i n : ℕ) (bs : List BookedRow) (list : List ℕ) (left : ℕ) → AreRising ns
    → i < length ns → n ≡ get_or ns i n → IsOwnList n bs list → left ≡ left_of (take i ns) bs
    → left ≡ left_of (take (i + 1) ns) bs
    + length (filter is_open_row (filter_map (own_row_at n bs) list))
left_next ns i n bs list left rising lt is own so_far = so_far
    ∙ left_less (take i ns) n bs (not_before ns i n rising lt is)
    ∙ ap (λ l. left_of l bs + own_open n bs)
    (ap (λ m. take i ns ++ m ∷ []) is ∙ sym (take_more ns i n lt))
    ∙ ap (λ l. left_of (take (i + 1) ns) bs + length (filter is_open_row l)) (sym (rows_own n bs list own))

is_left_none : (reg : Option ℕ) → is_left [] reg ≡ true
is_left_none None = refl
is_left_none (Some reg) = refl

pub left_first : (ns : List ℕ) (bs : List BookedRow) → length (open_view bs) ≡ left_of (take 0 ns) bs
left_first ns bs = sym (ap (λ l. left_of l bs) (take_none ns) ∙ ap length (each (open_view bs)))
  where
    take_none : (xs : List ℕ) → take 0 xs ≡ []
    take_none [] = refl
    take_none (x ∷ xs) = refl

    each : (os : List OpenRow) → filter (λ o. is_left [] o.reg) os ≡ os
    each [] = refl
    each (o ∷ os) = ap (λ t. cond t (o ∷ filter (λ o. is_left [] o.reg) os)
        (filter (λ o. is_left [] o.reg) os)) (is_left_none o.reg) ∙ ap (λ l. o ∷ l) (each os)

pub left_last : (ns : List ℕ) (i : ℕ) (bs : List BookedRow) → length ns ≤ i
    → left_of (take i ns) bs ≡ left_of ns bs
left_last ns i bs le = ap (λ l. left_of l bs) (whole ns i le)
  where
    whole : (xs : List ℕ) (i : ℕ) → length xs ≤ i → take i xs ≡ xs
    whole [] zero le = refl
    whole [] (suc i) le = refl
    whole (x ∷ xs) zero le = absurd (omega (arith, le))
    whole (x ∷ xs) (suc i) le = ap (λ l. x ∷ l) (whole xs i (omega (arith, le)))
