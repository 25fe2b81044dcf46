-- The reservations as they are kept: what is asked of the row of a job, what an entry does to one row, and
-- what is counted.
use Rattle.std.proofs.Common.{◌≡◌, ℕ, zero, suc, ◌+◌, ◌-◌, ◌^◌, ◌<◌, ◌≤◌, List, [], ◌∷◌, ◌++◌, Bool, true}
use Rattle.std.proofs.Common.{false, cond}
use Rattle.std.proofs.Common.{not, ◌&&◌, ◌||◌, map, filter, length, get_or, set, take, drop, Option, Some}
use Rattle.std.proofs.Common.{None, refl}
use Rattle.std.proofs.Common.{ap, ◌∙◌, sym, arith, length-append, eq-eqb, sum_by}
use Rattle.std.specs.Prelude.{◌==◌, find, if◌then◌else◌, MatchOption, is_some}
use Rattle.std.specs.List.{list_any, cons_option}
use Rattle.std.specs.Option.{option_map}
use Rattle.std.proofs.lemmas.List.{map-append, length-set, drop_more}
use Rattle.std.proofs.lemmas.List.{get_or_default, length-drop}
use Rattle.std.proofs.lemmas.List.Sums.{sum_by-cons, sum_by-set, sum_by_push, sum_by_more_le}
use Rattle.dist_types.specs.declared.addr.Addr.{Addr}
use Rattle.dist_types.specs.declared.ids.JobId.{JobId}
use Rattle.dist_types.specs.declared.results.JobState.{JobState}
use Rattle.row_index.specs.Following.{HasNone, IsRowOf, IsPlaceOf}
use Rattle.reservations.specs.declared.booked.BookedRow.{BookedRow}
use Rattle.std.proofs.lemmas.Bool.{false≢true}
use Rattle.core_rules.specs.declared.entry.CoreKind.{CoreKind}
use Rattle.core_rules.specs.declared.entry.CoreKind.TheVariants.{Beat, Reserve, Commit, Undo, Update}
use Rattle.core_rules.specs.declared.entry.CoreKind.TheVariants.{Status, Drain}
use Rattle.core_rules.specs.declared.entry.Reserved.{Reserved}
use Rattle.core_rules.specs.declared.entry.UpdateAnswer.{UpdateAnswer}
use Rattle.core_rules.specs.declared.rows.OpenRow.{OpenRow}
use Rattle.core_rules.specs.Log.{same_job}
use Rattle.core_rules.specs.Reservation.{spends_by, frees_by, claims_by, is_accepted, is_started, is_booked}
use Rattle.core_rules.specs.Reservation.{is_complete}
use Rattle.core_rules.specs.Job.{moves_by, is_ready, readied_by}
use Rattle.core_rules.specs.Next.{begins_by}
use Rattle.reservations.specs.Booked.{booked_after, LeavesOthers, FreesNoOther}
use Rattle.core_rules.specs.Next.{UnspentRow}
use Rattle.reservations.specs.Booked.{held_part_of, unspent_part_of, open_part_of, held_view}
use Rattle.reservations.specs.Booked.{job_view, job_part_of}
use Rattle.reservations.specs.Booked.{unspent_view, open_view, AreCounted, IsFirstHeld, is_unspent_in}
use Rattle.reservations.specs.Booked.{is_held_in, address_in, open_in}
use Rattle.core_rules.proofs.Lists.{list_any-map}
use Rattle.core_rules.proofs.AllLemmas.{is_false, true_false, same_job-sym}

-- what an entry leaves as it is

unchanged : (now : ℕ) (k : CoreKind) (b : BookedRow) (state : Option JobState)
    (claimed unspent unended : Bool)
    → begins_by k b.job ≡ None → moves_by k b.job ≡ None → readied_by k now b.job ≡ None
    → claims_by k b.job ≡ false → spends_by k b.job ≡ false
    → (unended && not (frees_by k b.job b.reg)) ≡ unended
    → booked_after (record { now = now; kind = k })
    (record b { state = state; claimed = claimed; unspent = unspent; unended = unended })
    ≡ record b { state = state; claimed = claimed; unspent = unspent; unended = unended }
unchanged now k b state claimed unspent unended none still unready unclaimed free stays =
    rw (none, still, unready, unclaimed, free, stays) (alike state claimed unspent)
  where
    alike : (s : Option JobState) (c u : Bool) → record b {
      state = option_map (λ t. t) s;
      claimed = c || false;
      unspent = u && true;
      unended = unended;
    } ≡ record b { state = s; claimed = c; unspent = u; unended = unended }
    alike None true true = refl
    alike None true false = refl
    alike None false true = refl
    alike None false false = refl
    alike (Some t) true true = refl
    alike (Some t) true false = refl
    alike (Some t) false true = refl
    alike (Some t) false false = refl

same_row : (now : ℕ) (k : CoreKind) (b : BookedRow) → begins_by k b.job ≡ None → moves_by k b.job ≡ None
    → readied_by k now b.job ≡ None → claims_by k b.job ≡ false → spends_by k b.job ≡ false
    → (b.unended && not (frees_by k b.job b.reg)) ≡ b.unended
    → booked_after (record { now = now; kind = k }) b ≡ b
same_row now k b none still unready unclaimed free stays =
    unchanged now k b b.state b.claimed b.unspent b.unended none still unready unclaimed free stays

and_yes : (b : Bool) → (b && true) ≡ b
and_yes true = refl
and_yes false = refl

and_no : (b : Bool) → (b && false) ≡ false
and_no true = refl
and_no false = refl

-- a reservation of another job
turned : (a b : JobId) → (b.0 == a.0) ≡ false → same_job a b ≡ false
turned a b other = is_false (same_job a b) (λ t. true_false (same_job b a) (same_job-sym a b t) other)

pub commit_leaves : (now : ℕ) (job : JobId) (state : JobState) (kept : Bool)
    → LeavesOthers (record { now = now; kind = Commit job state kept }) job
commit_leaves now job state kept b other =
    let apart : same_job job b.job ≡ false = turned job b.job other in
    same_row now (Commit job state kept) b
    (ap (λ t. if kept && t then Some state else None) apart
    ∙ ap (λ t. if t then Some state else None) (and_no kept))
    refl
    (ap (λ t. if kept && is_ready state && t then Some now else None) apart
    ∙ ap (λ t. if t then Some now else None) (and_no (kept && is_ready state)))
    refl apart (and_yes b.unended)

pub undo_leaves : (now : ℕ) (job : JobId) (noted : Option ℕ) (says : Bool)
    → LeavesOthers (record { now = now; kind = Undo job noted says }) job
undo_leaves now job noted says b other =
    let apart : same_job job b.job ≡ false = turned job b.job other in
    same_row now (Undo job noted says) b refl refl refl refl apart
    (ap (λ t. b.unended && not ((((says && t) || false) || false) || false)) apart
    ∙ ap (λ t. b.unended && not (((t || false) || false) || false)) (and_no says) ∙ and_yes b.unended)

pub undo_frees : (job : JobId) (noted : Option ℕ) (says : Bool) → FreesNoOther (Undo job noted says) job
undo_frees job noted says b other =
    ap (λ t. (((says && t) || false) || false) || false) (turned job b.job other)
    ∙ ap (λ t. ((t || false) || false) || false) (and_no says)

pub update_leaves : (now : ℕ) (server : Addr) (job : JobId) (state : JobState) (answer : UpdateAnswer)
    → LeavesOthers (record { now = now; kind = Update server job state answer }) job
update_leaves now server job state answer b other =
    let apart : same_job job b.job ≡ false = turned job b.job other in
    same_row now (Update server job state answer) b refl
    (ap (λ t. if is_accepted answer && t then Some state else None) apart
    ∙ ap (λ t. if t then Some state else None) (and_no (is_accepted answer)))
    (ap (λ t. if is_ready state && is_accepted answer && t then Some now else None) apart
    ∙ ap (λ t. if t then Some now else None) (and_no (is_ready state && is_accepted answer)))
    (ap (λ t. is_started state && is_accepted answer && t) apart
    ∙ and_no (is_started state && is_accepted answer))
    refl
    (ap (λ t. b.unended && not ((is_complete state && is_accepted answer && t) || false)) apart
    ∙ ap (λ t. b.unended && not (t || false)) (and_no (is_complete state && is_accepted answer))
    ∙ and_yes b.unended)

-- an update that is not accepted leaves all reservations
pub refused_leaves : (now : ℕ) (server : Addr) (job : JobId) (state : JobState) (answer : UpdateAnswer)
    → is_accepted answer ≡ false → (bs : List BookedRow)
    → bs ≡ map (booked_after (record { now = now; kind = Update server job state answer })) bs
refused_leaves now server job state answer refused [] = refl
refused_leaves now server job state answer refused (b ∷ bs) =
    let kind = Update server job state answer in
    ap (λ c. c ∷ bs) (sym (same_row now kind b refl
    (ap (λ t. if t && same_job job b.job then Some state else None) refused)
    (ap (λ t. if is_ready state && t && same_job job b.job then Some now else None) refused
    ∙ ap (λ t. if t && same_job job b.job then Some now else None) (and_no (is_ready state)))
    (ap (λ t. is_started state && t && same_job job b.job) refused
    ∙ ap (λ t. t && same_job job b.job) (and_no (is_started state)))
    refl
    (ap (λ t. b.unended && not ((is_complete state && t && same_job job b.job) || false)) refused
    ∙ ap (λ t. b.unended && not ((t && same_job job b.job) || false)) (and_no (is_complete state))
    ∙ and_yes b.unended)))
    ∙ ap (λ l. booked_after (record { now = now; kind = kind }) b ∷ l)
    (refused_leaves now server job state answer refused bs)

pub update_frees : (server : Addr) (job : JobId) (state : JobState) (answer : UpdateAnswer)
    → FreesNoOther (Update server job state answer) job
update_frees server job state answer b other =
    ap (λ t. (is_complete state && is_accepted answer && t) || false) (turned job b.job other)
    ∙ ap (λ t. t || false) (and_no (is_complete state && is_accepted answer))

pub reserve_leaves : (now : ℕ) (r : Reserved) (bs : List BookedRow)
    → bs ≡ map (booked_after (record { now = now; kind = Reserve r })) bs
reserve_leaves now r [] = refl
reserve_leaves now r (b ∷ bs) =
    ap (λ c. c ∷ bs) (sym (same_row now (Reserve r) b refl refl refl refl refl (and_yes b.unended)))
    ∙ ap (λ l. booked_after (record { now = now; kind = Reserve r }) b ∷ l) (reserve_leaves now r bs)

-- what makes a reservation is a reserve
pub booked_leaves : (now : ℕ) (k : CoreKind) (bs : List BookedRow) → is_booked k ≡ true
    → bs ≡ map (booked_after (record { now = now; kind = k })) bs
booked_leaves now (Reserve r) bs is = reserve_leaves now r bs
booked_leaves now (Beat server nonce cpus key pruned reaped replaced is_new) bs is = absurd (false≢true is)
booked_leaves now (Commit job state kept) bs is = absurd (false≢true is)
booked_leaves now (Undo job noted was_ended) bs is = absurd (false≢true is)
booked_leaves now (Update server job state answer) bs is = absurd (false≢true is)
booked_leaves now (Status pruned servers cpus n) bs is = absurd (false≢true is)
booked_leaves now (Drain addr nonce on named) bs is = absurd (false≢true is)

-- an entry of one job

all_leave : (f : BookedRow → BookedRow) (job : JobId) (bs : List BookedRow)
    → ((b : BookedRow) → (b.job.0 == job.0) ≡ false → f b ≡ b) → HasNone (λ b. b.job.0) bs job.0
    → bs ≡ map f bs
all_leave f job [] leaves none = refl
all_leave f job (b ∷ bs) leaves none = ap (λ c. c ∷ bs) (sym (leaves b none.0))
    ∙ ap (λ l. f b ∷ l) (all_leave f job bs leaves none.1)

pub none_settled : (f : BookedRow → BookedRow) (job : JobId) (bs : List BookedRow)
    → ((b : BookedRow) → (b.job.0 == job.0) ≡ false → f b ≡ b) → HasNone (λ b. b.job.0) bs job.0
    → bs ≡ map f bs
none_settled f job bs leaves none = all_leave f job bs leaves none

set_at : {X : Type 0} (front rest : List X) (x y : X) (n : ℕ) → length front ≡ n
    → set (front ++ x ∷ rest) n y ≡ front ++ y ∷ rest
set_at [] rest x y n is = ap (λ m. set (x ∷ rest) m y) (sym is)
set_at (f ∷ front) rest x y zero is = absurd (omega (arith, is))
set_at (f ∷ front) rest x y (suc n) is = ap (λ l. f ∷ l) (set_at front rest x y n (omega (arith, is)))

read_at : {X : Type 0} (front rest : List X) (x d : X) (n : ℕ) → length front ≡ n
    → get_or (front ++ x ∷ rest) n d ≡ x
read_at [] rest x d n is = ap (λ m. get_or (x ∷ rest) m d) (sym is)
read_at (f ∷ front) rest x d zero is = absurd (omega (arith, is))
read_at (f ∷ front) rest x d (suc n) is = read_at front rest x d n (omega (arith, is))

pub place_within : (bs : List BookedRow) (wanted place : ℕ) → IsPlaceOf (λ b. b.job.0) bs wanted place
    → place < length bs
place_within bs wanted place is =
    let whole : length bs ≡ length is.whole.front + length (is.row ∷ is.whole.rest) = ap length is.whole.are
    ∙ length-append is.whole.front (is.row ∷ is.whole.rest) in
    let at = is.at in
    omega (arith, whole, at)

pub one_settled : (f g : BookedRow → BookedRow) (job : JobId) (bs new : List BookedRow) (place : ℕ)
    → ((b : BookedRow) → (b.job.0 == job.0) ≡ false → f b ≡ b)
    → ((b : BookedRow) → b.job.0 ≡ job.0 → g b ≡ f b) → IsPlaceOf (λ b. b.job.0) bs job.0 place
    → ((d : BookedRow) → new ≡ set bs place (g (get_or bs place d))) → new ≡ map f bs
one_settled f g job bs new place leaves own is does =
    let front : List BookedRow = is.whole.front in
    let rest : List BookedRow = is.whole.rest in
    let row : BookedRow = is.row in
    does row
    ∙ ap (λ l. set l place (g (get_or l place row))) is.whole.are
    ∙ ap (λ b. set (front ++ row ∷ rest) place (g b)) (read_at front rest row row place is.at)
    ∙ set_at front rest row (g row) place is.at
    ∙ ap (λ b. front ++ b ∷ rest) (own row is.whole.own)
    ∙ ap (λ l. l ++ f row ∷ rest) (all_leave f job front leaves is.whole.before)
    ∙ ap (λ l. map f front ++ f row ∷ l) (all_leave f job rest leaves is.whole.behind)
    ∙ sym (map-append f front (row ∷ rest))
    ∙ ap (map f) (sym is.whole.are)

take_past : {X : Type 0} (xs : List X) (i : ℕ) → length xs ≤ i → take i xs ≡ xs
take_past [] zero le = refl
take_past [] (suc i) le = refl
take_past (x ∷ xs) zero le = absurd (omega (arith, le))
take_past (x ∷ xs) (suc i) le = ap (λ l. x ∷ l) (take_past xs i (omega (arith, le)))

drop_past : {X : Type 0} (xs : List X) (i : ℕ) → length xs ≤ i → drop i xs ≡ []
drop_past [] zero le = refl
drop_past [] (suc i) le = refl
drop_past (x ∷ xs) zero le = absurd (omega (arith, le))
drop_past (x ∷ xs) (suc i) le = drop_past xs i (omega (arith, le))

-- the rest of a list, as a slice of it
pub rest_is : {X : Type 0} (xs : List X) (n : ℕ) → take (length xs - n) (drop n xs) ≡ drop n xs
rest_is xs n = let behind = length-drop n xs in take_past (drop n xs) (length xs - n) (omega (arith, behind))

-- what is asked of the reservation of a job

abbrev names_both : ℕ → JobId → BookedRow → Bool
names_both number job b = (b.number == number) && same_job b.job job

any_none : (p : BookedRow → Bool) (number : ℕ) (job : JobId) (bs : List BookedRow)
    → HasNone (λ b. b.job.0) bs job.0 → list_any (names_both number job) (filter p bs) ≡ false
any_none p number job [] none = refl
any_none p number job (b ∷ bs) none = split (p b) (any_none p number job bs none.1)
  where
    split : (t : Bool) → list_any (names_both number job) (filter p bs) ≡ false
        → list_any (names_both number job) (cond t (b ∷ filter p bs) (filter p bs)) ≡ false
    split true rest = ap (λ t. ((b.number == number) && t) || list_any (names_both number job) (filter p bs))
        none.0
        ∙ ap (λ t. t || list_any (names_both number job) (filter p bs)) (and_no (b.number == number)) ∙ rest
    split false rest = rest

any_row : (p : BookedRow → Bool) (number : ℕ) (job : JobId) (front rest : List BookedRow) (row : BookedRow)
    → HasNone (λ b. b.job.0) front job.0 → HasNone (λ b. b.job.0) rest job.0 → same_job row.job job ≡ true
    → list_any (names_both number job) (filter p (front ++ row ∷ rest)) ≡ (p row && (row.number == number))
any_row p number job [] rest row before behind own = split (p row) (any_none p number job rest behind)
  where
    alone : (n : Bool) → ((n && true) || false) ≡ n
    alone true = refl
    alone false = refl

    split : (t : Bool) → list_any (names_both number job) (filter p rest) ≡ false
        → list_any (names_both number job) (cond t (row ∷ filter p rest) (filter p rest))
        ≡ (t && (row.number == number))
    split false none = none
    split true none = ap (λ t. ((row.number == number) && t) || list_any (names_both number job)
        (filter p rest)) own
        ∙ ap (λ t. ((row.number == number) && true) || t) none ∙ alone (row.number == number)
any_row p number job (b ∷ front) rest row before behind own = split (p b)
    (any_row p number job front rest row before.1 behind own)
  where
    split : (t : Bool) → list_any (names_both number job) (filter p (front ++ row ∷ rest))
        ≡ (p row && (row.number == number)) → list_any (names_both number job)
        (cond t (b ∷ filter p (front ++ row ∷ rest)) (filter p (front ++ row ∷ rest)))
        ≡ (p row && (row.number == number))
    split true later = ap (λ t. ((b.number == number) && t) || list_any (names_both number job)
        (filter p (front ++ row ∷ rest))) before.0
        ∙ ap (λ t. t || list_any (names_both number job) (filter p (front ++ row ∷ rest)))
        (and_no (b.number == number))
        ∙ later
    split false later = later

pub asked_unspent : (bs : List BookedRow) (number : ℕ) (job : JobId) (o : Option BookedRow)
    → MatchOption o (HasNone (λ b. b.job.0) bs job.0) (IsRowOf (λ b. b.job.0) bs job.0)
    → is_unspent_in o number ≡ list_any (λ u. (u.number == number) && same_job u.job job) (unspent_view bs)
asked_unspent bs number job None is = sym (list_any-map (λ u. (u.number == number) && same_job u.job job)
    unspent_part_of (filter (λ b. b.unspent) bs) ∙ any_none (λ b. b.unspent) number job bs is)
asked_unspent bs number job (Some row) is =
    sym (list_any-map (λ u. (u.number == number) && same_job u.job job)
    unspent_part_of (filter (λ b. b.unspent) bs)
    ∙ ap (λ l. list_any (names_both number job) (filter (λ b. b.unspent) l)) is.are
    ∙ any_row (λ b. b.unspent) number job is.front is.rest row is.before is.behind
    (eq-eqb row.job.0 job.0 is.own))

pub asked_held : (bs : List BookedRow) (number : ℕ) (job : JobId) (o : Option BookedRow)
    → MatchOption o (HasNone (λ b. b.job.0) bs job.0) (IsRowOf (λ b. b.job.0) bs job.0)
    → is_held_in o number ≡ list_any (λ h. (h.number == number) && same_job h.job job) (held_view bs)
asked_held bs number job None is = sym (list_any-map (λ h. (h.number == number) && same_job h.job job)
    held_part_of (filter (λ b. b.unended) bs) ∙ any_none (λ b. b.unended) number job bs is)
asked_held bs number job (Some row) is = sym (list_any-map (λ h. (h.number == number) && same_job h.job job)
    held_part_of (filter (λ b. b.unended) bs)
    ∙ ap (λ l. list_any (names_both number job) (filter (λ b. b.unended) l)) is.are
    ∙ any_row (λ b. b.unended) number job is.front is.rest row is.before is.behind
    (eq-eqb row.job.0 job.0 is.own))

-- the address of the unspent one

abbrev address_of_found : Option UnspentRow → Option Addr
address_of_found found = option_map (λ u. u.server) found

abbrev named : ℕ → JobId → UnspentRow → Bool
named number job u = (u.number == number) && same_job u.job job

find_none : (number : ℕ) (job : JobId) (bs : List BookedRow) → HasNone (λ b. b.job.0) bs job.0
    → find (named number job) (unspent_view bs) ≡ None
find_none number job [] none = refl
find_none number job (b ∷ bs) none = split b.unspent (find_none number job bs none.1)
  where
    split : (t : Bool) → find (named number job) (unspent_view bs) ≡ None → find (named number job)
        (map unspent_part_of (cond t (b ∷ filter (λ b. b.unspent) bs) (filter (λ b. b.unspent) bs))) ≡ None
    split true rest = ap (λ t. cond ((b.number == number) && t) (Some (unspent_part_of b))
        (find (named number job) (unspent_view bs))) none.0
        ∙ ap (λ t. cond t (Some (unspent_part_of b)) (find (named number job) (unspent_view bs)))
        (and_no (b.number == number)) ∙ rest
    split false rest = rest

find_row : (number : ℕ) (job : JobId) (front rest : List BookedRow) (row : BookedRow)
    → HasNone (λ b. b.job.0) front job.0 → HasNone (λ b. b.job.0) rest job.0 → same_job row.job job ≡ true
    → address_of_found (find (named number job) (unspent_view (front ++ row ∷ rest)))
    ≡ (if row.unspent && (row.number == number) then Some row.server else None)
find_row number job [] rest row before behind own = split row.unspent (find_none number job rest behind)
  where
    inner : (n : Bool) → find (named number job) (unspent_view rest) ≡ None
        → address_of_found (cond (n && true) (Some (unspent_part_of row))
        (find (named number job) (unspent_view rest))) ≡ (if n then Some row.server else None)
    inner true none = refl
    inner false none = ap address_of_found none

    split : (t : Bool) → find (named number job) (unspent_view rest) ≡ None
        → address_of_found (find (named number job) (map unspent_part_of
        (cond t (row ∷ filter (λ b. b.unspent) rest) (filter (λ b. b.unspent) rest))))
        ≡ (if t && (row.number == number) then Some row.server else None)
    split true none = ap (λ t. address_of_found
        (cond ((row.number == number) && t) (Some (unspent_part_of row))
        (find (named number job) (unspent_view rest)))) own ∙ inner (row.number == number) none
    split false none = ap address_of_found none
find_row number job (b ∷ front) rest row before behind own = split b.unspent
    (find_row number job front rest row before.1 behind own)
  where
    split : (t : Bool) → address_of_found (find (named number job) (unspent_view (front ++ row ∷ rest)))
        ≡ (if row.unspent && (row.number == number) then Some row.server else None)
        → address_of_found (find (named number job) (map unspent_part_of
        (cond t (b ∷ filter (λ b. b.unspent) (front ++ row ∷ rest))
        (filter (λ b. b.unspent) (front ++ row ∷ rest)))))
        ≡ (if row.unspent && (row.number == number) then Some row.server else None)
    split true rest_is = ap
        (λ t. address_of_found (cond ((b.number == number) && t) (Some (unspent_part_of b))
        (find (named number job) (unspent_view (front ++ row ∷ rest))))) before.0
        ∙ ap (λ t. address_of_found (cond t (Some (unspent_part_of b))
        (find (named number job) (unspent_view (front ++ row ∷ rest))))) (and_no (b.number == number))
        ∙ rest_is
    split false rest_is = rest_is

pub asked_address : (bs : List BookedRow) (number : ℕ) (job : JobId) (o : Option BookedRow)
    → MatchOption o (HasNone (λ b. b.job.0) bs job.0) (IsRowOf (λ b. b.job.0) bs job.0)
    → address_in o number ≡ option_map (λ u. u.server)
    (find (λ u. (u.number == number) && same_job u.job job) (unspent_view bs))
asked_address bs number job None is = sym (ap address_of_found (find_none number job bs is))
asked_address bs number job (Some row) is =
    sym (ap (λ l. address_of_found (find (named number job) (unspent_view l))) is.are
    ∙ find_row number job is.front is.rest row is.before is.behind (eq-eqb row.job.0 job.0 is.own))

-- the open job

abbrev of_job : JobId → OpenRow → Bool
of_job job o = same_job o.job job

abbrev opens : BookedRow → JobState → OpenRow
opens b state = record { job = b.job; reg = Some b.reg; server = Some b.server; state = state }

passed : (job : JobId) (b : BookedRow) (os : List OpenRow) → (b.job.0 == job.0) ≡ false
    → find (of_job job) (cons_option (open_part_of b) os) ≡ find (of_job job) os
passed job b os other = split (b.unended && not b.unspent) b.state
  where
    split : (t : Bool) (state : Option JobState)
        → find (of_job job) (cons_option (cond t (option_map (opens b) state) None) os) ≡ find (of_job job) os
    split true (Some s) = ap (λ t. cond t (Some (opens b s)) (find (of_job job) os)) other
    split true None = refl
    split false state = refl

open_none : (job : JobId) (bs : List BookedRow) → HasNone (λ b. b.job.0) bs job.0
    → find (of_job job) (open_view bs) ≡ None
open_none job [] none = refl
open_none job (b ∷ bs) none = passed job b (open_view bs) none.0 ∙ open_none job bs none.1

open_row : (job : JobId) (front rest : List BookedRow) (row : BookedRow)
    → HasNone (λ b. b.job.0) front job.0 → HasNone (λ b. b.job.0) rest job.0 → (row.job.0 == job.0) ≡ true
    → find (of_job job) (open_view (front ++ row ∷ rest)) ≡ open_part_of row
open_row job [] rest row before behind own =
    split (row.unended && not row.unspent) row.state (open_none job rest behind)
  where
    split : (t : Bool) (state : Option JobState) → find (of_job job) (open_view rest) ≡ None
        → find (of_job job) (cons_option (cond t (option_map (opens row) state) None) (open_view rest))
        ≡ cond t (option_map (opens row) state) None
    split true (Some s) none = ap (λ t. cond t (Some (opens row s)) (find (of_job job) (open_view rest))) own
    split true None none = none
    split false state none = none
open_row job (b ∷ front) rest row before behind own =
    passed job b (open_view (front ++ row ∷ rest)) before.0 ∙ open_row job front rest row before.1 behind own

pub asked_open : (bs : List BookedRow) (job : JobId) (o : Option BookedRow)
    → MatchOption o (HasNone (λ b. b.job.0) bs job.0) (IsRowOf (λ b. b.job.0) bs job.0)
    → open_in o ≡ find (λ o. same_job o.job job) (open_view bs)
asked_open bs job None is = sym (open_none job bs is)
asked_open bs job (Some row) is = sym (ap (λ l. find (of_job job) (open_view l)) is.are
    ∙ open_row job is.front is.rest row is.before is.behind (eq-eqb row.job.0 job.0 is.own))

-- what is counted

abbrev size : Bool → ℕ
size b = cond b 1 0

abbrev open_size : BookedRow → ℕ
open_size b = size (is_some (open_part_of b))

abbrev unspent_size : BookedRow → ℕ
unspent_size b = size b.unspent

open_sum : (bs : List BookedRow) → length (open_view bs) ≡ sum_by open_size bs
open_sum [] = refl
open_sum (b ∷ bs) = split (open_part_of b) ∙ ap (λ n. open_size b + n) (open_sum bs)
    ∙ sym (sum_by-cons open_size b bs)
  where
    split : (o : Option OpenRow)
        → length (cons_option o (open_view bs)) ≡ size (is_some o) + length (open_view bs)
    split None = omega arith
    split (Some o) = omega arith

unspent_sum : (bs : List BookedRow) → length (unspent_view bs) ≡ sum_by unspent_size bs
unspent_sum [] = refl
unspent_sum (b ∷ bs) = split b.unspent ∙ ap (λ n. unspent_size b + n) (unspent_sum bs)
    ∙ sym (sum_by-cons unspent_size b bs)
  where
    split : (t : Bool) → length (map unspent_part_of (cond t (b ∷ filter (λ b. b.unspent) bs)
        (filter (λ b. b.unspent) bs))) ≡ size t + length (unspent_view bs)
    split true = omega arith
    split false = omega arith

size_few : (b : Bool) → size b ≤ 1
size_few true = omega arith
size_few false = omega arith

sum_few : (f : BookedRow → ℕ) → ((b : BookedRow) → f b ≤ 1) → (bs : List BookedRow) → sum_by f bs ≤ length bs
sum_few f one [] = omega arith
sum_few f one (b ∷ bs) =
    let more = sum_by-cons f b bs in let here = one b in let rest = sum_few f one bs in
    omega (arith, more, here, rest)

pub few_open : (bs : List BookedRow) (open_ones unspent : ℕ) → AreCounted bs open_ones unspent
    → open_ones < 2 ^ 63
few_open bs open_ones unspent is =
    let few = is.few in let are = is.open_are in let sum = open_sum bs in
    let less = sum_few open_size (λ b. size_few (is_some (open_part_of b))) bs in
    omega (arith, few, are, sum, less)

pub few_unspent_rows : (bs : List BookedRow) (open_ones unspent : ℕ)
    → AreCounted bs open_ones unspent
    → unspent < 2 ^ 63
few_unspent_rows bs open_ones unspent is =
    let few = is.few in let are = is.unspent_are in let sum = unspent_sum bs in
    let less = sum_few unspent_size (λ b. size_few b.unspent) bs in omega (arith, few, are, sum, less)

pub some_open : (bs : List BookedRow) (open_ones unspent i : ℕ) (b : BookedRow)
    → AreCounted bs open_ones unspent → i < length bs → b ≡ get_or bs i b
    → is_some (open_part_of b) ≡ true → 0 < open_ones
some_open bs open_ones unspent i b is lt at so =
    let are = is.open_are in let sum = open_sum bs in let less = sum_by_more_le open_size bs i b lt in
    let here : open_size (get_or bs i b) ≡ 1 = ap open_size (sym at)
    ∙ ap size so in omega (arith, are, sum, less, here)

pub some_unspent : (bs : List BookedRow) (open_ones unspent i : ℕ) (b : BookedRow)
    → AreCounted bs open_ones unspent → i < length bs → b ≡ get_or bs i b → b.unspent ≡ true
    → 0 < unspent
some_unspent bs open_ones unspent i b is lt at so =
    let are = is.unspent_are in let sum = unspent_sum bs in
    let less = sum_by_more_le unspent_size bs i b lt in
    let here : unspent_size (get_or bs i b) ≡ 1 = ap unspent_size (sym at) ∙ ap size so in
    omega (arith, are, sum, less, here)

-- what was counted is counted anew
pub counted_change : (bs : List BookedRow) (open_ones unspent i : ℕ) (old new : BookedRow)
    (opens_now unspent_now : ℕ) → AreCounted bs open_ones unspent → i < length bs → old ≡ get_or bs i old
    → opens_now + cond (is_some (open_part_of old)) 1 0 ≡ open_ones + cond (is_some (open_part_of new)) 1 0
    → unspent_now + cond old.unspent 1 0 ≡ unspent + cond new.unspent 1 0
    → AreCounted (set bs i new) opens_now unspent_now
counted_change bs open_ones unspent i old new opens_now unspent_now is lt at opened spent =
    let len = length-set bs i new in
    let few = is.few in
    let open_are = is.open_are in
    let open_before = open_sum bs in
    let open_later = open_sum (set bs i new) in
    let open_set = sum_by-set open_size bs i new old lt in
    let open_old : open_size (get_or bs i old) ≡ open_size old = ap open_size (sym at) in
    let unspent_are = is.unspent_are in
    let unspent_before = unspent_sum bs in
    let unspent_later = unspent_sum (set bs i new) in
    let unspent_set = sum_by-set unspent_size bs i new old lt in
    let unspent_old : unspent_size (get_or bs i old) ≡ unspent_size old = ap unspent_size (sym at) in
    record {
      few = omega (arith, few, len);
      open_are = omega (arith, opened, open_are, open_before, open_later, open_set, open_old);
      unspent_are = omega (
        arith,
        spent,
        unspent_are,
        unspent_before,
        unspent_later,
        unspent_set,
        unspent_old,
      );
    }

pub counted_push : (bs : List BookedRow) (open_ones unspent : ℕ) (new : BookedRow) (opens_now unspent_now : ℕ)
    → AreCounted bs open_ones unspent → length (bs ++ new ∷ []) < 2 ^ 63
    → opens_now + 0 ≡ open_ones + cond (is_some (open_part_of new)) 1 0
    → unspent_now + 0 ≡ unspent + cond new.unspent 1 0
    → AreCounted (bs ++ new ∷ []) opens_now unspent_now
counted_push bs open_ones unspent new opens_now unspent_now is few opened spent =
    let open_are = is.open_are in
    let open_before = open_sum bs in
    let open_later = open_sum (bs ++ new ∷ []) in
    let open_more = sum_by_push open_size bs new in
    let unspent_are = is.unspent_are in
    let unspent_before = unspent_sum bs in
    let unspent_later = unspent_sum (bs ++ new ∷ []) in
    let unspent_more = sum_by_push unspent_size bs new in
    record {
      few = few;
      open_are = omega (arith, opened, open_are, open_before, open_later, open_more);
      unspent_are = omega (arith, spent, unspent_are, unspent_before, unspent_later, unspent_more);
    }

-- the first unended row

pub held_later : (bs : List BookedRow) (i : ℕ) (b : BookedRow) → i < length bs → b ≡ get_or bs i b
    → b.unended ≡ false → job_view bs ≡ job_view (drop i bs) → job_view bs ≡ job_view (drop (i + 1) bs)
held_later bs i b lt is none so_far = so_far ∙ ap job_view (drop_more bs i b lt)
    ∙ ap (λ c. job_view (c ∷ drop (i + 1) bs)) (sym is)
    ∙ ap (λ t. map job_part_of (cond t (b ∷ filter (λ b. b.unended) (drop (i + 1) bs))
    (filter (λ b. b.unended) (drop (i + 1) bs)))) none

pub held_here : (bs : List BookedRow) (i : ℕ) (b : BookedRow) → i < length bs → b ≡ get_or bs i b
    → b.unended ≡ true → job_view bs ≡ job_view (drop i bs) → IsFirstHeld bs i
held_here bs i b lt is up so_far = record {
  row = b;
  within = lt;
  is = λ d. sym (is ∙ get_or_default bs i b d lt);
  rest = so_far ∙ ap job_view (drop_more bs i b lt)
      ∙ ap (λ c. job_view (c ∷ drop (i + 1) bs)) (sym is)
      ∙ ap (λ t. map job_part_of (cond t (b ∷ filter (λ b. b.unended) (drop (i + 1) bs))
      (filter (λ b. b.unended) (drop (i + 1) bs)))) up;
}

pub held_nowhere : (bs : List BookedRow) (i : ℕ) → length bs ≤ i → job_view bs ≡ job_view (drop i bs)
    → job_view bs ≡ []
held_nowhere bs i le so_far = so_far ∙ ap job_view (drop_past bs i le)
