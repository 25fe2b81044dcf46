-- The open jobs are those of the log, in another order: what an entry does to both, and what both
-- are asked.
use Rattle.std.proofs.Common.{◌≡◌, ℕ, ◌+◌, List, [], ◌∷◌, ◌++◌, Bool, true, false, cond, not, ◌&&◌, ◌||◌, map}
use Rattle.std.proofs.Common.{filter, length, Option, Some, None, refl, ap, ◌∙◌, sym, subst, arith}
use Rattle.std.proofs.Common.{append-nil, length-append, eqb-true, eq-eqb}
use Rattle.std.specs.Prelude.{◌==◌, option_to_list, unwrap_or, find, if◌then◌else◌}
use Rattle.std.specs.List.{AllByRecursion, list_any, cons_option}
use Rattle.std.specs.Option.{option_map}
use Rattle.std.proofs.lemmas.Bool.{false≢true}
use Rattle.std.proofs.lemmas.List.{map-append, append_assoc}
use Rattle.std.proofs.lemmas.List.Elements.{filter-append, filter_map-append}
use Rattle.dist_types.specs.declared.ids.JobId.{JobId}
use Rattle.dist_types.specs.declared.results.JobState.{JobState}
use Rattle.dist_types.specs.declared.results.JobState.TheVariants.{Pending, Ready, Started, Complete}
use Rattle.row_index.specs.Following.{HasNone, IsRowOf}
use Rattle.reservations.specs.declared.booked.BookedRow.{BookedRow}
use Rattle.core_rules.specs.declared.entry.CoreEntry.{CoreEntry}
use Rattle.core_rules.specs.declared.entry.CoreKind.{CoreKind}
use Rattle.core_rules.specs.declared.entry.CoreKind.TheVariants.{Beat, Reserve, Commit, Undo, Update}
use Rattle.core_rules.specs.declared.entry.CoreKind.TheVariants.{Status, Drain}
use Rattle.core_rules.specs.declared.rows.JobRow.{JobRow}
use Rattle.core_rules.specs.declared.rows.OpenRow.{OpenRow}
use Rattle.core_rules.specs.Log.{same_job, newer}
use Rattle.core_rules.specs.Standing.{ends_by}
use Rattle.core_rules.specs.Reservation.{spends_by, frees_by, claims_by, undoes_by, reaps_by, completes_by}
use Rattle.core_rules.specs.Job.{moves_by, closes_by}
use Rattle.core_rules.specs.Laws.{AreDistinct}
use Rattle.core_rules.specs.Rule.{is_initial}
use Rattle.core_rules.specs.Next.{begins_by, state_after, open_stays, open_after, open_over, open_by}
use Rattle.reservations.specs.Booked.{booked_after}
use Rattle.sched_core.specs.Books.{AreReordered}
use Rattle.reservations.specs.Booked.{booked_new, job_part_of, open_part_of, job_view, open_view}
use Rattle.core_rules.proofs.AllLemmas.{true_false, is_false, same_job-sym, same_job-trans, all-weaker}
use Rattle.core_rules.proofs.AllLemmas.{all-unmap}
use Rattle.core_rules.proofs.AllLemmas.{own_only}
use Rattle.core_rules.proofs.SortLemmas.{found_first}
use Rattle.sched_core.proofs.BookedLemmas.{IsSpent}

-- lists in another order

pub reorder-map : {X Y : Type 0} (f : X → Y) (xs ys : List X) → AreReordered xs ys
    → AreReordered (map f xs) (map f ys)
reorder-map f [] ys same = ap (map f) same
reorder-map f (x ∷ xs) ys same = (
  map f same.0,
  map f same.1,
  ap (map f) same.2 ∙ map-append f same.0 (x ∷ same.1),
  subst (AreReordered (map f xs)) (map-append f same.0 same.1) (reorder-map f xs (same.0 ++ same.1) same.3),
)

pub reorder-filter : {X : Type 0} (p : X → Bool) (xs ys : List X) → AreReordered xs ys
    → AreReordered (filter p xs) (filter p ys)
reorder-filter p [] ys same = ap (filter p) same
reorder-filter {X} p (x ∷ xs) ys same = split (p x)
    (ap (filter p) same.2 ∙ filter-append p same.0 (x ∷ same.1))
    (subst (AreReordered (filter p xs)) (filter-append p same.0 same.1)
    (reorder-filter p xs (same.0 ++ same.1) same.3))
  where
    split : (b : Bool) → filter p ys ≡ filter p same.0 ++ cond b (x ∷ filter p same.1) (filter p same.1)
        → AreReordered (filter p xs) (filter p same.0 ++ filter p same.1)
        → AreReordered (cond b (x ∷ filter p xs) (filter p xs)) (filter p ys)
    split true is rest = (filter p same.0, filter p same.1, is, rest)
    split false is rest = subst (AreReordered (filter p xs)) (sym is) rest

-- one more at the end of the second list, and anywhere in the first
pub reorder-more : {X : Type 0} (before behind ys : List X) (x : X) → AreReordered (before ++ behind) ys
    → AreReordered (before ++ x ∷ behind) (ys ++ x ∷ [])
reorder-more [] behind ys x same = (ys, [], refl, subst (AreReordered behind) (sym (append-nil ys)) same)
reorder-more (b ∷ before) behind ys x same = (
  same.0,
  same.1 ++ x ∷ [],
  ap (λ l. l ++ x ∷ []) same.2 ∙ append_assoc same.0 (b ∷ same.1) (x ∷ []),
  subst (AreReordered (before ++ x ∷ behind)) (append_assoc same.0 same.1 (x ∷ []))
      (reorder-more before behind (same.0 ++ same.1) x same.3),
)

pub reorder-length : {X : Type 0} (xs ys : List X) → AreReordered xs ys → length xs ≡ length ys
reorder-length [] ys same = sym (ap length same)
reorder-length (x ∷ xs) ys same =
    let rest = reorder-length xs (same.0 ++ same.1) same.3 in
    let whole : length ys ≡ length same.0 + length (x ∷ same.1) = ap length same.2
    ∙ length-append same.0 (x ∷ same.1) in
    let less = length-append same.0 same.1 in
    omega (arith, rest, whole, less)

all_middle : {X : Type 0} (P : X → Type 0) (front rest : List X) (x : X)
    → AllByRecursion P (front ++ x ∷ rest) → P x
all_middle P [] rest x all = all.0
all_middle P (y ∷ front) rest x all = all_middle P front rest x all.1

all-insert : {X : Type 0} (P : X → Type 0) (front rest : List X) (x : X) → P x
    → AllByRecursion P (front ++ rest)
    → AllByRecursion P (front ++ x ∷ rest)
all-insert P [] rest x p all = (p, all)
all-insert P (y ∷ front) rest x p all = (all.0, all-insert P front rest x p all.1)

reorder-all : {X : Type 0} (P : X → Type 0) (xs ys : List X) → AreReordered xs ys → AllByRecursion P xs
    → AllByRecursion P ys
reorder-all P [] ys same all = subst (AllByRecursion P) (sym same) tt
reorder-all P (x ∷ xs) ys same all = subst (AllByRecursion P) (sym same.2)
    (all-insert P same.0 same.1 x all.0 (reorder-all P xs (same.0 ++ same.1) same.3 all.1))

any-insert : {X : Type 0} (t : X → Bool) (front rest : List X) (x : X)
    → list_any t (front ++ x ∷ rest) ≡ (t x || list_any t (front ++ rest))
any-insert t [] rest x = refl
any-insert t (y ∷ front) rest x = ap (λ b. t y || b) (any-insert t front rest x)
    ∙ turned (t y) (t x) (list_any t (front ++ rest))
  where
    turned : (a b c : Bool) → (a || (b || c)) ≡ (b || (a || c))
    turned true true c = refl
    turned true false c = refl
    turned false b c = refl

reorder-any : {X : Type 0} (t : X → Bool) (xs ys : List X) → AreReordered xs ys
    → list_any t xs ≡ list_any t ys
reorder-any t [] ys same = ap (list_any t) (sym same)
reorder-any t (x ∷ xs) ys same = ap (λ b. t x || b) (reorder-any t xs (same.0 ++ same.1) same.3)
    ∙ sym (any-insert t same.0 same.1 x) ∙ ap (list_any t) (sym same.2)

none_found : {X : Type 0} (t : X → Bool) (xs : List X) → list_any t xs ≡ false → find t xs ≡ None
none_found t [] none = refl
none_found {X} t (x ∷ xs) none = split (t x) none (none_found t xs)
  where
    split : (b : Bool) → (b || list_any t xs) ≡ false → (list_any t xs ≡ false → find t xs ≡ None)
        → cond b (Some x) (find t xs) ≡ None
    split true e rest = absurd (false≢true (sym e))
    split false e rest = rest e

-- among those whose jobs differ, the one of a job is found in both
pub reorder-find : {X : Type 0} (job : X → JobId) (j : JobId) (xs ys : List X) → AreDistinct (map job xs)
    → AreReordered xs ys → find (λ x. same_job (job x) j) xs ≡ find (λ x. same_job (job x) j) ys
reorder-find {X} job j xs ys apart same = split (list_any t xs) refl
  where
    t : X → Bool
    t x = same_job (job x) j

    Own : X → Type 0
    Own x = AllByRecursion (λ y. same_job (job y) (job x) ≡ true → y ≡ x) xs

    split : (b : Bool) → list_any t xs ≡ b → find t xs ≡ find t ys
    split false none = none_found t xs none ∙ sym (none_found t ys (sym (reorder-any t xs ys same) ∙ none))
    split true some =
        let first : (x : X) × (find t xs ≡ Some x) × Own x × (t x ≡ true) =
        found_first Own t xs (own_only job xs apart) some in
        let second : (y : X) × (find t ys ≡ Some y) × (same_job (job y) (job first.0) ≡ true → y ≡ first.0)
        × (t y ≡ true) =
        found_first (λ y. same_job (job y) (job first.0) ≡ true → y ≡ first.0) t ys
        (reorder-all (λ y. same_job (job y) (job first.0) ≡ true → y ≡ first.0) xs ys same first.2)
        (sym (reorder-any t xs ys same) ∙ some) in
        let equal : second.0 ≡ first.0 = second.2 (same_job-trans (job second.0) j (job first.0) second.3
        (same_job-sym (job first.0) j first.3)) in
        first.1 ∙ ap (λ x. Some x) (sym equal) ∙ sym second.1

-- the open jobs of the reservations

-- a reservation after an entry, but for the moment at which its job became ready, which no open job shows
abbrev turned_by : CoreKind → BookedRow → BookedRow
turned_by k b = record b {
  state = state_after k b.job b.state;
  claimed = b.claimed || claims_by k b.job;
  unspent = b.unspent && not (spends_by k b.job);
  unended = b.unended && not (frees_by k b.job b.reg);
}

open_alike : (e : CoreEntry) (bs more : List BookedRow)
    → open_view (map (booked_after e) bs ++ more) ≡ open_view (map (turned_by e.kind) bs ++ more)
open_alike e [] more = refl
open_alike e (b ∷ bs) more = ap (cons_option (open_part_of (turned_by e.kind b))) (open_alike e bs more)

-- an open job after an entry, where it stays open
abbrev kept_open : CoreKind → Option OpenRow → Option OpenRow
kept_open k None = None
kept_open k (Some o) = if open_stays k o then Some (open_after k o) else None

abbrev opened : CoreKind → List OpenRow → List OpenRow
opened k os = map (open_after k) (filter (open_stays k) os)

all_opened : (k : CoreKind) (bs : List BookedRow)
    → AllByRecursion (λ b. open_part_of (turned_by k b) ≡ kept_open k (open_part_of b)) bs
    → open_view (map (turned_by k) bs) ≡ opened k (open_view bs)
all_opened k [] all = refl
all_opened k (b ∷ bs) all =
    ap (λ o. cons_option o (open_view (map (turned_by k) bs))) all.0
    ∙ ap (λ os. cons_option (kept_open k (open_part_of b)) os) (all_opened k bs all.1)
    ∙ split (open_part_of b)
  where
    kept : (o : OpenRow) (stays : Bool) → cons_option (if stays then Some (open_after k o) else None)
        (opened k (open_view bs)) ≡ map (open_after k) (cond stays (o ∷ filter (open_stays k) (open_view bs))
        (filter (open_stays k) (open_view bs)))
    kept o true = refl
    kept o false = refl

    split : (o : Option OpenRow) → cons_option (kept_open k o) (opened k (open_view bs))
        ≡ opened k (cons_option o (open_view bs))
    split None = refl
    split (Some o) = kept o (open_stays k o)

opened_append : (k : CoreKind) (os ps : List OpenRow) → opened k (os ++ ps) ≡ opened k os ++ opened k ps
opened_append k os ps = ap (map (open_after k)) (filter-append (open_stays k) os ps)
    ∙ map-append (open_after k) (filter (open_stays k) os) (filter (open_stays k) ps)

-- an entry that neither begins nor spends nor undoes the job
ends_alike : (r c e : Bool) → (((false || r) || c) || e) ≡ ((c || r) || e)
ends_alike true true e = refl
ends_alike true false e = refl
ends_alike false true e = refl
ends_alike false false e = refl

quiet_part : (k : CoreKind) (b : BookedRow) (state : Option JobState) (unspent unended frees spends : Bool)
    (begin move : Option JobState) → begin ≡ None → spends ≡ false
    → frees ≡ closes_by k b.job (Some b.reg) → move ≡ moves_by k b.job
    → open_part_of (record b {
      state = newer begin (option_map (λ s. unwrap_or move s) state);
      unspent = unspent && not spends;
      unended = unended && not frees;
      claimed = b.claimed;
    }) ≡ kept_open k (open_part_of (record b { state = state; unspent = unspent; unended = unended }))
quiet_part k b state unspent false frees spends begin move none other ends moves = refl
quiet_part k b state true true frees spends begin move none other ends moves =
    rw other (hidden (not frees))
  where
    hidden : (f : Bool) → cond {A = Option OpenRow} (f && false) (option_map (λ s. record {
      job = b.job;
      reg = Some b.reg;
      server = Some b.server;
      state = s;
    }) (newer begin (option_map (λ s. unwrap_or move s) state))) None ≡ None
    hidden true = refl
    hidden false = refl
quiet_part k b None false true frees spends begin move none other ends moves = rw none (hidden (not frees))
  where
    hidden : (f : Bool) → cond {A = Option OpenRow} (f && true) None None ≡ None
    hidden true = refl
    hidden false = refl
quiet_part k b (Some s) false true frees spends begin move none other ends moves =
    rw (none, ends, moves) (kept (not (closes_by k b.job (Some b.reg))))
  where
    kept : (f : Bool) → cond {A = Option OpenRow} (f && true) (Some (record {
      job = b.job;
      reg = Some b.reg;
      server = Some b.server;
      state = unwrap_or (moves_by k b.job) s;
    })) None ≡ cond {A = Option OpenRow} f (Some (record {
      job = b.job;
      reg = Some b.reg;
      server = Some b.server;
      state = unwrap_or (moves_by k b.job) s;
    })) None
    kept true = refl
    kept false = refl

quiet : (k : CoreKind) (b : BookedRow) → begins_by k b.job ≡ None → spends_by k b.job ≡ false
    → undoes_by k b.job ≡ false → open_part_of (turned_by k b) ≡ kept_open k (open_part_of b)
quiet k b none other alive = quiet_part k b b.state b.unspent b.unended (frees_by k b.job b.reg)
    (spends_by k b.job) (begins_by k b.job) (moves_by k b.job) none other
    (ap (λ u. ((u || reaps_by k b.job) || completes_by k b.job) || ends_by k b.reg) alive
    ∙ ends_alike (reaps_by k b.job) (completes_by k b.job) (ends_by k b.reg)) refl

other_job : (a b : JobId) → same_job b a ≡ false → same_job a b ≡ false
other_job a b other = is_false (same_job a b) (λ t. true_false (same_job b a) (same_job-sym a b t) other)

-- an undo ends the reservation that it spends, if it is unended
undo_part : (k : CoreKind) (b : BookedRow) → b.unspent ≡ true
    → (b.unended && not (frees_by k b.job b.reg)) ≡ false
    → open_part_of (turned_by k b) ≡ kept_open k (open_part_of b)
undo_part k b free ended = rw (free, ended) (hidden b.unended)
  where
    hidden : (u : Bool) → None
        ≡ kept_open k (cond {A = Option OpenRow} (u && false) (option_map (λ s. record {
          job = b.job;
          reg = Some b.reg;
          server = Some b.server;
          state = s;
        }) b.state) None)
    hidden true = refl
    hidden false = refl

ended_so : (up says : Bool) → up ≡ says
    → (up && not ((((says && true) || false) || false) || false)) ≡ false
ended_so true true is = refl
ended_so false says is = refl
ended_so true false is = absurd (false≢true (sym is))

undo_one : (job : JobId) (noted : Option ℕ) (says : Bool) (b : BookedRow)
    → (same_job b.job job ≡ true → IsSpent says b)
    → open_part_of (turned_by (Undo job noted says) b) ≡ kept_open (Undo job noted says) (open_part_of b)
undo_one job noted says b spent = split (same_job b.job job) refl
  where
    no_more : (t : Bool) → (t && false) ≡ false
    no_more true = refl
    no_more false = refl

    split : (t : Bool) → same_job b.job job ≡ t → open_part_of (turned_by (Undo job noted says) b)
        ≡ kept_open (Undo job noted says) (open_part_of b)
    split true same =
        let mine : IsSpent says b = spent same in
        undo_part (Undo job noted says) b mine.unspent
        (ap (λ t. b.unended && not ((((says && t) || false) || false) || false)) (same_job-sym b.job job same)
        ∙ ended_so b.unended says mine.unended)
    split false other =
        let apart : same_job job b.job ≡ false = other_job job b.job other in
        quiet (Undo job noted says) b refl apart (ap (λ t. says && t) apart ∙ no_more says)

-- a commit that drops its reservation finds it ended
drop_one : (job : JobId) (state : JobState) (b : BookedRow) → (same_job b.job job ≡ true → IsSpent false b)
    → open_part_of (turned_by (Commit job state false) b)
    ≡ kept_open (Commit job state false) (open_part_of b)
drop_one job state b spent = split (same_job b.job job) refl
  where
    split : (t : Bool) → same_job b.job job ≡ t → open_part_of (turned_by (Commit job state false) b)
        ≡ kept_open (Commit job state false) (open_part_of b)
    split true same = rw (spent same).unended refl
    split false other = quiet (Commit job state false) b refl (other_job job b.job other) refl

-- a commit leaves the reservations of other jobs
commit_other : (job : JobId) (state : JobState) (b : BookedRow) → same_job b.job job ≡ false
    → open_part_of (turned_by (Commit job state true) b)
    ≡ kept_open (Commit job state true) (open_part_of b)
commit_other job state b other =
    let apart : same_job job b.job ≡ false = other_job job b.job other in
    quiet (Commit job state true) b (ap (λ t. if t then Some state else None) apart) apart refl

abbrev made_open : BookedRow → JobState → OpenRow
made_open b state = record { job = b.job; reg = Some b.reg; server = Some b.server; state = state }

-- and its own reservation is that of an open job
commit_own : (job : JobId) (state : JobState) (b : BookedRow) → IsSpent true b → same_job job b.job ≡ true
    → open_part_of (turned_by (Commit job state true) b) ≡ Some (made_open b state)
commit_own job state b spent same = rw (spent.unspent, spent.unended, same) refl

-- a reservation that was just made is that of no open job
new_closed : (bs : List BookedRow) (o : Option JobRow)
    → open_view (bs ++ option_to_list (option_map booked_new o)) ≡ open_view bs
new_closed bs None = ap open_view (append-nil bs)
new_closed bs (Some j) = filter_map-append open_part_of bs (booked_new j ∷ []) ∙ append-nil (open_view bs)

quiet_next : (k : CoreKind) (bs : List BookedRow) (os : List OpenRow) (o : Option JobRow)
    → open_by k (job_view bs) ≡ None
    → AllByRecursion (λ b. open_part_of (turned_by k b) ≡ kept_open k (open_part_of b)) bs
    → AreReordered (open_view bs) os
    → AreReordered (open_view (map (turned_by k) bs ++ option_to_list (option_map booked_new o)))
    (opened k os ++ option_to_list (open_by k (job_view bs)))
quiet_next k bs os o none all same =
    subst (λ l. AreReordered l (opened k os ++ option_to_list (open_by k (job_view bs))))
    (sym (new_closed (map (turned_by k) bs) o ∙ all_opened k bs all))
    (subst (AreReordered (opened k (open_view bs)))
    (sym (ap (λ p. opened k os ++ option_to_list p) none ∙ append-nil (opened k os)))
    (reorder-map (open_after k) (filter (open_stays k) (open_view bs)) (filter (open_stays k) os)
    (reorder-filter (open_stays k) (open_view bs) os same)))

-- the reservation of a job is found among the unended ones
found_row : (job : JobId) (front rest : List BookedRow) (row : BookedRow)
    → HasNone (λ b. b.job.0) front job.0 → row.unended ≡ true → same_job row.job job ≡ true
    → find (λ j. same_job j.job job) (job_view (front ++ row ∷ rest)) ≡ Some (job_part_of row)
found_row job [] rest row before up same = rw (up, same) refl
found_row job (b ∷ front) rest row before up same =
    split b.unended (found_row job front rest row before.1 up same)
  where
    split : (t : Bool) → find (λ j. same_job j.job job) (job_view (front ++ row ∷ rest))
        ≡ Some (job_part_of row)
        → find (λ j. same_job j.job job)
        (map job_part_of (cond t (b ∷ filter (λ b. b.unended) (front ++ row ∷ rest))
        (filter (λ b. b.unended) (front ++ row ∷ rest)))) ≡ Some (job_part_of row)
    split true later = rw before.0 later
    split false later = later

-- a commit that keeps a job opens that of its reservation
commit_rows : (job : JobId) (state : JobState) (front rest : List BookedRow) (row : BookedRow)
    (os : List OpenRow)
    (o : Option JobRow) → HasNone (λ b. b.job.0) front job.0 → HasNone (λ b. b.job.0) rest job.0
    → same_job row.job job ≡ true → IsSpent true row
    → open_by (Commit job state true) (job_view (front ++ row ∷ rest))
    ≡ open_over (find (λ j. same_job j.job job) (job_view (front ++ row ∷ rest))) state
    → AreReordered (open_view (front ++ row ∷ rest)) os
    → AreReordered (open_view (map (turned_by (Commit job state true)) (front ++ row ∷ rest)
    ++ option_to_list (option_map booked_new o)))
    (opened (Commit job state true) os
    ++ option_to_list (open_by (Commit job state true) (job_view (front ++ row ∷ rest))))
commit_rows job state front rest row os o before behind own spent by same =
    subst (λ l. AreReordered l (opened k os ++ option_to_list (open_by k (job_view (front ++ row ∷ rest)))))
    (sym (new_closed (map (turned_by k) (front ++ row ∷ rest)) o ∙ cut))
    (subst (λ p. AreReordered (opened k (open_view front) ++ made_open row state ∷ opened k (open_view rest))
    (opened k os ++ option_to_list p))
    (sym (by ∙ ap (λ p. open_over p state) (found_row job front rest row before spent.unended own)))
    (reorder-more (opened k (open_view front)) (opened k (open_view rest)) (opened k os) (made_open row state)
    (subst (λ l. AreReordered l (opened k os)) (opened_append k (open_view front) (open_view rest))
    (reorder-map (open_after k) (filter (open_stays k) (open_view front ++ open_view rest))
    (filter (open_stays k) os)
    (reorder-filter (open_stays k) (open_view front ++ open_view rest) os
    (subst (λ l. AreReordered l os) without same))))))
  where
    k : CoreKind
    k = Commit job state true

    others : (bs : List BookedRow) → HasNone (λ b. b.job.0) bs job.0
        → open_view (map (turned_by (Commit job state true)) bs)
        ≡ opened (Commit job state true) (open_view bs)
    others bs none = all_opened (Commit job state true) bs
        (all-weaker (λ b. (b.job.0 == job.0) ≡ false)
        (λ b. open_part_of (turned_by (Commit job state true) b)
        ≡ kept_open (Commit job state true) (open_part_of b))
        (λ b other. commit_other job state b other) bs none)

    cut : open_view (map (turned_by (Commit job state true)) (front ++ row ∷ rest))
        ≡ opened (Commit job state true) (open_view front) ++ made_open row state
        ∷ opened (Commit job state true) (open_view rest)
    cut = ap open_view (map-append (turned_by (Commit job state true)) front (row ∷ rest))
        ∙ filter_map-append open_part_of (map (turned_by (Commit job state true)) front)
        (map (turned_by (Commit job state true)) (row ∷ rest))
        ∙ ap (λ p. open_view (map (turned_by (Commit job state true)) front)
        ++ cons_option p (open_view (map (turned_by (Commit job state true)) rest)))
        (commit_own job state row spent (same_job-sym row.job job own))
        ∙ ap (λ l. l ++ made_open row state ∷ open_view (map (turned_by (Commit job state true)) rest))
        (others front before)
        ∙ ap (λ l. opened (Commit job state true) (open_view front) ++ made_open row state ∷ l)
        (others rest behind)

    without : open_view (front ++ row ∷ rest) ≡ open_view front ++ open_view rest
    without = filter_map-append open_part_of front (row ∷ rest)
        ∙ ap (λ p. open_view front ++ cons_option p (open_view rest)) (closed row spent)
      where
        closed : (b : BookedRow) → IsSpent true b → open_part_of b ≡ None
        closed b is = rw (is.unspent, is.unended) refl

-- the reservation of a job, among those whose jobs differ
own_row : (job : JobId) (bs : List BookedRow) → AreDistinct (map (λ b. b.job) bs)
    → list_any (λ b. same_job b.job job) bs ≡ true → (row : BookedRow) × IsRowOf (λ b. b.job.0) bs job.0 row
own_row job [] apart some = absurd (false≢true some)
own_row job (b ∷ bs) apart some = split (same_job b.job job) refl some (own_row job bs apart.1)
  where
    split : (t : Bool) → same_job b.job job ≡ t → (t || list_any (λ b. same_job b.job job) bs) ≡ true
        → (list_any (λ b. same_job b.job job) bs ≡ true → (row : BookedRow)
        × IsRowOf (λ b. b.job.0) bs job.0 row)
        → (row : BookedRow) × IsRowOf (λ b. b.job.0) (b ∷ bs) job.0 row
    split true same some rest = (
      b,
      record {
        front = [];
        rest = bs;
        are = refl;
        own = eqb-true b.job.0 job.0 same;
        before = tt;
        behind = all-weaker (λ c. same_job c.job b.job ≡ false) (λ c. (c.job.0 == job.0) ≡ false)
            (λ c other. is_false (c.job.0 == job.0) (λ t. true_false (same_job c.job b.job)
            (same_job-trans c.job job b.job t (same_job-sym b.job job same)) other)) bs
            (all-unmap (λ k. same_job k b.job ≡ false) (λ c. c.job) bs apart.0);
      },
    )
    split false other some rest =
        let r = rest some in (
          r.0,
          record {
            front = b ∷ r.1.front;
            rest = r.1.rest;
            are = ap (λ l. b ∷ l) r.1.are;
            own = r.1.own;
            before = (other, r.1.before);
            behind = r.1.behind;
          },
        )

-- the reservations of the job that an entry spends are unspent, and it says whether they are unended
abbrev pub AreSpentBy : CoreKind → List BookedRow → Type 0
AreSpentBy (Commit job state kept) bs = AllByRecursion (λ b. same_job b.job job ≡ true → IsSpent kept b) bs
    × (list_any (λ b. same_job b.job job) bs ≡ true) × (is_initial state ≡ true)
AreSpentBy (Undo job noted says) bs = AllByRecursion (λ b. same_job b.job job ≡ true → IsSpent says b) bs
AreSpentBy other bs = Unit {0}

all_quiet : (k : CoreKind) (bs : List BookedRow) → ((b : BookedRow) → begins_by k b.job ≡ None)
    → ((b : BookedRow) → spends_by k b.job ≡ false) → ((b : BookedRow) → undoes_by k b.job ≡ false)
    → AllByRecursion (λ b. open_part_of (turned_by k b) ≡ kept_open k (open_part_of b)) bs
all_quiet k [] none other alive = tt
all_quiet k (b ∷ bs) none other alive =
    (quiet k b (none b) (other b) (alive b), all_quiet k bs none other alive)

next_by : (k : CoreKind) (bs : List BookedRow) (os : List OpenRow) (o : Option JobRow)
    → AreDistinct (map (λ b. b.job) bs) → AreSpentBy k bs → AreReordered (open_view bs) os
    → AreReordered (open_view (map (turned_by k) bs ++ option_to_list (option_map booked_new o)))
    (opened k os ++ option_to_list (open_by k (job_view bs)))
next_by (Reserve r) bs os o apart spent same = quiet_next (Reserve r) bs os o refl
    (all_quiet (Reserve r) bs (λ b. refl) (λ b. refl) (λ b. refl)) same
next_by (Beat server nonce cpus key pruned reaped replaced is_new) bs os o apart spent same =
    quiet_next (Beat server nonce cpus key pruned reaped replaced is_new) bs os o refl
    (all_quiet (Beat server nonce cpus key pruned reaped replaced is_new) bs (λ b. refl) (λ b. refl)
    (λ b. refl)) same
next_by (Update server job state answer) bs os o apart spent same =
    quiet_next (Update server job state answer) bs os o refl
    (all_quiet (Update server job state answer) bs (λ b. refl) (λ b. refl) (λ b. refl)) same
next_by (Status pruned servers cpus n) bs os o apart spent same =
    quiet_next (Status pruned servers cpus n) bs os o refl
    (all_quiet (Status pruned servers cpus n) bs (λ b. refl) (λ b. refl) (λ b. refl)) same
next_by (Drain addr nonce on named) bs os o apart spent same =
    quiet_next (Drain addr nonce on named) bs os o refl
    (all_quiet (Drain addr nonce on named) bs (λ b. refl) (λ b. refl) (λ b. refl)) same
next_by (Undo job noted says) bs os o apart spent same =
    quiet_next (Undo job noted says) bs os o refl
    (all-weaker (λ b. same_job b.job job ≡ true → IsSpent says b)
    (λ b. open_part_of (turned_by (Undo job noted says) b)
    ≡ kept_open (Undo job noted says) (open_part_of b))
    (λ b h. undo_one job noted says b h) bs spent) same
next_by (Commit job state false) bs os o apart spent same =
    quiet_next (Commit job state false) bs os o refl
    (all-weaker (λ b. same_job b.job job ≡ true → IsSpent false b)
    (λ b. open_part_of (turned_by (Commit job state false) b)
    ≡ kept_open (Commit job state false) (open_part_of b))
    (λ b h. drop_one job state b h) bs spent.0) same
next_by (Commit job state true) bs os o apart spent same =
    let at : (row : BookedRow) × IsRowOf (λ b. b.job.0) bs job.0 row = own_row job bs apart spent.1 in
    let row : BookedRow = at.0 in
    let own : same_job row.job job ≡ true = eq-eqb row.job.0 job.0 at.1.own in
    let all : AllByRecursion (λ b. same_job b.job job ≡ true → IsSpent true b)
    (at.1.front ++ row ∷ at.1.rest) =
    subst (AllByRecursion (λ b. same_job b.job job ≡ true → IsSpent true b)) at.1.are spent.0 in
    subst (λ l. AreReordered (open_view (map (turned_by (Commit job state true)) l
    ++ option_to_list (option_map booked_new o)))
    (opened (Commit job state true) os ++ option_to_list (open_by (Commit job state true) (job_view l))))
    (sym at.1.are)
    (commit_rows job state at.1.front at.1.rest row os o at.1.before at.1.behind own
    (all_middle (λ b. same_job b.job job ≡ true → IsSpent true b) at.1.front at.1.rest row all own)
    (by_state state spent.2 (job_view (at.1.front ++ row ∷ at.1.rest)))
    (subst (λ l. AreReordered (open_view l) os) at.1.are same))
  where
    by_state : (s : JobState) → is_initial s ≡ true → (jobs : List JobRow)
        → open_by (Commit job s true) jobs ≡ open_over (find (λ j. same_job j.job job) jobs) s
    by_state Pending h jobs = refl
    by_state Ready h jobs = refl
    by_state Started h jobs = absurd (false≢true h)
    by_state Complete h jobs = absurd (false≢true h)

pub open_next : (e : CoreEntry) (bs : List BookedRow) (os : List OpenRow) (o : Option JobRow)
    → AreDistinct (map (λ b. b.job) bs) → AreSpentBy e.kind bs → AreReordered (open_view bs) os
    → AreReordered (open_view (map (booked_after e) bs ++ option_to_list (option_map booked_new o)))
    (opened e.kind os ++ option_to_list (open_by e.kind (job_view bs)))
open_next e bs os o apart spent same =
    subst (λ l. AreReordered l (opened e.kind os ++ option_to_list (open_by e.kind (job_view bs))))
    (sym (open_alike e bs (option_to_list (option_map booked_new o)))) (next_by e.kind bs os o apart spent same)

-- the jobs of the open ones differ
others_opened : (j : JobId) (bs : List BookedRow)
    → AllByRecursion (λ k. same_job k j ≡ false) (map (λ b. b.job) bs)
    → AllByRecursion (λ k. same_job k j ≡ false) (map (λ o. o.job) (open_view bs))
others_opened j [] all = tt
others_opened j (b ∷ bs) all = split (b.unended && not b.unspent) b.state (others_opened j bs all.1)
  where
    split : (t : Bool) (state : Option JobState)
        → AllByRecursion (λ k. same_job k j ≡ false) (map (λ o. o.job) (open_view bs))
        → AllByRecursion (λ k. same_job k j ≡ false)
        (map (λ o. o.job) (cons_option (cond t (option_map (λ s. made_open b s) state) None) (open_view bs)))
    split true (Some s) rest = (all.0, rest)
    split true None rest = rest
    split false state rest = rest

pub distinct_opened : (bs : List BookedRow) → AreDistinct (map (λ b. b.job) bs)
    → AreDistinct (map (λ o. o.job) (open_view bs))
distinct_opened [] apart = tt
distinct_opened (b ∷ bs) apart = split (b.unended && not b.unspent) b.state
    (others_opened b.job bs apart.0) (distinct_opened bs apart.1)
  where
    split : (t : Bool) (state : Option JobState)
        → AllByRecursion (λ k. same_job k b.job ≡ false) (map (λ o. o.job) (open_view bs))
        → AreDistinct (map (λ o. o.job) (open_view bs))
        → AreDistinct (map (λ o. o.job)
        (cons_option (cond t (option_map (λ s. made_open b s) state) None) (open_view bs)))
    split true (Some s) others rest = (others, rest)
    split true None others rest = rest
    split false state others rest = rest
