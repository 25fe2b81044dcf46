-- What an entry does to the one list of reservations, it does to each view of it.
use Rattle.std.proofs.Common.{◌≡◌, ℕ, List, ◌++◌, ◌∷◌, [], Bool, true, false, cond, not, ◌&&◌, map, filter}
use Rattle.std.proofs.Common.{Option, Some, None, refl, ap, ◌∙◌, sym}
use Rattle.std.specs.Prelude.{◌==◌, option_to_list}
use Rattle.std.specs.List.{AllByRecursion, list_any}
use Rattle.std.specs.Option.{option_map}
use Rattle.std.proofs.lemmas.List.{map-append}
use Rattle.std.proofs.lemmas.List.Elements.{filter-append}
use Rattle.dist_types.specs.declared.ids.JobId.{JobId}
use Rattle.reservations.specs.declared.booked.BookedRow.{BookedRow}
use Rattle.core_rules.specs.declared.entry.CoreEntry.{CoreEntry}
use Rattle.core_rules.specs.declared.rows.JobRow.{JobRow}
use Rattle.core_rules.specs.Log.{same_job}
use Rattle.core_rules.specs.Reservation.{spends_by, frees_by}
use Rattle.core_rules.specs.Rows.{sorted_into}
use Rattle.core_rules.specs.Next.{held_part}
use Rattle.core_rules.specs.Laws.{AreDistinct}
use Rattle.core_rules.specs.Next.{held_stays, held_after, unspent_stays, unspent_by}
use Rattle.reservations.specs.Booked.{booked_after}
use Rattle.reservations.specs.Booked.{booked_new, held_part_of, job_part_of, unspent_part_of}
use Rattle.reservations.specs.Booked.{held_view, job_view, jobs_by_id, unspent_view}
use Rattle.core_rules.proofs.Lists.{map-map, filter-map, filter-filter, list_any-map, map-option}
use Rattle.core_rules.proofs.AllLemmas.{and_left, and_right, both, or_left, or_right, true_false, is_false}
use Rattle.core_rules.proofs.AllLemmas.{any-kept, any-weaker, any-all, all-both, each_same}
use Rattle.core_rules.proofs.SortLemmas.{sorted-map}

-- the unended ones
held_viewed : (e : CoreEntry) (bs : List BookedRow)
    → held_view (map (booked_after e) bs) ≡ map (held_after e) (filter (held_stays e.kind) (held_view bs))
held_viewed e bs =
    let stays : BookedRow → Bool = λ b. not (frees_by e.kind b.job b.reg) in
    let left : List BookedRow = filter stays (filter (λ b. b.unended) bs) in
    ap (map held_part_of) (filter-map (λ b. b.unended) (booked_after e) bs)
    ∙ ap (λ l. map held_part_of (map (booked_after e) l)) (filter-filter stays (λ b. b.unended) bs)
    ∙ map-map held_part_of (booked_after e) left
    ∙ sym (map-map (held_after e) held_part_of left)
    ∙ ap (map (held_after e)) (sym (filter-map (held_stays e.kind) held_part_of (filter (λ b. b.unended) bs)))

held_append : (bs cs : List BookedRow) → held_view (bs ++ cs) ≡ held_view bs ++ held_view cs
held_append bs cs = ap (map held_part_of) (filter-append (λ b. b.unended) bs cs)
    ∙ map-append held_part_of (filter (λ b. b.unended) bs) (filter (λ b. b.unended) cs)

held_new : (o : Option JobRow) → held_view (option_to_list (option_map booked_new o))
    ≡ option_to_list (option_map held_part o)
held_new None = refl
held_new (Some j) = refl

pub held_next : (e : CoreEntry) (bs : List BookedRow) (o : Option JobRow)
    → held_view (map (booked_after e) bs ++ option_to_list (option_map booked_new o))
    ≡ map (held_after e) (filter (held_stays e.kind) (held_view bs)) ++ option_to_list (option_map held_part o)
held_next e bs o = held_append (map (booked_after e) bs) (option_to_list (option_map booked_new o))
    ∙ ap (λ hs. hs ++ held_view (option_to_list (option_map booked_new o))) (held_viewed e bs)
    ∙ ap (λ hs. map (held_after e) (filter (held_stays e.kind) (held_view bs)) ++ hs) (held_new o)

-- the unspent ones
unspent_viewed : (e : CoreEntry) (bs : List BookedRow)
    → unspent_view (map (booked_after e) bs) ≡ filter (unspent_stays e.kind) (unspent_view bs)
unspent_viewed e bs =
    let stays : BookedRow → Bool = λ b. not (spends_by e.kind b.job) in
    let left : List BookedRow = filter stays (filter (λ b. b.unspent) bs) in
    ap (map unspent_part_of) (filter-map (λ b. b.unspent) (booked_after e) bs)
    ∙ ap (λ l. map unspent_part_of (map (booked_after e) l)) (filter-filter stays (λ b. b.unspent) bs)
    ∙ map-map unspent_part_of (booked_after e) left
    ∙ sym (filter-map (unspent_stays e.kind) unspent_part_of (filter (λ b. b.unspent) bs))

unspent_append : (bs cs : List BookedRow) → unspent_view (bs ++ cs) ≡ unspent_view bs ++ unspent_view cs
unspent_append bs cs = ap (map unspent_part_of) (filter-append (λ b. b.unspent) bs cs)
    ∙ map-append unspent_part_of (filter (λ b. b.unspent) bs) (filter (λ b. b.unspent) cs)

unspent_new : (o : Option JobRow) → unspent_view (option_to_list (option_map booked_new o))
    ≡ option_to_list (unspent_by o)
unspent_new None = refl
unspent_new (Some j) = refl

pub unspent_after : (e : CoreEntry) (bs : List BookedRow) (o : Option JobRow)
    → unspent_view (map (booked_after e) bs ++ option_to_list (option_map booked_new o))
    ≡ filter (unspent_stays e.kind) (unspent_view bs) ++ option_to_list (unspent_by o)
unspent_after e bs o = unspent_append (map (booked_after e) bs) (option_to_list (option_map booked_new o))
    ∙ ap (λ us. us ++ unspent_view (option_to_list (option_map booked_new o))) (unspent_viewed e bs)
    ∙ ap (λ us. filter (unspent_stays e.kind) (unspent_view bs) ++ us) (unspent_new o)

-- their jobs
pub jobs_after : (e : CoreEntry) (bs : List BookedRow) (o : Option BookedRow)
    → map (λ b. b.job) (map (booked_after e) bs ++ option_to_list o)
    ≡ map (λ b. b.job) bs ++ option_to_list (option_map (λ b. b.job) o)
jobs_after e bs o = map-append (λ (b : BookedRow). b.job) (map (booked_after e) bs) (option_to_list o)
    ∙ ap (λ js. js ++ map (λ (b : BookedRow). b.job) (option_to_list o))
    (map-map (λ (b : BookedRow). b.job) (booked_after e) bs)
    ∙ ap (λ js. map (λ (b : BookedRow). b.job) bs ++ js) (map-option (λ (b : BookedRow). b.job) o)

-- the rows with addresses are those without, but for the addresses
pub held_parts : (bs : List BookedRow) → map held_part (job_view bs) ≡ held_view bs
held_parts bs = map-map held_part job_part_of (filter (λ b. b.unended) bs)

pub by_id_parts : (bs : List BookedRow)
    → map held_part (jobs_by_id bs) ≡ sorted_into (λ h. h.job.0) [] (held_view bs)
by_id_parts bs = sym (sorted-map (λ j. j.job.0) (λ h. h.job.0) held_part (λ j. refl) (job_view bs))
    ∙ ap (sorted_into (λ h. h.job.0) []) (held_parts bs)

-- the reservations of the job that an entry spends

-- the reservation of the job is unspent, and it says whether it is unended
pub record IsSpent (says : Bool) (b : BookedRow) : Type 0 where
  pub unspent : b.unspent ≡ true
  pub unended : b.unended ≡ says

abbrev owns : ℕ → BookedRow → Bool
owns number b = b.unspent && (b.number == number)

abbrev names_both : ℕ → JobId → BookedRow → Bool
names_both number job b = (b.number == number) && same_job b.job job

all_of : {X : Type 0} (P : X → Type 0) → ((x : X) → P x) → (xs : List X) → AllByRecursion P xs
all_of P h [] = tt
all_of P h (x ∷ xs) = (h x, all_of P h xs)

-- none of those that pass the first test passes the second
none_among : {X : Type 0} (p t : X → Bool) (xs : List X) → list_any t (filter p xs) ≡ false
    → AllByRecursion (λ x. p x ≡ true → t x ≡ true → ⊥) xs
none_among p t [] e = tt
none_among {X} p t (x ∷ xs) e = split (p x) refl e (none_among p t xs)
  where
    split : (b : Bool) → p x ≡ b → list_any t (cond b (x ∷ filter p xs) (filter p xs)) ≡ false
        → (list_any t (filter p xs) ≡ false → AllByRecursion (λ x. p x ≡ true → t x ≡ true → ⊥) xs)
        → (p x ≡ true → t x ≡ true → ⊥) × AllByRecursion (λ x. p x ≡ true → t x ≡ true → ⊥) xs
    split true is none rest = (
      λ here there. true_false (t x) there (or_left (t x) (list_any t (filter p xs)) none),
      rest (or_right (t x) (list_any t (filter p xs)) none),
    )
    split false is none rest = ((λ here there. true_false (p x) here is), rest none)

-- the reservation of the job has that number and is unspent
spent_numbers : (bs : List BookedRow) (number : ℕ) (job : JobId) → AreDistinct (map (λ b. b.job) bs)
    → list_any (λ u. (u.number == number) && same_job u.job job) (unspent_view bs) ≡ true
    → AllByRecursion (λ b. same_job b.job job ≡ true → owns number b ≡ true) bs
spent_numbers bs number job apart some =
    let free : List BookedRow = filter (λ b. b.unspent) bs in
    let there : list_any (names_both number job) free ≡ true =
    sym (list_any-map (λ u. (u.number == number) && same_job u.job job) unspent_part_of free) ∙ some in
    each_same (λ b. b.job) (owns number) job bs apart
    (ap (list_any (λ b. same_job b.job job)) (filter-filter (λ b. b.number == number) (λ b. b.unspent) bs)
    ∙ any-kept (λ b. Unit {0}) (names_both number job) (λ b. same_job b.job job) (λ b. b.number == number)
    (λ b u t. (
      and_right (b.number == number) (same_job b.job job) t,
      and_left (b.number == number) (same_job b.job job) t,
    ))
    free (all_of (λ b. Unit {0}) (λ b. tt) free) there)

-- whether it is unended is what is asked of the unended ones
spent_held : (bs : List BookedRow) (number : ℕ) (job : JobId) (says : Bool)
    → AreDistinct (map (λ b. b.job) bs)
    → AllByRecursion (λ b. same_job b.job job ≡ true → owns number b ≡ true) bs
    → list_any (names_both number job) (filter (λ b. b.unended) bs) ≡ says
    → AllByRecursion (λ b. same_job b.job job ≡ true → b.unended ≡ says) bs
spent_held bs number job true apart own says = each_same (λ b. b.job) (λ b. b.unended) job bs apart
    (any-weaker (names_both number job) (λ b. same_job b.job job)
    (λ b t. and_right (b.number == number) (same_job b.job job) t) (filter (λ b. b.unended) bs) says)
spent_held bs number job false apart own says =
    all-both (λ b. same_job b.job job ≡ true → owns number b ≡ true)
    (λ b. b.unended ≡ true → names_both number job b ≡ true → ⊥)
    (λ b. same_job b.job job ≡ true → b.unended ≡ false)
    (λ b mine none same. is_false b.unended (λ up. none up
    (both (b.number == number) (same_job b.job job) (and_right b.unspent (b.number == number) (mine same))
    same)))
    bs own (none_among (λ b. b.unended) (names_both number job) bs says)

pub spent_rows : (bs : List BookedRow) (number : ℕ) (job : JobId) (says : Bool)
    → AreDistinct (map (λ b. b.job) bs)
    → list_any (λ u. (u.number == number) && same_job u.job job) (unspent_view bs) ≡ true
    → says ≡ list_any (λ h. (h.number == number) && same_job h.job job) (held_view bs)
    → AllByRecursion (λ b. same_job b.job job ≡ true → IsSpent says b) bs
spent_rows bs number job says apart some are =
    let own = spent_numbers bs number job apart some in
    all-both (λ b. same_job b.job job ≡ true → owns number b ≡ true)
    (λ b. same_job b.job job ≡ true → b.unended ≡ says)
    (λ b. same_job b.job job ≡ true → IsSpent says b)
    (λ b mine held same. record {
      unspent = and_left b.unspent (b.number == number) (mine same);
      unended = held same;
    }) bs own (spent_held bs number job says apart own
    (sym (are ∙ list_any-map (λ h. (h.number == number) && same_job h.job job) held_part_of
    (filter (λ b. b.unended) bs))))

pub any_spent : (bs : List BookedRow) (number : ℕ) (job : JobId)
    → list_any (λ u. (u.number == number) && same_job u.job job) (unspent_view bs) ≡ true
    → list_any (λ b. same_job b.job job) bs ≡ true
any_spent bs number job some =
    let free : List BookedRow = filter (λ b. b.unspent) bs in
    any-all (λ b. same_job b.job job) (λ b. b.unspent) bs
    (any-weaker (names_both number job) (λ b. same_job b.job job)
    (λ b t. and_right (b.number == number) (same_job b.job job) t) free
    (sym (list_any-map (λ u. (u.number == number) && same_job u.job job) unspent_part_of free) ∙ some))
