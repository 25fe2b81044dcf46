-- In each legal log the rows of the unended reservations have rising ids, and are all of them.
use Rattle.std.proofs.Common.{◌≡◌, ℕ, ◌<◌, ◌≤◌, ◌^◌, List, [], ◌∷◌, ◌++◌, Bool, true, false, cond, map}
use Rattle.std.proofs.Common.{length, Some, refl, ap, ◌∙◌, sym, subst, arith, append-nil, eq-eqb, eqb-true}
use Rattle.std.specs.Prelude.{◌==◌, nat_lt, unwrap_or}
use Rattle.std.specs.List.{AllByRecursion, filter_map, cons_option}
use Rattle.std.specs.List.Sorted.{IsPermutation}
use Rattle.std.specs.Option.{option_map}
use Rattle.std.proofs.lemmas.List.{length-map}
use Rattle.std.proofs.lemmas.List.Sorted.{IsPermutation-refl, IsPermutation-cons, IsPermutation-middle}
use Rattle.std.proofs.lemmas.List.Sorted.{IsPermutation-append_left, IsPermutation-trans, length_permutation}
use Rattle.dist_types.specs.declared.addr.Addr.{Addr}
use Rattle.dist_types.specs.declared.addr.Addr.TheVariants.{V4}
use Rattle.dist_types.specs.declared.ids.JobId.{JobId}
use Rattle.core_rules.specs.declared.start.Start.{Start}
use Rattle.core_rules.proofs.Lists.{map-map}
use Rattle.core_rules.specs.declared.entry.CoreEntry.{CoreEntry}
use Rattle.core_rules.specs.declared.rows.HeldRow.{HeldRow}
use Rattle.core_rules.specs.declared.rows.JobRow.{JobRow}
use Rattle.core_rules.specs.Log.{same_job}
use Rattle.core_rules.specs.Standing.{Registered, standing, address_of}
use Rattle.core_rules.specs.Reservation.{Booking, bookings, is_unended, unended}
use Rattle.core_rules.specs.Rows.{placed, sorted_into, held_of, job_row, unended_by_id, jobs_of}
use Rattle.core_rules.specs.Laws.{IsLegal, AreDistinct, AreRising, AreJobRows, HasStanding}
use Rattle.core_rules.proofs.AllLemmas.{true_false, other_job-sym, all-weaker, all-both, all-map, all-unmap}
use Rattle.core_rules.proofs.AllLemmas.{found, distinct-filter}
use Rattle.core_rules.proofs.RoomLemmas.{lt_true, lt_false}
use Rattle.core_rules.proofs.SortLemmas.{all-placed, sorted-all, sorted-map}
use Rattle.core_rules.proofs.SoundLemmas.{legal_distinct}
use Rattle.core_rules.proofs.HeldLemmas.{legal_standing}
use Rattle.core_rules.proofs.PlaceLemmas.{cards_are}

-- a reservation with the address of its registration
abbrev pub job_at : Addr → HeldRow → JobRow
job_at server h = record {
  number = h.number;
  job = h.job;
  reg = h.reg;
  server = server;
  reserved_at = h.reserved_at;
  state = h.state;
  ready_at = h.ready_at;
  claimed = h.claimed;
}

-- each is below those behind it
abbrev IsStrict : {X : Type 0} → (X → ℕ) → List X → Type 0
IsStrict number [] = Unit {0}
IsStrict number (x ∷ xs) = AllByRecursion (λ y. number x < number y) xs × IsStrict number xs

strict_rising : {X : Type 0} (number : X → ℕ) (xs : List X) → IsStrict number xs → AreRising (map number xs)
strict_rising number [] strict = tt
strict_rising number (x ∷ xs) strict =
    (all-map (λ m. number x < m) number xs strict.0, strict_rising number xs strict.1)

strict-placed : {X : Type 0} (number : X → ℕ) (x : X) (ys : List X) → IsStrict number ys
    → AllByRecursion (λ y. (number y == number x) ≡ false) ys → IsStrict number (placed number x ys)
strict-placed number x [] strict apart = (tt, tt)
strict-placed number x (y ∷ ys) strict apart = split (nat_lt (number x) (number y)) refl
    (strict-placed number x ys strict.1 apart.1)
  where
    split : (b : Bool) → nat_lt (number x) (number y) ≡ b → IsStrict number (placed number x ys)
        → IsStrict number (cond b (x ∷ y ∷ ys) (y ∷ placed number x ys))
    split true is rest =
        let lt : number x < number y = lt_true (number x) (number y) is in (
          (
            lt,
            all-weaker (λ z. number y < number z) (λ z. number x < number z)
                (λ z h. omega (arith, lt, h)) ys strict.0,
          ),
          strict,
        )
    split false is rest =
        let le : number y ≤ number x = lt_false (number x) (number y) is in
        let ne : number y ≡ number x → ⊥ = λ e. true_false (number y == number x)
        (eq-eqb (number y) (number x) e) apart.0 in
        let lt : number y < number x = omega (arith, le, ne) in
        (all-placed (λ z. number y < number z) number x ys lt strict.0, rest)

abbrev id_of : {X : Type 0} → (X → JobId) → X → ℕ
id_of job x = (job x).0

strict-sorted : {X : Type 0} (job : X → JobId) (done xs : List X) → IsStrict (id_of job) done
    → AllByRecursion (λ x. AllByRecursion (λ d. same_job (job d) (job x) ≡ false) done) xs
    → AreDistinct (map job xs) → IsStrict (id_of job) (sorted_into (id_of job) done xs)
strict-sorted job done [] strict away apart = strict
strict-sorted job done (x ∷ xs) strict away apart =
    strict-sorted job (placed (id_of job) x done) xs (strict-placed (id_of job) x done strict away.0)
    (all-both (λ y. AllByRecursion (λ d. same_job (job d) (job y) ≡ false) done)
    (λ y. same_job (job y) (job x) ≡ false)
    (λ y. AllByRecursion (λ d. same_job (job d) (job y) ≡ false) (placed (id_of job) x done))
    (λ y all other. all-placed (λ d. same_job (job d) (job y) ≡ false) (id_of job) x done
    (other_job-sym (job y) (job x) other) all) xs away.1
    (all-unmap (λ k. same_job k (job x) ≡ false) job xs apart.0))
    apart.1

all_away : {X : Type 0} (job : X → JobId) (xs : List X)
    → AllByRecursion (λ x. AllByRecursion (λ d. same_job (job d) (job x) ≡ false) []) xs
all_away job [] = tt
all_away job (x ∷ xs) = (tt, all_away job xs)

permutation-placed : {X : Type 0} (number : X → ℕ) (x : X) (ys : List X)
    → IsPermutation (x ∷ ys) (placed number x ys)
permutation-placed number x [] = IsPermutation-refl (x ∷ [])
permutation-placed number x (y ∷ ys) = split (nat_lt (number x) (number y)) (permutation-placed number x ys)
  where
    split : (b : Bool) → IsPermutation (x ∷ ys) (placed number x ys)
        → IsPermutation (x ∷ y ∷ ys) (cond b (x ∷ y ∷ ys) (y ∷ placed number x ys))
    split true rest = IsPermutation-refl (x ∷ y ∷ ys)
    split false rest = IsPermutation-trans (x ∷ y ∷ ys) (y ∷ x ∷ ys) (y ∷ placed number x ys)
        (IsPermutation-middle (x ∷ []) y ys) (IsPermutation-cons y (x ∷ ys) (placed number x ys) rest)

permutation-sorted : {X : Type 0} (number : X → ℕ) (done xs : List X)
    → IsPermutation (done ++ xs) (sorted_into number done xs)
permutation-sorted number done [] = subst (λ l. IsPermutation l done) (sym (append-nil done))
    (IsPermutation-refl done)
permutation-sorted number done (x ∷ xs) =
    IsPermutation-trans (done ++ x ∷ xs) (placed number x done ++ xs)
    (sorted_into number (placed number x done) xs)
    (IsPermutation-trans (done ++ x ∷ xs) (x ∷ (done ++ xs)) (placed number x done ++ xs)
    (IsPermutation-middle done x xs) (IsPermutation-append_left xs (x ∷ done) (placed number x done)
    (permutation-placed number x done)))
    (permutation-sorted number (placed number x done) xs)

-- each unended reservation is at a registration that has an address
abbrev HasAddress : List CoreEntry → ℕ → Type 0
HasAddress log reg = (server : Addr) × (address_of log reg ≡ Some server)

addressed : (log : List CoreEntry) → AllByRecursion (HasStanding log) (unended log)
    → AllByRecursion (λ b. HasAddress log b.reg) (unended log)
addressed log all = all-weaker (HasStanding log) (λ b. HasAddress log b.reg)
    (λ b some.
    let there : (g : Registered) × (address_of log g.reg ≡ Some g.server) × ((g.reg == b.reg) ≡ true) =
    found (λ g. address_of log g.reg ≡ Some g.server) (λ g. g.reg == b.reg) (standing log)
    (all-weaker _ (λ g. address_of log g.reg ≡ Some g.server) (λ g h. h.0) (standing log) (cards_are log))
    some in
    (there.0.server, ap (address_of log) (sym (eqb-true there.0.reg b.reg there.2)) ∙ there.1))
    (unended log) all

-- a reservation with the address of its registration, which it has
abbrev with_address : List CoreEntry → Booking → JobRow
with_address log b = job_at (unwrap_or (address_of log b.reg) (V4 [] 0)) (held_of b)

full_rows : (log : List CoreEntry) (bs : List Booking) → AllByRecursion (λ b. HasAddress log b.reg) bs
    → filter_map (job_row log) bs ≡ map (with_address log) bs
full_rows log [] all = refl
full_rows log (b ∷ bs) all =
    ap (λ o. cons_option (option_map (λ server. job_at server (held_of b)) o) (filter_map (job_row log) bs))
    all.0.1
    ∙ ap (λ js. job_at all.0.0 (held_of b) ∷ js) (full_rows log bs all.1)
    ∙ ap (λ o. job_at (unwrap_or o (V4 [] 0)) (held_of b) ∷ map (with_address log) bs) (sym all.0.1)

-- the rows are those of the unended reservations, sorted
jobs_sorted : (log : List CoreEntry) → AllByRecursion (λ b. HasAddress log b.reg) (unended log)
    → jobs_of log ≡ sorted_into (λ j. j.job.0) [] (filter_map (job_row log) (unended log))
jobs_sorted log all =
    full_rows log (unended_by_id log)
    (sorted-all (λ b. HasAddress log b.reg) (λ b. b.job.0) [] (unended log) tt all)
    ∙ sym (sorted-map (λ b. b.job.0) (λ j. j.job.0) (with_address log) (λ b. refl) (unended log))
    ∙ ap (sorted_into (λ j. j.job.0) []) (sym (full_rows log (unended log) all))

pub legal_jobs : (start : Start) (log : List CoreEntry) → start.count < 2 ^ 64 → IsLegal start log
    → AreJobRows log (jobs_of log)
legal_jobs start log fits legal =
    let all : AllByRecursion (λ b. HasAddress log b.reg) (unended log) =
    addressed log (legal_standing start log fits legal) in
    let rows : List JobRow = filter_map (job_row log) (unended log) in
    let made : rows ≡ map (with_address log) (unended log) = full_rows log (unended log) all in
    let ids : map (λ j. j.job) rows ≡ map (λ b. b.job) (unended log) = ap (map (λ j. j.job)) made
    ∙ map-map (λ j. j.job) (with_address log) (unended log) in
    let apart : AreDistinct (map (λ j. j.job) rows) = subst AreDistinct (sym ids)
    (distinct-filter (λ b. b.job) is_unended (bookings log) (legal_distinct start log fits legal)) in
    let sorted : List JobRow = sorted_into (λ j. j.job.0) [] rows in
    let order : IsPermutation rows sorted = permutation-sorted (λ j. j.job.0) [] rows in
    let many : length rows ≡ length (unended log) = ap length made ∙ length-map (unended log)
    (with_address log) in
    subst (AreJobRows log) (sym (jobs_sorted log all)) (record {
      rising = strict_rising (λ j. j.job.0) sorted
          (strict-sorted (λ j. j.job) [] rows tt (all_away (λ j. j.job) rows) apart);
      exact = order;
      all = length_permutation rows sorted order ∙ many;
    })
