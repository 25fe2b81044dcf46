-- The reservations by rising id: their ids follow one another, and begin anew at 0 at most once.
use Rattle.std.proofs.Common.{◌≡◌, ℕ, zero, suc, ◌+◌, ◌-◌, ◌%◌, ◌^◌, ◌<◌, ◌≤◌, List, [], ◌∷◌, ◌++◌, Bool}
use Rattle.std.proofs.Common.{true, false, cond, map}
use Rattle.std.proofs.Common.{filter, length, take, drop, refl, ap, ◌∙◌, sym, subst, arith, append-nil}
use Rattle.std.specs.List.{AllByRecursion}
use Rattle.std.proofs.lemmas.List.{map-append, append_assoc, take-append-drop, length-take, length-drop}
use Rattle.std.proofs.lemmas.List.Elements.{filter-append}
use Rattle.row_index.specs.Following.{AreFollowing}
use Rattle.reservations.specs.declared.booked.BookedRow.{BookedRow}
use Rattle.core_rules.specs.declared.rows.JobRow.{JobRow}
use Rattle.core_rules.specs.Rows.{placed, sorted_into}
use Rattle.reservations.specs.Booked.{job_part_of, job_view, jobs_by_id}
use Rattle.core_rules.proofs.AllLemmas.{all-weaker, all-both, all-append, all-filter, all-map}
use Rattle.core_rules.proofs.RoomLemmas.{lt_is, ge_is}

-- each is below those behind it
abbrev IsStrict : {X : Type 0} → (X → ℕ) → List X → Type 0
IsStrict number [] = Unit {0}
IsStrict number (x ∷ xs) = AllByRecursion (λ y. number x < number y) xs × IsStrict number xs

-- a row behind those below it and before those above it
placed_between : {X : Type 0} (number : X → ℕ) (x : X) (done above : List X)
    → AllByRecursion (λ d. number d < number x) done → AllByRecursion (λ y. number x < number y) above
    → placed number x (done ++ above) ≡ (done ++ x ∷ []) ++ above
placed_between number x [] [] below behind = refl
placed_between number x [] (y ∷ above) below behind =
    ap (λ b. cond b (x ∷ y ∷ above) (y ∷ placed number x above)) (lt_is (number x) (number y) behind.0)
placed_between number x (d ∷ done) above below behind =
    ap (λ b. cond b (x ∷ d ∷ (done ++ above)) (d ∷ placed number x (done ++ above)))
    (ge_is (number x) (number d) (let lt = below.0 in omega (arith, lt)))
    ∙ ap (λ l. d ∷ l) (placed_between number x done above below.1 behind)

all-next : {X : Type 0} (number : X → ℕ) (done : List X) (x : X) (xs : List X)
    → AllByRecursion (λ y. AllByRecursion (λ d. number d < number y) done) xs
    → AllByRecursion (λ y. number x < number y) xs
    → AllByRecursion (λ y. AllByRecursion (λ d. number d < number y) (done ++ x ∷ [])) xs
all-next number done x xs all behind = all-both (λ y. AllByRecursion (λ d. number d < number y) done)
    (λ y. number x < number y) (λ y. AllByRecursion (λ d. number d < number y) (done ++ x ∷ []))
    (λ y low lt. all-append (λ d. number d < number y) done (x ∷ []) low (lt, tt)) xs all behind

-- rising rows, put among those below and those above them
sorted_between : {X : Type 0} (number : X → ℕ) (done above xs : List X) → IsStrict number xs
    → AllByRecursion (λ x. AllByRecursion (λ d. number d < number x) done) xs
    → AllByRecursion (λ x. AllByRecursion (λ y. number x < number y) above) xs
    → sorted_into number (done ++ above) xs ≡ (done ++ xs) ++ above
sorted_between number done above [] strict below behind = ap (λ l. l ++ above) (sym (append-nil done))
sorted_between number done above (x ∷ xs) strict below behind =
    ap (λ l. sorted_into number l xs) (placed_between number x done above below.0 behind.0)
    ∙ sorted_between number (done ++ x ∷ []) above xs strict.1
    (all-next number done x xs below.1 strict.0) behind.1
    ∙ ap (λ l. l ++ above) (append_assoc done (x ∷ []) xs)

sorted-append : {X : Type 0} (number : X → ℕ) (done xs ys : List X)
    → sorted_into number done (xs ++ ys) ≡ sorted_into number (sorted_into number done xs) ys
sorted-append number done [] ys = refl
sorted-append number done (x ∷ xs) ys = sorted-append number (placed number x done) xs ys

all_nothing : {X : Type 0} (P : X → X → Type 0) (xs : List X)
    → AllByRecursion (λ x. AllByRecursion (P x) []) xs
all_nothing P [] = tt
all_nothing P (x ∷ xs) = (tt, all_nothing P xs)

-- two rising lists, of which the second is below the first
sorted_two : {X : Type 0} (number : X → ℕ) (xs ys : List X) → IsStrict number xs → IsStrict number ys
    → AllByRecursion (λ y. AllByRecursion (λ x. number y < number x) xs) ys
    → sorted_into number [] (xs ++ ys) ≡ ys ++ xs
sorted_two number xs ys first second apart =
    sorted-append number [] xs ys
    ∙ ap (λ l. sorted_into number l ys) (sorted_between number [] [] xs first
    (all_nothing (λ x d. number d < number x) xs) (all_nothing (λ x y. number x < number y) xs)
    ∙ append-nil xs)
    ∙ sorted_between number [] xs ys second (all_nothing (λ x d. number d < number x) ys) apart

-- rows whose ids follow one another without beginning anew

abbrev id : BookedRow → ℕ
id b = b.job.0

above : (n : ℕ) (bs : List BookedRow) → AreFollowing id n bs → n + length bs ≤ 2 ^ 64
    → AllByRecursion (λ b. (n ≤ id b) × (id b < n + length bs)) bs
above n [] are few = tt
above n (b ∷ bs) are few =
    let own : id b ≡ n = are.0 ∙ small n (omega (arith, few)) in
    let rest : AllByRecursion (λ c. (n + 1 ≤ id c) × (id c < (n + 1) + length bs)) bs =
    above (n + 1) bs are.1 (omega (arith, few)) in (
      (omega (arith, own), omega (arith, own)),
      all-weaker (λ c. (n + 1 ≤ id c) × (id c < (n + 1) + length bs))
          (λ c. (n ≤ id c) × (id c < n + length (b ∷ bs)))
          (λ c h. (let low = h.0 in omega (arith, low), let high = h.1 in omega (arith, high))) bs rest,
    )
  where
    small : (m : ℕ) → m < 2 ^ 64 → m % 2 ^ 64 ≡ m
    small m lt = omega (arith, lt)

strict : (n : ℕ) (bs : List BookedRow) → AreFollowing id n bs → n + length bs ≤ 2 ^ 64 → IsStrict id bs
strict n [] are few = tt
strict n (b ∷ bs) are few =
    let here : AllByRecursion (λ c. (n ≤ id c) × (id c < n + length (b ∷ bs))) (b ∷ bs) =
    above n (b ∷ bs) are few in
    let own : id b ≡ n = are.0 ∙ small n (omega (arith, few)) in
    let rest : AllByRecursion (λ c. (n + 1 ≤ id c) × (id c < (n + 1) + length bs)) bs =
    above (n + 1) bs are.1 (omega (arith, few)) in (
      all-weaker (λ c. (n + 1 ≤ id c) × (id c < (n + 1) + length bs)) (λ c. id b < id c)
          (λ c h. let low = h.0 in omega (arith, low, own)) bs rest,
      strict (n + 1) bs are.1 (omega (arith, few)),
    )
  where
    small : (m : ℕ) → m < 2 ^ 64 → m % 2 ^ 64 ≡ m
    small m lt = omega (arith, lt)

following_take : (n k : ℕ) (bs : List BookedRow) → AreFollowing id n bs → AreFollowing id n (take k bs)
following_take n zero [] are = tt
following_take n zero (b ∷ bs) are = tt
following_take n (suc k) [] are = tt
following_take n (suc k) (b ∷ bs) are = (are.0, following_take (n + 1) k bs are.1)

following_drop : (n k : ℕ) (bs : List BookedRow) → AreFollowing id n bs → AreFollowing id (n + k) (drop k bs)
following_drop n zero [] are = tt
following_drop n zero (b ∷ bs) are = subst (λ m. AreFollowing id m (b ∷ bs)) (none n) are
  where
    none : (m : ℕ) → m ≡ m + 0
    none m = omega arith
following_drop n (suc k) [] are = tt
following_drop n (suc k) (b ∷ bs) are = subst (λ m. AreFollowing id m (drop k bs)) (sum n k)
    (following_drop (n + 1) k bs are.1)
  where
    sum : (m j : ℕ) → (m + 1) + j ≡ m + suc j
    sum m j = omega arith

-- ids that are 2^64 apart are the same
following_anew : (n m : ℕ) (bs : List BookedRow) → n % 2 ^ 64 ≡ m % 2 ^ 64 → AreFollowing id n bs
    → AreFollowing id m bs
following_anew n m [] same are = tt
following_anew n m (b ∷ bs) same are = (are.0 ∙ same, following_anew (n + 1) (m + 1) bs (next n m same) are.1)
  where
    next : (i j : ℕ) → i % 2 ^ 64 ≡ j % 2 ^ 64 → (i + 1) % 2 ^ 64 ≡ (j + 1) % 2 ^ 64
    next i j alike = omega (arith, alike)

strict_filter : (p : BookedRow → Bool) (bs : List BookedRow) → IsStrict id bs → IsStrict id (filter p bs)
strict_filter p [] up = tt
strict_filter p (b ∷ bs) up = split (p b)
    (all-filter (λ c. id b < id c) (λ c. id b < id c) p (λ c h t. h) bs up.0) (strict_filter p bs up.1)
  where
    split : (t : Bool) → AllByRecursion (λ c. id b < id c) (filter p bs) → IsStrict id (filter p bs)
        → IsStrict id (cond t (b ∷ filter p bs) (filter p bs))
    split true low rest = (low, rest)
    split false low rest = rest

strict_map : (bs : List BookedRow) → IsStrict id bs → IsStrict (λ j. j.job.0) (map job_part_of bs)
strict_map [] up = tt
strict_map (b ∷ bs) up = (all-map (λ j. b.job.0 < j.job.0) job_part_of bs up.0, strict_map bs up.1)

strict_view : (bs : List BookedRow) → IsStrict id bs → IsStrict (λ j. j.job.0) (job_view bs)
strict_view bs up = strict_map (filter (λ b. b.unended) bs) (strict_filter (λ b. b.unended) bs up)

all_view : (P : ℕ → Type 0) (bs : List BookedRow) → AllByRecursion (λ b. P (id b)) bs
    → AllByRecursion (λ j. P j.job.0) (job_view bs)
all_view P bs all = all-map (λ j. P j.job.0) job_part_of (filter (λ b. b.unended) bs)
    (all-filter (λ b. P (id b)) (λ b. P (id b)) (λ b. b.unended) (λ b h t. h) bs all)

job_append : (bs cs : List BookedRow) → job_view (bs ++ cs) ≡ job_view bs ++ job_view cs
job_append bs cs = ap (map job_part_of) (filter-append (λ b. b.unended) bs cs)
    ∙ map-append job_part_of (filter (λ b. b.unended) bs) (filter (λ b. b.unended) cs)

from_zero : (n : ℕ) (bs : List BookedRow) → AreFollowing id n bs → (0 < length bs → n % 2 ^ 64 ≡ 0)
    → AreFollowing id 0 bs
from_zero n [] are anew = tt
from_zero n (b ∷ bs) are anew = following_anew n 0 (b ∷ bs) (zeros n (anew (omega arith))) are
  where
    zeros : (m : ℕ) → m % 2 ^ 64 ≡ 0 → m % 2 ^ 64 ≡ 0 % 2 ^ 64
    zeros m e = omega (arith, e)

-- rows below some id, and rows from it on
apart : (first many : ℕ) (front rest : List BookedRow) → AllByRecursion (λ b. first ≤ id b) front
    → AllByRecursion (λ b. id b < many) rest → (0 < length front → 0 < length rest → many ≤ first)
    → AllByRecursion (λ y. AllByRecursion (λ x. y.job.0 < x.job.0) (job_view front)) (job_view rest)
apart first many front [] low high less = tt
apart first many [] (b ∷ rest) low high less = all_nothing (λ y x. y.job.0 < x.job.0) (job_view (b ∷ rest))
apart first many (f ∷ front) (b ∷ rest) low high less =
    let le : many ≤ first = less (omega arith) (omega arith) in
    all_view (λ n. AllByRecursion (λ x. n < x.job.0) (job_view (f ∷ front))) (b ∷ rest)
    (all-weaker (λ c. id c < many) (λ c. AllByRecursion (λ x. id c < x.job.0) (job_view (f ∷ front)))
    (λ c lt. all_view (λ m. id c < m) (f ∷ front)
    (all-weaker (λ d. first ≤ id d) (λ d. id c < id d) (λ d from. omega (arith, lt, le, from)) (f ∷ front)
    low))
    (b ∷ rest) high)

-- those from the id 0 on, and then those before it
pub by_id : (first : ℕ) (bs : List BookedRow) (i : ℕ) → AreFollowing id first bs → length bs < 2 ^ 63
    → i ≤ length bs → first + i ≤ 2 ^ 64 → (i < length bs → (first + i) % 2 ^ 64 ≡ 0)
    → job_view (drop i bs) ++ job_view (take i bs) ≡ jobs_by_id bs
by_id first bs i are few within low anew =
    let front : List BookedRow = take i bs in
    let rest : List BookedRow = drop i bs in
    let count : length front ≡ i = (let taken = length-take i bs in omega (arith, taken, within)) in
    let behind : length rest ≡ length bs - i = length-drop i bs in
    let front_are : AreFollowing id first front = following_take first i bs are in
    let front_fits : first + length front ≤ 2 ^ 64 = omega (arith, low, count) in
    let rest_are : AreFollowing id 0 rest = from_zero (first + i) rest (following_drop first i bs are)
    (λ some. anew (omega (arith, some, behind))) in
    let rest_fits : 0 + length rest ≤ 2 ^ 64 = omega (arith, behind, few) in
    sym (sorted_two (λ (j : JobRow). j.job.0) (job_view front) (job_view rest)
    (strict_view front (strict first front front_are front_fits))
    (strict_view rest (strict 0 rest rest_are rest_fits))
    (apart first (0 + length rest) front rest
    (all-weaker (λ b. (first ≤ id b) × (id b < first + length front)) (λ b. first ≤ id b) (λ b h. h.0) front
    (above first front front_are front_fits))
    (all-weaker (λ b. (0 ≤ id b) × (id b < 0 + length rest)) (λ b. id b < 0 + length rest) (λ b h. h.1) rest
    (above 0 rest rest_are rest_fits))
    (λ some more. let wraps = anew (omega (arith, more, behind)) in
    omega (arith, some, count, wraps, low, few, within, behind))))
    ∙ ap (sorted_into (λ (j : JobRow). j.job.0) []) (sym (job_append front rest)
    ∙ ap job_view (take-append-drop i bs))
