-- The loads after one more reservation that an entry ends.
use Rattle.std.proofs.Common.{◌≡◌, ℕ, zero, suc, ◌+◌, ◌-◌, ◌<◌, ◌≤◌, Option, subst, List, [], ◌∷◌, ◌++◌}
use Rattle.std.proofs.Common.{Bool, true, false, cond, ◌&&◌, map}
use Rattle.std.proofs.Common.{drop, ◌||◌, length, get_or, refl, ap, ◌∙◌, sym, arith, eqb-true, eq-eqb}
use Rattle.std.proofs.Common.{filter, append-nil}
use Rattle.std.specs.Prelude.{◌==◌}
use Rattle.std.specs.Prelude.{count_by}
use Rattle.std.specs.List.{AllByRecursion}
use Rattle.std.proofs.lemmas.Bool.{false≢true}
use Rattle.std.proofs.lemmas.List.{map-append, append_assoc}
use Rattle.std.proofs.lemmas.List.Elements.{filter-append}
use Rattle.std.proofs.lemmas.List.Sums.{sum_by_push, sum_by-cons, sum_by-append}
use Rattle.dist_types.specs.declared.addr.Addr.{Addr}
use Rattle.dist_types.specs.declared.ids.JobId.{JobId}
use Rattle.row_index.specs.Following.{HasNone, IsRowOf}
use Rattle.core_rules.proofs.Lists.{map-map}
use Rattle.core_rules.specs.declared.entry.CoreKind.{CoreKind}
use Rattle.core_rules.specs.declared.entry.CoreKind.TheVariants.{Beat, Status}
use Rattle.core_rules.specs.declared.rows.ServerRow.{ServerRow}
use Rattle.core_rules.specs.declared.rows.HeldRow.{HeldRow}
use Rattle.core_rules.specs.Log.{same_job, names_job}
use Rattle.core_rules.specs.Standing.{ends_by}
use Rattle.core_rules.specs.Reservation.{frees_by}
use Rattle.reservations.specs.declared.booked.BookedRow.{BookedRow}
use Rattle.core_rules.specs.Next.{row_freed, row_stays}
use Rattle.sched_core.specs.Books.{row_lowered}
use Rattle.reservations.specs.Booked.{held_part_of, held_view}
use Rattle.core_rules.proofs.AllLemmas.{all-weaker, all-map, all-filter}
use Rattle.core_rules.specs.Laws.{AreDistinct}
use Rattle.sched_core.specs.Changes.{jobs_at, row_without}
use Rattle.core_rules.proofs.AllLemmas.{same_job-eq, same_job-sym, not_true, is_false, true_false}
use Rattle.reservations.proofs.OwnRowLemmas.{drop_next, drop_all}
use Rattle.core_rules.proofs.GrowLemmas.{map-agree, map-all_agree}

-- how many of the reservations at a registration pass the test of their job and registration
abbrev freed_count : (JobId → ℕ → Bool) → List HeldRow → ℕ → ℕ
freed_count test held reg = count_by (λ h. test h.job h.reg && (h.reg == reg)) held

-- a row without those
abbrev freed_of : (JobId → ℕ → Bool) → List HeldRow → ServerRow → ServerRow
freed_of test held row = record row { load = row.load - freed_count test held row.reg }

freed_step : (f : Bool) (reg freed : ℕ) (row : ServerRow)
    → cond f (row_lowered reg (record row { load = row.load - freed }))
    (record row { load = row.load - freed }) ≡ record row
    { load = row.load - (freed + cond (f && (reg == row.reg)) 1 0) }
freed_step false reg freed row = ap (λ n. record row { load = n }) (omega arith)
freed_step true reg freed row = elim (reg == row.reg) as
    (λ b. record row { load = cond b (row.load - freed - 1) (row.load - freed) } ≡ record row
    { load = row.load - (freed + cond b 1 0) }) [
      | true ↦ ap (λ n. record row { load = n })
          (omega arith)
      | false ↦ ap (λ n. record row { load = n }) (omega arith)
    ]

freed_one : (test : JobId → ℕ → Bool) (held : List HeldRow) (h : HeldRow) (row : ServerRow)
    → cond (test h.job h.reg) (row_lowered h.reg (freed_of test held row))
    (freed_of test held row) ≡ freed_of test (held ++ h ∷ []) row
freed_one test held h row =
    freed_step (test h.job h.reg) h.reg (freed_count test held row.reg) row
    ∙ ap (λ n. record row { load = row.load - n })
    (sym (sum_by_push (λ x. cond (test x.job x.reg && (x.reg == row.reg)) 1 0) held h))

abbrev freed_booked : (JobId → ℕ → Bool) → BookedRow → Bool
freed_booked test b = b.unended && test b.job b.reg

held_push : (bs : List BookedRow) (b : BookedRow)
    → held_view (bs ++ b ∷ []) ≡ held_view bs ++ cond b.unended (held_part_of b ∷ []) []
held_push bs b = ap (map held_part_of) (filter-append (λ c. c.unended) bs (b ∷ []))
    ∙ map-append held_part_of (filter (λ c. c.unended) bs) (filter (λ c. c.unended) (b ∷ []))
    ∙ ap (λ l. held_view bs ++ l) (split b.unended)
  where
    split : (t : Bool) → map held_part_of (cond t (b ∷ []) []) ≡ cond t (held_part_of b ∷ []) []
    split true = refl
    split false = refl

-- one reservation more
freed_row : (test : JobId → ℕ → Bool) (bs : List BookedRow) (b : BookedRow) (row : ServerRow)
    → cond (freed_booked test b) (row_lowered b.reg (freed_of test (held_view bs) row))
    (freed_of test (held_view bs) row) ≡ freed_of test (held_view (bs ++ b ∷ [])) row
freed_row test bs b row = split b.unended
    ∙ ap (λ hs. freed_of test hs row) (sym (held_push bs b))
  where
    split : (t : Bool) → cond (t && test b.job b.reg)
        (row_lowered b.reg (freed_of test (held_view bs) row)) (freed_of test (held_view bs) row)
        ≡ freed_of test (held_view bs ++ cond t (held_part_of b ∷ []) []) row
    split true = freed_one test (held_view bs) (held_part_of b) row
    split false = ap (λ hs. freed_of test hs row) (sym (append-nil (held_view bs)))

freed_next : (test : JobId → ℕ → Bool) (bs : List BookedRow) (b : BookedRow) (first rows new : List ServerRow)
    → rows ≡ map (freed_of test (held_view bs)) first →
    (freed_booked test b ≡ true → new ≡ map (row_lowered b.reg) rows)
    → (freed_booked test b ≡ false → new ≡ rows)
    → new ≡ map (freed_of test (held_view (bs ++ b ∷ []))) first
freed_next test bs b first rows new so_far freed kept = split (freed_booked test b) refl
  where
    split : (t : Bool) → freed_booked test b ≡ t → new ≡ map (freed_of test (held_view (bs ++ b ∷ []))) first
    split true t = freed t ∙ ap (map (row_lowered b.reg)) so_far
        ∙ map-map (row_lowered b.reg) (freed_of test (held_view bs)) first
        ∙ map-agree (λ r. row_lowered b.reg (freed_of test (held_view bs) r))
        (freed_of test (held_view (bs ++ b ∷ [])))
        (λ r. ap (λ c. cond c (row_lowered b.reg (freed_of test (held_view bs) r))
        (freed_of test (held_view bs) r)) (sym t) ∙ freed_row test bs b r) first
    split false t = kept t ∙ so_far
        ∙ map-agree (freed_of test (held_view bs)) (freed_of test (held_view (bs ++ b ∷ [])))
        (λ r. ap (λ c. cond c (row_lowered b.reg (freed_of test (held_view bs) r))
        (freed_of test (held_view bs) r)) (sym t) ∙ freed_row test bs b r) first

-- no reservation is freed
freed_none : (test : JobId → ℕ → Bool) (reg : ℕ) (held : List HeldRow)
    → AllByRecursion (λ h. test h.job h.reg ≡ false) held → freed_count test held reg ≡ 0
freed_none test reg [] all = refl
freed_none test reg (h ∷ held) all =
    let more = sum_by-cons (λ x. cond (test x.job x.reg && (x.reg == reg)) 1 0) h held in
    let here : ◌≡◌ {A = ℕ} (cond (test h.job h.reg && (h.reg == reg)) 1 0) 0 =
    ap (λ t. cond {A = ℕ} (t && (h.reg == reg)) 1 0) all.0 in
    let rest = freed_none test reg held all.1 in
    omega (arith, more, here, rest)

pub none_freed : (test : JobId → ℕ → Bool) (held : List HeldRow) (rows : List ServerRow)
    → AllByRecursion (λ h. test h.job h.reg ≡ false) held → rows ≡ map (freed_of test held) rows
none_freed test held [] all = refl
none_freed test held (r ∷ rows) all =
    ap (λ n. record r { load = n } ∷ rows) (omega (arith, freed_none test r.reg held all))
    ∙ ap (λ l. freed_of test held r ∷ l) (none_freed test held rows all)

all_held : (test : JobId → ℕ → Bool) (bs : List BookedRow)
    → AllByRecursion (λ b. test b.job b.reg ≡ false) bs
    → AllByRecursion (λ h. test h.job h.reg ≡ false) (held_view bs)
all_held test bs all =
    all-map (λ h. test h.job h.reg ≡ false) held_part_of (filter (λ b. b.unended) bs)
    (all-filter (λ b. test b.job b.reg ≡ false) (λ b. test b.job b.reg ≡ false)
    (λ b. b.unended)
    (λ b h t. h) bs all)

others_kept : (test : JobId → ℕ → Bool) (job : JobId) (bs : List BookedRow) → ((b : BookedRow)
    → (b.job.0 == job.0) ≡ false → test b.job b.reg ≡ false)
    → HasNone (λ b. b.job.0) bs job.0 → AllByRecursion (λ b. test b.job b.reg ≡ false) bs
others_kept test job bs other none = all-weaker (λ b. (b.job.0 == job.0) ≡ false)
    (λ b. test b.job b.reg ≡ false) (λ b h. other b h) bs none

each_kept : (test : JobId → ℕ → Bool) (bs : List BookedRow) → ((b : BookedRow) → test b.job b.reg ≡ false)
    → AllByRecursion (λ b. test b.job b.reg ≡ false) bs
each_kept test [] never = tt
each_kept test (b ∷ bs) never = (never b, each_kept test bs never)

pub never_freed : (test : JobId → ℕ → Bool) (bs : List BookedRow) (rows : List ServerRow)
    → ((b : BookedRow) → test b.job b.reg ≡ false) → rows ≡ map (freed_of test (held_view bs)) rows
never_freed test bs rows never =
    none_freed test (held_view bs) rows (all_held test bs (each_kept test bs never))

pub job_gone : (test : JobId → ℕ → Bool) (job : JobId) (bs : List BookedRow) (rows : List ServerRow)
    → ((b : BookedRow) → (b.job.0 == job.0) ≡ false → test b.job b.reg ≡ false)
    → HasNone (λ b. b.job.0) bs job.0 → rows ≡ map (freed_of test (held_view bs)) rows
job_gone test job bs rows other none = none_freed test (held_view bs) rows
    (all_held test bs (others_kept test job bs other none))

freed_sum : (test : JobId → ℕ → Bool) (reg : ℕ) (front rest : List BookedRow) (row : BookedRow)
    → AllByRecursion (λ b. test b.job b.reg ≡ false) rest
    → freed_count test (held_view (front ++ row ∷ rest)) reg
    ≡ freed_count test (held_view (front ++ row ∷ [])) reg
freed_sum test reg front rest row all =
    ap (λ l. freed_count test (held_view l) reg) (sym (append_assoc front (row ∷ []) rest))
    ∙ ap (λ hs. freed_count test hs reg)
    (ap (map held_part_of) (filter-append (λ b. b.unended) (front ++ row ∷ []) rest)
    ∙ map-append held_part_of (filter (λ b. b.unended) (front ++ row ∷ [])) (filter (λ b. b.unended) rest))
    ∙ sum_by-append (λ x. cond (test x.job x.reg && (x.reg == reg)) 1 0)
    (held_view (front ++ row ∷ [])) (held_view rest)
    ∙ ap (λ n. freed_count test (held_view (front ++ row ∷ [])) reg + n)
    (freed_none test reg (held_view rest) (all_held test rest all))
    ∙ no_more (freed_count test (held_view (front ++ row ∷ [])) reg)
  where
    no_more : (n : ℕ) → n + 0 ≡ n
    no_more n = omega arith

-- the reservation of the one job that an entry names
pub job_freed : (test : JobId → ℕ → Bool) (job : JobId) (bs : List BookedRow) (row : BookedRow)
    (rows new : List ServerRow)
    → ((b : BookedRow) → (b.job.0 == job.0) ≡ false → test b.job b.reg ≡ false)
    → IsRowOf (λ b. b.job.0) bs job.0 row
    → (freed_booked test row ≡ true → new ≡ map (row_lowered row.reg) rows)
    → (freed_booked test row ≡ false → new ≡ rows)
    → new ≡ map (freed_of test (held_view bs)) rows
job_freed test job bs row rows new other is freed kept =
    freed_next test is.front row rows rows new (job_gone test job is.front rows other is.before) freed kept
    ∙ map-agree (freed_of test (held_view (is.front ++ row ∷ [])))
    (freed_of test (held_view (is.front ++ row ∷ is.rest)))
    (λ r. ap (λ n. record r { load = r.load - n })
    (sym (freed_sum test r.reg is.front is.rest row (others_kept test job is.rest other is.behind)))) rows
    ∙ ap (λ l. map (freed_of test (held_view l)) rows) (sym is.are)

-- two tests that agree on the reservations at a registration
counts_agree : (test other : JobId → ℕ → Bool) (reg : ℕ) (held : List HeldRow)
    → ((h : HeldRow) → (test h.job h.reg && (h.reg == reg)) ≡ (other h.job h.reg && (h.reg == reg)))
    → freed_count test held reg ≡ freed_count other held reg
counts_agree test other reg [] same = refl
counts_agree test other reg (h ∷ held) same =
    let first = sum_by-cons (λ x. cond (test x.job x.reg && (x.reg == reg)) 1 0) h held in
    let second = sum_by-cons (λ x. cond (other x.job x.reg && (x.reg == reg)) 1 0) h held in
    let here : ◌≡◌ {A = ℕ} (cond (test h.job h.reg && (h.reg == reg)) 1 0)
    (cond (other h.job h.reg && (h.reg == reg)) 1 0) = ap (λ t. cond {A = ℕ} t 1 0) (same h) in
    let rest = counts_agree test other reg held same in
    omega (arith, first, second, here, rest)

-- where an entry leaves the registration standing, it frees there what it frees by its job
at_standing : (kind : CoreKind) (test : JobId → ℕ → Bool) (reg : ℕ) → ends_by kind reg ≡ false
    → ((job : JobId) (r : ℕ) → frees_by kind job r ≡ (test job r || ends_by kind r)) → (h : HeldRow)
    → (test h.job h.reg && (h.reg == reg)) ≡ (frees_by kind h.job h.reg && (h.reg == reg))
at_standing kind test reg stands frees h = split (h.reg == reg) refl
    ∙ ap (λ t. t && (h.reg == reg)) (sym (frees h.job h.reg))
  where
    or_no : (a : Bool) → a ≡ (a || false)
    or_no true = refl
    or_no false = refl

    and_none : (a b : Bool) → (a && false) ≡ (b && false)
    and_none true true = refl
    and_none true false = refl
    and_none false true = refl
    and_none false false = refl

    split : (t : Bool) → (h.reg == reg) ≡ t
        → (test h.job h.reg && t) ≡ ((test h.job h.reg || ends_by kind h.reg) && t)
    split true e = ap (λ a. a && true) (or_no (test h.job h.reg)
        ∙ ap (λ b. test h.job h.reg || b) (sym (ap (ends_by kind) (eqb-true h.reg reg e) ∙ stands)))
    split false e = and_none (test h.job h.reg) (test h.job h.reg || ends_by kind h.reg)

rows_standing : (kind : CoreKind) (test : JobId → ℕ → Bool) (held : List HeldRow) (rows : List ServerRow)
    → ((job : JobId) (r : ℕ) → frees_by kind job r ≡ (test job r || ends_by kind r))
    → AllByRecursion (λ r. row_stays kind r ≡ true) rows
    → map (freed_of test held) rows ≡ map (row_freed kind held) rows
rows_standing kind test held rows frees stay = map-all_agree (freed_of test held) (row_freed kind held) rows
    (all-weaker (λ r. row_stays kind r ≡ true) (λ r. freed_of test held r ≡ row_freed kind held r)
    (λ r stays. ap (λ n. record r { load = r.load - n })
    (counts_agree test (frees_by kind) r.reg held
    (at_standing kind test r.reg (not_true (ends_by kind r.reg) stays) frees))) rows stay)

-- a heartbeat frees there what it reaps
pub beat_freed : (server : Addr) (nonce cpus : ℕ) (key pruned : List ℕ) (reaped : List JobId)
    (replaced : Option ℕ) (is_new : Bool) (held : List HeldRow) (rows : List ServerRow)
    → AllByRecursion (λ r. row_stays (Beat server nonce cpus key pruned reaped replaced is_new) r ≡ true) rows
    → map (row_without reaped held) rows
    ≡ map (row_freed (Beat server nonce cpus key pruned reaped replaced is_new) held) rows
beat_freed server nonce cpus key pruned reaped replaced is_new held rows stay =
    let kind = Beat server nonce cpus key pruned reaped replaced is_new in
    rows_standing kind (λ job r. names_job reaped job) held rows
    (λ job r. ap (λ t. t || ends_by kind r) (or_no (names_job reaped job))) stay
  where
    or_no : (a : Bool) → (a || false) ≡ a
    or_no true = refl
    or_no false = refl

-- and a status nothing
pub status_freed : (pruned : List ℕ) (servers cpus n : ℕ) (bs : List BookedRow) (rows : List ServerRow)
    → AllByRecursion (λ r. row_stays (Status pruned servers cpus n) r ≡ true) rows
    → rows ≡ map (row_freed (Status pruned servers cpus n) (held_view bs)) rows
status_freed pruned servers cpus n bs rows stay =
    never_freed (λ job r. false) bs rows (λ b. refl)
    ∙ rows_standing (Status pruned servers cpus n) (λ job r. false) (held_view bs) rows (λ job r. refl) stay

pub all_pass : {X : Type 0} (p : X → Bool) (xs : List X) → AllByRecursion (λ x. p x ≡ true) (filter p xs)
all_pass p [] = tt
all_pass p (x ∷ xs) = split (p x) refl (all_pass p xs)
  where
    split : (t : Bool) → p x ≡ t → AllByRecursion (λ x. p x ≡ true) (filter p xs)
        → AllByRecursion (λ x. p x ≡ true) (cond t (x ∷ filter p xs) (filter p xs))
    split true e rest = (e, rest)
    split false e rest = rest

-- one job after another

none_named : (job : JobId) (jobs : List JobId) → AllByRecursion (λ k. same_job k job ≡ false) jobs
    → names_job jobs job ≡ false
none_named job [] all = refl
none_named job (j ∷ jobs) all = ap (λ t. t || names_job jobs job) all.0 ∙ none_named job jobs all.1

one_more : (job : JobId) (jobs : List JobId) (reg : ℕ) (held : List HeldRow)
    → AllByRecursion (λ k. same_job k job ≡ false) jobs
    → jobs_at (job ∷ jobs) held reg ≡ jobs_at (job ∷ []) held reg + jobs_at jobs held reg
one_more job jobs reg [] apart = refl
one_more job jobs reg (h ∷ held) apart =
    let all = sum_by-cons (λ x. cond (names_job (job ∷ jobs) x.job && (x.reg == reg)) 1 0) h held in
    let first = sum_by-cons (λ x. cond (names_job (job ∷ []) x.job && (x.reg == reg)) 1 0) h held in
    let others = sum_by-cons (λ x. cond (names_job jobs x.job && (x.reg == reg)) 1 0) h held in
    let here = split (same_job job h.job) refl (names_job jobs h.job) refl (h.reg == reg) in
    let rest = one_more job jobs reg held apart in
    omega (arith, all, first, others, here, rest)
  where
    split : (s : Bool) → same_job job h.job ≡ s → (n : Bool) → names_job jobs h.job ≡ n → (r : Bool)
        → ◌≡◌ {A = ℕ} (cond ((s || n) && r) 1 0) (cond ((s || false) && r) 1 0 + cond (n && r) 1 0)
    split true e true d r = absurd (false≢true (sym (none_named job jobs apart)
        ∙ ap (names_job jobs) (same_job-eq job h.job e) ∙ d))
    split true e false d true = refl
    split true e false d false = refl
    split false e true d true = refl
    split false e true d false = refl
    split false e false d r = refl

without_one : (job : JobId) (jobs : List JobId) (held : List HeldRow) (rows : List ServerRow)
    → AllByRecursion (λ k. same_job k job ≡ false) jobs
    → map (row_without jobs held) (map (row_without (job ∷ []) held) rows)
    ≡ map (row_without (job ∷ jobs) held) rows
without_one job jobs held rows apart = map-map (row_without jobs held) (row_without (job ∷ []) held) rows
    ∙ map-agree (λ r. row_without jobs held (row_without (job ∷ []) held r)) (row_without (job ∷ jobs) held)
    (λ r. ap (λ n. record r { load = n }) (less r.load (jobs_at (job ∷ []) held r.reg) (jobs_at jobs held
    r.reg)
    (jobs_at (job ∷ jobs) held r.reg) (one_more job jobs r.reg held apart))) rows
  where
    less : (load a b c : ℕ) → c ≡ a + b → load - a - b ≡ load - c
    less load a b c is = omega (arith, is)

distinct_rest : (jobs : List JobId) (i : ℕ) → AreDistinct jobs → AreDistinct (drop i jobs)
distinct_rest [] zero apart = tt
distinct_rest [] (suc i) apart = tt
distinct_rest (j ∷ jobs) zero apart = apart
distinct_rest (j ∷ jobs) (suc i) apart = distinct_rest jobs i apart.1

-- one turn of a pass over jobs
pub without_next : (jobs : List JobId) (i : ℕ) (job : JobId) (held : List HeldRow) (first rows new : List
    ServerRow)
    → AreDistinct jobs → i < length jobs → job ≡ get_or jobs i job
    → map (row_without (drop i jobs) held) rows ≡ map (row_without jobs held) first
    → new ≡ map (row_without (job ∷ []) held) rows
    → map (row_without (drop (i + 1) jobs) held) new ≡ map (row_without jobs held) first
without_next jobs i job held first rows new apart lt is so_far does =
    let cut : drop i jobs ≡ job ∷ drop (i + 1) jobs = drop_next jobs i job lt is in
    let all : AreDistinct (job ∷ drop (i + 1) jobs) = subst AreDistinct cut (distinct_rest jobs i apart) in
    ap (map (row_without (drop (i + 1) jobs) held)) does
    ∙ without_one job (drop (i + 1) jobs) held rows all.0
    ∙ ap (λ js. map (row_without js held) rows) (sym cut) ∙ so_far

none_at : (held : List HeldRow) (reg : ℕ) → jobs_at [] held reg ≡ 0
none_at [] reg = refl
none_at (h ∷ held) reg =
    let more = sum_by-cons (λ x. cond (names_job [] x.job && (x.reg == reg)) 1 0) h held in
    let rest = none_at held reg in
    omega (arith, more, rest)

none_without : (held : List HeldRow) (rows : List ServerRow) → map (row_without [] held) rows ≡ rows
none_without held [] = refl
none_without held (r ∷ rows) = ap (λ n. record r { load = n } ∷ map (row_without [] held) rows)
    (let less = none_at held r.reg in omega (arith, less)) ∙ ap (λ l. r ∷ l) (none_without held rows)

-- and its end
pub without_last : (jobs : List JobId) (i : ℕ) (held : List HeldRow) (first rows : List ServerRow)
    → length jobs ≤ i → map (row_without (drop i jobs) held) rows ≡ map (row_without jobs held) first
    → rows ≡ map (row_without jobs held) first
without_last jobs i held first rows le so_far = sym (none_without held rows)
    ∙ ap (λ js. map (row_without js held) rows) (sym (drop_all jobs i le)) ∙ so_far

-- the one job that is named

pub others_unnamed : (job : JobId) (b : BookedRow) → (b.job.0 == job.0) ≡ false
    → names_job (job ∷ []) b.job ≡ false
others_unnamed job b other =
    ap (λ t. t || false) (is_false (same_job job b.job) (λ yes. true_false (same_job b.job job)
    (same_job-sym job b.job yes) other))

pub own_named : (job : JobId) (b : BookedRow) → b.job.0 ≡ job.0 → {t : Bool}
    → (b.unended && names_job (job ∷ []) b.job) ≡ t → b.unended ≡ t
own_named job b own e = sym (ap (λ t. b.unended && (t || false)) (eq-eqb job.0 b.job.0 (sym own))
    ∙ whole b.unended) ∙ e
  where
    whole : (u : Bool) → (u && true) ≡ u
    whole true = refl
    whole false = refl
