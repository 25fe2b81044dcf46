-- What is decided over the books is what the rule gives over their log.
use Rattle.std.proofs.Common.{◌≡◌, ℕ, ◌-◌, List, [], ◌∷◌, true, false, ◌&&◌, map, Option, Some, None, refl}
use Rattle.std.proofs.Common.{ap, ◌∙◌, sym, subst, eqb-true}
use Rattle.std.specs.Prelude.{◌==◌, ◌+◌, ◌^◌, ◌%◌, option_and_then, if◌then◌else◌, Result, Ok, Err, OnOk}
use Rattle.std.specs.Prelude.{IfErr}
use Rattle.std.specs.List.{AllByRecursion, list_any, filter_map, cons_option, find}
use Rattle.std.specs.Option.{option_map}
use Rattle.dist_types.specs.declared.ids.JobId.{JobId}
use Rattle.dist_types.specs.declared.results.JobState.{JobState}
use Rattle.core_rules.specs.declared.entry.CoreEntry.{CoreEntry}
use Rattle.core_rules.specs.declared.entry.Reserved.TheVariants.{Job, Spent}
use Rattle.core_rules.specs.declared.rows.ServerRow.{ServerRow}
use Rattle.core_rules.specs.declared.rows.HeldRow.{HeldRow}
use Rattle.core_rules.specs.declared.rows.JobRow.{JobRow}
use Rattle.core_rules.specs.Next.{UnspentRow}
use Rattle.core_rules.specs.declared.entry.UpdateAnswer.{UpdateAnswer}
use Rattle.core_rules.specs.declared.entry.UpdateAnswer.TheVariants.{Accepted, Unknown, Wrong, Transition}
use Rattle.core_rules.specs.Log.{Core, logged, same_job}
use Rattle.core_rules.specs.Standing.{address_of}
use Rattle.core_rules.specs.Reservation.{unspent, unended}
use Rattle.core_rules.specs.Rows.{servers_of, held_of, held_rows, job_row, unended_by_id, jobs_of}
use Rattle.core_rules.specs.Rows.{sorted_into}
use Rattle.core_rules.specs.Next.{held_part}
use Rattle.core_rules.proofs.JobLemmas.{job_at}
use Rattle.core_rules.specs.Pick.{pick, forgiven}
use Rattle.core_rules.specs.Answers.{Leaves, verdict}
use Rattle.core_rules.specs.Rule.{is_among, place_at, reserved_at}
use Rattle.core_rules.specs.Next.{IsAtRow, place_of_unspent, place_of_booking}
use Rattle.core_rules.proofs.Lists.{list_any-map, map-map}
use Rattle.core_rules.proofs.AllLemmas.{and_left}
use Rattle.core_rules.proofs.FactLemmas.{pick_there}
use Rattle.core_rules.proofs.SortLemmas.{found_first, sorted-map}
use Rattle.core_rules.proofs.KeptLemmas.{rows_addressed}
use Rattle.core_rules.proofs.RowLemmas.{at_there}

-- the jobs that are shown

-- the unended reservations, by rising job id
abbrev pub held_by_id : List CoreEntry → List HeldRow
held_by_id log = sorted_into (λ h. h.job.0) [] (held_rows log)

abbrev row_at : List CoreEntry → HeldRow → Option JobRow
row_at log h = option_map (λ server. job_at server h) (address_of log h.reg)

full_part : (log : List CoreEntry) (js : List JobRow)
    → AllByRecursion (λ j. address_of log j.reg ≡ Some j.server) js
    → map (row_at log) (map held_part js) ≡ map Some js
full_part log [] all = refl
full_part log (j ∷ js) all =
    ap (λ o. option_map (λ server. job_at server (held_part j)) o ∷ map (row_at log) (map held_part js)) all.0
    ∙ ap (λ rest. Some j ∷ rest) (full_part log js all.1)

-- each reservation has its row, in their order
pub jobs_all : (log : List CoreEntry) (js : List JobRow) → map held_part js ≡ held_by_id log
    → AllByRecursion (λ j. address_of log j.reg ≡ Some j.server) js
    → map Some js ≡ map (job_row log) (unended_by_id log)
jobs_all log js same all =
    let by_id : held_by_id log ≡ map held_of (unended_by_id log) =
    sorted-map (λ b. b.job.0) (λ h. h.job.0) held_of (λ b. refl) (unended log) in
    sym (full_part log js all) ∙ ap (map (row_at log)) (same ∙ by_id)
    ∙ map-map (row_at log) held_of (unended_by_id log)

-- what is there is what filter_map leaves
some_all : {X Y : Type 0} (f : X → Option Y) (xs : List X) (ys : List Y) → map Some ys ≡ map f xs
    → ys ≡ filter_map f xs
some_all f [] [] same = refl
some_all f [] (y ∷ ys) same = absurd cc
some_all f (x ∷ xs) [] same = absurd cc
some_all f (x ∷ xs) (y ∷ ys) same =
    let head : Some y ≡ f x = cc in
    let rest : map Some ys ≡ map f xs = cc in
    ap (λ zs. y ∷ zs) (some_all f xs ys rest) ∙ ap (λ o. cons_option o (filter_map f xs)) head

pub jobs_are : (log : List CoreEntry) (js : List JobRow) → map held_part js ≡ held_by_id log
    → AllByRecursion (λ j. address_of log j.reg ≡ Some j.server) js → js ≡ jobs_of log
jobs_are log js same all = some_all (job_row log) (unended_by_id log) js (jobs_all log js same all)

-- a registration that stands, by its number

pub row_address : (log : List CoreEntry) (rows : List ServerRow) (reg : ℕ) (row : ServerRow)
    → rows ≡ servers_of log → find (λ r. r.reg == reg) rows ≡ Some row → address_of log reg ≡ Some row.server
row_address log rows reg row same there =
    let at : (address_of log row.reg ≡ Some row.server) × ((row.reg == reg) ≡ true) =
    at_there (λ r. r.reg == reg) rows row there (λ r. address_of log r.reg ≡ Some r.server)
    (subst (AllByRecursion (λ r. address_of log r.reg ≡ Some r.server)) (sym same) (rows_addressed log))
    in
    ap (address_of log) (sym (eqb-true row.reg reg at.1)) ∙ at.0

pub row_found : (rows : List ServerRow) (reg : ℕ) → list_any (λ r. r.reg == reg) rows ≡ true
    → find (λ r. r.reg == reg) rows ≡ None → ⊥
row_found rows reg some none =
    let at : (r : ServerRow) × (find (λ r. r.reg == reg) rows ≡ Some r) × Unit {0} × ((r.reg == reg) ≡ true) =
    found_first (λ r. Unit {0}) (λ r. r.reg == reg) rows (all_unit rows) some in
    let no : None ≡ Some at.0 = sym none ∙ at.1 in absurd cc
  where
    all_unit : (rs : List ServerRow) → AllByRecursion (λ r. Unit {0}) rs
    all_unit [] = tt
    all_unit (r ∷ rs) = (tt, all_unit rs)

-- what is reserved is at a row
pub reserved_row : (rows : List ServerRow) (now base given : ℕ)
    → IsAtRow (reserved_at (pick rows) rows now base given) rows
reserved_row rows now base given = split (pick rows) refl
  where
    split : (o : Option ServerRow) → pick rows ≡ o → IsAtRow (reserved_at o rows now base given) rows
    split None is = tt
    split (Some row) is = elim (given == 2 ^ 64 - 1) as
        (λ b. IsAtRow (if b then Spent else Job (record { 0 = (base + given) % 2 ^ 64 }) row.reg
        (forgiven now rows)) rows) [ true ↦ tt | false ↦ (pick_there rows row is).0 ]

-- spending

pub spent_among : (us : List UnspentRow) (log : List CoreEntry) (number : ℕ) (job : JobId)
    → map place_of_unspent us ≡ map place_of_booking (unspent log)
    → list_any (λ u. (u.number == number) && same_job u.job job) us ≡ is_among (unspent log) number job
spent_among us log number job same =
    sym (list_any-map (λ (p : (ℕ × JobId) × ℕ). (p.0.0 == number) && same_job p.0.1 job) place_of_unspent us)
    ∙ ap (list_any (λ (p : (ℕ × JobId) × ℕ). (p.0.0 == number) && same_job p.0.1 job)) same
    ∙ list_any-map (λ (p : (ℕ × JobId) × ℕ). (p.0.0 == number) && same_job p.0.1 job) place_of_booking
    (unspent log)

pub held_among : (held : List HeldRow) (log : List CoreEntry) (number : ℕ) (job : JobId)
    → held ≡ held_rows log → list_any (λ h. (h.number == number) && same_job h.job job) held ≡ is_among
    (unended log) number job
held_among held log number job same = ap (list_any (λ h. (h.number == number) && same_job h.job job)) same
    ∙ list_any-map (λ h. (h.number == number) && same_job h.job job) held_of (unended log)

abbrev IsPlaced : List CoreEntry → UnspentRow → Type 0
IsPlaced log u = (place_at log u.number ≡ Some u.reg) × (address_of log u.reg ≡ Some u.server)

-- the address of the unspent reservation is that of its place
pub spent_address : (us : List UnspentRow) (log : List CoreEntry) (number : ℕ) (job : JobId)
    → AllByRecursion (λ u. (place_at log u.number ≡ Some u.reg) × (address_of log u.reg ≡ Some u.server)) us
    → list_any (λ u. (u.number == number) && same_job u.job job) us ≡ true →
    option_map (λ u. u.server) (find (λ u. (u.number == number) && same_job u.job job) us) ≡ option_and_then
    (address_of log) (place_at log number)
spent_address us log number job all some =
    let at : (u : UnspentRow) × (find (λ u. (u.number == number) && same_job u.job job) us ≡ Some u)
    × IsPlaced log u × (((u.number == number) && same_job u.job job) ≡ true) = found_first (IsPlaced log)
    (λ u. (u.number == number) && same_job u.job job) us all some in
    ap (option_map (λ u. u.server)) at.1
    ∙ sym at.2.1
    ∙ ap (option_and_then (address_of log)) (sym at.2.0)
    ∙ ap (λ n. option_and_then (address_of log) (place_at log n))
    (eqb-true at.0.number number (and_left (at.0.number == number) (same_job at.0.job job) at.3))

-- what an update answers is no want of memory
pub on_ok : {T E : Type 0} (r : Result T E) (P : Type 0) → P → OnOk r P
on_ok (Ok x) P p = p
on_ok (Err e) P p = tt

pub verdict_leaves : (answer : UpdateAnswer) (state : JobState) (old new : Core) (made : CoreEntry)
    → new ≡ logged old made → IfErr (verdict answer state) (λ e. Leaves e old new made)
verdict_leaves Accepted state old new made is = tt
verdict_leaves Unknown state old new made is = is
verdict_leaves Wrong state old new made is = is
verdict_leaves (Transition from) state old new made is = is
