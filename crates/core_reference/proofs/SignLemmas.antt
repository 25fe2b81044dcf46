-- The last sign of a registration, in one pass over the entries after it.
use Rattle.std.proofs.Common.{◌≡◌, ℕ, ◌+◌, ◌<◌, List, [], ◌∷◌, ◌++◌, Bool, true, false, cond, not, ◌&&◌, ◌||◌}
use Rattle.std.proofs.Common.{map, filter, length, get_or, take, drop, Option, Some, None, refl, ap, ◌∙◌, sym}
use Rattle.std.proofs.Common.{append_assoc, append-nil}
use Rattle.std.specs.Prelude.{option_to_list, option_and_then, if◌then◌else◌, ◌==◌, count_by}
use Rattle.std.specs.List.{filter_map, cons_option, list_any}
use Rattle.std.proofs.lemmas.List.Elements.{filter_map-append}
use Rattle.std.proofs.lemmas.List.Sums.{sum_by-cons}
use Rattle.dist_types.specs.declared.addr.Addr.{Addr}
use Rattle.dist_types.specs.declared.ids.JobId.{JobId}
use Rattle.core_rules.specs.declared.entry.CoreEntry.{CoreEntry}
use Rattle.core_rules.specs.declared.entry.CoreKind.{CoreKind}
use Rattle.core_rules.specs.declared.entry.CoreKind.TheVariants.{Beat, Reserve, Commit, Undo, Update, Status}
use Rattle.core_rules.specs.declared.entry.CoreKind.TheVariants.{Drain}
use Rattle.core_rules.specs.declared.entry.Reserved.TheVariants.{Job, NoRoom, Spent}
use Rattle.core_rules.specs.declared.rows.ServerRow.{ServerRow}
use Rattle.core_rules.specs.declared.rows.HeldRow.{HeldRow}
use Rattle.core_rules.specs.Cuts.{Cut, cuts, cuts_behind}
use Rattle.core_rules.specs.Log.{latest, same_job}
use Rattle.core_rules.specs.Standing.{ended, is_sign, serves, reserves_by, is_heard, registered_by, stands}
use Rattle.core_rules.specs.Standing.{Registered, standing, renews_by}
use Rattle.core_rules.specs.Standing.{drained_in}
use Rattle.core_rules.specs.Next.{row_by}
use Rattle.core_rules.specs.Reservation.{Booking, unended}
use Rattle.core_rules.specs.Rows.{held_of, held_rows, row_of, servers_of}
use Rattle.core_rules.proofs.Lists.{cons_nil, map-map}
use Rattle.core_rules.proofs.GrowLemmas.{map-agree}
use Rattle.core_reference.specs.Plain.{seen, signed, loaded, job_at, serves_one, sign_among}
use Rattle.core_reference.proofs.PlainLemmas.{next_taken, next_left}

-- the last sign, from that one on, among the entries that are left
abbrev pub sign_from : Addr → ℕ → List CoreEntry → ℕ → List CoreEntry → List CoreEntry → ℕ
sign_from server reg earlier first front left =
    latest first (map (λ c. c.at.now) (filter (is_sign server reg earlier) (cuts_behind front left)))

-- the jobs at the registration, with one more entry
jobs_next : (reg : ℕ) (earlier l : List CoreEntry) (e : CoreEntry)
    → filter_map (λ d. job_at d.kind reg) (earlier ++ (l ++ e ∷ []))
    ≡ filter_map (λ d. job_at d.kind reg) (earlier ++ l) ++ option_to_list (job_at e.kind reg)
jobs_next reg earlier l e =
    ap (filter_map (λ d. job_at d.kind reg)) (sym (append_assoc earlier l (e ∷ [])))
    ∙ filter_map-append (λ d. job_at d.kind reg) (earlier ++ l) (e ∷ [])
    ∙ ap (λ js. filter_map (λ d. job_at d.kind reg) (earlier ++ l) ++ js) (cons_nil (job_at e.kind reg))

-- the jobs in front of the entries after it
pub jobs_begun : (reg : ℕ) (before : List CoreEntry) (step : CoreEntry) (js new : List JobId) (o : Option JobId)
    → js ≡ filter_map (λ d. job_at d.kind reg) before → o ≡ job_at step.kind reg → new ≡ js ++ option_to_list o
    → new ≡ filter_map (λ d. job_at d.kind reg) ((before ++ step ∷ []) ++ [])
jobs_begun reg before step js new o js_are o_is more =
    more
    ∙ ap (λ l. l ++ option_to_list o) js_are
    ∙ ap (λ p. filter_map (λ d. job_at d.kind reg) before ++ option_to_list p) o_is
    ∙ ap (λ l. filter_map (λ d. job_at d.kind reg) before ++ l) (sym (cons_nil (job_at step.kind reg)))
    ∙ sym (filter_map-append (λ d. job_at d.kind reg) before (step ∷ []))
    ∙ ap (filter_map (λ d. job_at d.kind reg)) (sym (append-nil (before ++ step ∷ [])))

-- and after one more
pub jobs_now : (reg : ℕ) (earlier later : List CoreEntry) (i : ℕ) (x : CoreEntry) (js new : List JobId)
    (o : Option JobId) → i < length later → x ≡ get_or later i x
    → js ≡ filter_map (λ d. job_at d.kind reg) (earlier ++ take i later) → o ≡ job_at x.kind reg
    → new ≡ js ++ option_to_list o
    → new ≡ filter_map (λ d. job_at d.kind reg) (earlier ++ take (i + 1) later)
jobs_now reg earlier later i x js new o within is js_are o_is more =
    more
    ∙ ap (λ l. l ++ option_to_list o) js_are
    ∙ ap (λ p. filter_map (λ d. job_at d.kind reg) (earlier ++ take i later) ++ option_to_list p) o_is
    ∙ sym (jobs_next reg earlier (take i later) x)
    ∙ ap (λ t. filter_map (λ d. job_at d.kind reg) (earlier ++ t)) (sym (next_taken i later x within is))

and_or : (a b c : Bool) → (cond b (a || c) c) ≡ ((a && b) || c)
and_or true true c = refl
and_or true false c = refl
and_or false true c = refl
and_or false false c = refl

any_option : (job j : JobId) (b : Bool) (js : List JobId)
    → list_any (λ k. same_job k job) (cons_option (cond b (Some j) None) js)
    ≡ cond b (same_job j job || list_any (λ k. same_job k job) js) (list_any (λ k. same_job k job) js)
any_option job j true js = refl
any_option job j false js = refl

-- a job is among those where one of the entries reserves it there
jobs_any : (job : JobId) (reg : ℕ) (xs : List CoreEntry)
    → list_any (λ d. reserves_by d.kind job reg) xs
    ≡ list_any (λ k. same_job k job) (filter_map (λ d. job_at d.kind reg) xs)
jobs_any job reg [] = refl
jobs_any job reg (x ∷ xs) = by_kind x.kind (jobs_any job reg xs)
  where
    rest : Bool
    rest = list_any (λ d. reserves_by d.kind job reg) xs

    js : List JobId
    js = filter_map (λ d. job_at d.kind reg) xs

    by_kind : (k : CoreKind) → rest ≡ list_any (λ k. same_job k job) js
        → (reserves_by k job reg || rest) ≡ list_any (λ k. same_job k job) (cons_option (job_at k reg) js)
    by_kind (Reserve (Job j r forgiven)) is =
        sym (and_or (same_job j job) (r == reg) rest)
        ∙ ap (λ b. cond (r == reg) (same_job j job || b) b) is
        ∙ sym (any_option job j (r == reg) js)
    by_kind (Reserve (NoRoom n)) is = is
    by_kind (Reserve Spent) is = is
    by_kind (Beat server nonce cpus key pruned reaped replaced is_new) is = is
    by_kind (Commit j state kept) is = is
    by_kind (Undo j noted was_ended) is = is
    by_kind (Update server j state answer) is = is
    by_kind (Status pruned servers cpus n) is = is
    by_kind (Drain server nonce on named) is = is

serves_jobs : (reg : ℕ) (xs : List CoreEntry) (k : CoreKind)
    → serves xs k reg ≡ serves_one k (filter_map (λ d. job_at d.kind reg) xs)
serves_jobs reg xs (Update server job state answer) = ap (λ b. is_heard answer && b) (jobs_any job reg xs)
serves_jobs reg xs (Reserve r) = refl
serves_jobs reg xs (Beat server nonce cpus key pruned reaped replaced is_new) = refl
serves_jobs reg xs (Commit job state kept) = refl
serves_jobs reg xs (Undo job noted was_ended) = refl
serves_jobs reg xs (Status pruned servers cpus jobs) = refl
serves_jobs reg xs (Drain server nonce on named) = refl

latest_cond : (b : Bool) (first : ℕ) (c : Cut CoreEntry) (cs : List (Cut CoreEntry))
    → latest first (map (λ c. c.at.now) (cond b (c ∷ cs) cs))
    ≡ latest (cond b c.at.now first) (map (λ c. c.at.now) cs)
latest_cond true first c cs = refl
latest_cond false first c cs = refl

-- the last sign of what is left, after one more entry
pub sign_step : (server : Addr) (reg : ℕ) (earlier later : List CoreEntry) (i : ℕ) (x : CoreEntry)
    (over : Bool) (jobs : List JobId) (so_far new whole : ℕ) → i < length later → x ≡ get_or later i x
    → over ≡ ended (take i later) reg → jobs ≡ filter_map (λ d. job_at d.kind reg) (earlier ++ take i later)
    → new ≡ (if sign_among x.kind server over jobs then x.now else so_far)
    → sign_from server reg earlier so_far (take i later) (drop i later) ≡ whole
    → sign_from server reg earlier new (take (i + 1) later) (drop (i + 1) later) ≡ whole
sign_step server reg earlier later i x over jobs so_far new whole within is over_is jobs_are made before =
    let left : drop i later ≡ x ∷ drop (i + 1) later = next_left i later x within is in
    let taken : take (i + 1) later ≡ take i later ++ x ∷ [] = next_taken i later x within is in
    let c : Cut CoreEntry = record { before = take i later; at = x; after = drop (i + 1) later } in
    let rest = filter (is_sign server reg earlier)
    (cuts_behind (take i later ++ x ∷ []) (drop (i + 1) later)) in
    let same : sign_among x.kind server over jobs ≡ is_sign server reg earlier c =
    ap (λ o. sign_among x.kind server o jobs) over_is
    ∙ ap (sign_among x.kind server (ended (take i later) reg)) jobs_are
    ∙ ap (λ b. (renews_by x.kind server && not (ended (take i later) reg)) || b)
    (sym (serves_jobs reg (earlier ++ take i later) x.kind)) in
    ap (λ n. sign_from server reg earlier n (take (i + 1) later) (drop (i + 1) later)) made
    ∙ ap (λ t. sign_from server reg earlier (cond (sign_among x.kind server over jobs) x.now so_far) t
    (drop (i + 1) later)) taken
    ∙ ap (λ b. latest (cond b x.now so_far) (map (λ c. c.at.now) rest)) same
    ∙ sym (latest_cond (is_sign server reg earlier c) so_far c rest)
    ∙ ap (sign_from server reg earlier so_far (take i later)) (sym left)
    ∙ before

-- a registration as its entry makes it, and over the entries after it
abbrev pub kept_row : List CoreEntry → CoreEntry → List CoreEntry → ServerRow → Option ServerRow
kept_row before at later row = if ended later row.reg then None else Some (record row {
  seen = latest row.seen (map (λ c. c.at.now)
      (filter (is_sign row.server row.reg (before ++ at ∷ [])) (cuts later)));
  draining = drained_in later row.reg;
})

standing_is : (k : CoreKind) (now : ℕ) (before : List CoreEntry) (at : CoreEntry) (later : List CoreEntry)
    → option_and_then (seen stands signed) (registered_by k now before at later)
    ≡ option_and_then (kept_row before at later) (row_by k (length before) now)
standing_is (Beat server nonce cpus key pruned reaped replaced true) now before at later =
    let g : Registered = record {
      reg = length before;
      now = now;
      server = server;
      nonce = nonce;
      cpus = cpus;
      key = key;
      earlier = before ++ at ∷ [];
      later = later;
    } in
    elim (ended later (length before)) as (λ b. cond (not b) (Some (signed g)) None ≡ cond b None (Some (signed g)))
    [ true ↦ refl | false ↦ refl ]
standing_is (Beat server nonce cpus key pruned reaped replaced false) now before at later = refl
standing_is (Reserve r) now before at later = refl
standing_is (Commit job state kept) now before at later = refl
standing_is (Undo job noted was_ended) now before at later = refl
standing_is (Update server job state answer) now before at later = refl
standing_is (Status pruned servers cpus jobs) now before at later = refl
standing_is (Drain server nonce on named) now before at later = refl

pub standing_some : (k : CoreKind) (now : ℕ) (before : List CoreEntry) (at : CoreEntry) (later : List CoreEntry)
    (row : ServerRow) (sign : ℕ) (drains : Bool) → row_by k (length before) now ≡ Some row
    → ended later row.reg ≡ false → sign ≡ latest row.seen (map (λ c. c.at.now)
    (filter (is_sign row.server row.reg (before ++ at ∷ [])) (cuts later))) → drains ≡ drained_in later row.reg
    → Some (record row { seen = sign; draining = drains })
    ≡ option_and_then (seen stands signed) (registered_by k now before at later)
standing_some k now before at later row sign drains is stays sign_is drains_is =
    let last : ℕ = latest row.seen (map (λ c. c.at.now)
    (filter (is_sign row.server row.reg (before ++ at ∷ [])) (cuts later))) in
    ap (λ n. Some (record row { seen = n; draining = drains })) sign_is
    ∙ ap (λ d. Some (record row { seen = last; draining = d })) drains_is
    ∙ ap (λ b. cond b None (Some (record row { seen = last; draining = drained_in later row.reg }))) (sym stays)
    ∙ ap (option_and_then (kept_row before at later)) (sym is)
    ∙ sym (standing_is k now before at later)

-- the rows with their loads and errors

load_is : (reg : ℕ) (bs : List Booking)
    → count_by (λ h. h.reg == reg) (map held_of bs) ≡ count_by (λ b. b.reg == reg) bs
load_is reg [] = refl
load_is reg (b ∷ bs) =
    sum_by-cons (λ (h : HeldRow). cond (h.reg == reg) 1 0) (held_of b) (map held_of bs)
    ∙ ap (λ n. cond (b.reg == reg) 1 0 + n) (load_is reg bs)
    ∙ sym (sum_by-cons (λ (d : Booking). cond (d.reg == reg) 1 0) b bs)

pub rows_loaded : (log : List CoreEntry)
    → map (loaded (held_rows log) log) (map signed (standing log)) ≡ servers_of log
rows_loaded log = map-map (loaded (held_rows log) log) signed (standing log)
    ∙ map-agree (λ g. loaded (held_rows log) log (signed g)) (row_of log)
    (λ g. ap (λ n. record (row_of log g) { load = n }) (load_is g.reg (unended log))) (standing log)
