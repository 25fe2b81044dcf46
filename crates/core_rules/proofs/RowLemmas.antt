-- What one more entry does to the rows of the registrations that stand.
use Rattle.std.proofs.Common.{◌≡◌, ℕ, ◌+◌, ◌-◌, ◌^◌, ◌<◌, ◌≤◌, List, [], ◌∷◌, ◌++◌, Bool, true, false, cond}
use Rattle.std.proofs.Common.{not, ◌&&◌, ◌||◌, map, filter, length, min, Option, Some, None, refl, ap, ◌∙◌}
use Rattle.std.proofs.Common.{sym, subst, arith, eq-eqb, eqb-true, length-append}
use Rattle.std.specs.Prelude.{◌==◌, option_to_list, option_and_then, count_by, find}
use Rattle.std.specs.List.{AllByRecursion, list_any, filter_map, cons_option}
use Rattle.std.specs.Option.{option_map}
use Rattle.std.proofs.lemmas.Bool.{false≢true}
use Rattle.std.proofs.lemmas.List.Sums.{sum_by-cons, sum_by-append}
use Rattle.core_rules.specs.declared.start.Start.{Start}
use Rattle.core_rules.specs.Cuts.{cuts_behind}
use Rattle.dist_types.specs.declared.addr.Addr.{Addr}
use Rattle.dist_types.specs.declared.ids.JobId.{JobId}
use Rattle.core_rules.proofs.Lists.{map-map, filter-map}
use Rattle.core_rules.specs.declared.entry.CoreEntry.{CoreEntry}
use Rattle.core_rules.specs.declared.entry.CoreKind.{CoreKind}
use Rattle.core_rules.specs.declared.entry.CoreKind.TheVariants.{Beat, Reserve, Commit, Undo, Update}
use Rattle.core_rules.specs.declared.entry.CoreKind.TheVariants.{Status, Drain}
use Rattle.core_rules.specs.declared.entry.Reserved.TheVariants.{Job, NoRoom, Spent}
use Rattle.core_rules.specs.declared.rows.ServerRow.{ServerRow}
use Rattle.core_rules.specs.declared.rows.OpenRow.{OpenRow}
use Rattle.core_rules.specs.Log.{same_job, is_this, newer}
use Rattle.core_rules.specs.Standing.{Registered, registered_by, standing, renews_by, reserves_by, is_heard}
use Rattle.core_rules.specs.Standing.{serves, last_sign, is_draining, stands, address_of}
use Rattle.core_rules.specs.Reservation.{Booking, booked_by, booked_at, bookings, unended, is_unended}
use Rattle.core_rules.specs.Reservation.{load_of, frees_by}
use Rattle.core_rules.specs.Fault.{Noted, noted_by, noted_at, notes_by, forgives_by, is_remembered}
use Rattle.core_rules.specs.Fault.{error_of}
use Rattle.core_rules.specs.Job.{Committed, open_jobs}
use Rattle.core_rules.specs.Rows.{row_of, servers_of, held_of, held_rows, open_of, open_rows}
use Rattle.core_rules.proofs.Lists.{seen}
use Rattle.core_rules.specs.Prune.{at_address}
use Rattle.core_rules.specs.Advance.{advance_by}
use Rattle.dist_types.specs.Addr.{same_addr}
use Rattle.core_rules.specs.declared.call.Call.{Call}
use Rattle.core_rules.specs.declared.call.Call.TheVariants as call
use Rattle.core_rules.specs.Rule.{rule, place_at, noted_over}
use Rattle.core_rules.specs.Laws.{IsRule, IsLegal}
use Rattle.core_rules.specs.Next.{row_stays, place_if, served_by, freed_at, row_freed, takes_by}
use Rattle.core_rules.specs.Next.{error_after, draining_after}
use Rattle.core_rules.specs.Next.{one_more_if, row_after, row_by}
use Rattle.core_rules.proofs.StandingLemmas.{grown, last_sign-grown, draining-grown, standing-push, none-push}
use Rattle.core_rules.proofs.Lists.{list_any-map}
use Rattle.core_rules.proofs.AllLemmas.{and_left, and_right, both, true_false, is_false, same_job-eq}
use Rattle.core_rules.proofs.AllLemmas.{all-weaker, all-map, all-unmap, any-all, any-weaker, found}
use Rattle.core_rules.proofs.AllLemmas.{own_only}
use Rattle.core_rules.proofs.StepLemmas as step
use Rattle.core_rules.proofs.LegalLemmas.{core_of, legal_has}
use Rattle.core_rules.proofs.FactLemmas.{Facts}
use Rattle.core_rules.proofs.HeldLemmas.{Sound, sound-step}
use Rattle.core_rules.proofs.RoomLemmas.{Roomy, Fits, legal_fits, roomy-step, count-map, count_none}
use Rattle.core_rules.proofs.RoomLemmas.{load_held, none_next}
use Rattle.core_rules.proofs.GrowLemmas.{newest-grown, map-agree}
use Rattle.core_rules.proofs.KeptLemmas.{IsOpenAt, open_at}

-- the remembered error

abbrev noted : ℕ → List CoreEntry → Noted
noted now later = record { now = now; later = later }

abbrev noted_more : CoreEntry → Noted → Noted
noted_more e n = noted n.now (n.later ++ e ∷ [])

noted_grown : (k : CoreKind) (reg now : ℕ) (later : List CoreEntry) (e : CoreEntry)
    → noted_by k reg now (later ++ e ∷ []) ≡ option_map (noted_more e) (noted_by k reg now later)
noted_grown k reg now later e = elim (notes_by k reg) as
    (λ b. cond b (Some (noted now (later ++ e ∷ []))) None ≡ option_map (noted_more e)
    (cond b (Some (noted now later)) None)) [ true ↦ refl | false ↦ refl ]

error_made : (e : CoreEntry) (reg : ℕ) → option_and_then (seen (is_remembered reg) (λ n. n.now))
    (noted_by e.kind reg e.now []) ≡ cond (notes_by e.kind reg) (Some e.now) None
error_made e reg = elim (notes_by e.kind reg) as
    (λ b. option_and_then (seen (is_remembered reg) (λ n. n.now)) (cond b (Some (noted e.now [])) None)
    ≡ cond b (Some e.now) None) [ true ↦ refl | false ↦ refl ]

same_option : {B : Type 0} (o : Option B) → option_map (λ b. b) o ≡ o
same_option None = refl
same_option (Some b) = refl

error_choice : (a b : Bool) (now : ℕ) (o : Option ℕ) → newer (cond a (Some now) None)
    (cond (not b) o None) ≡ cond a (Some now) (cond b None o)
error_choice true b now o = refl
error_choice false true now o = refl
error_choice false false now o = refl

pub error_of-push : (log : List CoreEntry) (e : CoreEntry) (reg : ℕ)
    → error_of (log ++ e ∷ []) reg ≡ error_after e reg (error_of log reg)
error_of-push log e reg =
    newest-grown (noted_at reg) noted_more (is_remembered reg) (λ n. n.now) (not (forgives_by e.kind reg))
    (λ t. t) log e
    (λ c. noted_grown c.at.kind reg c.at.now c.after e)
    (λ n. none-push (λ d. forgives_by d.kind reg) n.later e) (λ n h. refl)
    ∙ ap (λ o. newer o (cond (not (forgives_by e.kind reg)) (option_map (λ t. t) (error_of log reg)) None))
    (error_made e reg)
    ∙ ap (λ o. newer (cond (notes_by e.kind reg) (Some e.now) None)
    (cond (not (forgives_by e.kind reg)) o None)) (same_option (error_of log reg))
    ∙ error_choice (notes_by e.kind reg) (forgives_by e.kind reg) e.now (error_of log reg)

-- no error is noted of a registration that is not made yet

pub at_there : {X : Type 0} (p : X → Bool) (xs : List X) (x : X) → find p xs ≡ Some x → (P : X → Type 0)
    → AllByRecursion P xs → P x × (p x ≡ true)
at_there p [] x e P all = absurd cc
at_there {X} p (y ∷ ys) x e P all = split (p y) refl e (λ f. at_there p ys x f P all.1)
  where
    split : (b : Bool) → p y ≡ b → cond b (Some y) (find p ys) ≡ Some x
        → (find p ys ≡ Some x → P x × (p x ≡ true)) → P x × (p x ≡ true)
    split true is f rest = let same : y ≡ x = cc in subst (λ z. P z × (p z ≡ true)) same (all.0, is)
    split false is f rest = rest f

noted_below : (rows : List ServerRow) (there : Option Addr) (n : ℕ) → AllByRecursion (λ r. r.reg < n) rows
    → (reg : ℕ) → n ≤ reg → is_this (noted_over rows there) reg ≡ false
noted_below rows None n below reg le = refl
noted_below rows (Some server) n below reg le = split (at_address server rows) refl
  where
    split : (o : Option ServerRow) → at_address server rows ≡ o
        → is_this (option_map (λ r. r.reg) o) reg ≡ false
    split None e = refl
    split (Some r) e =
        let lt : r.reg < n = (at_there (λ x. same_addr x.server server) rows r e (λ x. x.reg < n) below).0 in
        is_false (r.reg == reg) (λ t. let same : r.reg ≡ reg = eqb-true r.reg reg t
        in omega (arith, lt, le, same))

rows_below : (log : List CoreEntry) → Roomy log → AllByRecursion (λ r. r.reg < length log) (servers_of log)
rows_below log room = all-map (λ r. r.reg < length log) (row_of log) (standing log)
    (all-unmap (λ p. p.0 < length log) (λ g. (g.reg, g.cpus)) (standing log) room.below)

notes_rule : (start : Start) (log : List CoreEntry) (c : Call) → Roomy log → (reg : ℕ) → length log ≤ reg
    → notes_by (rule (core_of start log) c).kind reg ≡ false
notes_rule start log (call.Reserve now) room reg le = refl
notes_rule start log (call.Commit now number job state) room reg le = refl
notes_rule start log (call.Undo now number job) room reg le = noted_below (servers_of log)
    (option_and_then (address_of log) (place_at log number)) (length log) (rows_below log room) reg le
notes_rule start log (call.Beat now server nonce cpus key) room reg le = refl
notes_rule start log (call.Update now server job state) room reg le = refl
notes_rule start log (call.Status now) room reg le = refl
notes_rule start log (call.Drain now addr nonce on) room reg le = refl

abbrev NoErrors : List CoreEntry → Type 0
NoErrors log = (reg : ℕ) → length log ≤ reg → error_of log reg ≡ None

errors-step : (start : Start) (log : List CoreEntry) (e : CoreEntry) → Roomy log → NoErrors log
    → IsRule (core_of start log) e → NoErrors (log ++ e ∷ [])
errors-step start log e room none is reg le =
    let longer : length (log ++ e ∷ []) ≡ length log + 1 = length-append log (e ∷ []) in
    let old : length log ≤ reg = omega (arith, le, longer) in
    error_of-push log e reg
    ∙ ap (λ b. cond b (Some e.now) (cond (forgives_by e.kind reg) None (error_of log reg)))
    (ap (λ d. notes_by d.kind reg) is.2 ∙ notes_rule start log is.0 room reg old)
    ∙ ap (λ o. cond (forgives_by e.kind reg) None o) (none reg old)
    ∙ elim (forgives_by e.kind reg) as (λ b. cond {A = Option ℕ} b None None ≡ None)
    [ true ↦ refl | false ↦ refl ]

-- what each legal log has, with the errors
record Noting (start : Start) (log : List CoreEntry) : Type 0 where
  fit : Fits start log
  none : NoErrors log

pub legal_errors : (start : Start) (log : List CoreEntry) → start.count < 2 ^ 64 → IsLegal start log
    → (reg : ℕ) → length log ≤ reg → error_of log reg ≡ None
legal_errors start log fits legal =
    (legal_has start (Noting start)
    (record { fit = legal_fits start [] fits tt; none = λ reg le. refl })
    (λ l e h is. record {
      fit = record {
        sound = sound-step start l e h.fit.sound is;
        room = roomy-step start l e h.fit.sound h.fit.room is;
      };
      none =
          errors-step start l e h.fit.room h.none is;
    }) log legal).none

-- the load

count-cons : {X : Type 0} (p : X → Bool) (x : X) (xs : List X)
    → count_by p (x ∷ xs) ≡ cond (p x) 1 0 + count_by p xs
count-cons p x xs = sum_by-cons (λ y. cond (p y) 1 0) x xs

-- those that stay and those that go
count-parts : {X : Type 0} (p f : X → Bool) (xs : List X) → count_by p (filter (λ x. not (f x)) xs) + count_by
    (λ x. f x && p x) xs ≡ count_by p xs
count-parts p f [] = refl
count-parts {X} p f (x ∷ xs) =
    let rest : count_by p (filter (λ x. not (f x)) xs) + count_by (λ x. f x && p x) xs ≡ count_by p xs =
    count-parts p f xs in
    let whole : count_by p (x ∷ xs) ≡ cond (p x) 1 0 + count_by p xs = count-cons p x xs in
    let kept : count_by p (x ∷ filter (λ x. not (f x)) xs) ≡ cond (p x) 1 0 + count_by p
    (filter (λ x. not (f x)) xs) = count-cons p x (filter (λ x. not (f x)) xs) in
    let gone : count_by (λ x. f x && p x) (x ∷ xs) ≡ cond (f x && p x) 1 0 + count_by (λ x. f x && p x) xs =
    count-cons (λ x. f x && p x) x xs in
    ap (λ n. count_by p (cond (not (f x)) (x ∷ filter (λ x. not (f x)) xs) (filter (λ x. not (f x)) xs)) + n)
    gone
    ∙ elim (f x) as (λ b. count_by p
    (cond (not b) (x ∷ filter (λ x. not (f x)) xs) (filter (λ x. not (f x)) xs)) +
    (cond (b && p x) 1 0 + count_by (λ x. f x && p x) xs) ≡ count_by p (x ∷ xs)) [
      | true ↦ omega (arith, rest, whole)
      | false ↦ omega (arith, rest, whole, kept)
    ]

one_taken : (k : CoreKind) (number now reg : ℕ) → count_by (λ (b : Booking). b.reg == reg)
    (option_to_list (booked_by k number now [])) ≡ cond (takes_by k reg) 1 0
one_taken (Reserve (Job job r forgiven)) number now reg = omega arith
one_taken (Reserve (NoRoom n)) number now reg = refl
one_taken (Reserve Spent) number now reg = refl
one_taken (Beat server nonce cpus key pruned reaped replaced is_new) number now reg = refl
one_taken (Commit job state kept) number now reg = refl
one_taken (Undo job noted was_ended) number now reg = refl
one_taken (Update server job state answer) number now reg = refl
one_taken (Status pruned servers cpus n) number now reg = refl
one_taken (Drain addr nonce on named) number now reg = refl

count-few : {X : Type 0} (p : X → Bool) (xs : List X) → count_by p xs ≤ length xs
count-few p [] = omega arith
count-few p (x ∷ xs) =
    let rest : count_by p xs ≤ length xs = count-few p xs in
    let whole : count_by p (x ∷ xs) ≡ cond (p x) 1 0 + count_by p xs = count-cons p x xs in
    elim (p x) as (λ b. count_by p (x ∷ xs) ≡ cond b 1 0 + count_by p xs
    → count_by p (x ∷ xs) ≤ length (x ∷ xs)) [
      | true ↦ λ w. omega (arith, rest, w)
      | false ↦ λ w.
          omega (arith, rest, w)
    ] whole

pub filter-few : {X : Type 0} (p : X → Bool) (xs : List X) → length (filter p xs) ≤ length xs
filter-few p [] = omega arith
filter-few p (x ∷ xs) = let rest : length (filter p xs) ≤ length xs = filter-few p xs in elim (p x) as
    (λ b. length (cond b (x ∷ filter p xs) (filter p xs)) ≤ length (x ∷ xs))
    [ true ↦ omega (arith, rest) | false ↦ omega (arith, rest) ]

min_small : (n : ℕ) → n < 2 ^ 64 → min (2 ^ 64 - 1) n ≡ n
min_small n lt = omega (arith, lt)

pub one_more_is : (more : Bool) (n : ℕ) → n + cond more 1 0 < 2 ^ 64 → one_more_if more n ≡ n + cond more 1 0
one_more_is true n lt = min_small (n + 1) lt
one_more_is false n lt = omega arith

pub load-push : (log : List CoreEntry) (e : CoreEntry) (reg : ℕ) → length (bookings (log ++ e ∷ [])) < 2 ^ 64
    → load_of (log ++ e ∷ []) reg ≡ one_more_if (takes_by e.kind reg)
    (load_of log reg - freed_at e.kind (held_rows log) reg)
load-push log e reg small =
    let p : Booking → Bool = λ b. b.reg == reg in
    let f : Booking → Bool = λ b. frees_by e.kind b.job b.reg in
    let new : load_of (log ++ e ∷ []) reg ≡ count_by p (filter (step.held_stays e) (step.held log)) + count_by
    p (option_to_list (step.booked log e)) =
    load_held (log ++ e ∷ []) reg ∙ ap (count_by p) (step.held-push log e)
    ∙ sum_by-append (λ b. cond (p b) 1 0) (filter (step.held_stays e) (step.held log))
    (option_to_list (step.booked log e)) in
    let parts : count_by p (filter (step.held_stays e) (step.held log)) + count_by (λ b. f b && p b)
    (step.held log) ≡ count_by p (step.held log) = count-parts p f (step.held log) in
    let old : load_of log reg ≡ count_by p (step.held log) = load_held log reg in
    let freed : freed_at e.kind (held_rows log) reg ≡ count_by (λ b. f b && p b) (step.held log) =
    count-map (λ h. frees_by e.kind h.job h.reg && (h.reg == reg)) held_of (unended log)
    ∙ sym (count-map (λ b. f b && p b) step.bare (unended log)) in
    let taken : count_by p (option_to_list (step.booked log e)) ≡ cond (takes_by e.kind reg) 1 0 =
    one_taken e.kind (length log) e.now reg in
    let few : load_of (log ++ e ∷ []) reg ≤ length (unended (log ++ e ∷ [])) =
    count-few p (unended (log ++ e ∷ [])) in
    let fewer : length (unended (log ++ e ∷ [])) ≤ length (bookings (log ++ e ∷ [])) =
    filter-few is_unended (bookings (log ++ e ∷ [])) in
    let sum : load_of (log ++ e ∷ []) reg ≡ (load_of log reg - freed_at e.kind (held_rows log) reg) + cond
    (takes_by e.kind reg) 1 0 = omega (arith, new, parts, old, freed, taken) in
    sum ∙ sym (one_more_is (takes_by e.kind reg) (load_of log reg - freed_at e.kind (held_rows log) reg)
    (omega (arith, sum, few, fewer, small)))

-- the last sign

reserved_from : (job : JobId) (reg : ℕ) (front log : List CoreEntry)
    → list_any (λ d. reserves_by d.kind job reg) log ≡ list_any (λ b. same_job b.job job && (b.reg == reg))
    (filter_map booked_at (cuts_behind front log))
reserved_from job reg front [] = refl
reserved_from job reg front (x ∷ xs) = one x.kind (reserved_from job reg (front ++ x ∷ []) xs)
  where
    one : (k : CoreKind) → list_any (λ d. reserves_by d.kind job reg) xs ≡ list_any
        (λ b. same_job b.job job && (b.reg == reg)) (filter_map booked_at (cuts_behind (front ++ x ∷ []) xs))
        →
        (reserves_by k job reg || list_any (λ d. reserves_by d.kind job reg) xs) ≡ list_any
        (λ b. same_job b.job job && (b.reg == reg))
        (cons_option (booked_by k (length front) x.now xs)
        (filter_map booked_at (cuts_behind (front ++ x ∷ []) xs)))
    one (Reserve (Job j r forgiven)) rest = ap (λ b. (same_job j job && (r == reg)) || b) rest
    one (Reserve (NoRoom n)) rest = rest
    one (Reserve Spent) rest = rest
    one (Beat server nonce cpus key pruned reaped replaced is_new) rest = rest
    one (Commit j state kept) rest = rest
    one (Undo j noted was_ended) rest = rest
    one (Update server j state answer) rest = rest
    one (Status pruned servers cpus n) rest = rest
    one (Drain addr nonce on named) rest = rest

-- where a job is reserved at one registration, it is reserved nowhere else
abbrev IsOnlyAt : List CoreEntry → JobId → Option ℕ → Type 0
IsOnlyAt log job place = (reg : ℕ) → list_any (λ d. reserves_by d.kind job reg) log ≡ is_this place reg

only_at : (start : Start) (log : List CoreEntry) → Sound start log → (c : Committed) → IsOpenAt log c
    → IsOnlyAt log c.job c.reg
only_at start log sound c at reg =
    reserved_from c.job reg [] log
    ∙ split (at.reg == reg) refl
    ∙ ap (λ o. is_this o reg) (sym at.at)
  where
    bs : List Booking
    bs = bookings log

    here : list_any (λ b. same_job b.job c.job && (at.reg == b.reg)) (bookings log) ≡ true
    here = any-all (λ b. same_job b.job c.job && (at.reg == b.reg)) is_unended (bookings log)
        (sym (list_any-map (λ b. same_job b.job c.job && (at.reg == b.reg)) step.bare (unended log))
        ∙ at.held)

    alone : AllByRecursion (λ x. AllByRecursion (λ y. same_job y.job x.job ≡ true → y ≡ x) (bookings log))
        (bookings log)
    alone = own_only (λ b. b.job) (bookings log) sound.ids.distinct

    one : (b : Booking) × AllByRecursion (λ y. same_job y.job b.job ≡ true → y ≡ b) (bookings log)
        × ((same_job b.job c.job && (at.reg == b.reg)) ≡ true)
    one = found (λ x. AllByRecursion (λ y. same_job y.job x.job ≡ true → y ≡ x) (bookings log))
        (λ b. same_job b.job c.job && (at.reg == b.reg)) (bookings log) alone here

    split : (t : Bool) → (at.reg == reg) ≡ t → list_any (λ b. same_job b.job c.job && (b.reg == reg))
        (bookings log) ≡ t
    split true h = any-weaker (λ b. same_job b.job c.job && (at.reg == b.reg))
        (λ b. same_job b.job c.job && (b.reg == reg))
        (λ b t. both (same_job b.job c.job) (b.reg == reg)
        (and_left (same_job b.job c.job) (at.reg == b.reg) t)
        (eq-eqb b.reg reg (sym (eqb-true at.reg b.reg
        (and_right (same_job b.job c.job) (at.reg == b.reg) t)) ∙ eqb-true at.reg reg h)))
        (bookings log) here
    split false h = is_false (list_any (λ b. same_job b.job c.job && (b.reg == reg)) (bookings log)) (λ t.
        let other : (d : Booking) × (same_job d.job one.0.job ≡ true → d ≡ one.0)
        × ((same_job d.job c.job && (d.reg == reg)) ≡ true) =
        found (λ d. same_job d.job one.0.job ≡ true → d ≡ one.0)
        (λ b. same_job b.job c.job && (b.reg == reg)) (bookings log) one.1 t in
        let job_is : one.0.job ≡ c.job = same_job-eq one.0.job c.job
        (and_left (same_job one.0.job c.job) (at.reg == one.0.reg) one.2) in
        let same : other.0 ≡ one.0 =
        other.1 (subst (λ j. same_job other.0.job j ≡ true) (sym job_is)
        (and_left (same_job other.0.job c.job) (other.0.reg == reg) other.2)) in
        let there : one.0.reg ≡ reg = ap (λ (d : Booking). d.reg) (sym same) ∙ eqb-true other.0.reg reg
        (and_right (same_job other.0.job c.job) (other.0.reg == reg) other.2) in
        let place : at.reg ≡ one.0.reg = eqb-true at.reg one.0.reg
        (and_right (same_job one.0.job c.job) (at.reg == one.0.reg) one.2) in
        true_false (at.reg == reg) (eq-eqb at.reg reg (place ∙ there)) h)

open_only : (start : Start) (log : List CoreEntry) → Sound start log
    → AllByRecursion (λ o. IsOnlyAt log o.job o.reg) (open_rows log)
open_only start log sound = all-map (λ o. IsOnlyAt log o.job o.reg) (open_of log) (open_jobs log)
    (all-weaker (IsOpenAt log) (λ c. IsOnlyAt log c.job c.reg) (only_at start log sound) (open_jobs log)
    (open_at start log sound))

-- the registration that an update serves is that of the open job
pub serves_is : (start : Start) (log : List CoreEntry) (k : CoreKind) → Sound start log
    → Facts (core_of start log) k → (reg : ℕ)
    → serves log k reg ≡ is_this (served_by k (open_rows log)) reg
serves_is start log (Update server job state answer) sound is reg = heard (is_heard answer) refl
  where
    p : OpenRow → Bool
    p o = same_job o.job job

    by_row : (o : Option OpenRow) → find (λ o. same_job o.job job) (open_rows log) ≡ o
        → is_heard answer ≡ true → list_any (λ d. reserves_by d.kind job reg) log ≡ is_this (place_if o) reg
    by_row None e h = absurd
        (false≢true (ap (λ o. is_heard (advance_by o server state)) (sym e) ∙ ap is_heard (sym is) ∙ h))
    by_row (Some o) e h =
        let at : IsOnlyAt log o.job o.reg × (same_job o.job job ≡ true) = at_there (λ o. same_job o.job job)
        (open_rows log) o e (λ o. IsOnlyAt log o.job o.reg) (open_only start log sound) in
        ap (λ j. list_any (λ d. reserves_by d.kind j reg) log) (sym (same_job-eq o.job job at.1)) ∙ at.0 reg

    heard : (b : Bool) → is_heard answer ≡ b → (b && list_any (λ d. reserves_by d.kind job reg) log) ≡ is_this
        (cond b (place_if (find (λ o. same_job o.job job) (open_rows log))) None) reg
    heard true h = by_row (find (λ o. same_job o.job job) (open_rows log)) refl h
    heard false h = refl
serves_is start log (Beat server nonce cpus key pruned reaped replaced is_new) sound is reg = refl
serves_is start log (Reserve r) sound is reg = refl
serves_is start log (Commit job state kept) sound is reg = refl
serves_is start log (Undo job noted was_ended) sound is reg = refl
serves_is start log (Status pruned servers cpus n) sound is reg = refl
serves_is start log (Drain addr nonce on named) sound is reg = refl

-- the rows

abbrev seen_next : List CoreEntry → CoreEntry → ServerRow → ServerRow
seen_next log e row = record row {
  seen = cond (renews_by e.kind row.server || serves log e.kind row.reg)
      e.now row.seen;
  draining = draining_after e.kind row.reg row.draining;
}

-- an entry that registers takes nothing, and notes and forgives nothing
abbrev IsIdle : List CoreEntry → List CoreEntry → CoreKind → Type 0
IsIdle whole log (Beat server nonce cpus key pruned reaped replaced is_new) = (load_of whole (length log) ≡ 0)
    × (error_of whole (length log) ≡ None)
IsIdle whole log other = Unit {0}

new_row : (whole log : List CoreEntry) (now : ℕ) (k : CoreKind) (at : CoreEntry) → IsIdle whole log k
    → row_by k (length log) now ≡ option_map (row_of whole) (registered_by k now log at [])
new_row whole log now (Beat server nonce cpus key pruned reaped replaced true) at idle =
    ap (λ n. Some (record {
      reg = length log;
      server = server;
      cpus = cpus;
      nonce = nonce;
      seen = now;
      load = n;
      error = None;
      draining = false;
    })) (sym idle.0)
    ∙ ap (λ o. Some (record {
      reg = length log;
      server = server;
      cpus = cpus;
      nonce = nonce;
      seen = now;
      load = load_of whole (length log);
      error = o;
      draining = false;
    })) (sym idle.1)
new_row whole log now (Beat server nonce cpus key pruned reaped replaced false) at idle = refl
new_row whole log now (Reserve r) at idle = refl
new_row whole log now (Commit job state kept) at idle = refl
new_row whole log now (Undo job noted was_ended) at idle = refl
new_row whole log now (Update server job state answer) at idle = refl
new_row whole log now (Status pruned servers cpus n) at idle = refl
new_row whole log now (Drain addr nonce on named) at idle = refl

idle_new : (log : List CoreEntry) (now : ℕ) (k : CoreKind) → load_of log (length log) ≡ 0
    → error_of log (length log) ≡ None → length (bookings (log ++ record { now = now; kind = k } ∷ [])) < 2 ^
    64 → IsIdle (log ++ record { now = now; kind = k } ∷ []) log k
idle_new log now (Beat server nonce cpus key pruned reaped replaced is_new) zero_load no_error small =
    let e : CoreEntry = record { now = now; kind = Beat server nonce cpus key pruned reaped replaced is_new }
    in
    let load : load_of (log ++ e ∷ []) (length log) ≡ load_of log (length log) - freed_at e.kind
    (held_rows log) (length log) = load-push log e (length log) small in
    (omega (arith, load, zero_load), error_of-push log e (length log) ∙ no_error)
idle_new log now (Reserve r) zero_load no_error small = tt
idle_new log now (Commit job state kept) zero_load no_error small = tt
idle_new log now (Undo job noted was_ended) zero_load no_error small = tt
idle_new log now (Update server job state answer) zero_load no_error small = tt
idle_new log now (Status pruned servers cpus n) zero_load no_error small = tt
idle_new log now (Drain addr nonce on named) zero_load no_error small = tt

seen_grown : (next log : List CoreEntry) (e : CoreEntry) (g : Registered) → g.earlier ++ g.later ≡ log
    → stands g ≡ true → row_of next (grown e g) ≡ seen_next log e (row_of next g)
seen_grown next log e g whole up =
    ap (λ t. record (row_of next g) { seen = t; draining = is_draining (grown e g) })
    (last_sign-grown log e g whole up)
    ∙ ap (λ b. record (row_of next g) {
      seen = cond (renews_by e.kind g.server || serves log e.kind g.reg)
          e.now (last_sign g);
      draining = b;
    }) (draining-grown e g)

pub rows-absorb : (start : Start) (log : List CoreEntry) (e : CoreEntry) → Sound start log → Roomy log
    → Facts (core_of start log) e.kind → error_of log (length log) ≡ None
    → length (bookings (log ++ e ∷ [])) < 2 ^ 64 →
    map (row_after e (served_by e.kind (open_rows log)))
    (map (row_freed e.kind (held_rows log)) (filter (row_stays e.kind) (servers_of log)))
    ++ option_to_list (row_by e.kind (length log) e.now) ≡ servers_of (log ++ e ∷ [])
rows-absorb start log e sound room is no_error small =
    ap (λ rs. map after (map freed rs) ++ option_to_list (row_by e.kind (length log) e.now))
    (filter-map (row_stays e.kind) (row_of log) (standing log))
    ∙ ap (λ rs. map after rs ++ option_to_list (row_by e.kind (length log) e.now))
    (map-map freed (row_of log) left)
    ∙ ap (λ rs. rs ++ option_to_list (row_by e.kind (length log) e.now))
    (map-map after (λ g. freed (row_of log g)) left ∙ map-agree (λ g. after (freed (row_of log g)))
    (λ g. seen_next log e (row_of next g)) each left ∙ sym (map-map (seen_next log e) (row_of next) left)
    ∙ ap (map (seen_next log e)) (sym (filter-map (row_stays e.kind) (row_of next) (standing log))))
    ∙ ap (λ o. map (seen_next log e) (filter (row_stays e.kind) (map (row_of next) (standing log)))
    ++ option_to_list o) (new_row next log e.now e.kind e
    (idle_new log e.now e.kind zero_load no_error small))
    ∙ sym (standing-push (row_of next) seen_next (λ d r. row_stays d.kind r) (λ d g. refl)
    (λ l d g whole up. seen_grown next l d g whole up) log e)
  where
    next : List CoreEntry
    next = log ++ e ∷ []

    after : ServerRow → ServerRow
    after = row_after e (served_by e.kind (open_rows log))

    freed : ServerRow → ServerRow
    freed = row_freed e.kind (held_rows log)

    left : List Registered
    left = filter (λ g. row_stays e.kind (row_of log g)) (standing log)

    zero_load : load_of log (length log) ≡ 0
    zero_load = load_held log (length log) ∙ count_none (λ b. b.reg == length log) (step.held log)
        (none_next log room.below sound.held_stands)

    each : (g : Registered) → row_after e (served_by e.kind (open_rows log))
        (row_freed e.kind (held_rows log) (row_of log g)) ≡ seen_next log e (row_of (log ++ e ∷ []) g)
    each g =
        ap (λ b. record (row_of log g) {
          seen = cond (renews_by e.kind g.server || b) e.now (last_sign g);
          load = one_more_if (takes_by e.kind g.reg)
              (load_of log g.reg - freed_at e.kind (held_rows log) g.reg);
          error =
              error_after e g.reg (error_of log g.reg);
          draining = draining_after e.kind g.reg (is_draining g);
        }) (sym (serves_is start log e.kind sound is g.reg))
        ∙ ap (λ n. record (row_of log g) {
          seen = cond (renews_by e.kind g.server || serves log e.kind g.reg)
              e.now (last_sign g);
          load = n;
          error = error_after e g.reg (error_of log g.reg);
          draining = draining_after e.kind g.reg (is_draining g);
        })
        (sym (load-push log e g.reg small))
        ∙ ap (λ o. record (row_of log g) {
          seen = cond (renews_by e.kind g.server || serves log e.kind g.reg)
              e.now (last_sign g);
          load = load_of (log ++ e ∷ []) g.reg;
          error = o;
          draining = draining_after e.kind g.reg (is_draining g);
        })
        (sym (error_of-push log e g.reg))
