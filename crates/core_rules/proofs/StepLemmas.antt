-- What one more entry does to the lists of reservations, commits and open jobs.
use Rattle.std.proofs.Common.{◌≡◌, ℕ, ◌+◌, List, [], ◌∷◌, ◌++◌, Bool, true, false, cond, not, ◌&&◌, ◌||◌, map}
use Rattle.std.proofs.Common.{filter, length, Option, Some, None, refl, ap, ◌∙◌, sym, arith}
use Rattle.std.specs.Prelude.{option_to_list, count_by, unwrap_or}
use Rattle.std.specs.List.{AllByRecursion, list_any, filter_map, cons_option}
use Rattle.std.specs.Option.{option_map}
use Rattle.std.proofs.lemmas.Bool.{false≢true}
use Rattle.std.proofs.lemmas.List.{map-append}
use Rattle.std.proofs.lemmas.List.Sums.{sum_by-cons}
use Rattle.std.proofs.lemmas.List.Elements.{filter-append, filter_map-append}
use Rattle.core_rules.specs.Cuts.{cuts, cuts_behind}
use Rattle.dist_types.specs.declared.ids.JobId.{JobId}
use Rattle.dist_types.specs.declared.results.JobState.{JobState}
use Rattle.dist_types.specs.declared.results.JobState.TheVariants.{Pending, Ready, Started, Complete}
use Rattle.core_rules.proofs.Lists.{newest-push, map-map, filter-map, filter-filter, map-same, followed}
use Rattle.core_rules.proofs.Lists.{cuts_behind-push, filter_map-map, cons_nil, map-option, end_cut, Grows}
use Rattle.core_rules.proofs.Lists.{lasting-push, latest-push}
use Rattle.core_rules.specs.declared.entry.CoreEntry.{CoreEntry}
use Rattle.core_rules.specs.declared.entry.CoreKind.{CoreKind}
use Rattle.core_rules.specs.declared.entry.CoreKind.TheVariants.{Beat, Reserve, Commit, Undo, Update}
use Rattle.core_rules.specs.declared.entry.CoreKind.TheVariants.{Status, Drain}
use Rattle.core_rules.specs.declared.entry.Reserved.TheVariants.{Job, NoRoom, Spent}
use Rattle.core_rules.specs.Advance.{follows}
use Rattle.core_rules.specs.Log.{same_job, newest, newer, latest}
use Rattle.core_rules.specs.Standing.{registered_at, ends_by, standing}
use Rattle.core_rules.specs.Reservation.{is_booked, Booking, booked_by, booked_at, bookings, is_unspent}
use Rattle.core_rules.specs.Reservation.{is_unended, unspent, unended, spends_by, frees_by, is_complete}
use Rattle.core_rules.specs.Reservation.{is_accepted, completes_by, reaps_by}
use Rattle.core_rules.specs.Job.{Committed, committed_by, committed_at, commits, is_open, open_jobs}
use Rattle.core_rules.specs.Job.{closes_by, drops_by, ends_place_by, places_by, place_of}
use Rattle.core_rules.specs.Job.{moves_by, moves_of, state_now}
use Rattle.core_rules.proofs.StandingLemmas.{none-push, standing-push}

-- without the entries after it
abbrev pub bare : Booking → Booking
bare b = record b { later = [] }

abbrev pub bare_commit : Committed → Committed
bare_commit c = record c { later = [] }

-- every reservation, the unended, the unspent; the kept commits, the open jobs; the numbers of the
-- registrations that stand
abbrev pub taken : List CoreEntry → List Booking
taken log = map bare (bookings log)

abbrev pub held : List CoreEntry → List Booking
held log = map bare (unended log)

abbrev pub free : List CoreEntry → List Booking
free log = map bare (unspent log)

abbrev pub kept : List CoreEntry → List Committed
kept log = map bare_commit (commits log)

abbrev pub begun : List CoreEntry → List Committed
begun log = map bare_commit (open_jobs log)

abbrev pub regs : List CoreEntry → List ℕ
regs log = map (λ g. g.reg) (standing log)

-- the reservation that an entry makes, and the commit
abbrev pub booked : List CoreEntry → CoreEntry → Option Booking
booked log e = booked_by e.kind (length log) e.now []

abbrev pub committed : List CoreEntry → CoreEntry → Option Committed
committed log e = committed_by e.kind log []

abbrev pub grown : CoreEntry → Booking → Booking
grown e b = record b { later = b.later ++ e ∷ [] }

pub booked-grown : (k : CoreKind) (number now : ℕ) (later : List CoreEntry) (e : CoreEntry)
    → booked_by k number now (later ++ e ∷ []) ≡ option_map (grown e) (booked_by k number now later)
booked-grown (Beat server nonce cpus key pruned reaped replaced is_new) number now later e = refl
booked-grown (Reserve (Job job reg forgiven)) number now later e = refl
booked-grown (Reserve (NoRoom n)) number now later e = refl
booked-grown (Reserve Spent) number now later e = refl
booked-grown (Commit job state kept) number now later e = refl
booked-grown (Undo job noted was_ended) number now later e = refl
booked-grown (Update server job state answer) number now later e = refl
booked-grown (Status pruned servers cpus jobs) number now later e = refl
booked-grown (Drain addr nonce on named) number now later e = refl

-- every reservation, each with one more entry after it, and the one that the entry makes
pub bookings-push : (log : List CoreEntry) (e : CoreEntry) → bookings (log ++ e ∷ []) ≡ map (grown e)
    (bookings log) ++ option_to_list (booked log e)
bookings-push log e =
    ap (filter_map booked_at) (cuts_behind-push [] log e)
    ∙ filter_map-append booked_at (map (followed e) (cuts log)) (end_cut log e ∷ [])
    ∙ ap (λ bs. bs ++ filter_map booked_at (end_cut log e ∷ []))
    (filter_map-map booked_at booked_at (followed e) (grown e)
    (λ c. booked-grown c.at.kind (length c.before) c.at.now c.after e) (cuts log))
    ∙ ap (λ bs. map (grown e) (bookings log) ++ bs) (cons_nil (booked log e))

booked-bare : (k : CoreKind) (number now : ℕ)
    → option_map bare (booked_by k number now []) ≡ booked_by k number now []
booked-bare (Beat server nonce cpus key pruned reaped replaced is_new) number now = refl
booked-bare (Reserve (Job job reg forgiven)) number now = refl
booked-bare (Reserve (NoRoom n)) number now = refl
booked-bare (Reserve Spent) number now = refl
booked-bare (Commit job state kept) number now = refl
booked-bare (Undo job noted was_ended) number now = refl
booked-bare (Update server job state answer) number now = refl
booked-bare (Status pruned servers cpus jobs) number now = refl
booked-bare (Drain addr nonce on named) number now = refl

pub taken-push : (log : List CoreEntry) (e : CoreEntry) → taken (log ++ e ∷ []) ≡ taken log ++ option_to_list
    (booked log e)
taken-push log e =
    ap (map bare) (bookings-push log e)
    ∙ map-append bare (map (grown e) (bookings log)) (option_to_list (booked log e))
    ∙ ap (λ bs. bs ++ map bare (option_to_list (booked log e))) (map-map bare (grown e) (bookings log))
    ∙ ap (λ bs. taken log ++ bs)
    (map-option bare (booked log e) ∙ ap option_to_list (booked-bare e.kind (length log) e.now))

pub booked_fresh : (lasts : Booking → Bool) → ((b : Booking) → b.later ≡ [] → lasts b ≡ true)
    → (k : CoreKind) (number now : ℕ) (later : List CoreEntry) → later ≡ []
    → filter lasts (option_to_list (booked_by k number now later)) ≡ option_to_list
    (booked_by k number now later)
booked_fresh lasts h (Beat server nonce cpus key pruned reaped replaced is_new) number now later none = refl
booked_fresh lasts h (Reserve (Job job reg forgiven)) number now later none = let b : Booking =
    record { number = number; now = now; job = job; reg = reg; later = later } in ap (λ t. cond t (b ∷ []) [])
    (h b none)
booked_fresh lasts h (Reserve (NoRoom n)) number now later none = refl
booked_fresh lasts h (Reserve Spent) number now later none = refl
booked_fresh lasts h (Commit job state kept) number now later none = refl
booked_fresh lasts h (Undo job noted was_ended) number now later none = refl
booked_fresh lasts h (Update server job state answer) number now later none = refl
booked_fresh lasts h (Status pruned servers cpus jobs) number now later none = refl
booked_fresh lasts h (Drain addr nonce on named) number now later none = refl

abbrev pub held_stays : CoreEntry → Booking → Bool
held_stays e b = not (frees_by e.kind b.job b.reg)

abbrev pub free_stays : CoreEntry → Booking → Bool
free_stays e b = not (spends_by e.kind b.job)

held_grow : Grows booked_at is_unended bare (λ e b. b) held_stays
held_grow = record {
  grow = grown;
  made = λ e c. booked-grown c.at.kind (length c.before) c.at.now c.after e;
  lasts_on = λ e b. none-push (λ d. frees_by d.kind b.job b.reg) b.later e;
  changed = λ e b up. refl;
  fresh = λ c none. booked_fresh is_unended
      (λ b empty. ap (λ l. not (list_any (λ e. frees_by e.kind b.job b.reg) l)) empty) c.at.kind
      (length c.before) c.at.now c.after none;
}

free_grow : Grows booked_at is_unspent bare (λ e b. b) free_stays
free_grow = record {
  grow = grown;
  made = λ e c. booked-grown c.at.kind (length c.before) c.at.now c.after e;
  lasts_on = λ e b. none-push (λ d. spends_by d.kind b.job) b.later e;
  changed = λ e b up. refl;
  fresh = λ c none. booked_fresh is_unspent
      (λ b empty. ap (λ l. not (list_any (λ e. spends_by e.kind b.job) l)) empty) c.at.kind
      (length c.before) c.at.now c.after none;
}

pub held-push : (log : List CoreEntry) (e : CoreEntry) → held (log ++ e ∷ []) ≡ filter (held_stays e)
    (held log) ++ option_to_list (booked log e)
held-push log e =
    lasting-push booked_at is_unended bare (λ e b. b) held_stays held_grow log e
    ∙ ap (λ bs. bs ++ option_to_list (option_map bare (booked log e)))
    (map-same (λ b. b) (λ b. refl) (filter (held_stays e) (held log)))
    ∙ ap (λ o. filter (held_stays e) (held log) ++ option_to_list o) (booked-bare e.kind (length log) e.now)

pub free-push : (log : List CoreEntry) (e : CoreEntry) → free (log ++ e ∷ []) ≡ filter (free_stays e)
    (free log) ++ option_to_list (booked log e)
free-push log e =
    lasting-push booked_at is_unspent bare (λ e b. b) free_stays free_grow log e
    ∙ ap (λ bs. bs ++ option_to_list (option_map bare (booked log e)))
    (map-same (λ b. b) (λ b. refl) (filter (free_stays e) (free log)))
    ∙ ap (λ o. filter (free_stays e) (free log) ++ option_to_list o) (booked-bare e.kind (length log) e.now)

-- commits

abbrev pub grown_commit : CoreEntry → Committed → Committed
grown_commit e c = record c { later = c.later ++ e ∷ [] }

pub committed-grown : (k : CoreKind) (before later : List CoreEntry) (e : CoreEntry)
    → committed_by k before (later ++ e ∷ []) ≡ option_map (grown_commit e) (committed_by k before later)
committed-grown (Beat server nonce cpus key pruned reaped replaced is_new) before later e = refl
committed-grown (Reserve r) before later e = refl
committed-grown (Commit job state true) before later e = refl
committed-grown (Commit job state false) before later e = refl
committed-grown (Undo job noted was_ended) before later e = refl
committed-grown (Update server job state answer) before later e = refl
committed-grown (Status pruned servers cpus jobs) before later e = refl
committed-grown (Drain addr nonce on named) before later e = refl

committed-bare : (k : CoreKind) (before : List CoreEntry)
    → option_map bare_commit (committed_by k before []) ≡ committed_by k before []
committed-bare (Beat server nonce cpus key pruned reaped replaced is_new) before = refl
committed-bare (Reserve r) before = refl
committed-bare (Commit job state true) before = refl
committed-bare (Commit job state false) before = refl
committed-bare (Undo job noted was_ended) before = refl
committed-bare (Update server job state answer) before = refl
committed-bare (Status pruned servers cpus jobs) before = refl
committed-bare (Drain addr nonce on named) before = refl

pub commits-push : (log : List CoreEntry) (e : CoreEntry) → commits (log ++ e ∷ []) ≡ map (grown_commit e)
    (commits log) ++ option_to_list (committed log e)
commits-push log e =
    ap (filter_map committed_at) (cuts_behind-push [] log e)
    ∙ filter_map-append committed_at (map (followed e) (cuts log)) (end_cut log e ∷ [])
    ∙ ap (λ cs. cs ++ filter_map committed_at (end_cut log e ∷ []))
    (filter_map-map committed_at committed_at (followed e) (grown_commit e)
    (λ c. committed-grown c.at.kind c.before c.after e) (cuts log))
    ∙ ap (λ cs. map (grown_commit e) (commits log) ++ cs) (cons_nil (committed log e))

pub kept-push : (log : List CoreEntry) (e : CoreEntry) → kept (log ++ e ∷ []) ≡ kept log ++ option_to_list
    (committed log e)
kept-push log e =
    ap (map bare_commit) (commits-push log e)
    ∙ map-append bare_commit (map (grown_commit e) (commits log)) (option_to_list (committed log e))
    ∙ ap (λ cs. cs ++ map bare_commit (option_to_list (committed log e)))
    (map-map bare_commit (grown_commit e) (commits log))
    ∙ ap (λ cs. kept log ++ cs) (map-option bare_commit (committed log e)
    ∙ ap option_to_list (committed-bare e.kind log))

abbrev pub begun_stays : CoreEntry → Committed → Bool
begun_stays e c = not (closes_by e.kind c.job c.reg)

-- where it was last reserved, with one more entry
pub place_of-push : (job : JobId) (log : List CoreEntry) (e : CoreEntry)
    → place_of job (log ++ e ∷ []) ≡ newer (places_by e.kind job) (place_of job log)
place_of-push job log e =
    ap (newest None) (filter_map-append (λ d. places_by d.kind job) log (e ∷ [])
    ∙ ap (λ ps. filter_map (λ d. places_by d.kind job) log ++ ps) (cons_nil (places_by e.kind job)))
    ∙ newest-push None (filter_map (λ d. places_by d.kind job) log) (places_by e.kind job)

-- the numbers of the registrations that stand, with one more entry
pub regs-push : (log : List CoreEntry) (e : CoreEntry) → regs (log ++ e ∷ []) ≡ filter
    (λ r. not (ends_by e.kind r)) (regs log) ++ option_to_list
    (option_map (λ g. g.reg) (registered_at (end_cut log e)))
regs-push log e =
    standing-push (λ g. g.reg) (λ l d r. r) (λ d r. not (ends_by d.kind r)) (λ d g. refl)
    (λ l d g whole up. refl) log e
    ∙ ap (λ rs. rs ++ option_to_list (option_map (λ g. g.reg) (registered_at (end_cut log e))))
    (map-same (λ r. r) (λ r. refl) (filter (λ r. not (ends_by e.kind r)) (regs log)))

-- the open jobs, with one more entry
fresh_begun : (k : CoreKind) (before : List CoreEntry)
    → map bare_commit (filter is_open (option_to_list (committed_by k before []))) ≡ filter
    (λ c. not (is_complete c.state)) (option_to_list (committed_by k before []))
fresh_begun (Beat server nonce cpus key pruned reaped replaced is_new) before = refl
fresh_begun (Reserve r) before = refl
fresh_begun (Commit job Pending true) before = refl
fresh_begun (Commit job Ready true) before = refl
fresh_begun (Commit job Started true) before = refl
fresh_begun (Commit job Complete true) before = refl
fresh_begun (Commit job state false) before = refl
fresh_begun (Undo job noted was_ended) before = refl
fresh_begun (Update server job state answer) before = refl
fresh_begun (Status pruned servers cpus jobs) before = refl
fresh_begun (Drain addr nonce on named) before = refl

-- the state of a commit, with one more entry
pub state_now-grown : (e : CoreEntry) (c : Committed) → state_now (grown_commit e c) ≡ unwrap_or
    (moves_by e.kind c.job) (state_now c)
state_now-grown e c =
    ap (latest c.state) (filter_map-append (λ d. moves_by d.kind c.job) c.later (e ∷ [])
    ∙ ap (λ ss. moves_of c ++ ss) (cons_nil (moves_by e.kind c.job)))
    ∙ latest-push c.state (moves_of c) (moves_by e.kind c.job)

-- an entry moves the job to a state that follows this one, if it moves it
abbrev pub MovesOn : CoreKind → JobId → JobState → Type 0
MovesOn k job from = (to : JobState) → moves_by k job ≡ Some to → follows from to ≡ true

pub or_none : (b : Bool) → b ≡ (b || false)
or_none true = refl
or_none false = refl

-- so a complete job stays complete, and another is complete where the entry says so
pub complete-on : (k : CoreKind) (job : JobId) (from : JobState) → MovesOn k job from
    → is_complete (unwrap_or (moves_by k job) from) ≡ (is_complete from || completes_by k job)
complete-on (Update server j state answer) job from on = split (is_accepted answer) (same_job j job) on
  where
    moved : (from to : JobState) → follows from to ≡ true
        → is_complete to ≡ (is_complete from || ((is_complete to && true) && true))
    moved from Pending step = by from step
      where
        by : (from : JobState) → follows from Pending ≡ true → false ≡ (is_complete from || false)
        by Pending h = refl
        by Ready h = refl
        by Started h = refl
        by Complete h = absurd (false≢true h)
    moved from Ready step = by from step
      where
        by : (from : JobState) → follows from Ready ≡ true → false ≡ (is_complete from || false)
        by Pending h = refl
        by Ready h = refl
        by Started h = refl
        by Complete h = absurd (false≢true h)
    moved from Started step = by from step
      where
        by : (from : JobState) → follows from Started ≡ true → false ≡ (is_complete from || false)
        by Pending h = refl
        by Ready h = refl
        by Started h = refl
        by Complete h = absurd (false≢true h)
    moved from Complete step = by from
      where
        by : (from : JobState) → true ≡ (is_complete from || true)
        by Pending = refl
        by Ready = refl
        by Started = refl
        by Complete = refl

    unmoved : (b c : Bool) → b ≡ (b || ((c && false) && true))
    unmoved true c = refl
    unmoved false true = refl
    unmoved false false = refl

    other : (b c : Bool) → b ≡ (b || (c && false))
    other true c = refl
    other false true = refl
    other false false = refl

    split : (accepted same : Bool)
        → ((to : JobState) → cond (accepted && same) (Some state) None ≡ Some to → follows from to ≡ true)
        → is_complete (unwrap_or (cond (accepted && same) (Some state) None) from)
        ≡ (is_complete from || ((is_complete state && accepted) && same))
    split true true on = moved from state (on state refl)
    split true false on = other (is_complete from) (is_complete state && true)
    split false true on = unmoved (is_complete from) (is_complete state)
    split false false on = other (is_complete from) (is_complete state && false)
complete-on (Beat server nonce cpus key pruned reaped replaced is_new) job from on = or_none (is_complete from)
complete-on (Reserve r) job from on = or_none (is_complete from)
complete-on (Commit j state kept) job from on = or_none (is_complete from)
complete-on (Undo j noted was_ended) job from on = or_none (is_complete from)
complete-on (Status pruned servers cpus jobs) job from on = or_none (is_complete from)
complete-on (Drain addr nonce on_it named) job from on = or_none (is_complete from)

-- of a job that is complete or not, and is completed, dropped, reaped or loses its place
closed_by : (is_over completes dropped reaps ends : Bool)
    → (not (is_over || completes) && (not dropped && not (reaps || ends)))
    ≡ ((not is_over && not dropped) && not (completes || reaps || ends))
closed_by true completes dropped reaps ends = refl
closed_by false true true reaps ends = refl
closed_by false true false reaps ends = refl
closed_by false false true reaps ends = refl
closed_by false false false reaps ends = refl

pub open-grown : (e : CoreEntry) (c : Committed) → MovesOn e.kind c.job (state_now c)
    → is_open (grown_commit e c) ≡ (is_open c && begun_stays e (bare_commit c))
open-grown e c on =
    ap (λ s. not (is_complete s) && not (list_any drops (c.later ++ e ∷ []))) (state_now-grown e c)
    ∙ ap (λ b. not b && not (list_any drops (c.later ++ e ∷ []))) (complete-on e.kind c.job (state_now c) on)
    ∙ ap (λ b. not (is_complete (state_now c) || completes_by e.kind c.job) && b) (none-push drops c.later e)
    ∙ closed_by (is_complete (state_now c)) (completes_by e.kind c.job) (list_any drops c.later)
    (reaps_by e.kind c.job) (ends_place_by e.kind c.reg)
  where
    drops : CoreEntry → Bool
    drops d = drops_by d.kind c.job c.reg

-- an entry moves each job that was committed on from its state, if it moves it
abbrev pub MovesEachOn : List CoreEntry → CoreKind → Type 0
MovesEachOn log k = AllByRecursion (λ c. MovesOn k c.job (state_now c)) (commits log)

pub open_agree : (e : CoreEntry) (cs : List Committed)
    → AllByRecursion (λ c. MovesOn e.kind c.job (state_now c)) cs
    → filter (λ c. is_open (grown_commit e c)) cs ≡ filter (λ c. is_open c && begun_stays e (bare_commit c)) cs
open_agree e [] on = refl
open_agree e (c ∷ cs) on = rw (open-grown e c on.0, open_agree e cs on.1) refl

pub begun-push : (log : List CoreEntry) (e : CoreEntry) → MovesEachOn log e.kind
    → begun (log ++ e ∷ []) ≡ filter (begun_stays e) (begun log)
    ++ filter (λ c. not (is_complete c.state)) (option_to_list (committed log e))
begun-push log e on =
    ap (λ cs. map bare_commit (filter is_open cs)) (commits-push log e)
    ∙ ap (map bare_commit) (filter-append is_open (map (grown_commit e) (commits log))
    (option_to_list (committed log e)))
    ∙ map-append bare_commit (filter is_open (map (grown_commit e) (commits log)))
    (filter is_open (option_to_list (committed log e)))
    ∙ ap (λ cs. map bare_commit (filter is_open (map (grown_commit e) (commits log))) ++ cs)
    (fresh_begun e.kind log)
    ∙ ap (λ cs. map bare_commit cs ++ new) (filter-map is_open (grown_commit e) (commits log))
    ∙ ap (λ cs. cs ++ new) (map-map bare_commit (grown_commit e)
    (filter (λ c. is_open (grown_commit e c)) (commits log)))
    ∙ ap (λ cs. map bare_commit cs ++ new) (open_agree e (commits log) on)
    ∙ ap (λ cs. map bare_commit cs ++ new) (filter-filter (λ c. begun_stays e (bare_commit c)) is_open
    (commits log))
    ∙ ap (λ cs. cs ++ new) (sym (filter-map (begun_stays e) bare_commit (open_jobs log)))
  where
    new : List Committed
    new = filter (λ c. not (is_complete c.state)) (option_to_list (committed log e))

-- the reservations are as many as the entries that make one
booked_step : (k : CoreKind) (number now : ℕ) (later : List CoreEntry) (n : ℕ) (bs : List Booking)
    → n ≡ length bs → cond (is_booked k) 1 0 + n ≡ length (cons_option (booked_by k number now later) bs)
booked_step (Beat server nonce cpus key pruned reaped replaced is_new) number now later n bs e =
    omega (arith, e)
booked_step (Reserve (Job job reg forgiven)) number now later n bs e = omega (arith, e)
booked_step (Reserve (NoRoom m)) number now later n bs e = omega (arith, e)
booked_step (Reserve Spent) number now later n bs e = omega (arith, e)
booked_step (Commit job state kept) number now later n bs e = omega (arith, e)
booked_step (Undo job noted was_ended) number now later n bs e = omega (arith, e)
booked_step (Update server job state answer) number now later n bs e = omega (arith, e)
booked_step (Status pruned servers cpus jobs) number now later n bs e = omega (arith, e)
booked_step (Drain addr nonce on named) number now later n bs e = omega (arith, e)

booked_from : (front xs : List CoreEntry) → count_by (λ e. is_booked e.kind) xs ≡ length
    (filter_map booked_at (cuts_behind front xs))
booked_from front [] = refl
booked_from front (x ∷ xs) = sum_by-cons (λ e. cond (is_booked e.kind) 1 0) x xs
    ∙ booked_step x.kind (length front) x.now xs (count_by (λ e. is_booked e.kind) xs)
    (filter_map booked_at (cuts_behind (front ++ x ∷ []) xs)) (booked_from (front ++ x ∷ []) xs)

pub bookings-count : (log : List CoreEntry) → count_by (λ e. is_booked e.kind) log ≡ length (bookings log)
bookings-count log = booked_from [] log
