-- In each legal log an open job is held at one registration, which stands.
use Rattle.std.proofs.Common.{◌≡◌, ℕ, ◌^◌, ◌<◌, List, [], ◌∷◌, ◌++◌, Bool, true, false, cond, not, ◌&&◌, ◌||◌}
use Rattle.std.proofs.Common.{filter, length, map, Option, Some, None, refl, ap, ◌∙◌, sym, subst, eq-eqb}
use Rattle.std.proofs.Common.{eqb-true, append-nil}
use Rattle.std.specs.Prelude.{◌==◌, option_to_list}
use Rattle.std.specs.List.{AllByRecursion, list_any}
use Rattle.std.specs.Option.{option_map}
use Rattle.std.proofs.lemmas.Bool.{false≢true}
use Rattle.std.proofs.lemmas.List.{map-append}
use Rattle.dist_types.specs.declared.ids.JobId.{JobId}
use Rattle.core_rules.specs.declared.start.Start.{Start}
use Rattle.core_rules.proofs.Lists.{end_cut}
use Rattle.core_rules.specs.declared.entry.CoreEntry.{CoreEntry}
use Rattle.core_rules.specs.declared.entry.CoreKind.{CoreKind}
use Rattle.core_rules.specs.declared.entry.CoreKind.TheVariants.{Beat, Reserve, Commit, Undo, Update}
use Rattle.core_rules.specs.declared.entry.CoreKind.TheVariants.{Status, Drain}
use Rattle.core_rules.specs.declared.entry.Reserved.TheVariants.{Job, NoRoom, Spent}
use Rattle.core_rules.specs.Log.{Core, same_job, names, is_this, newer}
use Rattle.core_rules.specs.Standing.{registered_at, standing, ends_by}
use Rattle.core_rules.specs.Reservation.{Booking, booked_by, bookings, unspent, unended, is_unended}
use Rattle.core_rules.specs.Reservation.{frees_by}
use Rattle.core_rules.specs.Reservation.{ends_job_by, undoes_by, reaps_by, completes_by, is_complete}
use Rattle.core_rules.specs.Job.{Committed, committed_by, places_by, place_of, closes_by, ends_place_by}
use Rattle.core_rules.specs.Job.{commits, open_jobs}
use Rattle.core_rules.specs.Rows.{row_of, servers_of}
use Rattle.core_rules.specs.Laws.{IsRule, IsLegal, IsHeldOnce, HasStanding, AreDistinct}
use Rattle.core_rules.proofs.LegalLemmas.{core_of, legal_has}
use Rattle.core_rules.proofs.Lists.{list_any-map, map-map}
use Rattle.core_rules.proofs.AllLemmas.{and_left, and_right, both, or_left, or_right, neither, not_true}
use Rattle.core_rules.proofs.AllLemmas.{not_false, true_false, is_false, same_job-refl, same_job-sym}
use Rattle.core_rules.proofs.AllLemmas.{same_job-trans, same_job-eq, other_job-sym, all-weaker, all-both}
use Rattle.core_rules.proofs.AllLemmas.{all-append, all-filter, all-unmap, all-step, any-append, any-weaker}
use Rattle.core_rules.proofs.AllLemmas.{any-kept, any-end, none-kept, none-left, none-append, found}
use Rattle.core_rules.proofs.AllLemmas.{distinct-filter, distinct-push, only, names-filter, all-map}
use Rattle.core_rules.proofs.StepLemmas.{bare, bare_commit, held, free, kept, begun, regs, booked}
use Rattle.core_rules.proofs.StepLemmas.{committed}
use Rattle.core_rules.proofs.StepLemmas.{held_stays, free_stays, begun_stays, held-push, free-push}
use Rattle.core_rules.proofs.StepLemmas.{kept-push}
use Rattle.core_rules.proofs.StepLemmas.{MovesEachOn, begun-push, place_of-push, regs-push}
use Rattle.core_rules.proofs.StepLemmas.{grown_commit, commits-push}
use Rattle.core_rules.proofs.FactLemmas.{Facts, SpendFacts, facts, pick_there}
use Rattle.core_rules.proofs.MovedLemmas.{moved_on}
use Rattle.core_rules.proofs.SoundLemmas.{HasIds, jobs, jobs-push, ids-step, fresh_job, no_ids}

-- the job was reserved
abbrev pub IsKnown : List CoreEntry → JobId → Type 0
IsKnown log job = list_any (λ k. same_job k job) (jobs log) ≡ true

-- it was reserved, and is no longer unspent
abbrev pub IsPast : List CoreEntry → JobId → Type 0
IsPast log job = IsKnown log job × (list_any (λ b. same_job b.job job) (free log) ≡ false)

-- it is held at its place
abbrev pub IsHeldAt : List CoreEntry → Committed → Type 0
IsHeldAt log c = list_any (λ b. same_job b.job c.job && is_this c.reg b.reg) (held log) ≡ true

pub record Sound (start : Start) (log : List CoreEntry) : Type 0 where
  pub ids : HasIds start (jobs log)
  pub held_known : AllByRecursion (λ b. IsKnown log b.job) (held log)
  pub free_known : AllByRecursion (λ b. IsKnown log b.job) (free log)
  pub held_placed : AllByRecursion (λ b. place_of b.job log ≡ Some b.reg) (held log)
  pub held_stands : AllByRecursion (λ b. names (regs log) b.reg ≡ true) (held log)
  pub kept_past : AllByRecursion (λ c. IsPast log c.job) (kept log)
  pub committed : AreDistinct (map (λ c. c.job) (commits log))
  pub begun_past : AllByRecursion (λ c. IsPast log c.job) (begun log)
  pub begun_held : AllByRecursion (IsHeldAt log) (begun log)

pub is_this-eq : (o : Option ℕ) (n : ℕ) → is_this o n ≡ true → o ≡ Some n
is_this-eq None n e = absurd (false≢true e)
is_this-eq (Some m) n e = ap (λ x. Some x) (eqb-true m n e)

-- a known job stays known
pub known-on : (log : List CoreEntry) (e : CoreEntry) (j : JobId) → IsKnown log j → IsKnown (log ++ e ∷ []) j
known-on log e j is = subst (λ js. list_any (λ k. same_job k j) js ≡ true) (sym (jobs-push log e))
    (any-append (λ k. same_job k j) (jobs log) (option_to_list (option_map (λ b. b.job) (booked log e))) is)

known_end : (js : List JobId) (o : Option Booking)
    → AllByRecursion (λ b. list_any (λ k. same_job k b.job) (js ++ option_to_list (option_map (λ b. b.job) o))
    ≡ true) (option_to_list o)
known_end js None = tt
known_end js (Some b) = (any-end (λ k. same_job k b.job) js b.job (same_job-refl b.job), tt)

new_known : (log : List CoreEntry) (e : CoreEntry) → AllByRecursion (λ b. IsKnown (log ++ e ∷ []) b.job)
    (option_to_list (booked log e))
new_known log e = subst (λ js. AllByRecursion (λ b. list_any (λ k. same_job k b.job) js ≡ true)
    (option_to_list (booked log e))) (sym (jobs-push log e)) (known_end (jobs log) (booked log e))

-- a new job is no known one
pub new_other : (start : Start) (log : List CoreEntry) (k : CoreKind) (number now : ℕ)
    → HasIds start (jobs log) → Facts (core_of start log) k → (x : JobId) → IsKnown log x
    → AllByRecursion (λ b. same_job b.job x ≡ false) (option_to_list (booked_by k number now []))
new_other start log (Reserve (Job job reg forgiven)) number now ids is x known =
    let old : (k : JobId) × (same_job k job ≡ false) × (same_job k x ≡ true) =
    found (λ k. same_job k job ≡ false) (λ k. same_job k x) (jobs log)
    (fresh_job start log job reg ids is) known in (
      is_false (same_job job x)
          (λ t. true_false (same_job old.0 job) (same_job-trans old.0 x job old.2 (same_job-sym job x t))
          old.1),
      tt,
    )
new_other start log (Reserve (NoRoom n)) number now ids is x known = tt
new_other start log (Reserve Spent) number now ids is x known = tt
new_other start log (Beat server nonce cpus key pruned reaped replaced is_new) number now ids is x known
    = tt
new_other start log (Commit job state is_kept) number now ids is x known = tt
new_other start log (Undo job noted was_ended) number now ids is x known = tt
new_other start log (Update server job state answer) number now ids is x known = tt
new_other start log (Status pruned servers cpus n) number now ids is x known = tt
new_other start log (Drain addr nonce on named) number now ids is x known = tt

-- no entry places a known job anew
places_none : (start : Start) (log : List CoreEntry) (k : CoreKind) → HasIds start (jobs log)
    → Facts (core_of start log) k → (x : JobId) → IsKnown log x → places_by k x ≡ None
places_none start log (Reserve (Job job reg forgiven)) ids is x known = ap (λ b. cond b (Some reg) None)
    (new_other start log (Reserve (Job job reg forgiven)) 0 0 ids is x known).0
places_none start log (Reserve (NoRoom n)) ids is x known = refl
places_none start log (Reserve Spent) ids is x known = refl
places_none start log (Beat server nonce cpus key pruned reaped replaced is_new) ids is x known = refl
places_none start log (Commit job state is_kept) ids is x known = refl
places_none start log (Undo job noted was_ended) ids is x known = refl
places_none start log (Update server job state answer) ids is x known = refl
places_none start log (Status pruned servers cpus n) ids is x known = refl
places_none start log (Drain addr nonce on named) ids is x known = refl

new_placed : (log : List CoreEntry) (k : CoreKind) (number now : ℕ)
    → AllByRecursion (λ b. newer (places_by k b.job) (place_of b.job log) ≡ Some b.reg)
    (option_to_list (booked_by k number now []))
new_placed log (Reserve (Job job reg forgiven)) number now =
    (ap (λ b. newer (cond b (Some reg) None) (place_of job log)) (same_job-refl job), tt)
new_placed log (Reserve (NoRoom n)) number now = tt
new_placed log (Reserve Spent) number now = tt
new_placed log (Beat server nonce cpus key pruned reaped replaced is_new) number now = tt
new_placed log (Commit job state is_kept) number now = tt
new_placed log (Undo job noted was_ended) number now = tt
new_placed log (Update server job state answer) number now = tt
new_placed log (Status pruned servers cpus n) number now = tt
new_placed log (Drain addr nonce on named) number now = tt

-- a row that stands has its number among those
pub row_stands : (log : List CoreEntry) (reg : ℕ) → list_any (λ r. r.reg == reg) (servers_of log) ≡ true
    → names (regs log) reg ≡ true
row_stands log reg e = list_any-map (λ n. n == reg) (λ g. g.reg) (standing log)
    ∙ sym (list_any-map (λ r. r.reg == reg) (row_of log) (standing log)) ∙ e

-- a new reservation is at a registration that stands and goes on to
new_stands : (start : Start) (log : List CoreEntry) (k : CoreKind) (number now : ℕ)
    → Facts (core_of start log) k
    → AllByRecursion (λ b. (names (regs log) b.reg ≡ true) × (not (ends_by k b.reg) ≡ true))
    (option_to_list (booked_by k number now []))
new_stands start log (Reserve (Job job reg forgiven)) number now is = (
  (
    subst (λ r. names (regs log) r ≡ true) (sym is.at)
        (row_stands log is.row.reg (pick_there (servers_of log) is.row is.picked).0),
    refl,
  ),
  tt,
)
new_stands start log (Reserve (NoRoom n)) number now is = tt
new_stands start log (Reserve Spent) number now is = tt
new_stands start log (Beat server nonce cpus key pruned reaped replaced is_new) number now is = tt
new_stands start log (Commit job state is_kept) number now is = tt
new_stands start log (Undo job noted was_ended) number now is = tt
new_stands start log (Update server job state answer) number now is = tt
new_stands start log (Status pruned servers cpus n) number now is = tt
new_stands start log (Drain addr nonce on named) number now is = tt

stands-on : (log : List CoreEntry) (e : CoreEntry) (reg : ℕ) → names (regs log) reg ≡ true
    → not (ends_by e.kind reg) ≡ true → names (regs (log ++ e ∷ [])) reg ≡ true
stands-on log e reg up stays = subst (λ rs. names rs reg ≡ true) (sym (regs-push log e))
    (any-append (λ n. n == reg) (filter (λ r. not (ends_by e.kind r)) (regs log))
    (option_to_list (option_map (λ g. g.reg) (registered_at (end_cut log e))))
    (names-filter (λ r. not (ends_by e.kind r)) (regs log) reg up stays))

-- a past job stays one
past-on : (start : Start) (log : List CoreEntry) (e : CoreEntry) → HasIds start (jobs log)
    → Facts (core_of start log) e.kind → (x : JobId) → IsPast log x → IsPast (log ++ e ∷ []) x
past-on start log e ids is x past = (
  known-on log e x past.0,
  subst (λ bs. list_any (λ b. same_job b.job x) bs ≡ false) (sym (free-push log e))
      (none-append (λ b. same_job b.job x) (filter (free_stays e) (free log)) (booked log e)
      (none-kept (λ b. same_job b.job x) (free_stays e) (free log) past.1)
      (new_other start log e.kind (length log) e.now ids is x past.0)),
)

-- what a commit or an undo spends was unspent
pub spent_free : (s : Core) (job : JobId) (says : Bool) → SpendFacts s job says
    → list_any (λ b. same_job b.job job) (free s.log) ≡ true
spent_free s job says is =
    list_any-map (λ b. same_job b.job job) bare (unspent s.log)
    ∙ any-weaker (λ b. (b.number == is.number) && same_job b.job job) (λ b. same_job b.job job)
    (λ b t. and_right (b.number == is.number) (same_job b.job job) t) (unspent s.log) is.unspent

-- what an undo ends was unspent
undone : (start : Start) (log : List CoreEntry) (k : CoreKind) → Facts (core_of start log) k
    → (x : JobId) → undoes_by k x ≡ true → list_any (λ b. same_job b.job x) (free log) ≡ true
undone start log (Undo job noted was_ended) is x t = any-weaker (λ b. same_job b.job job)
    (λ b. same_job b.job x) (λ b h. same_job-trans b.job job x h (and_right was_ended (same_job job x) t))
    (free log) (spent_free (core_of start log) job was_ended is)
undone start log (Reserve r) is x t = absurd (false≢true t)
undone start log (Beat server nonce cpus key pruned reaped replaced is_new) is x t =
    absurd (false≢true t)
undone start log (Commit job state is_kept) is x t = absurd (false≢true t)
undone start log (Update server job state answer) is x t = absurd (false≢true t)
undone start log (Status pruned servers cpus n) is x t = absurd (false≢true t)
undone start log (Drain addr nonce on named) is x t = absurd (false≢true t)

-- a new commit is of a past job
new_past : (start : Start) (log : List CoreEntry) (now : ℕ) (k : CoreKind) → Facts (core_of start log) k
    → AllByRecursion (λ b. IsKnown log b.job) (free log)
    → AllByRecursion (λ c. IsPast (log ++ record { now = now; kind = k } ∷ []) c.job)
    (option_to_list (committed_by k log []))
new_past start log now (Commit job state true) is free_known =
    let e : CoreEntry = record { now = now; kind = Commit job state true } in
    let there : (b : Booking) × IsKnown log b.job × (same_job b.job job ≡ true) =
    found (λ b. IsKnown log b.job) (λ b. same_job b.job job) (free log) free_known
    (spent_free (core_of start log) job true is.0) in (
      (
        known-on log e job (subst (IsKnown log) (same_job-eq there.0.job job there.2) there.1),
        subst (λ bs. list_any (λ b. same_job b.job job) bs ≡ false) (sym (free-push log e))
            (none-append (λ b. same_job b.job job) (filter (free_stays e) (free log)) None
            (none-left (λ b. same_job b.job job) (free_stays e)
            (λ b h. other_job-sym job b.job (not_true (same_job job b.job) h)) (free log)) tt),
      ),
      tt,
    )
new_past start log now (Commit job state false) is free_known = tt
new_past start log now (Reserve r) is free_known = tt
new_past start log now (Undo job noted was_ended) is free_known = tt
new_past start log now (Beat server nonce cpus key pruned reaped replaced is_new) is free_known = tt
new_past start log now (Update server job state answer) is free_known = tt
new_past start log now (Status pruned servers cpus n) is free_known = tt
new_past start log now (Drain addr nonce on named) is free_known = tt

-- a new commit is of a job that is held at its place
new_held : (start : Start) (log : List CoreEntry) (now : ℕ) (k : CoreKind) → Facts (core_of start log) k
    → AllByRecursion (λ b. place_of b.job log ≡ Some b.reg) (held log)
    → AllByRecursion (IsHeldAt (log ++ record { now = now; kind = k } ∷ []))
    (option_to_list (committed_by k log []))
new_held start log now (Commit job state true) is placed =
    let e : CoreEntry = record { now = now; kind = Commit job state true } in
    let t : Booking → Bool = λ b. (b.number == is.0.number) && same_job b.job job in
    let u : Booking → Bool = λ b. same_job b.job job && is_this (place_of job log) b.reg in
    let here : list_any t (held log) ≡ true = list_any-map t bare (unended log) ∙ sym is.0.says_held in
    let kept_here : list_any u (filter (held_stays e) (held log)) ≡ true =
    any-kept (λ b. place_of b.job log ≡ Some b.reg) t u (held_stays e)
    (λ b at h. (
      both (same_job b.job job) (is_this (place_of job log) b.reg)
          (and_right (b.number == is.0.number) (same_job b.job job) h)
          (ap (λ o. is_this o b.reg)
          (ap (λ j. place_of j log)
          (sym (same_job-eq b.job job (and_right (b.number == is.0.number) (same_job b.job job) h))) ∙ at)
          ∙ eq-eqb b.reg b.reg refl),
      refl,
    )) (held log) placed here in (
      subst (λ bs. list_any u bs ≡ true) (sym (held-push log e))
          (any-append u (filter (held_stays e) (held log)) [] kept_here),
      tt,
    )
new_held start log now (Commit job state false) is placed = tt
new_held start log now (Reserve r) is placed = tt
new_held start log now (Undo job noted was_ended) is placed = tt
new_held start log now (Beat server nonce cpus key pruned reaped replaced is_new) is placed = tt
new_held start log now (Update server job state answer) is placed = tt
new_held start log now (Status pruned servers cpus n) is placed = tt
new_held start log now (Drain addr nonce on named) is placed = tt

-- an open job stays held
held-on : (start : Start) (log : List CoreEntry) (e : CoreEntry) → Facts (core_of start log) e.kind
    → (c : Committed) → IsPast log c.job → IsHeldAt log c → begun_stays e c ≡ true
    → IsHeldAt (log ++ e ∷ []) c
held-on start log e is c past here stays =
    let t : Booking → Bool = λ b. same_job b.job c.job && is_this c.reg b.reg in
    let closed : closes_by e.kind c.job c.reg ≡ false = not_true (closes_by e.kind c.job c.reg) stays in
    let kept_here : list_any t (filter (held_stays e) (held log)) ≡ true = any-kept (λ b. Unit {0}) t t
    (held_stays e)
    (λ b u h. (
      h,
      not_false (frees_by e.kind b.job b.reg)
          (is_false (frees_by e.kind b.job b.reg) (λ f. true_false (frees_by e.kind b.job b.reg) f
          (let job : b.job ≡ c.job = same_job-eq b.job c.job
          (and_left (same_job b.job c.job) (is_this c.reg b.reg) h) in
          let place : c.reg ≡ Some b.reg =
          is_this-eq c.reg b.reg (and_right (same_job b.job c.job) (is_this c.reg b.reg) h) in
          let not_undone : undoes_by e.kind c.job ≡ false = is_false (undoes_by e.kind c.job)
          (λ d. true_false (list_any (λ b. same_job b.job c.job) (free log))
          (undone start log e.kind is c.job d) past.1) in
          let not_by_job : (completes_by e.kind c.job || reaps_by e.kind c.job) ≡ false =
          or_left (completes_by e.kind c.job || reaps_by e.kind c.job) (ends_place_by e.kind c.reg) closed
          in
          let not_completed : completes_by e.kind c.job ≡ false = or_left (completes_by e.kind c.job)
          (reaps_by e.kind c.job) not_by_job in
          let not_reaped : reaps_by e.kind c.job ≡ false = or_right (completes_by e.kind c.job)
          (reaps_by e.kind c.job) not_by_job in
          let not_ended : ends_by e.kind b.reg ≡ false = ap (ends_place_by e.kind) (sym place)
          ∙ or_right (completes_by e.kind c.job || reaps_by e.kind c.job)
          (ends_place_by e.kind c.reg) closed in
          ap (λ j. frees_by e.kind j b.reg) job
          ∙ neither (ends_job_by e.kind c.job) (ends_by e.kind b.reg)
          (neither (undoes_by e.kind c.job || reaps_by e.kind c.job) (completes_by e.kind c.job)
          (neither (undoes_by e.kind c.job) (reaps_by e.kind c.job) not_undone not_reaped) not_completed)
          not_ended))),
    ))
    (held log) (all_known (held log)) here in
    subst (λ bs. list_any t bs ≡ true) (sym (held-push log e))
    (any-append t (filter (held_stays e) (held log)) (option_to_list (booked log e)) kept_here)
  where
    all_known : (bs : List Booking) → AllByRecursion (λ b. Unit {0}) bs
    all_known [] = tt
    all_known (b ∷ bs) = (tt, all_known bs)

-- no job is committed twice
commit_made : (log : List CoreEntry) (k : CoreKind) (before : List CoreEntry)
    → AreDistinct (map (λ c. c.job) (commits log))
    → AllByRecursion (λ c. AllByRecursion (λ d. same_job d.job c.job ≡ false) (commits log))
    (option_to_list (committed_by k before []))
    → AreDistinct (map (λ c. c.job) (commits log) ++ map (λ c. c.job)
    (option_to_list (committed_by k before [])))
commit_made log (Commit job state true) before distinct other =
    distinct-push (map (λ c. c.job) (commits log)) job distinct
    (all-map (λ k. same_job k job ≡ false) (λ c. c.job) (commits log) other.0)
commit_made log (Commit job state false) before distinct other =
    subst AreDistinct (sym (append-nil (map (λ c. c.job) (commits log)))) distinct
commit_made log (Reserve r) before distinct other =
    subst AreDistinct (sym (append-nil (map (λ c. c.job) (commits log)))) distinct
commit_made log (Undo job noted was_ended) before distinct other =
    subst AreDistinct (sym (append-nil (map (λ c. c.job) (commits log)))) distinct
commit_made log (Beat server nonce cpus key pruned reaped replaced is_new) before distinct other =
    subst AreDistinct (sym (append-nil (map (λ c. c.job) (commits log)))) distinct
commit_made log (Update server job state answer) before distinct other =
    subst AreDistinct (sym (append-nil (map (λ c. c.job) (commits log)))) distinct
commit_made log (Status pruned servers cpus n) before distinct other =
    subst AreDistinct (sym (append-nil (map (λ c. c.job) (commits log)))) distinct
commit_made log (Drain addr nonce on named) before distinct other =
    subst AreDistinct (sym (append-nil (map (λ c. c.job) (commits log)))) distinct

new_commit : (start : Start) (log : List CoreEntry) (k : CoreKind) (before : List CoreEntry)
    → Sound start log → Facts (core_of start log) k
    → AllByRecursion (λ c. AllByRecursion (λ d. same_job d.job c.job ≡ false) (commits log))
    (option_to_list (committed_by k before []))
new_commit start log (Commit job state true) before sound is =
    let there : (b : Booking) × Unit {0} × (same_job b.job job ≡ true) = found (λ b. Unit {0})
    (λ b. same_job b.job job) (free log) (all_unit (free log))
    (spent_free (core_of start log) job true is.0) in (
      all-weaker (λ c. IsPast log c.job) (λ d. same_job d.job job ≡ false)
          (λ d past. is_false (same_job d.job job)
          (λ t. true_false (list_any (λ b. same_job b.job d.job) (free log))
          (any-weaker (λ b. same_job b.job job) (λ b. same_job b.job d.job)
          (λ b h. same_job-trans b.job job d.job h (same_job-sym d.job job t)) (free log)
          (spent_free (core_of start log) job true is.0)) past.1)) (commits log)
          (all-unmap (λ c. IsPast log c.job) bare_commit (commits log) sound.kept_past),
      tt,
    )
  where
    all_unit : (bs : List Booking) → AllByRecursion (λ b. Unit {0}) bs
    all_unit [] = tt
    all_unit (b ∷ bs) = (tt, all_unit bs)
new_commit start log (Commit job state false) before sound is = tt
new_commit start log (Reserve r) before sound is = tt
new_commit start log (Undo job noted was_ended) before sound is = tt
new_commit start log (Beat server nonce cpus key pruned reaped replaced is_new) before sound is = tt
new_commit start log (Update server job state answer) before sound is = tt
new_commit start log (Status pruned servers cpus n) before sound is = tt
new_commit start log (Drain addr nonce on named) before sound is = tt

commit-step : (start : Start) (log : List CoreEntry) (e : CoreEntry) → Sound start log
    → Facts (core_of start log) e.kind → AreDistinct (map (λ c. c.job) (commits log))
    → AreDistinct (map (λ c. c.job) (commits (log ++ e ∷ [])))
commit-step start log e sound is distinct =
    subst AreDistinct (sym (ap (map (λ c. c.job)) (commits-push log e) ∙ map-append (λ c. c.job)
    (map (grown_commit e) (commits log)) (option_to_list (committed log e))
    ∙ ap (λ js. js ++ map (λ c. c.job) (option_to_list (committed log e)))
    (map-map (λ c. c.job) (grown_commit e) (commits log))))
    (commit_made log e.kind log distinct (new_commit start log e.kind log sound is))

pub sound-step : (start : Start) (log : List CoreEntry) (e : CoreEntry) → Sound start log
    → IsRule (core_of start log) e → Sound start (log ++ e ∷ [])
sound-step start log e sound rule_is =
    let next : List CoreEntry = log ++ e ∷ [] in
    let is : Facts (core_of start log) e.kind = facts (core_of start log) e rule_is in
    let on : MovesEachOn log e.kind = moved_on start log e.kind sound.committed is in
    record {
      ids = ids-step start log e sound.ids rule_is;
      held_known = subst (AllByRecursion (λ b. IsKnown next b.job)) (sym (held-push log e))
          (all-step (λ b. IsKnown log b.job) (λ b. IsKnown next b.job) (held_stays e) (booked log e)
          (λ b h t. known-on log e b.job h) (new_known log e) (held log) sound.held_known);
      free_known = subst (AllByRecursion (λ b. IsKnown next b.job)) (sym (free-push log e))
          (all-step (λ b. IsKnown log b.job) (λ b. IsKnown next b.job) (free_stays e) (booked log e)
          (λ b h t. known-on log e b.job h) (new_known log e) (free log) sound.free_known);
      held_placed = subst (AllByRecursion (λ b. place_of b.job next ≡ Some b.reg)) (sym (held-push log e))
          (all-step (λ b. IsKnown log b.job × (place_of b.job log ≡ Some b.reg))
          (λ b. place_of b.job next ≡ Some b.reg) (held_stays e) (booked log e)
          (λ b h t. place_of-push b.job log e ∙ ap (λ o. newer o (place_of b.job log))
          (places_none start log e.kind sound.ids is b.job h.0) ∙ h.1)
          (all-weaker (λ b. newer (places_by e.kind b.job) (place_of b.job log) ≡ Some b.reg)
          (λ b. place_of b.job next ≡ Some b.reg) (λ b h. place_of-push b.job log e ∙ h)
          (option_to_list (booked log e)) (new_placed log e.kind (length log) e.now))
          (held log) (all-both (λ b. IsKnown log b.job) (λ b. place_of b.job log ≡ Some b.reg)
          (λ b. IsKnown log b.job × (place_of b.job log ≡ Some b.reg)) (λ b p q. (p, q))
          (held log) sound.held_known sound.held_placed));
      held_stands = subst (AllByRecursion (λ b. names (regs next) b.reg ≡ true)) (sym (held-push log e))
          (all-step (λ b. names (regs log) b.reg ≡ true) (λ b. names (regs next) b.reg ≡ true) (held_stays e)
          (booked log e)
          (λ b h t. stands-on log e b.reg h
          (not_false (ends_by e.kind b.reg) (or_right (ends_job_by e.kind b.job) (ends_by e.kind b.reg)
          (not_true (frees_by e.kind b.job b.reg) t))))
          (all-weaker (λ b. (names (regs log) b.reg ≡ true) × (not (ends_by e.kind b.reg) ≡ true))
          (λ b. names (regs next) b.reg ≡ true) (λ b h. stands-on log e b.reg h.0 h.1)
          (option_to_list (booked log e)) (new_stands start log e.kind (length log) e.now is))
          (held log) sound.held_stands);
      kept_past = subst (AllByRecursion (λ c. IsPast next c.job)) (sym (kept-push log e))
          (all-append (λ c. IsPast next c.job) (kept log) (option_to_list (committed log e))
          (all-weaker (λ c. IsPast log c.job) (λ c. IsPast next c.job)
          (λ c h. past-on start log e sound.ids is c.job h) (kept log) sound.kept_past)
          (new_past start log e.now e.kind is sound.free_known));
      committed = commit-step start log e sound is sound.committed;
      begun_past = subst (AllByRecursion (λ c. IsPast next c.job)) (sym (begun-push log e on))
          (all-append (λ c. IsPast next c.job) (filter (begun_stays e) (begun log))
          (filter (λ c. not (is_complete c.state)) (option_to_list (committed log e)))
          (all-filter (λ c. IsPast log c.job) (λ c. IsPast next c.job) (begun_stays e)
          (λ c h t. past-on start log e sound.ids is c.job h) (begun log) sound.begun_past)
          (all-filter (λ c. IsPast next c.job) (λ c. IsPast next c.job) (λ c. not (is_complete c.state))
          (λ c h t. h) (option_to_list (committed log e))
          (new_past start log e.now e.kind is sound.free_known)));
      begun_held = subst (AllByRecursion (IsHeldAt next)) (sym (begun-push log e on))
          (all-append (IsHeldAt next) (filter (begun_stays e) (begun log))
          (filter (λ c. not (is_complete c.state)) (option_to_list (committed log e)))
          (all-filter (λ c. IsPast log c.job × IsHeldAt log c) (IsHeldAt next) (begun_stays e)
          (λ c h t. held-on start log e is c h.0 h.1 t) (begun log)
          (all-both (λ c. IsPast log c.job) (IsHeldAt log) (λ c. IsPast log c.job × IsHeldAt log c)
          (λ c p q. (p, q)) (begun log) sound.begun_past sound.begun_held))
          (all-filter (IsHeldAt next) (IsHeldAt next) (λ c. not (is_complete c.state)) (λ c h t. h)
          (option_to_list (committed log e))
          (new_held start log e.now e.kind is sound.held_placed)));
    }

pub no_sound : (start : Start) → start.count < 2 ^ 64 → Sound start []
no_sound start fits = record {
  ids = no_ids start fits;
  held_known = tt;
  free_known = tt;
  held_placed = tt;
  held_stands = tt;
  kept_past = tt;
  committed = tt;
  begun_past = tt;
  begun_held = tt;
}

pub legal_sound : (start : Start) (log : List CoreEntry) → start.count < 2 ^ 64 → IsLegal start log
    → Sound start log
legal_sound start log fits legal = legal_has start (Sound start) (no_sound start fits)
    (sound-step start) log legal

-- an open job has exactly one unended reservation, and its registration stands
once : (start : Start) (log : List CoreEntry) → Sound start log → (c : Committed) → IsHeldAt log c
    → IsHeldOnce log c.job
once start log sound c here =
    let t : Booking → Bool = λ b. same_job b.job c.job in
    let some : list_any t (unended log) ≡ true = sym (list_any-map t bare (unended log))
    ∙ any-weaker (λ b. same_job b.job c.job && is_this c.reg b.reg) t
    (λ b h. and_left (same_job b.job c.job) (is_this c.reg b.reg) h) (held log) here in
    let one : (b : Booking) × (filter t (unended log) ≡ b ∷ []) = only (λ b. b.job) c.job (unended log)
    (distinct-filter (λ b. b.job) is_unended (bookings log) sound.ids.distinct) some in
    let up : AllByRecursion (λ b. names (regs log) b.reg ≡ true) (one.0 ∷ []) =
    subst (AllByRecursion (λ b. names (regs log) b.reg ≡ true)) one.1
    (all-filter (λ b. names (regs log) b.reg ≡ true) (λ b. names (regs log) b.reg ≡ true) t (λ b h e. h)
    (unended log) (all-unmap (λ b. names (regs log) b.reg ≡ true) bare (unended log) sound.held_stands))
    in
    (one.0, one.1, sym (list_any-map (λ n. n == one.0.reg) (λ g. g.reg) (standing log)) ∙ up.0)

pub legal_once : (start : Start) (log : List CoreEntry) → start.count < 2 ^ 64 → IsLegal start log
    → AllByRecursion (λ c. IsHeldOnce log c.job) (open_jobs log)
legal_once start log fits legal =
    let sound : Sound start log = legal_sound start log fits legal in
    all-weaker (λ c. IsHeldAt log (bare_commit c)) (λ c. IsHeldOnce log c.job)
    (λ c h. once start log sound (bare_commit c) h) (open_jobs log)
    (all-unmap (IsHeldAt log) bare_commit (open_jobs log) sound.begun_held)

pub legal_standing : (start : Start) (log : List CoreEntry) → start.count < 2 ^ 64 → IsLegal start log
    → AllByRecursion (HasStanding log) (unended log)
legal_standing start log fits legal = all-weaker (λ b. names (regs log) b.reg ≡ true) (HasStanding log)
    (λ b up. sym (list_any-map (λ n. n == b.reg) (λ g. g.reg) (standing log)) ∙ up) (unended log)
    (all-unmap (λ b. names (regs log) b.reg ≡ true) bare (unended log)
    (legal_sound start log fits legal).held_stands)
