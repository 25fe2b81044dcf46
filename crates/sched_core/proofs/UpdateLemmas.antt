-- What an update does to the registrations, as changes of the rows of one reservation.
use Rattle.std.proofs.Common.{◌≡◌, ◌-◌, ℕ, List, Bool, true, false, cond, map, filter, Option, Some, None}
use Rattle.std.proofs.Common.{refl, ap, ◌∙◌, sym, subst, eqb-true}
use Rattle.std.specs.Prelude.{◌==◌, if◌then◌else◌, MatchOption}
use Rattle.row_index.specs.Following.{HasNone, IsRowOf}
use Rattle.dist_types.specs.declared.addr.Addr.{Addr}
use Rattle.dist_types.specs.declared.ids.JobId.{JobId}
use Rattle.dist_types.specs.declared.results.JobState.{JobState}
use Rattle.reservations.specs.declared.booked.BookedRow.{BookedRow}
use Rattle.sched_core.specs.declared.change.Change.TheVariants.{Lower, See, LowerAndSee}
use Rattle.core_rules.specs.declared.entry.CoreEntry.{CoreEntry}
use Rattle.core_rules.specs.declared.entry.CoreKind.{CoreKind}
use Rattle.core_rules.specs.declared.entry.CoreKind.TheVariants.{Update}
use Rattle.core_rules.specs.declared.entry.UpdateAnswer.{UpdateAnswer}
use Rattle.core_rules.specs.declared.rows.ServerRow.{ServerRow}
use Rattle.core_rules.specs.Log.{is_this}
use Rattle.core_rules.specs.Standing.{is_heard}
use Rattle.core_rules.specs.Reservation.{frees_by}
use Rattle.reservations.specs.Booked.{held_view, open_view, open_in}
use Rattle.reservations.specs.Booked.{FreesNoOther}
use Rattle.sched_core.specs.Books.{lowered_in}
use Rattle.core_rules.specs.Next.{place_if, row_freed, row_stays, settled}
use Rattle.sched_core.specs.Changes.{row_changed_at, row_changed_if}
use Rattle.core_rules.proofs.Lists.{map-map}
use Rattle.core_rules.proofs.GrowLemmas.{map-agree}
use Rattle.reservations.proofs.BookingLemmas.{asked_open, update_frees}
use Rattle.sched_core.proofs.ChangeLemmas.{keep_all, not_changed, update_seen}
use Rattle.sched_core.proofs.FreeLemmas.{job_gone, job_freed}
use Rattle.sched_core.proofs.RegistrationLemmas.{lowered_is}

-- one change of both, where both are of one registration
each_both : (now n : ℕ) (r : ServerRow) (b : Bool) → (n == r.reg) ≡ b
    → cond (n == (cond b (record r { load = r.load - 1 }) r).reg)
    (record (cond b (record r { load = r.load - 1 }) r) { seen = now })
    (cond b (record r { load = r.load - 1 }) r)
    ≡ cond b (record r { load = r.load - 1; seen = now }) r
each_both now n r true is =
    ap (λ t. cond t (record r { load = r.load - 1; seen = now }) (record r { load = r.load - 1 })) is
each_both now n r false is = ap (λ t. cond t (record r { seen = now }) r) is

both_own : (now n : ℕ) (rows : List ServerRow)
    → map (row_changed_at (LowerAndSee now) n) rows
    ≡ map (row_changed_if (See now) (Some n)) (map (row_changed_at Lower n) rows)
both_own now n rows = sym (map-map (row_changed_if (See now) (Some n)) (row_changed_at Lower n) rows
    ∙ map-agree (λ r. row_changed_if (See now) (Some n) (row_changed_at Lower n r))
    (row_changed_at (LowerAndSee now) n) (λ r. each_both now n r (n == r.reg) refl) rows)

pub both_is : (now n : ℕ) (seen : Option ℕ) (rows : List ServerRow) → is_this seen n ≡ true
    → map (row_changed_at (LowerAndSee now) n) rows
    ≡ map (row_changed_if (See now) seen) (map (row_changed_at Lower n) rows)
both_is now n None rows is = absurd cc
both_is now n (Some m) rows is =
    subst (λ k. map (row_changed_at (LowerAndSee now) n) rows
    ≡ map (row_changed_if (See now) (Some k)) (map (row_changed_at Lower n) rows))
    (sym (eqb-true m n is)) (both_own now n rows)

-- the load of the registration that an update frees
freed_one : (kind : CoreKind) (job : JobId) (bs : List BookedRow) (rows : List ServerRow)
    (o : Option BookedRow) (lowered : Option ℕ) → FreesNoOther kind job
    → MatchOption o (HasNone (λ b. b.job.0) bs job.0) (IsRowOf (λ b. b.job.0) bs job.0)
    → lowered ≡ lowered_in kind o
    → map (row_changed_if Lower lowered) rows ≡ map (row_freed kind (held_view bs)) rows
freed_one kind job bs rows None lowered other there is =
    ap (λ l. map (row_changed_if Lower l) rows) is ∙ sym (not_changed Lower rows)
    ∙ job_gone (frees_by kind) job bs rows other there
freed_one kind job bs rows (Some b) lowered other there is =
    job_freed (frees_by kind) job bs b rows (map (row_changed_if Lower lowered) rows) other there
    (λ t. ap (λ l. map (row_changed_if Lower l) rows) (is ∙ ap (λ x. cond x (Some b.reg) None) t)
    ∙ lowered_is b.reg rows)
    (λ t. ap (λ l. map (row_changed_if Lower l) rows) (is ∙ ap (λ x. cond x (Some b.reg) None) t)
    ∙ sym (not_changed Lower rows))

by_kind : (now : ℕ) (server : Addr) (job : JobId) (state : JobState) (answer : UpdateAnswer)
    (bs : List BookedRow) (rows : List ServerRow) (o : Option BookedRow) (lowered seen : Option ℕ)
    → MatchOption o (HasNone (λ b. b.job.0) bs job.0) (IsRowOf (λ b. b.job.0) bs job.0)
    → lowered ≡ lowered_in (Update server job state answer) o
    → seen ≡ (if is_heard answer then place_if (open_in o) else None)
    → map (row_changed_if (See now) seen) (map (row_changed_if Lower lowered) rows)
    ≡ settled (record { now = now; kind = Update server job state answer }) (held_view bs) (open_view bs) rows
by_kind now server job state answer bs rows o lowered seen there low sees =
    ap (map (row_changed_if (See now) seen))
    (freed_one (Update server job state answer) job bs rows o lowered
    (update_frees server job state answer) there low
    ∙ ap (map (row_freed (Update server job state answer) (held_view bs))) (keep_all rows))
    ∙ update_seen (record { now = now; kind = Update server job state answer }) (open_view bs)
    (map (row_freed (Update server job state answer) (held_view bs))
    (filter (row_stays (Update server job state answer)) rows)) server job state answer seen refl
    (sees ∙ ap (λ p. if is_heard answer then place_if p else None) (asked_open bs job o there))

pub update_whole : (e : CoreEntry) (server : Addr) (job : JobId) (state : JobState) (answer : UpdateAnswer)
    (bs : List BookedRow) (rows : List ServerRow) (o : Option BookedRow) (lowered seen : Option ℕ)
    → e.kind ≡ Update server job state answer
    → MatchOption o (HasNone (λ b. b.job.0) bs job.0) (IsRowOf (λ b. b.job.0) bs job.0)
    → lowered ≡ lowered_in e.kind o
    → seen ≡ (if is_heard answer then place_if (open_in o) else None)
    → map (row_changed_if (See e.now) seen) (map (row_changed_if Lower lowered) rows)
    ≡ settled e (held_view bs) (open_view bs) rows
update_whole e server job state answer bs rows o lowered seen is there low sees =
    subst (λ k. map (row_changed_if (See e.now) seen) (map (row_changed_if Lower lowered) rows)
    ≡ settled (record { now = e.now; kind = k }) (held_view bs) (open_view bs) rows) (sym is)
    (by_kind e.now server job state answer bs rows o lowered seen there
    (subst (λ k. lowered ≡ lowered_in k o) is low) sees)
