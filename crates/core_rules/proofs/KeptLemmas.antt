-- What one more entry does to the rows of reservations and open jobs.
use Rattle.std.proofs.Common.{◌≡◌, ℕ, List, [], ◌∷◌, ◌++◌, Bool, true, false, not, ◌&&◌, map, filter, length}
use Rattle.std.proofs.Common.{Option, Some, None, refl, ap, ◌∙◌, sym, subst, eqb-true}
use Rattle.std.specs.Prelude.{◌==◌, option_to_list, option_and_then, unwrap_or}
use Rattle.std.specs.List.{AllByRecursion, list_any, find, filter_map}
use Rattle.std.specs.Option.{option_map}
use Rattle.std.proofs.lemmas.Bool.{false≢true}
use Rattle.std.proofs.lemmas.List.{map-append}
use Rattle.std.proofs.lemmas.List.Elements.{filter-append, filter_map-append, filter_agree}
use Rattle.dist_types.specs.declared.addr.Addr.{Addr}
use Rattle.dist_types.specs.declared.ids.JobId.{JobId}
use Rattle.dist_types.specs.declared.results.JobState.{JobState}
use Rattle.dist_types.specs.declared.results.JobState.TheVariants.{Pending, Ready, Started, Complete}
use Rattle.core_rules.specs.declared.start.Start.{Start}
use Rattle.core_rules.proofs.Lists.{map-map, filter-map, filter-filter, list_any-push, cons_nil, map-option}
use Rattle.core_rules.proofs.Lists.{Grows, lasting-push}
use Rattle.core_rules.specs.declared.entry.CoreEntry.{CoreEntry}
use Rattle.core_rules.specs.declared.entry.CoreKind.{CoreKind}
use Rattle.core_rules.specs.declared.entry.CoreKind.TheVariants.{Beat, Reserve, Commit, Undo, Update}
use Rattle.core_rules.specs.declared.entry.CoreKind.TheVariants.{Status, Drain}
use Rattle.core_rules.specs.declared.entry.Reserved.TheVariants.{Job, NoRoom, Spent}
use Rattle.core_rules.specs.declared.rows.ServerRow.{ServerRow}
use Rattle.core_rules.specs.declared.rows.JobRow.{JobRow}
use Rattle.core_rules.specs.Next.{UnspentRow}
use Rattle.core_rules.specs.Log.{Core, same_job, is_this, names, newer, newest}
use Rattle.core_rules.specs.Standing.{standing, address_of, key_at}
use Rattle.core_rules.specs.Reservation.{Booking, booked_by as reserved_by, booked_at, is_unended, unended}
use Rattle.core_rules.specs.Reservation.{unspent}
use Rattle.core_rules.specs.Reservation.{claims_by, is_claimed, spends_by, frees_by}
use Rattle.core_rules.specs.Job.{Committed, committed_by, committed_at, commits, moves_by}
use Rattle.core_rules.specs.Job.{state_now, state_of, is_open, open_jobs, place_of, readies_by, ready_at}
use Rattle.core_rules.specs.Rows.{row_of, servers_of, held_of, held_rows}
use Rattle.core_rules.specs.Rows.{open_of, open_rows}
use Rattle.core_rules.specs.Next.{held_part}
use Rattle.core_rules.proofs.Lists.{seen}
use Rattle.core_rules.specs.Rule.{is_initial}
use Rattle.core_rules.specs.Next.{begins_by, state_after, ready_after, held_stays, held_after, held_by}
use Rattle.core_rules.specs.Next.{job_over, job_by, open_stays, open_after, open_over}
use Rattle.core_rules.specs.Next.{open_by, unspent_stays, unspent_by, place_of_unspent, place_of_booking}
use Rattle.core_rules.specs.Next.{IsAtRow}
use Rattle.core_rules.proofs.StandingLemmas.{none-push}
use Rattle.core_rules.proofs.Lists.{list_any-map, newest-push}
use Rattle.core_rules.proofs.AllLemmas.{same_job-eq, all-weaker, all-both, all-map}
use Rattle.core_rules.proofs.AllLemmas.{all-unmap, and_right, any-weaker, found}
use Rattle.core_rules.proofs.StepLemmas as step
use Rattle.core_rules.proofs.FactLemmas.{Facts, pick_there}
use Rattle.core_rules.proofs.MovedLemmas.{moved_on}
use Rattle.core_rules.proofs.HeldLemmas.{Sound, IsHeldAt, is_this-eq}
use Rattle.core_rules.proofs.LegalLemmas.{core_of}
use Rattle.core_rules.proofs.GrowLemmas.{newest-grown, and_true, map-agree, map-all_agree}
use Rattle.core_rules.proofs.SortLemmas.{found_first}
use Rattle.core_rules.proofs.PlaceLemmas.{address-stays, cards_are}

begun_by : (k : CoreKind) (job : JobId) (later : List CoreEntry)
    → option_and_then (seen (λ c. same_job c.job job) state_now) (committed_by k later []) ≡ begins_by k job
begun_by (Beat server nonce cpus key pruned reaped replaced is_new) job later = refl
begun_by (Reserve r) job later = refl
begun_by (Commit j state true) job later = refl
begun_by (Commit j state false) job later = refl
begun_by (Undo j noted was_ended) job later = refl
begun_by (Update server j state answer) job later = refl
begun_by (Status pruned servers cpus jobs) job later = refl
begun_by (Drain addr nonce on named) job later = refl

-- the state of a job, with one more entry
pub state_of-push : (job : JobId) (later : List CoreEntry) (e : CoreEntry)
    → state_of job (later ++ e ∷ []) ≡ state_after e.kind job (state_of job later)
state_of-push job later e =
    newest-grown committed_at step.grown_commit (λ c. same_job c.job job) state_now true
    (λ s. unwrap_or (moves_by e.kind job) s) later e
    (λ c. step.committed-grown c.at.kind c.before c.after e) (λ c. and_true (same_job c.job job))
    (λ c h. step.state_now-grown e c ∙ ap (λ j. unwrap_or (moves_by e.kind j) (state_now c))
    (same_job-eq c.job job h))
    ∙ ap (λ o. newer o (option_map (λ s. unwrap_or (moves_by e.kind job) s) (state_of job later)))
    (begun_by e.kind job later)

-- the moment at which a job became ready, with one more entry
pub ready_at-push : (job : JobId) (later : List CoreEntry) (e : CoreEntry)
    → ready_at job (later ++ e ∷ []) ≡ ready_after e job (ready_at job later)
ready_at-push job later e =
    let made : CoreEntry → Option ℕ = λ d. readies_by d job in
    ap (newest None) (filter_map-append made later (e ∷ [])
    ∙ ap (λ ns. filter_map made later ++ ns) (cons_nil (made e)))
    ∙ newest-push None (filter_map made later) (made e)

-- the unended reservations, in the order of their reserving

held_of-grown : (e : CoreEntry) (b : Booking) → held_of (step.grown e b) ≡ held_after e (held_of b)
held_of-grown e b =
    ap (λ s. record {
      number = b.number;
      job = b.job;
      reg = b.reg;
      reserved_at = b.now;
      state = s;
      ready_at = ready_at b.job (b.later ++ e ∷ []);
      claimed = is_claimed (step.grown e b);
    }) (state_of-push b.job b.later e)
    ∙ ap (λ r. record {
      number = b.number;
      job = b.job;
      reg = b.reg;
      reserved_at = b.now;
      state = state_after e.kind b.job (state_of b.job b.later);
      ready_at = r;
      claimed = is_claimed (step.grown e b);
    }) (ready_at-push b.job b.later e)
    ∙ ap (λ c. record {
      number = b.number;
      job = b.job;
      reg = b.reg;
      reserved_at = b.now;
      state = state_after e.kind b.job (state_of b.job b.later);
      ready_at = ready_after e b.job (ready_at b.job b.later);
      claimed = c;
    })
    (list_any-push (λ d. claims_by d.kind b.job) b.later e)

held_rows_grow : Grows booked_at is_unended held_of held_after (λ e h. held_stays e.kind h)
held_rows_grow = record {
  grow = step.grown;
  made = λ e c. step.booked-grown c.at.kind (length c.before) c.at.now c.after e;
  lasts_on = λ e b. none-push (λ d. frees_by d.kind b.job b.reg) b.later e;
  changed = λ e b up. held_of-grown e b;
  fresh = λ c none. step.booked_fresh is_unended
      (λ b empty. ap (λ l. not (list_any (λ e. frees_by e.kind b.job b.reg) l)) empty) c.at.kind
      (length c.before) c.at.now c.after none;
}

held_made : (k : CoreKind) (number now : ℕ)
    → option_map held_of (reserved_by k number now []) ≡ held_by k number now
held_made (Beat server nonce cpus key pruned reaped replaced is_new) number now = refl
held_made (Reserve (Job job reg forgiven)) number now = refl
held_made (Reserve (NoRoom n)) number now = refl
held_made (Reserve Spent) number now = refl
held_made (Commit job state kept) number now = refl
held_made (Undo job noted was_ended) number now = refl
held_made (Update server job state answer) number now = refl
held_made (Status pruned servers cpus jobs) number now = refl
held_made (Drain addr nonce on named) number now = refl

pub held_rows-push : (log : List CoreEntry) (e : CoreEntry) → held_rows (log ++ e ∷ []) ≡ map
    (held_after e) (filter (held_stays e.kind) (held_rows log)) ++ option_to_list
    (held_by e.kind (length log) e.now)
held_rows-push log e =
    lasting-push booked_at is_unended held_of held_after
    (λ d h. held_stays d.kind h) held_rows_grow log e
    ∙ ap (λ o. map (held_after e) (filter (held_stays e.kind) (held_rows log)) ++ option_to_list o)
    (held_made e.kind (length log) e.now)

-- a job that is reserved is at one of the rows
abbrev pub IsAtRowBy : CoreKind → List ServerRow → Type 0
IsAtRowBy (Reserve r) rows = IsAtRow r rows
IsAtRowBy other rows = Unit {0}

-- a job is reserved at a registration that stands
pub at_row_by : (s : Core) (k : CoreKind) → Facts s k → IsAtRowBy k (servers_of s.log)
at_row_by s (Reserve (Job job reg forgiven)) is =
    subst (λ r. list_any (λ q. q.reg == r) (servers_of s.log) ≡ true) (sym is.at)
    (pick_there (servers_of s.log) is.row is.picked).0
at_row_by s (Reserve (NoRoom n)) is = tt
at_row_by s (Reserve Spent) is = tt
at_row_by s (Beat server nonce cpus key pruned reaped replaced is_new) is = tt
at_row_by s (Commit job state kept) is = tt
at_row_by s (Undo job noted was_ended) is = tt
at_row_by s (Update server job state answer) is = tt
at_row_by s (Status pruned servers cpus n) is = tt
at_row_by s (Drain addr nonce on named) is = tt

-- the row of the new job, at the address of its registration
pub record NewJob (log : List CoreEntry) (number now : ℕ) (job : JobId) (reg : ℕ)
    (rows : List ServerRow) : Type 0 where
  pub server : Addr
  pub is : job_over (find (λ r. r.reg == reg) rows) number job now ≡ Some
      (record {
        number = number;
        job = job;
        reg = reg;
        server = server;
        reserved_at = now;
        state = None;
        ready_at = None;
        claimed = false;
      })
  pub there : address_of log reg ≡ Some server

pub new_job : (log : List CoreEntry) (number now : ℕ) (job : JobId) (reg : ℕ) (rows : List ServerRow)
    → AllByRecursion (λ r. address_of log r.reg ≡ Some r.server) rows
    → list_any (λ r. r.reg == reg) rows ≡ true → NewJob log number now job reg rows
new_job log number now job reg rows all some =
    let at : (r : ServerRow) × (find (λ r. r.reg == reg) rows ≡ Some r)
    × (address_of log r.reg ≡ Some r.server) × ((r.reg == reg) ≡ true) =
    found_first (λ r. address_of log r.reg ≡ Some r.server) (λ r. r.reg == reg) rows all some in
    let same : at.0.reg ≡ reg = eqb-true at.0.reg reg at.3 in
    record {
      server = at.0.server;
      is = ap (λ o. job_over o number job now) at.1
          ∙ ap (λ n. Some (record {
            number = number;
            job = job;
            reg = n;
            server = at.0.server;
            reserved_at = now;
            state = None;
            ready_at = None;
            claimed = false;
          })) same;
      there = ap (address_of log) (sym same) ∙ at.2;
    }

pub rows_addressed : (log : List CoreEntry) → AllByRecursion (λ r. address_of log r.reg ≡ Some r.server)
    (servers_of log)
rows_addressed log = all-map (λ r. address_of log r.reg ≡ Some r.server) (row_of log) (standing log)
    (all-weaker (λ g. (address_of log g.reg ≡ Some g.server) × (key_at log g.reg ≡ Some g.key))
    (λ g. address_of log g.reg ≡ Some g.server) (λ g h. h.0) (standing log) (cards_are log))

pub job_part : (log : List CoreEntry) (k : CoreKind) (number now : ℕ) → IsAtRowBy k (servers_of log)
    → option_map held_part (job_by k (servers_of log) number now) ≡ held_by k number now
job_part log (Reserve (Job job reg forgiven)) number now at = ap (option_map held_part)
    (new_job log number now job reg (servers_of log) (rows_addressed log) at).is
job_part log (Reserve (NoRoom n)) number now at = refl
job_part log (Reserve Spent) number now at = refl
job_part log (Beat server nonce cpus key pruned reaped replaced is_new) number now at = refl
job_part log (Commit job state kept) number now at = refl
job_part log (Undo job noted was_ended) number now at = refl
job_part log (Update server job state answer) number now at = refl
job_part log (Status pruned servers cpus jobs) number now at = refl
job_part log (Drain addr nonce on named) number now at = refl

-- the unspent reservations

abbrev place_unspent : CoreKind → (ℕ × JobId) × ℕ → Bool
place_unspent k p = not (spends_by k p.0.1)

unspent_part : (log : List CoreEntry) (k : CoreKind) (number now : ℕ) → IsAtRowBy k (servers_of log)
    → option_map place_of_unspent (unspent_by (job_by k (servers_of log) number now)) ≡ option_map
    place_of_booking (reserved_by k number now [])
unspent_part log (Reserve (Job job reg forgiven)) number now at =
    ap (λ o. option_map place_of_unspent (unspent_by o))
    (new_job log number now job reg (servers_of log) (rows_addressed log) at).is
unspent_part log (Reserve (NoRoom n)) number now at = refl
unspent_part log (Reserve Spent) number now at = refl
unspent_part log (Beat server nonce cpus key pruned reaped replaced is_new) number now at = refl
unspent_part log (Commit job state kept) number now at = refl
unspent_part log (Undo job noted was_ended) number now at = refl
unspent_part log (Update server job state answer) number now at = refl
unspent_part log (Status pruned servers cpus jobs) number now at = refl
unspent_part log (Drain addr nonce on named) number now at = refl

free_places : (log : List CoreEntry) → map place_of_booking (step.free log) ≡ map place_of_booking
    (unspent log)
free_places log = map-map place_of_booking step.bare (unspent log)

pub unspent-absorb : (us : List UnspentRow) (log : List CoreEntry) (e : CoreEntry)
    → IsAtRowBy e.kind (servers_of log) → map place_of_unspent us ≡ map place_of_booking (unspent log) →
    map place_of_unspent (filter (unspent_stays e.kind) us ++ option_to_list
    (unspent_by (job_by e.kind (servers_of log) (length log) e.now))) ≡ map place_of_booking
    (unspent (log ++ e ∷ []))
unspent-absorb us log e at same =
    map-append place_of_unspent (filter (unspent_stays e.kind) us)
    (option_to_list (unspent_by (job_by e.kind (servers_of log) (length log) e.now)))
    ∙ ap (λ ps. ps ++ map place_of_unspent
    (option_to_list (unspent_by (job_by e.kind (servers_of log) (length log) e.now))))
    (sym (filter-map (place_unspent e.kind) place_of_unspent us) ∙ ap (filter (place_unspent e.kind))
    (same ∙ sym (free_places log)) ∙ filter-map (place_unspent e.kind) place_of_booking (step.free log))
    ∙ ap (λ ps. map place_of_booking (filter (step.free_stays e) (step.free log)) ++ ps)
    (map-option place_of_unspent (unspent_by (job_by e.kind (servers_of log) (length log) e.now))
    ∙ ap option_to_list (unspent_part log e.kind (length log) e.now at)
    ∙ sym (map-option place_of_booking (step.booked log e)))
    ∙ sym (map-append place_of_booking (filter (step.free_stays e) (step.free log))
    (option_to_list (step.booked log e)))
    ∙ ap (map place_of_booking) (sym (step.free-push log e))
    ∙ free_places (log ++ e ∷ [])

-- the open jobs

-- any view of the open jobs, which one more entry changes as it is told
open_view-push : {B : Type 0} (view : Committed → B) (after : CoreEntry → B → B)
    (stays : CoreEntry → B → Bool) →
    ((e : CoreEntry) (c : Committed) → view (step.grown_commit e c) ≡ after e (view c))
    → ((e : CoreEntry) (c : Committed) → step.begun_stays e (step.bare_commit c) ≡ stays e (view c))
    → (log : List CoreEntry) (e : CoreEntry) → step.MovesEachOn log e.kind →
    map view (open_jobs (log ++ e ∷ [])) ≡ map (after e) (filter (stays e) (map view (open_jobs log)))
    ++ map view (filter is_open (option_to_list (step.committed log e)))
open_view-push {B} view after stays changed same log e on =
    ap (λ cs. map view (filter is_open cs)) (step.commits-push log e)
    ∙ ap (map view) (filter-append is_open (map (step.grown_commit e) (commits log))
    (option_to_list (step.committed log e)))
    ∙ map-append view (filter is_open (map (step.grown_commit e) (commits log)))
    (filter is_open (option_to_list (step.committed log e)))
    ∙ ap (λ bs. bs ++ map view (filter is_open (option_to_list (step.committed log e)))) old
  where
    old : map view (filter is_open (map (step.grown_commit e) (commits log))) ≡ map (after e)
        (filter (stays e) (map view (open_jobs log)))
    old = ap (map view) (filter-map is_open (step.grown_commit e) (commits log))
        ∙ map-map view (step.grown_commit e) (filter (λ c. is_open (step.grown_commit e c)) (commits log))
        ∙ map-agree (λ c. view (step.grown_commit e c)) (λ c. after e (view c)) (changed e)
        (filter (λ c. is_open (step.grown_commit e c)) (commits log))
        ∙ ap (map (λ c. after e (view c)))
        (step.open_agree e (commits log) on
        ∙ filter_agree (λ c. is_open c && step.begun_stays e (step.bare_commit c))
        (λ c. is_open c && stays e (view c)) (λ c. ap (λ b. is_open c && b) (same e c)) (commits log)
        ∙ filter-filter (λ c. stays e (view c)) is_open (commits log))
        ∙ sym (map-map (after e) view (filter (λ c. stays e (view c)) (open_jobs log)))
        ∙ ap (map (after e)) (sym (filter-map (stays e) view (open_jobs log)))

open_of-grown : (whole : List CoreEntry) (e : CoreEntry) (c : Committed)
    → open_of whole (step.grown_commit e c) ≡ open_after e.kind (open_of whole c)
open_of-grown whole e c =
    ap (λ s. record {
      job = c.job;
      reg = c.reg;
      server = option_and_then (address_of whole) c.reg;
      state = s;
    }) (step.state_now-grown e c)

-- an open job is at a registration that has an address
pub record IsOpenAt (log : List CoreEntry) (c : Committed) : Type 0 where
  pub reg : ℕ
  pub server : Addr
  pub at : c.reg ≡ Some reg
  pub there : address_of log reg ≡ Some server
  pub held : list_any (λ b. same_job b.job c.job && (reg == b.reg)) (step.held log) ≡ true

held_addressed : (start : Start) (log : List CoreEntry) → Sound start log
    → AllByRecursion (λ b. (server : Addr) × (address_of log b.reg ≡ Some server)) (step.held log)
held_addressed start log sound = all-weaker (λ b. names (step.regs log) b.reg ≡ true)
    (λ b. (server : Addr) × (address_of log b.reg ≡ Some server)) (λ b h. at b.reg h)
    (step.held log) sound.held_stands
  where
    at : (reg : ℕ) → names (step.regs log) reg ≡ true → (server : Addr) × (address_of log reg ≡ Some server)
    at reg h =
        let g : (g : _) × ((address_of log g.reg ≡ Some g.server) × (key_at log g.reg ≡ Some g.key))
        × ((g.reg == reg) ≡ true) =
        found (λ g. (address_of log g.reg ≡ Some g.server) × (key_at log g.reg ≡ Some g.key))
        (λ g. g.reg == reg) (standing log) (cards_are log)
        (sym (list_any-map (λ n. n == reg) (λ g. g.reg) (standing log)) ∙ h) in
        (g.0.server, ap (address_of log) (sym (eqb-true g.0.reg reg g.2)) ∙ g.1.0)

pub open_at : (start : Start) (log : List CoreEntry) → Sound start log → AllByRecursion (IsOpenAt log)
    (open_jobs log)
open_at start log sound = all-weaker (λ c. IsOpenAt log (step.bare_commit c)) (IsOpenAt log)
    (λ c h. record { reg = h.reg; server = h.server; at = h.at; there = h.there; held = h.held })
    (open_jobs log)
    (all-unmap (IsOpenAt log) step.bare_commit (open_jobs log)
    (all-weaker (IsHeldAt log) (IsOpenAt log) at (step.begun log) sound.begun_held))
  where
    at : (c : Committed) → IsHeldAt log c → IsOpenAt log c
    at c h =
        let b : (b : Booking) × ((server : Addr) × (address_of log b.reg ≡ Some server))
        × ((same_job b.job c.job && is_this c.reg b.reg) ≡ true) =
        found (λ b. (server : Addr) × (address_of log b.reg ≡ Some server))
        (λ b. same_job b.job c.job && is_this c.reg b.reg) (step.held log)
        (held_addressed start log sound) h in
        let place : c.reg ≡ Some b.0.reg = is_this-eq c.reg b.0.reg
        (and_right (same_job b.0.job c.job) (is_this c.reg b.0.reg) b.2) in
        record {
          reg = b.0.reg;
          server = b.1.0;
          at = place;
          there = b.1.1;
          held = ap (λ o. list_any (λ d. same_job d.job c.job && is_this o d.reg) (step.held log)) (sym place)
              ∙ h;
        }

-- the open job that a commit makes, at the place of its reservation

-- a job that a commit keeps is among those that are reserved
abbrev IsKeptOf : List CoreEntry → CoreKind → List JobRow → Type 0
IsKeptOf log (Commit job state true) jobs = (list_any (λ j. same_job j.job job) jobs ≡ true)
    × (is_initial state ≡ true)
IsKeptOf log other jobs = Unit {0}

abbrev IsJobPlaced : List CoreEntry → JobRow → Type 0
IsJobPlaced log j = (place_of j.job log ≡ Some j.reg) × (address_of log j.reg ≡ Some j.server)

new_open : (log : List CoreEntry) (now : ℕ) (k : CoreKind) (jobs : List JobRow)
    → AllByRecursion (IsJobPlaced log) jobs → IsKeptOf log k jobs →
    map (open_of (log ++ record { now = now; kind = k } ∷ []))
    (filter is_open (option_to_list (committed_by k log []))) ≡ option_to_list (open_by k jobs)
new_open log now (Commit job state false) jobs all kept = refl
new_open log now (Commit job state true) jobs all kept = by_state state kept.1
  where
    e : JobState → CoreEntry
    e s = record { now = now; kind = Commit job s true }

    row : (s : JobState) → open_of (log ++ e s ∷ [])
        (record { job = job; reg = place_of job log; state = s; later = [] }) ∷ [] ≡ option_to_list
        (open_over (find (λ j. same_job j.job job) jobs) s)
    row s =
        let at : (j : JobRow) × (find (λ j. same_job j.job job) jobs ≡ Some j) × IsJobPlaced log j
        × (same_job j.job job ≡ true) = found_first (IsJobPlaced log)
        (λ j. same_job j.job job) jobs all kept.0 in
        let same : at.0.job ≡ job = same_job-eq at.0.job job at.3 in
        let place : place_of job log ≡ Some at.0.reg = ap (λ x. place_of x log) (sym same) ∙ at.2.0 in
        ap (λ o. record {
          job = job;
          reg = o;
          server = option_and_then (address_of (log ++ e s ∷ [])) o;
          state = s;
        } ∷ []) place
        ∙ ap (λ o. record { job = job; reg = Some at.0.reg; server = o; state = s } ∷ [])
        (address-stays log (e s) at.0.reg at.0.server at.2.1)
        ∙ ap (λ x. record { job = x; reg = Some at.0.reg; server = Some at.0.server; state = s } ∷ [])
        (sym same)
        ∙ ap (λ o. option_to_list (open_over o s)) (sym at.1)

    by_state : (s : JobState) → is_initial s ≡ true → map (open_of (log ++ e s ∷ []))
        (filter is_open (option_to_list (committed_by (Commit job s true) log []))) ≡ option_to_list
        (open_by (Commit job s true) jobs)
    by_state Pending h = row Pending
    by_state Ready h = row Ready
    by_state Started h = absurd (false≢true h)
    by_state Complete h = absurd (false≢true h)
new_open log now (Beat server nonce cpus key pruned reaped replaced is_new) jobs all kept = refl
new_open log now (Reserve r) jobs all kept = refl
new_open log now (Undo job noted was_ended) jobs all kept = refl
new_open log now (Update server job state answer) jobs all kept = refl
new_open log now (Status pruned servers cpus n) jobs all kept = refl
new_open log now (Drain addr nonce on named) jobs all kept = refl

kept_job : (start : Start) (log : List CoreEntry) (k : CoreKind) (jobs : List JobRow)
    → map held_part jobs ≡ held_rows log → Facts (core_of start log) k → IsKeptOf log k jobs
kept_job start log (Commit job state true) jobs same is = (
  sym (list_any-map (λ h. same_job h.job job) held_part jobs) ∙ ap (list_any (λ h. same_job h.job job)) same
      ∙ list_any-map (λ h. same_job h.job job) held_of (unended log)
      ∙ any-weaker (λ b. (b.number == is.0.number) && same_job b.job job) (λ b. same_job b.job job)
      (λ b h. and_right (b.number == is.0.number) (same_job b.job job) h) (unended log)
      (sym is.0.says_held),
  is.1,
)
kept_job start log (Commit job state false) jobs same is = tt
kept_job start log (Beat server nonce cpus key pruned reaped replaced is_new) jobs same is = tt
kept_job start log (Reserve r) jobs same is = tt
kept_job start log (Undo job noted was_ended) jobs same is = tt
kept_job start log (Update server job state answer) jobs same is = tt
kept_job start log (Status pruned servers cpus n) jobs same is = tt
kept_job start log (Drain addr nonce on named) jobs same is = tt

jobs_at_place : (start : Start) (log : List CoreEntry) (jobs : List JobRow) → Sound start log
    → map held_part jobs ≡ held_rows log → AllByRecursion (λ j. place_of j.job log ≡ Some j.reg) jobs
jobs_at_place start log jobs sound same = all-unmap (λ h. place_of h.job log ≡ Some h.reg) held_part jobs
    (subst (AllByRecursion (λ h. place_of h.job log ≡ Some h.reg)) (sym same)
    (all-map (λ h. place_of h.job log ≡ Some h.reg) held_of (unended log)
    (all-unmap (λ b. place_of b.job log ≡ Some b.reg) step.bare (unended log) sound.held_placed)))

pub open-absorb : (start : Start) (jobs : List JobRow) (log : List CoreEntry) (e : CoreEntry)
    → Sound start log → Facts (core_of start log) e.kind
    → map held_part jobs ≡ held_rows log → AllByRecursion (λ j. address_of log j.reg ≡ Some j.server) jobs →
    map (open_after e.kind) (filter (open_stays e.kind) (open_rows log)) ++ option_to_list
    (open_by e.kind jobs) ≡ open_rows (log ++ e ∷ [])
open-absorb start jobs log e sound is same placed_are =
    ap (λ os. map (open_after e.kind) (filter (open_stays e.kind) os) ++ option_to_list (open_by e.kind jobs))
    (map-all_agree (open_of log) (open_of next) (open_jobs log)
    (all-weaker (IsOpenAt log) (λ c. open_of log c ≡ open_of next c) unchanged (open_jobs log)
    (open_at start log sound)))
    ∙ ap (λ bs. map (open_after e.kind) (filter (open_stays e.kind) (map (open_of next) (open_jobs log)))
    ++ bs) (sym (new_open log e.now e.kind jobs
    (all-both (λ j. place_of j.job log ≡ Some j.reg) (λ j. address_of log j.reg ≡ Some j.server)
    (IsJobPlaced log) (λ j p q. (p, q)) jobs (jobs_at_place start log jobs sound same) placed_are)
    (kept_job start log e.kind jobs same is)))
    ∙ sym (open_view-push (open_of next) (λ d o. open_after d.kind o) (λ d o. open_stays d.kind o)
    (open_of-grown next) (λ d c. refl) log e (moved_on start log e.kind sound.committed is))
  where
    next : List CoreEntry
    next = log ++ e ∷ []

    unchanged : (c : Committed) → IsOpenAt log c → open_of log c ≡ open_of (log ++ e ∷ []) c
    unchanged c at =
        ap (λ o. record { job = c.job; reg = c.reg; server = o; state = state_now c })
        (ap (option_and_then (address_of log)) at.at ∙ at.there
        ∙ sym (ap (option_and_then (address_of (log ++ e ∷ []))) at.at
        ∙ address-stays log e at.reg at.server at.there))
