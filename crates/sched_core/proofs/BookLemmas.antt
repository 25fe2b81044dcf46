-- The books after one more legal entry are those of the longer log, and there is room for what spends the
-- reservations.
use Rattle.std.proofs.Common.{◌≡◌, ℕ, ◌+◌, ◌^◌, ◌<◌, ◌≤◌, eqb-true, List, [], ◌∷◌, ◌++◌, Bool, true}
use Rattle.std.proofs.Common.{false, cond, not}
use Rattle.std.proofs.Common.{◌||◌, map, filter, length, Option, Some, None, refl, ap, ◌∙◌, sym, subst, arith}
use Rattle.std.proofs.Common.{append-nil, length-append}
use Rattle.std.proofs.Common.{◌-◌, ◌%◌, min, sum_by}
use Rattle.std.specs.Prelude.{◌==◌, option_to_list, if◌then◌else◌, IfSome}
use Rattle.std.specs.List.{AllByRecursion, list_any, find}
use Rattle.std.specs.Option.{option_map}
use Rattle.std.proofs.lemmas.Bool.{false≢true}
use Rattle.std.proofs.lemmas.List.{length-map}
use Rattle.dist_types.specs.declared.addr.Addr.{Addr}
use Rattle.dist_types.specs.declared.ids.JobId.{JobId}
use Rattle.dist_types.specs.declared.results.JobState.{JobState}
use Rattle.core_rules.specs.Advance.{advance, advance_by}
use Rattle.reservations.specs.declared.booked.BookedRow.{BookedRow}
use Rattle.core_rules.specs.declared.start.Start.{Start}
use Rattle.core_rules.specs.declared.entry.CoreEntry.{CoreEntry}
use Rattle.core_rules.specs.declared.entry.CoreKind.{CoreKind}
use Rattle.core_rules.specs.declared.entry.CoreKind.TheVariants.{Beat, Reserve, Commit, Undo, Update}
use Rattle.core_rules.specs.declared.entry.CoreKind.TheVariants.{Status, Drain}
use Rattle.core_rules.specs.declared.entry.Reserved.TheVariants.{Job, NoRoom, Spent}
use Rattle.core_rules.specs.declared.rows.JobRow.{JobRow}
use Rattle.core_rules.specs.declared.rows.ServerRow.{ServerRow}
use Rattle.core_rules.specs.declared.rows.OpenRow.{OpenRow}
use Rattle.core_rules.specs.Log.{Core, same_job}
use Rattle.core_rules.specs.Standing.{Registered, standing, is_heard, address_of}
use Rattle.core_rules.specs.Reservation.{bookings, unspent}
use Rattle.core_rules.specs.Rows.{servers_of, held_rows, open_rows, sorted_into}
use Rattle.core_rules.specs.Next.{held_part}
use Rattle.core_rules.specs.Prune.{prune, left, at_address}
use Rattle.core_rules.specs.Reap.{is_reaped, reap}
use Rattle.sched_core.specs.Books.{HasJobRoom}
use Rattle.sched_core.specs.Changes.{AreReapedApart}
use Rattle.core_rules.specs.declared.call.Call.{Call}
use Rattle.core_rules.specs.declared.call.Call.TheVariants as call
use Rattle.core_rules.specs.declared.rows.HeldRow.{HeldRow}
use Rattle.core_rules.specs.Rule.{rule, place_at, is_left, counts_over, reaped_by}
use Rattle.core_rules.specs.Laws.{IsRule, IsLegal, AreDistinct, AreRising}
use Rattle.sched_core.specs.Books.{Keys, Lists, no_lists, keys_of, AreBooks, IsBookedAt}
use Rattle.core_rules.specs.Next.{unspent_stays, unspent_by}
use Rattle.core_rules.specs.Next.{job_over, job_by}
use Rattle.sched_core.specs.Books.{lists_next, unspent_next}
use Rattle.core_rules.specs.Next.{place_if, served_by}
use Rattle.core_rules.specs.Next.{held_stays, held_after, held_by}
use Rattle.reservations.specs.Booked.{booked_after}
use Rattle.sched_core.specs.Books.{booked_by}
use Rattle.core_rules.specs.Next.{place_of_unspent, place_of_booking}
use Rattle.core_rules.specs.Next.{UnspentRow}
use Rattle.sched_core.specs.Books.{AreReordered}
use Rattle.reservations.specs.Booked.{booked_new, job_part_of, held_part_of}
use Rattle.reservations.specs.Booked.{held_view, job_view}
use Rattle.reservations.specs.Booked.{unspent_part_of, jobs_by_id, unspent_view, open_view}
use Rattle.core_rules.proofs.AllLemmas.{all-map, all-filter, distinct-filter}
use Rattle.core_rules.proofs.Lists.{map-map}
use Rattle.sched_core.proofs.KeyLemmas.{keys_next, keys-push}
use Rattle.sched_core.proofs.SpendLemmas.{SpendsOne}
use Rattle.core_rules.proofs.StepLemmas as step
use Rattle.core_rules.proofs.LegalLemmas.{core_of, legal-push}
use Rattle.core_rules.proofs.FactLemmas.{Facts, facts}
use Rattle.core_rules.proofs.SoundLemmas.{jobs, jobs-push, legal_distinct, few_bookings}
use Rattle.core_rules.proofs.RoomLemmas.{Fits, legal_fits}
use Rattle.core_rules.proofs.KeptLemmas.{IsAtRowBy, at_row_by, held_rows-push, job_part}
use Rattle.sched_core.proofs.PlacedLemmas.{booked_job, booked-placed}
use Rattle.core_rules.proofs.KeptLemmas.{unspent-absorb, open-absorb}
use Rattle.core_rules.proofs.RowLemmas.{filter-few, legal_errors, rows-absorb}
use Rattle.core_rules.proofs.StateLemmas.{held_by_id, spent_among, held_among}
use Rattle.sched_core.proofs.BookedLemmas.{held_next, unspent_after, jobs_after, held_parts, spent_rows}
use Rattle.sched_core.proofs.BookedLemmas.{any_spent, by_id_parts}
use Rattle.core_rules.proofs.SortLemmas.{sorted-all}
use Rattle.sched_core.proofs.OpenLemmas.{AreSpentBy, reorder-find, reorder-filter, reorder-length, open_next}
use Rattle.sched_core.proofs.OpenLemmas.{distinct_opened}

-- the reservations of the job that a legal entry spends
spent_by : (start : Start) (bs : List BookedRow) (log : List CoreEntry) (k : CoreKind)
    → AreDistinct (map (λ b. b.job) bs) → held_view bs ≡ held_rows log
    → map place_of_unspent (unspent_view bs) ≡ map place_of_booking (unspent log)
    → Facts (core_of start log) k → AreSpentBy k bs
spent_by start bs log (Commit job state kept) apart held free is =
    let some = spent_among (unspent_view bs) log is.0.number job free ∙ is.0.unspent in (
      spent_rows bs is.0.number job kept apart some
          (is.0.says_held ∙ sym (held_among (held_view bs) log is.0.number job held)),
      any_spent bs is.0.number job some,
      is.1,
    )
spent_by start bs log (Undo job noted says) apart held free is =
    spent_rows bs is.number job says apart (spent_among (unspent_view bs) log is.number job free ∙ is.unspent)
    (is.says_held ∙ sym (held_among (held_view bs) log is.number job held))
spent_by start bs log (Reserve r) apart held free is = tt
spent_by start bs log (Beat server nonce cpus key pruned reaped replaced is_new) apart held free is = tt
spent_by start bs log (Update server job state answer) apart held free is = tt
spent_by start bs log (Status pruned servers cpus n) apart held free is = tt
spent_by start bs log (Drain addr nonce on named) apart held free is = tt

-- an open job is found in the books as in the log
pub open_found : (books : Lists) (keys : Keys) (log : List CoreEntry) (job : JobId)
    → AreBooks books keys log
    → find (λ o. same_job o.job job) (open_view books.booked) ≡ find (λ o. same_job o.job job) (open_rows log)
open_found books keys log job is =
    reorder-find (λ o. o.job) job (open_view books.booked) (open_rows log)
    (distinct_opened books.booked is.apart) is.open_ones

-- so an update is answered as the log says
pub update_answered : (books : Lists) (keys : Keys) (log : List CoreEntry) (server : Addr) (job : JobId)
    (state : JobState) (found : Option OpenRow)
    → AreBooks books keys log → found ≡ find (λ o. same_job o.job job) (open_view books.booked)
    → advance_by found server state ≡ advance (open_rows log) server job state
update_answered books keys log server job state found is asked =
    ap (λ o. advance_by o server state) (asked ∙ open_found books keys log job is)

-- a status counts the same over both
pub counts_are : (books : Lists) (keys : Keys) (log : List CoreEntry) (now : ℕ)
    → AreBooks books keys log
    → counts_over books.rows (open_view books.booked) now ≡ counts_over (servers_of log) (open_rows log) now
counts_are books keys log now is =
    let p : OpenRow → Bool = λ o. is_left (prune now books.rows) o.reg in
    ap (λ n. record {
      num_servers = length (left now books.rows);
      num_cpus = min (2 ^ 64 - 1) (sum_by (λ r. r.cpus) (left now books.rows));
      in_progress = n;
    }) (reorder-length (filter p (open_view books.booked)) (filter p (open_rows log))
    (reorder-filter p (open_view books.booked) (open_rows log) is.open_ones))
    ∙ ap (λ rows. counts_over rows (open_rows log) now) is.rows

-- as many reservations are kept as the log makes
pub made_are : (bs : List BookedRow) (log : List CoreEntry)
    → map (λ b. b.job) bs ≡ map (λ b. b.job) (bookings log) → length bs ≡ length (bookings log)
made_are bs log is = sym (length-map bs (λ b. b.job)) ∙ ap length is ∙ length-map (bookings log) (λ b. b.job)

-- the job of a new reservation has the id after that of the last
pub next_follows : (start : Start) (first : ℕ) (books : Lists) (keys : Keys)
    (log : List CoreEntry)
    (e : CoreEntry) (number : ℕ) → AreBooks books keys log → IsRule (core_of start log) e
    → first ≡ (start.base + start.count) % 2 ^ 64
    → IfSome (booked_by e.kind books.rows number e.now)
    (λ b. b.job.0 ≡ (first + length books.booked) % 2 ^ 64)
next_follows start first books keys log e number is rule_is begins_at =
    by_kind e.kind (facts (core_of start log) e rule_is)
  where
    sum : (m n given : ℕ) → m ≡ (start.base + start.count) % 2 ^ 64 → n ≡ given
        → (start.base + (start.count + given)) % 2 ^ 64
        ≡ (m + n) % 2 ^ 64
    sum m n given from same = omega (arith, from, same)

    at : (job : JobId) → job.0 ≡ (first + length books.booked) % 2 ^ 64 → (o : Option ServerRow)
        → IfSome (option_map booked_new (job_over o number job e.now))
        (λ b. b.job.0 ≡ (first + length books.booked) % 2 ^ 64)
    at job id None = tt
    at job id (Some row) = id

    by_kind : (k : CoreKind) → Facts (core_of start log) k
        → IfSome (booked_by k books.rows number e.now) (λ b. b.job.0 ≡ (first + length books.booked) % 2 ^ 64)
    by_kind (Reserve (Job job reg forgiven)) f = at job (f.id ∙ sum first (length books.booked)
        (length (bookings log)) begins_at (made_are books.booked log is.jobs))
        (find (λ r. r.reg == reg) books.rows)
    by_kind (Reserve (NoRoom n)) f = tt
    by_kind (Reserve Spent) f = tt
    by_kind (Beat server nonce cpus key pruned reaped replaced is_new) f = tt
    by_kind (Commit job state kept) f = tt
    by_kind (Undo job noted was_ended) f = tt
    by_kind (Update server job state answer) f = tt
    by_kind (Status pruned servers cpus n) f = tt
    by_kind (Drain addr nonce on named) f = tt

served_alike : (k : CoreKind) (os ps : List OpenRow)
    → ((job : JobId) → find (λ o. same_job o.job job) os ≡ find (λ o. same_job o.job job) ps)
    → served_by k os ≡ served_by k ps
served_alike (Update server job state answer) os ps same =
    ap (λ o. if is_heard answer then place_if o else None) (same job)
served_alike (Beat server nonce cpus key pruned reaped replaced is_new) os ps same = refl
served_alike (Reserve r) os ps same = refl
served_alike (Commit job state kept) os ps same = refl
served_alike (Undo job noted was_ended) os ps same = refl
served_alike (Status pruned servers cpus n) os ps same = refl
served_alike (Drain addr nonce on named) os ps same = refl

-- the rows with addresses of the unended reservations
pub jobs_addressed : (log : List CoreEntry) (bs : List BookedRow) → AllByRecursion (IsBookedAt log) bs
    → AllByRecursion (λ j. address_of log j.reg ≡ Some j.server) (job_view bs)
jobs_addressed log bs all = all-map (λ j. address_of log j.reg ≡ Some j.server) job_part_of
    (filter (λ b. b.unended) bs)
    (all-filter (IsBookedAt log) (λ b. address_of log b.reg ≡ Some b.server) (λ b. b.unended)
    (λ b h up. h.1) bs all)

pub unspent_addressed : (log : List CoreEntry) (bs : List BookedRow) → AllByRecursion (IsBookedAt log) bs
    → AllByRecursion (λ u. (place_at log u.number ≡ Some u.reg) × (address_of log u.reg ≡ Some u.server))
    (unspent_view bs)
unspent_addressed log bs all =
    all-map (λ u. (place_at log u.number ≡ Some u.reg) × (address_of log u.reg ≡ Some u.server))
    unspent_part_of
    (filter (λ b. b.unspent) bs)
    (all-filter (IsBookedAt log) (IsBookedAt log) (λ b. b.unspent) (λ b h t. h) bs all)

pub by_id_held : (bs : List BookedRow) (log : List CoreEntry) → held_view bs ≡ held_rows log
    → map held_part (jobs_by_id bs) ≡ held_by_id log
by_id_held bs log is = by_id_parts bs ∙ ap (sorted_into (λ h. h.job.0) []) is

pub by_id_addressed : (log : List CoreEntry) (bs : List BookedRow) → AllByRecursion (IsBookedAt log) bs
    → AllByRecursion (λ j. address_of log j.reg ≡ Some j.server) (jobs_by_id bs)
by_id_addressed log bs all =
    sorted-all (λ j. address_of log j.reg ≡ Some j.server) (λ j. j.job.0) [] (job_view bs) tt
    (jobs_addressed log bs all)

-- those of an empty log
pub no_books : AreBooks no_lists (keys_of []) []
no_books = record {
  rows = refl;
  keys = refl;
  jobs = refl;
  made = refl;
  apart = tt;
  held = refl;
  unspent = refl;
  open_ones = refl;
  placed = tt;
}

-- the lists after an entry are the longer log's
pub absorbed : (start : Start) (old : Lists) (old_keys new_keys : Keys) (log : List CoreEntry)
    (e : CoreEntry) → start.count < 2 ^ 64 → AreBooks old old_keys log → IsLegal start log
    → IsRule (core_of start log) e →
    new_keys ≡ keys_next e (length log) old_keys
    → AreBooks (lists_next old e (length log)) new_keys (log ++ e ∷ [])
absorbed start old old_keys new_keys log e fits books legal rule_is keys =
    let is : Facts (core_of start log) e.kind = facts (core_of start log) e rule_is in
    let at : IsAtRowBy e.kind (servers_of log) = at_row_by (core_of start log) e.kind is in
    let fit : Fits start log = legal_fits start log fits legal in
    let small : length (bookings (log ++ e ∷ [])) < 2 ^ 64 = few_bookings start (log ++ e ∷ []) fits
    (legal-push start [] log e legal rule_is) in
    let bs : List BookedRow = old.booked in
    let served : served_by e.kind (open_view bs) ≡ served_by e.kind (open_rows log) =
    served_alike e.kind (open_view bs) (open_rows log)
    (λ job. open_found old old_keys log job books) in
    let made : Option JobRow = job_by e.kind (servers_of log) (length log) e.now in
    let same_jobs : map (λ b. b.job) (map (booked_after e) bs
    ++ option_to_list (booked_by e.kind (servers_of log) (length log) e.now))
    ≡ map (λ b. b.job) (bookings (log ++ e ∷ [])) =
    jobs_after e bs (booked_by e.kind (servers_of log) (length log) e.now)
    ∙ ap (λ o. map (λ b. b.job) bs ++ option_to_list o) (booked_job log e.kind (length log) e.now at)
    ∙ ap (λ js. js ++ option_to_list (option_map (λ b. b.job) (step.booked log e))) books.jobs
    ∙ sym (jobs-push log e) in
    record {
      rows = rw (books.rows, served, books.held)
          (rows-absorb start log e fit.sound fit.room is
          (legal_errors start log fits legal (length log) (omega arith)) small);
      keys = keys ∙ ap (keys_next e (length log)) books.keys ∙ keys-push log e
          (subst AreRising (map-map (λ (p : ℕ × ℕ). p.0) (λ (g : Registered). (g.reg, g.cpus))
          (standing (log ++ e ∷ [])))
          (legal_fits start (log ++ e ∷ []) fits (legal-push start [] log e legal rule_is)).room.rising);
      jobs = rw books.rows same_jobs;
      made = rw books.rows (made_are (map (booked_after e) bs
          ++ option_to_list (booked_by e.kind (servers_of log) (length log) e.now)) (log ++ e ∷ [])
          same_jobs);
      apart = rw books.rows (subst AreDistinct (sym same_jobs) (legal_distinct start (log ++ e ∷ []) fits
          (legal-push start [] log e legal rule_is)));
      held = rw books.rows (held_next e bs made
          ∙ ap (λ o. map (held_after e) (filter (held_stays e.kind) (held_view bs)) ++ option_to_list o)
          (job_part log e.kind (length log) e.now at)
          ∙ ap (λ hs. map (held_after e) (filter (held_stays e.kind) hs)
          ++ option_to_list (held_by e.kind (length log) e.now)) books.held
          ∙ sym (held_rows-push log e));
      unspent = rw books.rows (ap (map place_of_unspent) (unspent_after e bs made)
          ∙ unspent-absorb (unspent_view bs) log e at books.unspent);
      open_ones = rw books.rows (subst (AreReordered (open_view (map (booked_after e) bs
          ++ option_to_list (option_map booked_new made))))
          (open-absorb start (job_view bs) log e fit.sound is (held_parts bs ∙ books.held)
          (jobs_addressed log bs books.placed))
          (open_next e bs (open_rows log) made books.apart
          (spent_by start bs log e.kind books.apart books.held books.unspent is) books.open_ones));
      placed = rw books.rows (booked-placed bs log e at books.placed);
    }

-- room

found_reg : (rows : List ServerRow) (reg : ℕ) (row : ServerRow) → find (λ r. r.reg == reg) rows ≡ Some row
    → row.reg ≡ reg
found_reg [] reg row e = (let no : None ≡ Some row = e in absurd cc)
found_reg (r ∷ rows) reg row e = split (r.reg == reg) refl e (found_reg rows reg row)
  where
    split : (t : Bool) → (r.reg == reg) ≡ t → cond t (Some r) (find (λ r. r.reg == reg) rows) ≡ Some row
        → (find (λ r. r.reg == reg) rows ≡ Some row → row.reg ≡ reg) → row.reg ≡ reg
    split true own is rest = (let some : Some r ≡ Some row = is in let same : r
        ≡ row = cc in ap (λ x. x.reg) (sym same) ∙ eqb-true r.reg reg own)
    split false own is rest = rest is

-- it is made at the registration that has room for it
pub room_made : (k : CoreKind) (rows : List ServerRow) (number now : ℕ) (room : Option ℕ) → HasJobRoom k room
    → IfSome (booked_by k rows number now) (λ b. room ≡ Some b.reg)
room_made (Reserve (Job job reg forgiven)) rows number now room has = split (find (λ r. r.reg == reg)
    rows) refl
  where
    split : (o : Option ServerRow) → find (λ r. r.reg == reg) rows ≡ o
        → IfSome (option_map booked_new (job_over o number job now)) (λ b. room ≡ Some b.reg)
    split None e = tt
    split (Some row) e = has ∙ ap Some (sym (found_reg rows reg row e))
room_made (Reserve (NoRoom n)) rows number now room has = tt
room_made (Reserve Spent) rows number now room has = tt
room_made (Beat server nonce cpus key pruned reaped replaced is_new) rows number now room has = tt
room_made (Commit job state kept) rows number now room has = tt
room_made (Undo job noted was_ended) rows number now room has = tt
room_made (Update server job state answer) rows number now room has = tt
room_made (Status pruned servers cpus n) rows number now room has = tt
room_made (Drain addr nonce on named) rows number now room has = tt

-- the jobs that an entry reaps differ
pub reaped_apart : (s : Core) (e : CoreEntry) (bs : List BookedRow) → AreDistinct (map (λ b. b.job) bs)
    → held_view bs ≡ held_rows s.log → IsRule s e → AreReapedApart e.kind
reaped_apart s e bs apart held rule_is =
    let own : AreDistinct (map (λ (h : HeldRow). h.job) (held_rows s.log)) =
    subst (λ hs. AreDistinct (map (λ (h : HeldRow). h.job) hs)) held
    (subst AreDistinct (sym (map-map (λ (h : HeldRow). h.job) held_part_of (filter (λ b. b.unended) bs)))
    (distinct-filter (λ (b : BookedRow). b.job) (λ b. b.unended) bs apart)) in
    split rule_is.0 rule_is.2 own
  where
    inner : (now nonce : ℕ) (row : ServerRow) (t : Bool)
        → AreDistinct (map (λ (h : HeldRow). h.job) (held_rows s.log))
        → AreDistinct (if t then reap s.start.rules now row.reg (held_rows s.log) else [])
    inner now nonce row true own =
        distinct-filter (λ (h : HeldRow). h.job) (is_reaped s.start.rules now row.reg) (held_rows s.log) own
    inner now nonce row false own = tt

    there : (now nonce : ℕ) (o : Option ServerRow)
        → AreDistinct (map (λ (h : HeldRow). h.job) (held_rows s.log))
        → AreDistinct (reaped_by s.start.rules now nonce (held_rows s.log) o)
    there now nonce None own = tt
    there now nonce (Some row) own = inner now nonce row (row.nonce == nonce) own

    split : (c : Call) → e ≡ rule s c → AreDistinct (map (λ (h : HeldRow). h.job) (held_rows s.log))
        → AreReapedApart e.kind
    split (call.Reserve now) is own = subst (λ x. AreReapedApart x.kind) (sym is) tt
    split (call.Commit now number job state) is own = subst (λ x. AreReapedApart x.kind) (sym is) tt
    split (call.Undo now number job) is own = subst (λ x. AreReapedApart x.kind) (sym is) tt
    split (call.Beat now server nonce cpus key) is own = subst (λ x. AreReapedApart x.kind) (sym is)
        (there now nonce (at_address server (left now (servers_of s.log))) own)
    split (call.Update now server job state) is own = subst (λ x. AreReapedApart x.kind) (sym is) tt
    split (call.Status now) is own = subst (λ x. AreReapedApart x.kind) (sym is) tt
    split (call.Drain now addr nonce on) is own = subst (λ x. AreReapedApart x.kind) (sym is) tt

pub at_most_one : {X : Type 0} (o : Option X) → length (option_to_list o) ≤ 1
at_most_one None = omega arith
at_most_one (Some x) = omega arith

pub few_unspent : (lists : Lists) (e : CoreEntry) (number : ℕ)
    → length (unspent_next lists e number) ≤ length (unspent_view lists.booked) + 1
few_unspent lists e number =
    let all = length-append (filter (unspent_stays e.kind) (unspent_view lists.booked))
    (option_to_list (unspent_by (job_by e.kind lists.rows number e.now))) in
    let fewer = filter-few (unspent_stays e.kind) (unspent_view lists.booked) in
    let one = at_most_one (unspent_by (job_by e.kind lists.rows number e.now)) in
    omega (arith, all, fewer, one)

-- room for one entry, whatever it does
pub log_room-one : (lists : Lists) (e : CoreEntry) (number len capacity : ℕ)
    → len + length (unspent_view lists.booked) + 2 ≤ capacity
    → len + 1 + length (unspent_next lists e number) ≤ capacity
log_room-one lists e number len capacity room = let few = few_unspent lists e number
    in omega (arith, few, room)

-- what is in the list and doesn't pass makes the filter shorter
filter-fewer : {X : Type 0} (p q : X → Bool) → ((x : X) → q x ≡ true → p x ≡ false) → (xs : List X)
    → list_any q xs ≡ true → length (filter p xs) + 1 ≤ length xs
filter-fewer p q apart [] some = absurd (false≢true some)
filter-fewer {X} p q apart (x ∷ xs) some = split (q x) refl some (filter-fewer p q apart xs)
  where
    split : (b : Bool) → q x ≡ b → (b || list_any q xs) ≡ true
        → (list_any q xs ≡ true → length (filter p xs) + 1 ≤ length xs)
        → length (cond (p x) (x ∷ filter p xs) (filter p xs)) + 1 ≤ length (x ∷ xs)
    split true e s rest = rw (apart x e) (let few = filter-few p xs in omega (arith, few))
    split false e s rest = let less : length (filter p xs) + 1 ≤ length xs = rest s in elim (p x) as
        (λ c. length (cond c (x ∷ filter p xs) (filter p xs)) + 1 ≤ length (x ∷ xs))
        [ true ↦ omega (arith, less) | false ↦ omega (arith, less) ]

not_same : (job other : JobId) → same_job job other ≡ true → not (same_job job other) ≡ false
not_same job other e = ap not e

pub one_spent : (lists : Lists) (now number : ℕ) (k : CoreKind) → SpendsOne k (unspent_view lists.booked)
    → length (unspent_next lists (record { now = now; kind = k }) number) + 1
    ≤ length (unspent_view lists.booked)
one_spent lists now number (Commit job state kept) some =
    rw (append-nil (filter (λ (u : UnspentRow). not (same_job job u.job)) (unspent_view lists.booked)))
    (filter-fewer (λ u. not (same_job job u.job)) (λ u. same_job job u.job)
    (λ u e. not_same job u.job e) (unspent_view lists.booked) some)
one_spent lists now number (Undo job noted was_ended) some =
    rw (append-nil (filter (λ (u : UnspentRow). not (same_job job u.job)) (unspent_view lists.booked)))
    (filter-fewer (λ u. not (same_job job u.job)) (λ u. same_job job u.job)
    (λ u e. not_same job u.job e) (unspent_view lists.booked) some)
one_spent lists now number (Reserve r) some = absurd some
one_spent lists now number (Beat server nonce cpus key pruned reaped replaced is_new) some = absurd some
one_spent lists now number (Update server job state answer) some = absurd some
one_spent lists now number (Status pruned servers cpus n) some = absurd some
one_spent lists now number (Drain addr nonce on named) some = absurd some

-- an entry that spends a reservation takes the room that was kept for it
pub log_room-spent : (lists : Lists) (now number : ℕ) (k : CoreKind) (len capacity : ℕ)
    → SpendsOne k (unspent_view lists.booked) → len + length (unspent_view lists.booked) ≤ capacity
    → len + 1 + length (unspent_next lists (record { now = now; kind = k }) number) ≤ capacity
log_room-spent lists now number k len capacity some room = let less = one_spent lists now number k some
    in omega (arith, less, room)
