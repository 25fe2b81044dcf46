-- No rule asks for the key of a heartbeat.
use Rattle.std.proofs.Common.{◌≡◌, ℕ, ◌+◌, ◌==◌, Bool, true, false, cond, not, ◌&&◌, ◌||◌, nat_lt, List, [], ◌∷◌, ◌++◌, length}
use Rattle.std.proofs.Common.{map, filter, Option, Some, None, refl, sym, ap, ◌∙◌}
use Rattle.std.specs.Prelude.{count_by, option_and_then}
use Rattle.std.specs.List.{list_any, filter_map, cons_option}
use Rattle.std.specs.Option.{option_map}
use Rattle.std.proofs.lemmas.List.{map-append, length-map}
use Rattle.std.proofs.lemmas.List.Elements.{filter_agree}
use Rattle.std.proofs.lemmas.List.Sums.{sum_by-cons}
use Rattle.dist_types.specs.declared.addr.Addr.{Addr}
use Rattle.dist_types.specs.declared.ids.JobId.{JobId}
use Rattle.dist_types.specs.declared.results.JobState.{JobState}
use Rattle.core_rules.specs.declared.entry.CoreEntry.{CoreEntry}
use Rattle.core_rules.specs.declared.entry.CoreKind.{CoreKind}
use Rattle.core_rules.specs.declared.entry.CoreKind.TheVariants.{Beat, Reserve, Commit, Undo, Update, Status}
use Rattle.core_rules.specs.declared.entry.CoreKind.TheVariants.{Drain}
use Rattle.core_rules.specs.declared.entry.Reserved.TheVariants.{Job, NoRoom, Spent}
use Rattle.core_rules.specs.declared.rows.ServerRow.{ServerRow}
use Rattle.core_rules.specs.declared.rows.HeldRow.{HeldRow}
use Rattle.core_rules.specs.declared.rows.OpenRow.{OpenRow}
use Rattle.core_rules.specs.declared.call.Call.{Call}
use Rattle.core_rules.specs.declared.call.Call.TheVariants as call
use Rattle.core_rules.specs.Cuts.{Cut, cuts_behind, cuts, lasting}
use Rattle.core_rules.specs.Log.{Core, same_job, newest, latest}
use Rattle.core_rules.specs.Standing.{Registered, registered_by, registered_at, ends_by, ended, stands, standing}
use Rattle.core_rules.specs.Standing.{renews_by, reserves_by, is_heard, serves, is_sign, last_sign, address_of}
use Rattle.core_rules.specs.Standing.{drains_by, drained_in, is_draining}
use Rattle.core_rules.specs.Reservation.{Booking, booked_by, booked_at, bookings, is_unended, unended, frees_by}
use Rattle.core_rules.specs.Reservation.{is_complete, claims_by, is_claimed, load_of, spends_by, is_unspent, unspent}
use Rattle.core_rules.specs.Fault.{Noted, noted_by, noted_at, forgives_by, is_remembered, error_of}
use Rattle.core_rules.specs.Job.{Committed, places_by, place_of, committed_by, committed_at, moves_by, moves_of}
use Rattle.core_rules.specs.Job.{state_now, state_of, drops_by, is_open, open_jobs, readied_by, readies_by, ready_at}
use Rattle.core_rules.specs.Rows.{row_of, servers_of, held_of, held_rows, open_of, open_rows, placed, sorted_into}
use Rattle.core_rules.specs.Rows.{unended_by_id}
use Rattle.core_rules.specs.Rule.{rule, is_among, place_at, noted_over, reserve_over, commit_by, undo_by, beat_over}
use Rattle.core_rules.specs.Rule.{update_over, status_over, drain_over, IsCall}
use Rattle.audit.specs.Keyless.{keyless, without_key, without_keys, keyless_call}
use Rattle.core_rules.proofs.Lists.{map-map, filter-map, filter_map-map, map-same, list_any-map}

-- ---- lists

any_same : (p : CoreEntry → Bool) → ((e : CoreEntry) → p (without_key e) ≡ p e) → (es : List CoreEntry)
    → list_any p (map without_key es) ≡ list_any p es
any_same p same [] = refl
any_same p same (e ∷ es) = ap (λ b. b || list_any p (map without_key es)) (same e)
    ∙ ap (λ b. p e || b) (any_same p same es)

some_same : {X : Type 0} (h : CoreEntry → Option X) → ((e : CoreEntry) → h (without_key e) ≡ h e)
    → (es : List CoreEntry) → filter_map h (map without_key es) ≡ filter_map h es
some_same h same [] = refl
some_same h same (e ∷ es) = ap (λ o. cons_option o (filter_map h (map without_key es))) (same e)
    ∙ ap (cons_option (h e)) (some_same h same es)

-- a cut of entries without keys
abbrev cut_bare : Cut CoreEntry → Cut CoreEntry
cut_bare c = record {
  before = map without_key c.before;
  at = without_key c.at;
  after = map without_key c.after;
}

cuts_bare : (front es : List CoreEntry) → cuts_behind (map without_key front) (map without_key es)
    ≡ map cut_bare (cuts_behind front es)
cuts_bare front [] = refl
cuts_bare front (e ∷ es) =
    ap (λ cs. record {
      before = map without_key front;
      at = without_key e;
      after = map without_key es;
    } ∷ cs)
    (ap (λ f. cuts_behind f (map without_key es)) (sym (map-append without_key front (e ∷ [])))
    ∙ cuts_bare (front ++ e ∷ []) es)

lasting_bare : {X : Type 0} (make : Cut CoreEntry → Option X) (lasts : X → Bool) (g : X → X)
    → ((c : Cut CoreEntry) → make (cut_bare c) ≡ option_map g (make c)) → ((x : X) → lasts (g x) ≡ lasts x)
    → (es : List CoreEntry) → lasting make lasts (map without_key es) ≡ map g (lasting make lasts es)
lasting_bare make lasts g made same es =
    ap (λ cs. filter lasts (filter_map make cs)) (cuts_bare [] es)
    ∙ ap (filter lasts) (filter_map-map make make cut_bare g made (cuts es))
    ∙ filter-map lasts g (filter_map make (cuts es))
    ∙ ap (map g) (filter_agree (λ x. lasts (g x)) lasts same (filter_map make (cuts es)))

-- ---- what entries say

ends_same : (k : CoreKind) (reg : ℕ) → ends_by (keyless k) reg ≡ ends_by k reg
ends_same (Beat server nonce cpus key pruned reaped replaced is_new) reg = refl
ends_same (Reserve r) reg = refl
ends_same (Commit job state kept) reg = refl
ends_same (Undo job noted was) reg = refl
ends_same (Update server job state answer) reg = refl
ends_same (Status pruned servers cpus jobs) reg = refl
ends_same (Drain place code flag named) reg = refl

drains_same : (k : CoreKind) (reg : ℕ) → drains_by (keyless k) reg ≡ drains_by k reg
drains_same (Beat server nonce cpus key pruned reaped replaced is_new) reg = refl
drains_same (Reserve r) reg = refl
drains_same (Commit job state kept) reg = refl
drains_same (Undo job noted was) reg = refl
drains_same (Update server job state answer) reg = refl
drains_same (Status pruned servers cpus jobs) reg = refl
drains_same (Drain place code flag named) reg = refl

readied_same : (k : CoreKind) (now : ℕ) (j : JobId) → readied_by (keyless k) now j ≡ readied_by k now j
readied_same (Beat server nonce cpus key pruned reaped replaced is_new) now j = refl
readied_same (Reserve r) now j = refl
readied_same (Commit job state kept) now j = refl
readied_same (Undo job noted was) now j = refl
readied_same (Update server job state answer) now j = refl
readied_same (Status pruned servers cpus jobs) now j = refl
readied_same (Drain place code flag named) now j = refl

renews_same : (k : CoreKind) (a : Addr) → renews_by (keyless k) a ≡ renews_by k a
renews_same (Beat server nonce cpus key pruned reaped replaced is_new) a = refl
renews_same (Reserve r) a = refl
renews_same (Commit job state kept) a = refl
renews_same (Undo job noted was) a = refl
renews_same (Update server job state answer) a = refl
renews_same (Status pruned servers cpus jobs) a = refl
renews_same (Drain place code flag named) a = refl

reserves_same : (k : CoreKind) (j : JobId) (r : ℕ) → reserves_by (keyless k) j r ≡ reserves_by k j r
reserves_same (Beat server nonce cpus key pruned reaped replaced is_new) j r = refl
reserves_same (Reserve x) j r = refl
reserves_same (Commit job state kept) j r = refl
reserves_same (Undo job noted was) j r = refl
reserves_same (Update server job state answer) j r = refl
reserves_same (Status pruned servers cpus jobs) j r = refl
reserves_same (Drain place code flag named) j r = refl

frees_same : (k : CoreKind) (j : JobId) (r : ℕ) → frees_by (keyless k) j r ≡ frees_by k j r
frees_same (Beat server nonce cpus key pruned reaped replaced is_new) j r = refl
frees_same (Reserve x) j r = refl
frees_same (Commit job state kept) j r = refl
frees_same (Undo job noted was) j r = refl
frees_same (Update server job state answer) j r = refl
frees_same (Status pruned servers cpus jobs) j r = refl
frees_same (Drain place code flag named) j r = refl

claims_same : (k : CoreKind) (j : JobId) → claims_by (keyless k) j ≡ claims_by k j
claims_same (Beat server nonce cpus key pruned reaped replaced is_new) j = refl
claims_same (Reserve x) j = refl
claims_same (Commit job state kept) j = refl
claims_same (Undo job noted was) j = refl
claims_same (Update server job state answer) j = refl
claims_same (Status pruned servers cpus jobs) j = refl
claims_same (Drain place code flag named) j = refl

moves_same : (k : CoreKind) (j : JobId) → moves_by (keyless k) j ≡ moves_by k j
moves_same (Beat server nonce cpus key pruned reaped replaced is_new) j = refl
moves_same (Reserve x) j = refl
moves_same (Commit job state kept) j = refl
moves_same (Undo job noted was) j = refl
moves_same (Update server job state answer) j = refl
moves_same (Status pruned servers cpus jobs) j = refl
moves_same (Drain place code flag named) j = refl

places_same : (k : CoreKind) (j : JobId) → places_by (keyless k) j ≡ places_by k j
places_same (Beat server nonce cpus key pruned reaped replaced is_new) j = refl
places_same (Reserve x) j = refl
places_same (Commit job state kept) j = refl
places_same (Undo job noted was) j = refl
places_same (Update server job state answer) j = refl
places_same (Status pruned servers cpus jobs) j = refl
places_same (Drain place code flag named) j = refl

forgives_same : (k : CoreKind) (r : ℕ) → forgives_by (keyless k) r ≡ forgives_by k r
forgives_same (Beat server nonce cpus key pruned reaped replaced is_new) r = refl
forgives_same (Reserve x) r = refl
forgives_same (Commit job state kept) r = refl
forgives_same (Undo job noted was) r = refl
forgives_same (Update server job state answer) r = refl
forgives_same (Status pruned servers cpus jobs) r = refl
forgives_same (Drain place code flag named) r = refl

drops_same : (k : CoreKind) (j : JobId) (o : Option ℕ) → drops_by (keyless k) j o ≡ drops_by k j o
drops_same (Beat server nonce cpus key pruned reaped replaced is_new) j None = refl
drops_same (Beat server nonce cpus key pruned reaped replaced is_new) j (Some r) = refl
drops_same (Reserve x) j o = refl
drops_same (Commit job state kept) j o = refl
drops_same (Undo job noted was) j o = refl
drops_same (Update server job state answer) j o = refl
drops_same (Status pruned servers cpus jobs) j o = refl
drops_same (Drain place code flag named) j o = refl

serves_same : (log : List CoreEntry) (k : CoreKind) (reg : ℕ) → serves (map without_key log) (keyless k) reg
    ≡ serves log k reg
serves_same log (Beat server nonce cpus key pruned reaped replaced is_new) reg = refl
serves_same log (Reserve x) reg = refl
serves_same log (Commit job state kept) reg = refl
serves_same log (Undo job noted was) reg = refl
serves_same log (Update server job state answer) reg =
    ap (λ b. is_heard answer && b) (any_same (λ d. reserves_by d.kind job reg) (λ e. reserves_same e.kind job reg) log)
serves_same log (Status pruned servers cpus jobs) reg = refl
serves_same log (Drain place code flag named) reg = refl

ended_same : (es : List CoreEntry) (reg : ℕ) → ended (map without_key es) reg ≡ ended es reg
ended_same es reg = any_same (λ e. ends_by e.kind reg) (λ e. ends_same e.kind reg) es

-- ---- registrations

abbrev bare_reg : Registered → Registered
bare_reg g = record g {
  key = [];
  earlier = map without_key g.earlier;
  later = map without_key g.later;
}

reg_made : (k : CoreKind) (now : ℕ) (before : List CoreEntry) (at : CoreEntry) (later : List CoreEntry)
    → registered_by (keyless k) now (map without_key before) (without_key at) (map without_key later)
    ≡ option_map bare_reg (registered_by k now before at later)
reg_made (Beat server nonce cpus key pruned reaped replaced true) now before at later =
    ap (λ n. Some (record {
      reg = n;
      now = now;
      server = server;
      nonce = nonce;
      cpus = cpus;
      key = [];
      earlier = map without_key before ++ without_key at ∷ [];
      later = map without_key later;
    })) (length-map before without_key)
    ∙ ap (λ es. Some (record {
      reg = length before;
      now = now;
      server = server;
      nonce = nonce;
      cpus = cpus;
      key = [];
      earlier = es;
      later = map without_key later;
    })) (sym (map-append without_key before (at ∷ [])))
reg_made (Beat server nonce cpus key pruned reaped replaced false) now before at later = refl
reg_made (Reserve x) now before at later = refl
reg_made (Commit job state kept) now before at later = refl
reg_made (Undo job noted was) now before at later = refl
reg_made (Update server job state answer) now before at later = refl
reg_made (Status pruned servers cpus jobs) now before at later = refl
reg_made (Drain place code flag named) now before at later = refl

regs_bare : (lasts : Registered → Bool) → ((g : Registered) → lasts (bare_reg g) ≡ lasts g) → (log : List CoreEntry)
    → lasting registered_at lasts (map without_key log) ≡ map bare_reg (lasting registered_at lasts log)
regs_bare lasts same log = lasting_bare registered_at lasts bare_reg
    (λ c. reg_made c.at.kind c.at.now c.before c.at c.after) same log

sign_same : (server : Addr) (reg : ℕ) (earlier : List CoreEntry) (c : Cut CoreEntry)
    → is_sign server reg (map without_key earlier) (cut_bare c) ≡ is_sign server reg earlier c
sign_same server reg earlier c =
    ap (λ b. (b && not (ended (map without_key c.before) reg)) || serves (map without_key earlier
    ++ map without_key c.before) (keyless c.at.kind) reg) (renews_same c.at.kind server)
    ∙ ap (λ b. (renews_by c.at.kind server && not b) || serves (map without_key earlier
    ++ map without_key c.before) (keyless c.at.kind) reg) (ended_same c.before reg)
    ∙ ap (λ es. (renews_by c.at.kind server && not (ended c.before reg)) || serves es (keyless c.at.kind) reg)
    (sym (map-append without_key earlier c.before))
    ∙ ap (λ b. (renews_by c.at.kind server && not (ended c.before reg)) || b)
    (serves_same (earlier ++ c.before) c.at.kind reg)

seen_same : (g : Registered) → last_sign (bare_reg g) ≡ last_sign g
seen_same g =
    let signs : Cut CoreEntry → Bool = is_sign g.server g.reg (map without_key g.earlier) in
    ap (λ cs. latest g.now (map (λ c. c.at.now) (filter signs cs))) (cuts_bare [] g.later)
    ∙ ap (λ cs. latest g.now (map (λ c. c.at.now) cs)) (filter-map signs cut_bare (cuts g.later))
    ∙ ap (latest g.now) (map-map (λ c. c.at.now) cut_bare (filter (λ c. signs (cut_bare c)) (cuts g.later)))
    ∙ ap (λ cs. latest g.now (map (λ c. c.at.now) cs)) (filter_agree (λ c. signs (cut_bare c))
    (is_sign g.server g.reg g.earlier) (sign_same g.server g.reg g.earlier) (cuts g.later))

address_same : (log : List CoreEntry) (reg : ℕ) → address_of (map without_key log) reg ≡ address_of log reg
address_same log reg =
    ap (λ gs. newest None (map (λ g. g.server) gs)) (regs_bare (λ g. g.reg == reg) (λ g. refl) log)
    ∙ ap (newest None) (map-map (λ g. g.server) bare_reg (lasting registered_at (λ g. g.reg == reg) log))

-- ---- reservations

abbrev pub bare_booking : Booking → Booking
bare_booking b = record b { later = map without_key b.later }

booking_made : (k : CoreKind) (n now : ℕ) (later : List CoreEntry)
    → booked_by (keyless k) n now (map without_key later) ≡ option_map bare_booking (booked_by k n now later)
booking_made (Beat server nonce cpus key pruned reaped replaced is_new) n now later = refl
booking_made (Reserve (Job job reg forgiven)) n now later = refl
booking_made (Reserve (NoRoom m)) n now later = refl
booking_made (Reserve Spent) n now later = refl
booking_made (Commit job state kept) n now later = refl
booking_made (Undo job noted was) n now later = refl
booking_made (Update server job state answer) n now later = refl
booking_made (Status pruned servers cpus jobs) n now later = refl
booking_made (Drain place code flag named) n now later = refl

bookings_bare : (lasts : Booking → Bool) → ((b : Booking) → lasts (bare_booking b) ≡ lasts b)
    → (log : List CoreEntry)
    → lasting booked_at lasts (map without_key log) ≡ map bare_booking (lasting booked_at lasts log)
bookings_bare lasts same log = lasting_bare booked_at lasts bare_booking
    (λ c. ap (λ n. booked_by (keyless c.at.kind) n c.at.now (map without_key c.after)) (length-map c.before without_key)
    ∙ booking_made c.at.kind (length c.before) c.at.now c.after) same log

unended_bare : (log : List CoreEntry) → unended (map without_key log) ≡ map bare_booking (unended log)
unended_bare log = bookings_bare is_unended
    (λ b. ap not (any_same (λ e. frees_by e.kind b.job b.reg) (λ e. frees_same e.kind b.job b.reg) b.later)) log

all_bookings : (log : List CoreEntry) → length (bookings (map without_key log)) ≡ length (bookings log)
all_bookings log =
    ap (λ cs. length (filter_map booked_at cs)) (cuts_bare [] log)
    ∙ ap length (filter_map-map booked_at booked_at cut_bare bare_booking
    (λ c. ap (λ n. booked_by (keyless c.at.kind) n c.at.now (map without_key c.after)) (length-map c.before without_key)
    ∙ booking_made c.at.kind (length c.before) c.at.now c.after) (cuts log))
    ∙ length-map (bookings log) bare_booking

among_same : (log : List CoreEntry) (n : ℕ) (job : JobId) → is_among (unended (map without_key log)) n job
    ≡ is_among (unended log) n job
among_same log n job = ap (λ bs. is_among bs n job) (unended_bare log)
    ∙ list_any-map (λ b. (b.number == n) && same_job b.job job) bare_booking (unended log)

load_count : (reg : ℕ) (bs : List Booking) → count_by (λ b. b.reg == reg) (map bare_booking bs)
    ≡ count_by (λ b. b.reg == reg) bs
load_count reg [] = refl
load_count reg (b ∷ bs) =
    sum_by-cons (λ (x : Booking). cond (x.reg == reg) 1 0) (bare_booking b) (map bare_booking bs)
    ∙ ap (λ n. cond (b.reg == reg) 1 0 + n) (load_count reg bs)
    ∙ sym (sum_by-cons (λ (x : Booking). cond (x.reg == reg) 1 0) b bs)

load_same : (log : List CoreEntry) (reg : ℕ) → load_of (map without_key log) reg ≡ load_of log reg
load_same log reg = ap (count_by (λ b. b.reg == reg)) (unended_bare log)
    ∙ load_count reg (unended log)

place_same : (log : List CoreEntry) (n : ℕ) → place_at (map without_key log) n ≡ place_at log n
place_same log n =
    ap (λ bs. newest None (map (λ b. b.reg) bs)) (bookings_bare (λ b. b.number == n) (λ b. refl) log)
    ∙ ap (newest None) (map-map (λ b. b.reg) bare_booking (lasting booked_at (λ b. b.number == n) log))

-- ---- errors

abbrev bare_noted : Noted → Noted
bare_noted n = record n { later = map without_key n.later }

noted_made : (k : CoreKind) (reg now : ℕ) (later : List CoreEntry)
    → noted_by (keyless k) reg now (map without_key later) ≡ option_map bare_noted (noted_by k reg now later)
noted_made (Beat server nonce cpus key pruned reaped replaced is_new) reg now later = refl
noted_made (Reserve x) reg now later = refl
noted_made (Commit job state kept) reg now later = refl
noted_made (Undo job None was) reg now later = refl
noted_made (Undo job (Some n) was) reg now later = by_test (n == reg)
  where
    by_test : (b : Bool) → cond b (Some (record { now = now; later = map without_key later })) None
        ≡ option_map bare_noted (cond b (Some (record { now = now; later = later })) None)
    by_test true = refl
    by_test false = refl
noted_made (Update server job state answer) reg now later = refl
noted_made (Status pruned servers cpus jobs) reg now later = refl
noted_made (Drain place code flag named) reg now later = refl

error_same : (log : List CoreEntry) (reg : ℕ) → error_of (map without_key log) reg ≡ error_of log reg
error_same log reg =
    ap (λ ns. newest None (map (λ n. n.now) ns)) (lasting_bare (noted_at reg) (is_remembered reg) bare_noted
    (λ c. noted_made c.at.kind reg c.at.now c.after)
    (λ n. ap not (any_same (λ e. forgives_by e.kind reg) (λ e. forgives_same e.kind reg) n.later)) log)
    ∙ ap (newest None) (map-map (λ n. n.now) bare_noted (lasting (noted_at reg) (is_remembered reg) log))

-- ---- rows of registrations

draining_same : (g : Registered) → is_draining (bare_reg g) ≡ is_draining g
draining_same g = ap (latest false) (some_same (λ e. drains_by e.kind g.reg) (λ e. drains_same e.kind g.reg) g.later)

row_same : (log : List CoreEntry) (g : Registered) → row_of (map without_key log) (bare_reg g) ≡ row_of log g
row_same log g = rw (seen_same g, load_same log g.reg, error_same log g.reg, draining_same g) refl

pub servers_same : (log : List CoreEntry) → servers_of (map without_key log) ≡ servers_of log
servers_same log =
    ap (map (row_of (map without_key log))) (regs_bare stands (λ g. ap not (ended_same g.later g.reg)) log)
    ∙ map-map (row_of (map without_key log)) bare_reg (standing log)
    ∙ rows (standing log)
  where
    rows : (gs : List Registered) → map (λ g. row_of (map without_key log) (bare_reg g)) gs ≡ map (row_of log) gs
    rows [] = refl
    rows (g ∷ gs) = ap (λ r. r ∷ map (λ x. row_of (map without_key log) (bare_reg x)) gs) (row_same log g)
        ∙ ap (λ rs. row_of log g ∷ rs) (rows gs)

-- ---- jobs

abbrev bare_commit : Committed → Committed
bare_commit c = record c { later = map without_key c.later }

place_of_same : (job : JobId) (es : List CoreEntry) → place_of job (map without_key es) ≡ place_of job es
place_of_same job es = ap (newest None) (some_same (λ e. places_by e.kind job) (λ e. places_same e.kind job) es)

commit_made : (k : CoreKind) (before later : List CoreEntry)
    → committed_by (keyless k) (map without_key before) (map without_key later)
    ≡ option_map bare_commit (committed_by k before later)
commit_made (Beat server nonce cpus key pruned reaped replaced is_new) before later = refl
commit_made (Reserve x) before later = refl
commit_made (Commit job state true) before later = ap (λ r. Some (record {
  job = job;
  reg = r;
  state = state;
  later = map without_key later;
})) (place_of_same job before)
commit_made (Commit job state false) before later = refl
commit_made (Undo job noted was) before later = refl
commit_made (Update server job state answer) before later = refl
commit_made (Status pruned servers cpus jobs) before later = refl
commit_made (Drain place code flag named) before later = refl

commits_bare : (lasts : Committed → Bool) → ((c : Committed) → lasts (bare_commit c) ≡ lasts c)
    → (log : List CoreEntry)
    → lasting committed_at lasts (map without_key log) ≡ map bare_commit (lasting committed_at lasts log)
commits_bare lasts same log = lasting_bare committed_at lasts bare_commit
    (λ c. commit_made c.at.kind c.before c.after) same log

state_now_same : (c : Committed) → state_now (bare_commit c) ≡ state_now c
state_now_same c = ap (latest c.state) (some_same (λ e. moves_by e.kind c.job) (λ e. moves_same e.kind c.job) c.later)

states : (cs : List Committed) → map (λ c. state_now (bare_commit c)) cs ≡ map state_now cs
states [] = refl
states (c ∷ cs) = ap (λ s. s ∷ map (λ x. state_now (bare_commit x)) cs) (state_now_same c)
    ∙ ap (λ ss. state_now c ∷ ss) (states cs)

pub state_same : (job : JobId) (es : List CoreEntry) → state_of job (map without_key es) ≡ state_of job es
state_same job es =
    ap (λ cs. newest None (map state_now cs)) (commits_bare (λ c. same_job c.job job) (λ c. refl) es)
    ∙ ap (newest None) (map-map state_now bare_commit (lasting committed_at (λ c. same_job c.job job) es)
    ∙ states (lasting committed_at (λ c. same_job c.job job) es))

pub claimed_same : (b : Booking) → is_claimed (bare_booking b) ≡ is_claimed b
claimed_same b = any_same (λ e. claims_by e.kind b.job) (λ e. claims_same e.kind b.job) b.later

ready_same : (job : JobId) (es : List CoreEntry) → ready_at job (map without_key es) ≡ ready_at job es
ready_same job es = ap (newest None) (some_same (λ e. readies_by e job) (λ e. readied_same e.kind e.now job) es)

held_same : (b : Booking) → held_of (bare_booking b) ≡ held_of b
held_same b = rw (state_same b.job b.later, ready_same b.job b.later, claimed_same b) refl

helds : (bs : List Booking) → map (λ b. held_of (bare_booking b)) bs ≡ map held_of bs
helds [] = refl
helds (b ∷ bs) = ap (λ h. h ∷ map (λ x. held_of (bare_booking x)) bs) (held_same b)
    ∙ ap (λ hs. held_of b ∷ hs) (helds bs)

held_rows_same : (log : List CoreEntry) → held_rows (map without_key log) ≡ held_rows log
held_rows_same log = ap (map held_of) (unended_bare log) ∙ map-map held_of bare_booking (unended log)
    ∙ helds (unended log)

then_address : (log : List CoreEntry) (o : Option ℕ) → option_and_then (address_of (map without_key log)) o
    ≡ option_and_then (address_of log) o
then_address log None = refl
then_address log (Some reg) = address_same log reg

open_same : (log : List CoreEntry) (c : Committed) → open_of (map without_key log) (bare_commit c) ≡ open_of log c
open_same log c = rw (then_address log c.reg, state_now_same c) refl

opens : (log : List CoreEntry) (cs : List Committed) → map (λ c. open_of (map without_key log) (bare_commit c)) cs
    ≡ map (open_of log) cs
opens log [] = refl
opens log (c ∷ cs) = ap (λ o. o ∷ map (λ x. open_of (map without_key log) (bare_commit x)) cs) (open_same log c)
    ∙ ap (λ os. open_of log c ∷ os) (opens log cs)

open_rows_same : (log : List CoreEntry) → open_rows (map without_key log) ≡ open_rows log
open_rows_same log =
    ap (map (open_of (map without_key log))) (commits_bare is_open
    (λ c. ap (λ s. not (is_complete s) && not (list_any (λ e. drops_by e.kind c.job c.reg) (map without_key c.later)))
    (state_now_same c)
    ∙ ap (λ b. not (is_complete (state_now c)) && not b)
    (any_same (λ e. drops_by e.kind c.job c.reg) (λ e. drops_same e.kind c.job c.reg) c.later)) log)
    ∙ map-map (open_of (map without_key log)) bare_commit (open_jobs log)
    ∙ opens log (open_jobs log)

-- ---- the rule

pub rule_keyless : (s : Core) (c : Call) → rule (without_keys s) (keyless_call c) ≡ without_key (rule s c)
rule_keyless s (call.Reserve now) =
    ap (λ rows. reserve_over rows now s.start.base (s.start.count + length (bookings (map without_key s.log))))
    (servers_same s.log)
    ∙ ap (λ n. reserve_over (servers_of s.log) now s.start.base (s.start.count + n)) (all_bookings s.log)
rule_keyless s (call.Commit now number job state) = ap (λ kept. commit_by kept now job state)
    (among_same s.log number job)
rule_keyless s (call.Undo now number job) =
    ap (λ rows. undo_by (noted_over rows (option_and_then (address_of (map without_key s.log))
    (place_at (map without_key s.log) number))) (is_among (unended (map without_key s.log)) number job) now job)
    (servers_same s.log)
    ∙ ap (λ o. undo_by (noted_over (servers_of s.log) (option_and_then (address_of (map without_key s.log)) o))
    (is_among (unended (map without_key s.log)) number job) now job) (place_same s.log number)
    ∙ ap (λ o. undo_by (noted_over (servers_of s.log) o) (is_among (unended (map without_key s.log)) number job) now
    job) (then_address s.log (place_at s.log number))
    ∙ ap (λ b. undo_by (noted_over (servers_of s.log) (option_and_then (address_of s.log) (place_at s.log number))) b
    now job) (among_same s.log number job)
rule_keyless s (call.Beat now server nonce cpus key) =
    ap (λ rows. beat_over s.start.rules rows (held_rows (map without_key s.log)) now server nonce cpus [])
    (servers_same s.log)
    ∙ ap (λ held. beat_over s.start.rules (servers_of s.log) held now server nonce cpus []) (held_rows_same s.log)
rule_keyless s (call.Update now server job state) = ap (λ rows. update_over rows now server job state)
    (open_rows_same s.log)
rule_keyless s (call.Status now) =
    ap (λ rows. status_over rows (open_rows (map without_key s.log)) now) (servers_same s.log)
    ∙ ap (λ jobs. status_over (servers_of s.log) jobs now) (open_rows_same s.log)
rule_keyless s (call.Drain now server nonce on) = ap (λ rows. drain_over rows now server nonce on)
    (servers_same s.log)

-- ---- what may be called, and what has begun

spends_same : (k : CoreKind) (j : JobId) → spends_by (keyless k) j ≡ spends_by k j
spends_same (Beat server nonce cpus key pruned reaped replaced is_new) j = refl
spends_same (Reserve x) j = refl
spends_same (Commit job state kept) j = refl
spends_same (Undo job noted was) j = refl
spends_same (Update server job state answer) j = refl
spends_same (Status pruned servers cpus jobs) j = refl
spends_same (Drain place code flag named) j = refl

unspent_same : (log : List CoreEntry) (n : ℕ) (job : JobId) → is_among (unspent (map without_key log)) n job
    ≡ is_among (unspent log) n job
unspent_same log n job = ap (λ bs. is_among bs n job) (bookings_bare is_unspent
    (λ b. ap not (any_same (λ e. spends_by e.kind b.job) (λ e. spends_same e.kind b.job) b.later)) log)
    ∙ list_any-map (λ b. (b.number == n) && same_job b.job job) bare_booking (unspent log)

pub call_keyless : (s : Core) (c : Call) → IsCall s c → IsCall (without_keys s) (keyless_call c)
call_keyless s (call.Reserve now) is = tt
call_keyless s (call.Commit now number job state) is = (unspent_same s.log number job ∙ is.0, is.1)
call_keyless s (call.Undo now number job) is = unspent_same s.log number job ∙ is
call_keyless s (call.Beat now server nonce cpus key) is = is
call_keyless s (call.Update now server job state) is = tt
call_keyless s (call.Status now) is = tt
call_keyless s (call.Drain now server nonce on) is = is

pub begun_keyless : (log : List CoreEntry) (job : JobId) → list_any (λ e. claims_by e.kind job) (map without_key log)
    ≡ list_any (λ e. claims_by e.kind job) log
begun_keyless log job = any_same (λ e. claims_by e.kind job) (λ e. claims_same e.kind job) log

-- ---- the reservations by rising id

placed_step : (b c : Booking) (cs : List Booking) (v : Bool)
    → placed (λ x. x.job.0) (bare_booking b) (map bare_booking cs) ≡ map bare_booking (placed (λ x. x.job.0) b cs)
    → cond v (bare_booking b ∷ bare_booking c ∷ map bare_booking cs)
    (bare_booking c ∷ placed (λ x. x.job.0) (bare_booking b) (map bare_booking cs))
    ≡ map bare_booking (cond v (b ∷ c ∷ cs) (c ∷ placed (λ x. x.job.0) b cs))
placed_step b c cs true later = refl
placed_step b c cs false later = ap (λ xs. bare_booking c ∷ xs) later

placed_bare : (b : Booking) (bs : List Booking) → placed (λ x. x.job.0) (bare_booking b) (map bare_booking bs)
    ≡ map bare_booking (placed (λ x. x.job.0) b bs)
placed_bare b [] = refl
placed_bare b (c ∷ cs) = placed_step b c cs (nat_lt b.job.0 c.job.0) (placed_bare b cs)

sorted_bare : (done bs : List Booking) → sorted_into (λ x. x.job.0) (map bare_booking done) (map bare_booking bs)
    ≡ map bare_booking (sorted_into (λ x. x.job.0) done bs)
sorted_bare done [] = refl
sorted_bare done (b ∷ bs) = ap (λ xs. sorted_into (λ x. x.job.0) xs (map bare_booking bs)) (placed_bare b done)
    ∙ sorted_bare (placed (λ x. x.job.0) b done) bs

pub by_id_keyless : (log : List CoreEntry) → unended_by_id (map without_key log)
    ≡ map bare_booking (unended_by_id log)
by_id_keyless log = ap (sorted_into (λ x. x.job.0) []) (unended_bare log) ∙ sorted_bare [] (unended log)
