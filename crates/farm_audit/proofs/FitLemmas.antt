-- The lines of a run fit where its entries and its setup do.
use Rattle.std.proofs.Common.{ℕ, suc, ◌+◌, ◌==◌, ◌<◌, ◌≤◌, ◌^◌, Bool, true, false, cond, nat_lt, List, []}
use Rattle.std.proofs.Common.{◌∷◌, ◌++◌, length, map, Option, Some, None, codes, refl, inl, inr, ◌≡◌, ◌⊎◌}
use Rattle.std.proofs.Common.{arith}
use Rattle.std.specs.List.{filter_map, cons_option, flat_map}
use Rattle.std.specs.Fmt.{decimal}
use Rattle.std.specs.Prelude.{filter, fold}
use Rattle.std.proofs.lemmas.List.{length-append, length-map}
use Rattle.std.proofs.lemmas.List.Sums.{count_by-le-length, length-filter}
use Rattle.dist_types.specs.Addr.{same_addr}
use Rattle.dist_types.specs.declared.ids.JobId.{JobId}
use Rattle.dist_types.specs.declared.rules.Rules.{Rules}
use Rattle.dist_types.specs.declared.rules.Rules.TheVariants.{One, Two}
use Rattle.core_rules.specs.Cuts.{Cut, cuts, cuts_behind}
use Rattle.core_rules.specs.Fault.{Noted, noted_at, notes_by, is_remembered, error_of}
use Rattle.core_rules.specs.Laws.{IsLegal}
use Rattle.core_rules.specs.Reservation.{Booking, booked_by, booked_at, bookings, is_unended, unended, load_of}
use Rattle.core_rules.specs.Rows.{row_of, unended_by_id}
use Rattle.core_rules.specs.Standing.{Registered, registered_by, registered_at, stands, standing, is_sign}
use Rattle.core_rules.specs.declared.entry.CoreEntry.{CoreEntry}
use Rattle.core_rules.specs.declared.entry.CoreKind.{CoreKind}
use Rattle.core_rules.specs.declared.entry.CoreKind.TheVariants as core
use Rattle.core_rules.specs.declared.entry.Reserved.TheVariants as reserve
use Rattle.core_rules.proofs.SoundLemmas.{HasIds, legal_ids, jobs}
use Rattle.build_server.specs.Books.{held_for, placed, is_job}
use Rattle.build_server.specs.Rules.{archives_after_submit}
use Rattle.build_server.specs.declared.run.Ran.{Ran}
use Rattle.build_server.specs.declared.run.Ran.TheVariants as ran
use Rattle.build_server.specs.declared.submit.Submitted.{Submitted}
use Rattle.build_server.specs.declared.submit.Submitted.TheVariants as submitted
use Rattle.toolchain_cache.specs.Archives.{Archives}
use Rattle.farm_entries.specs.declared.site.Site.{Site}
use Rattle.farm_entries.specs.declared.site.SiteServer.{SiteServer}
use Rattle.farm_entries.specs.declared.entry.Entry.{Entry}
use Rattle.farm_entries.specs.declared.entry.EntryWord.{EntryWord}
use Rattle.farm_entries.specs.declared.entry.Step.{Step}
use Rattle.farm_entries.specs.declared.entry.OutCall.{OutCall}
use Rattle.farm_entries.specs.declared.entry.Reply.{Reply}
use Rattle.farm_entries.specs.declared.entry.StepKind.{StepKind}
use Rattle.farm_entries.specs.declared.entry.StepKind.TheVariants as step
use Rattle.farm_entries.specs.Printed.{core_count, version_of, entry_text, entries_text, run_text, books_text}
use Rattle.farm_entries.specs.Seen.{core_log, ids_start}
use Rattle.farm_entries.specs.Servers.{ServerNow, archives_after_run, kind_after, stepped, restarted, restart_by}
use Rattle.farm_entries.specs.Servers.{server_after, server_begun, server_of}
use Rattle.run_lines.specs.Grammar.{Fits, Each, HasText, IsId, ArchiveFits, ArchivesFit, CoreFits, StepFits}
use Rattle.run_lines.specs.Grammar.{SubmittedFits, LineFits, SomeFits}
use Rattle.run_lines.specs.declared.line.RunLine.{RunLine}
use Rattle.run_lines.specs.declared.line.RunLine.TheVariants as line
use Rattle.audit.specs.FirstBad.{AllFit}
use Rattle.audit.specs.Keyless.{keyless}
use Rattle.farm_audit.specs.RunLines.{shown, core_lines, step_lines, call_lines, reply_lines, word_lines}
use Rattle.farm_audit.specs.RunLines.{entry_lines, entries_lines, row_line, booking_line, held_line}
use Rattle.farm_audit.specs.RunLines.{archive_line, server_lines, books_lines, run_lines}
use Rattle.farm_audit.specs.Fit.{CoreEntryFits, SomeCoreFits, SomeStepFits, SomeCallFits, SomeReplyFits}
use Rattle.farm_audit.specs.Fit.{EntryFits, ServerFits, SiteFits}
use Rattle.farm_audit.proofs.EachLemmas.{Whether, each_map, each_both, each_filter, each_cons, each_made}
use Rattle.farm_audit.proofs.EachLemmas.{each_cut, latest_fits, newest_fits, each_sorted, each_looked}
use Rattle.farm_audit.proofs.EachLemmas.{each_promoted}

fit_both : (ls ms : List RunLine) → AllFit ls → AllFit ms → AllFit (ls ++ ms)
fit_both [] ms a b = b
fit_both (l ∷ ls) ms a b = (a.0, fit_both ls ms a.1 b)

fit_map : {A : Type 0} (f : A → RunLine) (Fine : A → Type 0) (xs : List A) → ((x : A) → Fine x → LineFits (f x))
    → Each Fine xs → AllFit (map f xs)
fit_map f Fine [] h all = tt
fit_map f Fine (x ∷ xs) h all = (h x all.0, fit_map f Fine xs h all.1)

-- ---- the entries

core_fit : (number : ℕ) (o : Option CoreEntry) → Fits number → SomeCoreFits o → AllFit (core_lines number o)
core_fit number None few is = tt
core_fit number (Some e) few is = ((few, is.1), tt)

step_fit : (o : Option Step) → SomeStepFits o → AllFit (step_lines o)
step_fit None is = tt
step_fit (Some s) is = (is, tt)

call_fit : (o : Option OutCall) → SomeCallFits o → AllFit (call_lines o)
call_fit None is = tt
call_fit (Some c) is = (is, tt)

reply_fit : (o : Option Reply) → SomeReplyFits o → AllFit (reply_lines o)
reply_fit None is = tt
reply_fit (Some r) is = (is, tt)

word_fit : (o : Option EntryWord) → AllFit (word_lines o)
word_fit None = tt
word_fit (Some w) = (tt, tt)

entry_fit : (number core_number : ℕ) (e : Entry) → Fits number → Fits core_number → EntryFits e
    → AllFit (entry_lines number core_number e)
entry_fit number core_number e few core_few is =
    let cores = core_lines core_number e.core in
    let steps = step_lines e.step in
    let calls = call_lines e.call in
    let replies = reply_lines e.reply in (
      (few, is.event),
      fit_both (cores ++ steps ++ calls ++ replies) (word_lines e.word)
          (fit_both (cores ++ steps ++ calls) replies
          (fit_both (cores ++ steps) calls
          (fit_both cores steps (core_fit core_number e.core core_few is.effect.core) (step_fit e.step is.effect.step))
          (call_fit e.call is.effect.call)) (reply_fit e.reply is.effect.reply)) (word_fit e.word),
    )

few_cores : (o : Option CoreEntry) → core_count o ≤ 1
few_cores None = omega arith
few_cores (Some e) = omega arith

entries_fit : (number core_number : ℕ) (es : List Entry) → number + length es ≤ 268435456
    → core_number + length es ≤ 268435456 → Each EntryFits es → AllFit (entries_lines number core_number es)
entries_fit number core_number [] few core_few all = tt
entries_fit number core_number (e ∷ es) few core_few all =
    fit_both (entry_lines number core_number e) (entries_lines (number + 1) (core_number + core_count e.core) es)
    (entry_fit number core_number e (omega (arith, few)) (omega (arith, core_few)) all.0)
    (entries_fit (number + 1) (core_number + core_count e.core) es (omega (arith, few))
    (omega (arith, core_few, few_cores e.core)) all.1)

-- an entry has a line
entry_some : (number core_number : ℕ) (e : Entry) → 1 ≤ length (entry_text number core_number e)
entry_some number core_number e = omega arith

entries_few : (number core_number : ℕ) (es : List Entry) → length es ≤ length (entries_text number core_number es)
entries_few number core_number [] = omega arith
entries_few number core_number (e ∷ es) =
    omega (
      arith,
      entry_some number core_number e,
      entries_few (number + 1) (core_number + core_count e.core) es,
      length-append (entry_text number core_number e)
          (entries_text (number + 1) (core_number + core_count e.core) es),
    )

-- ---- the core entries

cores_fit : (es : List Entry) → Each EntryFits es → Each CoreEntryFits (core_log es)
cores_fit [] all = tt
cores_fit (e ∷ es) all = each_cons CoreEntryFits e.core (core_log es) (whether e.core all.0.effect.core)
    (cores_fit es all.1)
  where
    whether : (o : Option CoreEntry) → SomeCoreFits o → Whether CoreEntryFits o
    whether None is = is
    whether (Some c) is = is

few_more : (o : Option CoreEntry) (log : List CoreEntry) (n : ℕ) → length log ≤ n
    → length (cons_option o log) ≤ suc n
few_more None log n h = omega (arith, h)
few_more (Some c) log n h = omega (arith, h)

cores_few : (es : List Entry) → length (core_log es) ≤ length es
cores_few [] = omega arith
cores_few (e ∷ es) = few_more e.core (core_log es) (length es) (cores_few es)

-- ---- registrations

-- a registration whose line fits
pub record GoodReg (g : Registered) : Type 0 where
  pub server : HasText g.server
  pub reg : Fits g.reg
  pub cpus : Fits g.cpus
  pub nonce : Fits g.nonce
  pub now : Fits g.now
  pub later : Each CoreEntryFits g.later

reg_made : (n : ℕ) (kind : CoreKind) (now : ℕ) (before : List CoreEntry) (at : CoreEntry) (after : List CoreEntry)
    → n ≤ 268435456 → length before < n → Fits now → CoreFits (keyless kind) → Each CoreEntryFits after
    → Whether GoodReg (registered_by kind now before at after)
reg_made n (core.Beat server nonce cpus key pruned reaped replaced true) now before at after le lt fits is all =
    record {
      server = is.0;
      reg = omega (arith, le, lt);
      cpus = is.2;
      nonce = is.1;
      now = fits;
      later = all;
    }
reg_made n (core.Beat server nonce cpus key pruned reaped replaced false) now before at after le lt fits is all = tt
reg_made n (core.Reserve reserved) now before at after le lt fits is all = tt
reg_made n (core.Commit job state kept) now before at after le lt fits is all = tt
reg_made n (core.Undo job noted ended) now before at after le lt fits is all = tt
reg_made n (core.Update server job state answer) now before at after le lt fits is all = tt
reg_made n (core.Status pruned servers cpus jobs) now before at after le lt fits is all = tt
reg_made n (core.Drain server nonce on reg) now before at after le lt fits is all = tt

regs_good : (log : List CoreEntry) → length log ≤ 268435456 → Each CoreEntryFits log → Each GoodReg (standing log)
regs_good log le all =
    each_filter GoodReg stands (filter_map registered_at (cuts log))
    (each_made (length log) CoreEntryFits GoodReg registered_at [] log (omega arith) all
    (λ before x after lt fits rest. reg_made (length log) x.kind x.now before x after le lt fits.0 fits.1 rest))

-- ---- remembered errors

noted_fits : (reg : ℕ) (c : Cut CoreEntry) → Fits c.at.now → Whether (λ (n : Noted). Fits n.now) (noted_at reg c)
noted_fits reg c fits = by_note (notes_by c.at.kind reg)
  where
    by_note : (b : Bool) → Whether (λ (n : Noted). Fits n.now)
        (cond b (Some (record { now = c.at.now; later = c.after })) None)
    by_note true = fits
    by_note false = tt

error_fits : (log : List CoreEntry) (reg : ℕ) → Each CoreEntryFits log → SomeFits (error_of log reg)
error_fits log reg all =
    let noted = filter_map (noted_at reg) (cuts log) in
    newest_fits None (map (λ (n : Noted). n.now) (filter (is_remembered reg) noted)) tt
    (each_map (λ (n : Noted). n.now) (λ (n : Noted). Fits n.now) Fits (filter (is_remembered reg) noted)
    (λ n h. h)
    (each_filter (λ (n : Noted). Fits n.now) (is_remembered reg) noted
    (each_made (length log) CoreEntryFits (λ (n : Noted). Fits n.now) (noted_at reg) [] log (omega arith) all
    (λ before x after lt fits rest. noted_fits reg (record { before = before; at = x; after = after }) fits.0))))

-- ---- reservations

-- a reservation whose line fits
abbrev GoodBooking : Booking → Type 0
GoodBooking b = Fits b.job.0 × Fits b.reg

booking_made : (kind : CoreKind) (number now : ℕ) (after : List CoreEntry) → CoreFits (keyless kind)
    → Whether GoodBooking (booked_by kind number now after)
booking_made (core.Reserve (reserve.Job job reg forgiven)) number now after is = (is.0, is.1)
booking_made (core.Reserve (reserve.NoRoom standing)) number now after is = tt
booking_made (core.Reserve reserve.Spent) number now after is = tt
booking_made (core.Commit job state kept) number now after is = tt
booking_made (core.Undo job noted ended) number now after is = tt
booking_made (core.Beat server nonce cpus key pruned reaped replaced is_new) number now after is = tt
booking_made (core.Update server job state answer) number now after is = tt
booking_made (core.Status pruned servers cpus jobs) number now after is = tt
booking_made (core.Drain server nonce on reg) number now after is = tt

bookings_good : (log : List CoreEntry) → Each CoreEntryFits log → Each GoodBooking (bookings log)
bookings_good log all =
    each_made (length log) CoreEntryFits GoodBooking booked_at [] log (omega arith) all
    (λ before x after lt fits rest. booking_made x.kind (length before) x.now after fits.1)

-- as many as core entries at the most
makes_few : (make : Cut CoreEntry → Option Booking) (front log : List CoreEntry)
    → length (filter_map make (cuts_behind front log)) ≤ length log
makes_few make front [] = omega arith
makes_few make front (x ∷ xs) =
    few (make (record { before = front; at = x; after = xs })) (makes_few make (front ++ x ∷ []) xs)
  where
    few : (o : Option Booking) → length (filter_map make (cuts_behind (front ++ x ∷ []) xs)) ≤ length xs
        → length (cons_option o (filter_map make (cuts_behind (front ++ x ∷ []) xs))) ≤ suc (length xs)
    few None h = omega (arith, h)
    few (Some b) h = omega (arith, h)

load_few : (log : List CoreEntry) (reg : ℕ) → load_of log reg ≤ length log
load_few log reg =
    omega (
      arith,
      count_by-le-length (λ (b : Booking). b.reg == reg) (unended log),
      length-filter is_unended (bookings log),
      count_by-le-length is_unended (bookings log),
      makes_few booked_at [] log,
    )

-- ---- rows

row_fit : (log : List CoreEntry) (g : Registered) → length log ≤ 268435456 → Each CoreEntryFits log → GoodReg g
    → LineFits (row_line (row_of log g))
row_fit log g le all good =
    let signs = filter (is_sign g.server g.reg g.earlier) (cuts g.later) in (
      good.server,
      good.reg,
      good.cpus,
      good.nonce,
      latest_fits g.now (map (λ (c : Cut CoreEntry). c.at.now) signs) good.now
          (each_map (λ (c : Cut CoreEntry). c.at.now) (λ (c : Cut CoreEntry). CoreEntryFits c.at) Fits signs
          (λ c fits. fits.0)
          (each_filter (λ (c : Cut CoreEntry). CoreEntryFits c.at) (is_sign g.server g.reg g.earlier) (cuts g.later)
          (each_cut CoreEntryFits [] g.later good.later))),
      omega (arith, le, load_few log g.reg),
      error_fits log g.reg all,
      refl,
    )

rows_map : (log : List CoreEntry) (gs : List Registered) → length log ≤ 268435456 → Each CoreEntryFits log
    → Each GoodReg gs → AllFit (map row_line (map (row_of log) gs))
rows_map log [] le all good = tt
rows_map log (g ∷ gs) le all good = (row_fit log g le all good.0, rows_map log gs le all good.1)

-- ---- what a server keeps

-- a job that is held
abbrev HeldFits : JobId × List ℕ → Type 0
HeldFits p = Fits p.0.0 × IsId p.1

-- a server whose lines fit
pub record GoodServer (s : ServerNow) : Type 0 where
  pub addr : HasText s.setup.addr
  pub held : Each HeldFits s.held
  pub archives : ArchivesFit s.archives

each_held : (job : JobId) (tc : List ℕ) (hs : List (JobId × List ℕ)) → HeldFits (job, tc) → Each HeldFits hs
    → Each HeldFits (placed job tc hs)
each_held job tc [] h all = (h, tt)
each_held job tc (x ∷ xs) h all = by_order (nat_lt job.0 x.0.0) (each_held job tc xs h all.1)
  where
    by_order : (b : Bool) → Each HeldFits (placed job tc xs)
        → Each HeldFits (cond b ((job, tc) ∷ x ∷ xs) (x ∷ placed job tc xs))
    by_order true rest = (h, all)
    by_order false rest = (all.0, rest)

after_submit : (o : Option (List ℕ)) (outcome : Submitted) (archives : Archives) → Whether IsId o
    → SubmittedFits outcome → ArchivesFit archives → ArchivesFit (archives_after_submit o outcome archives)
after_submit (Some tc) (submitted.Stored size dropped) archives id fits all =
    each_both ArchiveFits _ ((tc, size) ∷ []) (each_filter ArchiveFits _ archives all) ((id, fits.0), tt)
after_submit None (submitted.Stored size dropped) archives id fits all = all
after_submit (Some tc) (submitted.Folder dropped) archives id fits all = each_filter ArchiveFits _ archives all
after_submit None (submitted.Folder dropped) archives id fits all = each_filter ArchiveFits _ archives all
after_submit (Some tc) submitted.None archives id fits all = all
after_submit None submitted.None archives id fits all = all
after_submit (Some tc) submitted.Listed archives id fits all = all
after_submit None submitted.Listed archives id fits all = all
after_submit (Some tc) submitted.Digest archives id fits all = all
after_submit None submitted.Digest archives id fits all = all
after_submit (Some tc) submitted.Capacity archives id fits all = all
after_submit None submitted.Capacity archives id fits all = all

after_run : (went : Ran) (archives : Archives) → ArchivesFit archives
    → ArchivesFit (archives_after_run went archives)
after_run (ran.Built tc) archives all = each_promoted ArchiveFits _ archives all
after_run (ran.Refused tc) archives all = each_promoted ArchiveFits _ archives all
after_run (ran.Folder tc) archives all = each_promoted ArchiveFits _ archives all
after_run (ran.Unlisted tc) archives all = all
after_run ran.None archives all = all

kind_good : (k : StepKind) (s : ServerNow) → StepFits (shown k) → GoodServer s → GoodServer (kind_after k s)
kind_good (step.Heard as_what) s fits good = good
kind_good (step.Assigned job tc ready) s fits good = record {
  addr = good.addr;
  held = each_held job tc s.held fits good.held;
  archives = good.archives;
}
kind_good (step.Submitted job outcome) s fits good = record {
  addr = good.addr;
  held = good.held;
  archives = after_submit (held_for job s.held) outcome s.archives
      (each_looked HeldFits IsId (is_job job) s.held (λ e h. h.1) good.held) fits.1 good.archives;
}
kind_good (step.Ran job went result) s fits good = record {
  addr = good.addr;
  held = each_filter HeldFits _ s.held good.held;
  archives = after_run went s.archives good.archives;
}
kind_good (step.Finished job) s fits good = good
kind_good (step.Unreported job) s fits good = good
kind_good (step.Opened archives) s fits good = record { addr = good.addr; held = good.held; archives = fits }

step_good : (o : Option Step) (s : ServerNow) → SomeStepFits o → GoodServer s → GoodServer (stepped o s)
step_good None s fits good = good
step_good (Some x) s fits good = by_place (same_addr x.server s.setup.addr)
  where
    by_place : (b : Bool) → GoodServer (cond b (kind_after x.kind s) s)
    by_place true = kind_good x.kind s fits.1 good
    by_place false = good

restart_good : (o : Option (List ℕ × ℕ)) (s : ServerNow) → GoodServer s → GoodServer (restarted o s)
restart_good None s good = good
restart_good (Some p) s good = record { addr = good.addr; held = tt; archives = tt }

run_good : (s : ServerNow) (es : List Entry) → Each EntryFits es → GoodServer s
    → GoodServer (fold server_after s es)
run_good s [] all good = good
run_good s (e ∷ es) all good =
    run_good (server_after s e) es all.1 (step_good e.step (restarted (restart_by s.setup.addr e.event.kind) s)
    all.0.effect.step (restart_good (restart_by s.setup.addr e.event.kind) s good))

server_fit : (s : ServerNow) → GoodServer s → AllFit (server_lines s)
server_fit s good =
    fit_both (map (held_line s.setup.addr) s.held) (map (archive_line s.setup.addr) s.archives)
    (fit_map (held_line s.setup.addr) HeldFits s.held (λ p h. (good.addr, h.0, h.1)) good.held)
    (fit_map (archive_line s.setup.addr) ArchiveFits s.archives (λ p h. (good.addr, h.0, h.1)) good.archives)

servers_fit : (servers : List SiteServer) (es : List Entry) → Each ServerFits servers → Each EntryFits es
    → AllFit (flat_map (λ s. server_lines (server_of s es)) servers)
servers_fit [] es fits all = tt
servers_fit (s ∷ ss) es fits all =
    fit_both (server_lines (server_of s es)) (flat_map (λ t. server_lines (server_of t es)) ss)
    (server_fit (server_of s es) (run_good (server_begun s) es all (record {
      addr = fits.0.addr;
      held = tt;
      archives = fits.0.found;
    }))) (servers_fit ss es fits.1 all)

-- ---- the whole

version_fits : (rules : Rules) → (version_of rules ≡ 1) ⊎ (version_of rules ≡ 2)
version_fits One = inl refl
version_fits Two = inr refl

pub lines_fit : (setup : Site) (es : List Entry) → setup.scheduler.count < 2 ^ 64 → SiteFits setup
    → Each EntryFits es → IsLegal (ids_start setup) (core_log es) → length (run_text setup es) ≤ 268435456
    → AllFit (run_lines setup es)
lines_fit setup es count fits all legal short =
    let log = core_log es in
    let first : List ℕ = codes "run " ++ (decimal (version_of setup.rules) ++ (codes " entries "
    ++ (decimal (length es) ++ codes "\n"))) in
    let few : length es ≤ 268435456 = omega (
      arith,
      short,
      entries_few 0 0 es,
      length-append (first ++ entries_text 0 0 es) (books_text setup es),
      length-append first (entries_text 0 0 es),
    ) in
    let core_few : length log ≤ 268435456 = omega (arith, few, cores_few es) in
    let cores = cores_fit es all in
    let ids : HasIds (ids_start setup) (jobs log) = legal_ids (ids_start setup) log count legal in
    let rows = map row_line (map (row_of log) (standing log)) in
    let booked = map booking_line (unended_by_id log) in
    let kept = flat_map (λ s. server_lines (server_of s es)) setup.servers in (
      (version_fits setup.rules, omega (arith, few)),
      fit_both (entries_lines 0 0 es) (books_lines setup es)
          (entries_fit 0 0 es (omega (arith, few)) (omega (arith, few)) all) (
            tt,
            (
              (fits.base, omega (arith, ids.fits, length-map (bookings log) (λ b. b.job))),
              fit_both (rows ++ booked ++ kept) (line.End ∷ []) (fit_both (rows ++ booked) kept
                  (fit_both rows booked (rows_map log (standing log) core_few cores (regs_good log core_few cores))
                  (fit_map booking_line GoodBooking (unended_by_id log) (λ b h. h)
                  (each_sorted GoodBooking (λ b. b.job.0) [] (unended log) tt
                  (each_filter GoodBooking is_unended (bookings log) (bookings_good log cores)))))
                  (servers_fit setup.servers es fits.servers all)) (tt, tt),
            ),
          ),
    )
