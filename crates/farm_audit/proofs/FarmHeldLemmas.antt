-- The text of a farm's history holds.
use Rattle.std.proofs.Common.{◌≡◌, ℕ, ◌+◌, ◌-◌, ◌≤◌, List, [], ◌∷◌, ◌++◌, length, map, Option, Some, None, refl, sym}
use Rattle.std.proofs.Common.{ap, subst, ◌∙◌, arith}
use Rattle.std.specs.Prelude.{option_to_list}
use Rattle.std.specs.List.{filter_map, cons_option}
use Rattle.core_rules.specs.declared.start.Start.{Start}
use Rattle.core_rules.specs.declared.entry.CoreEntry.{CoreEntry}
use Rattle.core_rules.specs.declared.entry.CoreKind.{CoreKind}
use Rattle.core_rules.specs.declared.entry.CoreKind.TheVariants as core
use Rattle.core_rules.specs.declared.entry.Reserved.TheVariants as reserve
use Rattle.core_rules.specs.Cuts.{cuts_behind}
use Rattle.core_rules.specs.Reservation.{Booking, booked_by, booked_at, bookings, is_claimed}
use Rattle.core_rules.specs.Job.{state_of}
use Rattle.core_rules.specs.Rows.{servers_of, unended_by_id}
use Rattle.audit.specs.Keyless.{keyless, without_key}
use Rattle.audit.proofs.KeylessLemmas.{bare_booking, servers_same, by_id_keyless, state_same, claimed_same}
use Rattle.audit.specs.declared.mark.Book.{Book}
use Rattle.audit.specs.declared.mark.Book.TheVariants as book
use Rattle.audit.specs.declared.mark.Mark.{Mark}
use Rattle.dist_types.specs.declared.rules.Rules.{Rules}
use Rattle.dist_types.specs.declared.rules.Rules.TheVariants.{One, Two}
use Rattle.audit.specs.Reading.{Read, makes}
use Rattle.audit.specs.FirstBad.{AllFit}
use Rattle.audit.specs.Replay.{Judged}
use Rattle.audit.specs.Books.{stood, booked, due_books}
use Rattle.audit.specs.Verdict.{rules_of, start_of}
use Rattle.audit.specs.Held.{AllGood, IsHeld}
use Rattle.farm_entries.specs.declared.site.Site.{Site}
use Rattle.farm_entries.specs.declared.entry.Entry.{Entry}
use Rattle.farm_entries.specs.Printed.{version_of, run_text}
use Rattle.farm_entries.specs.Seen.{core_log, ids_start}
use Rattle.farm_audit.specs.RunLines.{run_lines}
use Rattle.farm_audit.proofs.History.{IsHistory}
use Rattle.farm_audit.proofs.RunTextLemmas.{run_is}
use Rattle.farm_audit.proofs.OrderLemmas.{core_made, made_by, run_in_order}
use Rattle.farm_audit.proofs.HistoryLemmas.{behind, built_by, marks_of, core_log_of, history_good}

-- how many reservations core entries make
abbrev made_log : List CoreEntry → ℕ
made_log [] = 0
made_log (e ∷ es) = makes e.kind + made_log es

makes_one : (k : CoreKind) (n now : ℕ) (later : List CoreEntry) (rest : List Booking)
    → length (cons_option (booked_by k n now later) rest) ≡ makes k + length rest
makes_one (core.Reserve (reserve.Job job reg forgiven)) n now later rest = omega arith
makes_one (core.Reserve (reserve.NoRoom m)) n now later rest = omega arith
makes_one (core.Reserve reserve.Spent) n now later rest = omega arith
makes_one (core.Commit job state kept) n now later rest = omega arith
makes_one (core.Undo job noted ended) n now later rest = omega arith
makes_one (core.Beat server nonce cpus key pruned reaped replaced is_new) n now later rest = omega arith
makes_one (core.Update server job state answer) n now later rest = omega arith
makes_one (core.Status pruned servers cpus jobs) n now later rest = omega arith
makes_one (core.Drain server nonce on reg) n now later rest = omega arith

bookings_made : (front es : List CoreEntry) → length (filter_map booked_at (cuts_behind front es)) ≡ made_log es
bookings_made front [] = refl
bookings_made front (e ∷ es) =
    makes_one e.kind (length front) e.now es (filter_map booked_at (cuts_behind (front ++ e ∷ []) es))
    ∙ ap (λ (n : ℕ). makes e.kind + n) (bookings_made (front ++ e ∷ []) es)

makes_same : (k : CoreKind) → makes (keyless k) ≡ makes k
makes_same (core.Reserve r) = refl
makes_same (core.Commit job state kept) = refl
makes_same (core.Undo job noted ended) = refl
makes_same (core.Beat server nonce cpus key pruned reaped replaced is_new) = refl
makes_same (core.Update server job state answer) = refl
makes_same (core.Status pruned servers cpus jobs) = refl
makes_same (core.Drain server nonce on reg) = refl

own_made : (c : Option CoreEntry) (es : List CoreEntry) → core_made c + made_log es ≡ made_log
    (option_to_list c ++ es)
own_made None es = omega arith
own_made (Some e) es = ap (λ (n : ℕ). n + made_log es) (makes_same e.kind)

made_is : (es : List Entry) → made_by es ≡ made_log (core_log es)
made_is [] = refl
made_is (e ∷ es) = ap (λ (n : ℕ). core_made e.core + n) (made_is es) ∙ own_made e.core (core_log es)
    ∙ ap made_log (sym (core_log_of e es))

-- ---- the books

booked_same : (b : Booking) → booked (bare_booking b) ≡ booked b
booked_same b =
    ap (λ s. book.Job b.job b.reg s (is_claimed (bare_booking b))) (state_same b.job b.later)
    ∙ ap (λ v. book.Job b.job b.reg (state_of b.job b.later) v) (claimed_same b)

all_booked : (bs : List Booking) → map booked (map bare_booking bs) ≡ map booked bs
all_booked [] = refl
all_booked (b ∷ bs) = ap (λ (x : Book). x ∷ map booked (map bare_booking bs)) (booked_same b)
    ∙ ap (λ (xs : List Book). booked b ∷ xs) (all_booked bs)

books_keyless : (log : List CoreEntry) → due_books (map without_key log) ≡ due_books log
books_keyless log =
    ap (λ rows. map stood rows ++ map booked (unended_by_id (map without_key log))) (servers_same log)
    ∙ ap (λ bs. map stood (servers_of log) ++ map booked bs) (by_id_keyless log)
    ∙ ap (λ (xs : List Book). map stood (servers_of log) ++ xs) (all_booked (unended_by_id log))

-- ---- the whole

-- a version says its rules
rules_are : (rules : Rules) → rules_of (version_of rules) ≡ rules
rules_are One = refl
rules_are Two = refl

start_is : (start : Start) (r : Read) (n : ℕ) → r.version ≡ version_of start.rules → r.base ≡ start.base
    → r.count ≡ start.count + n → r.made ≡ n → start_of r ≡ behind start [] []
start_is start r n version base count made =
    ap (λ b. made_of b (r.count - r.made) (rules_of r.version)) base
    ∙ ap (λ k. made_of start.base k (rules_of r.version)) left
    ∙ ap (λ v. made_of start.base start.count (rules_of v)) version
    ∙ ap (λ v. made_of start.base start.count v) (rules_are start.rules)
  where
    made_of : ℕ → ℕ → Rules → Judged
    made_of b k v = record { core = record { start = record { base = b; count = k; rules = v }; log = [] }; built = [] }

    left : r.count - r.made ≡ start.count
    left = omega (arith, count, made)

pub run_held : (setup : Site) (es : List Entry) → AllFit (run_lines setup es)
    → length (run_text setup es) ≤ 268435456 → IsHistory (ids_start setup) es → IsHeld (run_text setup es)
run_held setup es fit short history =
    let start = ids_start setup in
    let o = run_in_order setup es in
    let n = length (bookings (core_log es)) in
    let made : o.end.made ≡ n = o.made_is ∙ made_is es ∙ sym (bookings_made [] (core_log es)) in
    let begins : start_of o.end ≡ behind start [] [] =
    start_is start o.end n o.version_is o.base_is o.count_is made in
    let end : Judged = behind start (core_log es) (built_by [] es) in
    let good : AllGood (behind start [] []) (marks_of 2 0 es) end =
    history_good start es history.legal history.moments history.builds in
    record {
      run = o.end;
      printed = record {
        lines = run_lines setup es;
        spelled = sym (run_is setup es);
        fit = fit;
        says = o.says;
        over = o.over;
        all = o.all;
        short = short;
      };
      given = omega (arith, made, o.count_is);
      end = end;
      good = subst (λ (j : Judged). AllGood j o.end.marks end) (sym begins)
          (subst (λ (ms : List Mark). AllGood (behind start [] []) ms end) (sym o.marks_is) good);
      books = o.books_is ∙ sym (books_keyless (core_log es));
    }
