-- The verdict is what the rules say of a text.
use Rattle.std.proofs.Common.{◌≡◌, ℕ, suc, ◌+◌, ◌-◌, ◌^◌, ◌<◌, ◌≤◌, ◌==◌, ◌⊎◌, ◌↔◌, Bool, true, false, not, ◌&&◌, cond}
use Rattle.std.proofs.Common.{nat_lt, nat_eq, List, [], ◌∷◌, ◌++◌, length, Option, Some, None, Result, Ok, Err, refl, sym}
use Rattle.std.proofs.Common.{ap, subst, ◌∙◌, inl, inr, arith}
use Rattle.std.specs.Option.{option_map, option_eq}
use Rattle.std.proofs.lemmas.Bool.{eqb-true, ltb-true, ltb-false, lt-ltb, and_parts, cases_Bool, cases_lt}
use Rattle.std.proofs.lemmas.Cmp.{nat_eq_equiv}
use Rattle.std.proofs.lemmas.Option.{same_Some}
use Rattle.dist_types.specs.Addr.{same_addr}
use Rattle.dist_types.specs.declared.ids.JobId.{JobId}
use Rattle.dist_types.specs.declared.results.JobState.{JobState}
use Rattle.dist_types.specs.declared.results.JobState.TheVariants.{Pending, Ready, Started, Complete}
use Rattle.line_program.proofs.FirstFaultyLemmas.{choice}
use Rattle.farm_script.proofs.FieldLemmas.{cond_is, cond_off, off_by}
use Rattle.farm_script.proofs.PlaceLemmas.{same_is, same_self}
use Rattle.core_rules.specs.declared.entry.CoreEntry.{CoreEntry}
use Rattle.core_rules.specs.declared.call.Call.{Call}
use Rattle.core_rules.specs.declared.rows.ServerRow.{ServerRow}
use Rattle.core_rules.specs.Log.{Core, logged, names_job, same_job}
use Rattle.core_rules.specs.Same.{same_truth, same_state}
use Rattle.core_rules.specs.Laws.{IsLegal}
use Rattle.core_rules.specs.declared.start.Start.{Start}
use Rattle.core_rules.specs.Reservation.{unspent}
use Rattle.core_rules.specs.Rule.{rule, is_among}
use Rattle.core_rules.proofs.LegalLemmas.{legal-push}
use Rattle.run_lines.specs.Fields.{job_of}
use Rattle.run_lines.specs.Grammar.{LineFits}
use Rattle.run_lines.specs.declared.line.RunLine.{RunLine}
use Rattle.run_lines.specs.declared.line.RunLine.TheVariants as line
use Rattle.farm_entries.specs.declared.entry.StepKind.{StepKind}
use Rattle.audit.specs.declared.mark.Mark.{Mark}
use Rattle.audit.specs.declared.mark.Mark.TheVariants as mark
use Rattle.audit.specs.declared.mark.Book.{Book}
use Rattle.audit.specs.declared.mark.Book.TheVariants.{Server, Job}
use Rattle.line_program.specs.declared.why.Why.{Why}
use Rattle.line_program.specs.declared.why.Why.TheVariants as why
use Rattle.audit.specs.declared.verdict.Verdict.{Verdict}
use Rattle.audit.specs.declared.verdict.Verdict.TheVariants.{Holds, Refused}
use Rattle.audit.specs.Reading.{Read, read, with_line, with_built, built_in, nothing_read}
use Rattle.audit.specs.FirstBad.{Says, AllFit, IsPrinted, IsFirstBad}
use Rattle.audit.specs.Replay.{Judged, judge, judge_then, judge_all, judged, behind_core, replayed, is_begun}
use Rattle.audit.specs.Replay.{HasOneNumber}
use Rattle.audit.specs.Books.{due_books, same_row, same_book, first_wrong}
use Rattle.audit.specs.Verdict.{start_of, by_books, by_marks, on_read, by_reading, verdict}
use Rattle.audit.specs.Held.{HasNoKey, IsGoodMark, AllGood, cause_of, FirstFault, IsHeld}
use Rattle.audit.proofs.RuleLemmas.{replayed_parts, replayed_as}
use Rattle.audit.proofs.PrintedLemmas.{read_is_printed}
use Rattle.audit.proofs.FirstBadLemmas.{first_bad}

-- unspent reservations of one job have one number in each legal log
abbrev pub OneNumber : Type 0
OneNumber = (start : Start) (log : List CoreEntry) → start.count < 2 ^ 64 → IsLegal start log → HasOneNumber log

-- the same as the law of the core says it
pub by_law : ((start : Start) (log : List CoreEntry) (a b : ℕ) (j k : JobId) → start.count < 2 ^ 64
    → IsLegal start log → is_among (unspent log) a j ≡ true → is_among (unspent log) b k ≡ true
    → same_job k j ≡ true → a ≡ b) → OneNumber
by_law law start log fits legal a b j k first second same = law start log a b j k fits legal first second same

-- what was judged, and a refusal
abbrev pub Out : Type 0
Out = Result Judged (ℕ × Why)

abbrev pub good_out : Judged → Out
good_out j = Ok j

abbrev pub bad_out : ℕ × Why → Out
bad_out x = Err x

ok_is : (j k : Judged) → good_out j ≡ good_out k → j ≡ k
ok_is j k e = cc

err_is : (x y : ℕ × Why) → bad_out x ≡ bad_out y → x ≡ y
err_is x y e = cc

-- ---- one mark

core_judged : (line : ℕ) (built : List JobId) (o : Option Core) (k : Judged) → behind_core line built o ≡ Ok k
    → (core : Core) × (o ≡ Some core) × (k ≡ record { core = core; built = built })
core_judged line built None k e = absurd cc
core_judged line built (Some core) k e = (core, refl, sym (ok_is _ k e))

core_refused : (line : ℕ) (built : List JobId) (o : Option Core) (x : ℕ × Why) → behind_core line built o ≡ Err x
    → x ≡ (line, why.Core)
core_refused line built None x e = sym (err_is (line, why.Core) x e)
core_refused line built (Some core) x e = absurd cc

logged_is : (s core : Core) (o : Option CoreEntry) → option_map (logged s) o ≡ Some core
    → (made : CoreEntry) × (o ≡ Some made) × (core ≡ logged s made)
logged_is s core None e = absurd cc
logged_is s core (Some made) e = (made, refl, sym (same_Some (logged s made) core e))

mark_sound : (j : Judged) (m : Mark) (k : Judged) → judge j m ≡ Ok k → IsGoodMark j m k
mark_sound j (mark.Core line number e) k h =
    let a = core_judged line j.built (judged j.core number e) k h in
    elim (choice (number == length j.core.log) (option_map (logged j.core) (replayed j.core e)) None (Some a.0) a.1) [
      | inl p ↦
          let b = logged_is j.core a.0 (replayed j.core e) p.1 in
          let r = replayed_parts j.core e b.0 b.1 in (
            eqb-true number (length j.core.log) p.0,
            r.0,
            r.1,
            r.2,
            r.3,
            a.2 ∙ ap (λ (c : Core). record { core = c; built = j.built }) (b.2 ∙ ap (logged j.core) r.4),
          )
      | inr p ↦ let clash : None ≡ Some a.0 = p.1 in absurd cc
    ]
mark_sound j (mark.Built line job) k h =
    elim (choice (is_begun j.core.log job && not (names_job j.built job))
    (good_out (record { core = j.core; built = j.built ++ job ∷ [] })) (bad_out (line, why.Build)) (Ok k) h) [
      | inl p ↦
          let q = and_parts (is_begun j.core.log job) (not (names_job j.built job)) p.0 in
          (q.0, not_on (names_job j.built job) q.1, sym (ok_is _ k p.1))
      | inr p ↦ let clash : bad_out (line, why.Build) ≡ Ok k = p.1 in absurd cc
    ]
  where
    not_on : (b : Bool) → not b ≡ true → b ≡ false
    not_on true e = absurd cc
    not_on false e = refl

mark_complete : (j : Judged) (m : Mark) (k : Judged) → HasOneNumber j.core.log → IsGoodMark j m k → judge j m ≡ Ok k
mark_complete j (mark.Core line number e) k one is =
    let on : (number == length j.core.log) ≡ true = ap (λ (n : ℕ). number == n) (sym is.0)
    ∙ nat_eq_equiv.refl number in
    ap (λ (b : Bool). behind_core line j.built (cond b (option_map (logged j.core) (replayed j.core e)) None)) on
    ∙ ap (λ (o : Option CoreEntry). behind_core line j.built (option_map (logged j.core) o))
    (replayed_as j.core e is.1 one is.2 is.3 is.4)
    ∙ ap good_out (sym is.5)
mark_complete j (mark.Built line job) k one is =
    rw (is.0, is.1) (ap good_out (sym is.2))

pub mark_cause : (j : Judged) (m : Mark) (x : ℕ × Why) → judge j m ≡ Err x → x ≡ cause_of m
mark_cause j (mark.Core line number e) x h = core_refused line j.built (judged j.core number e) x h
mark_cause j (mark.Built line job) x h =
    elim (choice (is_begun j.core.log job && not (names_job j.built job))
    (good_out (record { core = j.core; built = j.built ++ job ∷ [] })) (bad_out (line, why.Build)) (Err x) h) [
      | inl p ↦ let clash : good_out _ ≡ Err x = p.1 in absurd cc
      | inr p ↦ sym (err_is (line, why.Build) x p.1)
    ]

-- the log so far is legal
pub record Legal (j : Judged) : Type 0 where
  pub count : j.core.start.count < 2 ^ 64
  pub legal : IsLegal j.core.start j.core.log

legal_next : (j : Judged) (m : Mark) (k : Judged) → Legal j → IsGoodMark j m k → Legal k
legal_next j (mark.Core line number e) k legal is =
    let c = is.1 in
    let new : Judged = record { core = logged j.core (rule j.core c); built = j.built } in
    let there : Legal new = record {
      count = legal.count;
      legal = legal-push j.core.start [] j.core.log (rule j.core c) legal.legal (c, is.3, refl);
    } in
    subst Legal (sym is.5) there
legal_next j (mark.Built line job) k legal is =
    let new : Judged = record { core = j.core; built = j.built ++ job ∷ [] } in
    let there : Legal new = record { count = legal.count; legal = legal.legal } in
    subst Legal (sym is.2) there

has_one : OneNumber → (j : Judged) → Legal j → HasOneNumber j.core.log
has_one one j legal = one j.core.start j.core.log legal.count legal.legal

-- ---- all marks

then_ok : (o : Out) (f : Judged → Out) (k : Judged) → judge_then o f ≡ Ok k → (j : Judged) × (o ≡ Ok j) × (f j ≡ Ok k)
then_ok (Ok j) f k e = (j, refl, e)
then_ok (Err x) f k e = absurd cc

pub all_sound : (j : Judged) (ms : List Mark) (k : Judged) → judge_all j ms ≡ Ok k → AllGood j ms k
unfolding judge_all
all_sound j [] k e = ok_is j k e
all_sound j (m ∷ ms) k e =
    let a = then_ok (judge j m) (λ n. judge_all n ms) k e in
    (a.0, mark_sound j m a.0 a.1, all_sound a.0 ms k a.2)

pub all_complete : OneNumber → (j : Judged) (ms : List Mark) (k : Judged) → Legal j → AllGood j ms k
    → judge_all j ms ≡ Ok k
unfolding judge_all
all_complete one j [] k legal is = ap good_out is
all_complete one j (m ∷ ms) k legal is =
    ap (λ (o : Out). judge_then o (λ n. judge_all n ms)) (mark_complete j m is.0 (has_one one j legal) is.1)
    ∙ all_complete one is.0 ms k (legal_next j m is.0 legal is.1) is.2

fault_step : OneNumber → (j : Judged) (m : Mark) (ms : List Mark) (x : ℕ × Why) (o : Out) → Legal j
    → judge j m ≡ o → judge_then o (λ n. judge_all n ms) ≡ Err x
    → ((n : Judged) → Legal n → judge_all n ms ≡ Err x → FirstFault n ms x) → FirstFault j (m ∷ ms) x
fault_step one j m ms x (Ok n) legal is e later =
    let good = mark_sound j m n is in
    inr (n, good, later n (legal_next j m n legal good) e)
fault_step one j m ms x (Err y) legal is e later = inl (
  sym (err_is y x e) ∙ mark_cause j m y is,
  λ k good. let clash : bad_out y ≡ good_out k = sym is ∙ mark_complete j m k (has_one one j legal) good in absurd cc,
)

pub fault_sound : OneNumber → (j : Judged) (ms : List Mark) (x : ℕ × Why) → Legal j → judge_all j ms ≡ Err x
    → FirstFault j ms x
unfolding judge_all
fault_sound one j [] x legal e = absurd cc
fault_sound one j (m ∷ ms) x legal e = fault_step one j m ms x (judge j m) legal refl e
    (λ n next f. fault_sound one n ms x next f)

bad_step : (j : Judged) (m : Mark) (x : ℕ × Why) (o : Out) → judge j m ≡ o → x ≡ cause_of m
    → ((k : Judged) → IsGoodMark j m k → ⊥) → o ≡ Err x
bad_step j m x (Ok k) is cause none = absurd (none k (mark_sound j m k is))
bad_step j m x (Err y) is cause none = ap bad_out (mark_cause j m y is ∙ sym cause)

pub fault_complete : OneNumber → (j : Judged) (ms : List Mark) (x : ℕ × Why) → Legal j → FirstFault j ms x
    → judge_all j ms ≡ Err x
unfolding judge_all
fault_complete one j [] x legal is = absurd is
fault_complete one j (m ∷ ms) x legal (inl bad) =
    ap (λ (o : Out). judge_then o (λ n. judge_all n ms)) (bad_step j m x (judge j m) refl bad.0 bad.1)
fault_complete one j (m ∷ ms) x legal (inr good) =
    ap (λ (o : Out). judge_then o (λ n. judge_all n ms)) (mark_complete j m good.0 (has_one one j legal) good.1)
    ∙ fault_complete one good.0 ms x (legal_next j m good.0 legal good.1) good.2

-- ---- the books

number_is : (a b : Option ℕ) → option_eq nat_eq a b ≡ true → a ≡ b
number_is None None e = refl
number_is None (Some b) e = absurd cc
number_is (Some a) None e = absurd cc
number_is (Some a) (Some b) e = ap (λ (n : ℕ). Some n) (eqb-true a b e)

number_self : (a : Option ℕ) → option_eq nat_eq a a ≡ true
number_self None = refl
number_self (Some a) = nat_eq_equiv.refl a

state_is : (a b : JobState) → same_state a b ≡ true → a ≡ b
state_is Pending Pending e = refl
state_is Pending Ready e = absurd cc
state_is Pending Started e = absurd cc
state_is Pending Complete e = absurd cc
state_is Ready Pending e = absurd cc
state_is Ready Ready e = refl
state_is Ready Started e = absurd cc
state_is Ready Complete e = absurd cc
state_is Started Pending e = absurd cc
state_is Started Ready e = absurd cc
state_is Started Started e = refl
state_is Started Complete e = absurd cc
state_is Complete Pending e = absurd cc
state_is Complete Ready e = absurd cc
state_is Complete Started e = absurd cc
state_is Complete Complete e = refl

state_self : (a : JobState) → same_state a a ≡ true
state_self Pending = refl
state_self Ready = refl
state_self Started = refl
state_self Complete = refl

stage_is : (a b : Option JobState) → option_eq same_state a b ≡ true → a ≡ b
stage_is None None e = refl
stage_is None (Some b) e = absurd cc
stage_is (Some a) None e = absurd cc
stage_is (Some a) (Some b) e = ap (λ (s : JobState). Some s) (state_is a b e)

stage_self : (a : Option JobState) → option_eq same_state a a ≡ true
stage_self None = refl
stage_self (Some a) = state_self a

truth_is : (a b : Bool) → same_truth a b ≡ true → a ≡ b
truth_is true true e = refl
truth_is true false e = absurd cc
truth_is false true e = absurd cc
truth_is false false e = refl

truth_self : (a : Bool) → same_truth a a ≡ true
truth_self true = refl
truth_self false = refl

row_self : (a : ServerRow) → same_row a a ≡ true
row_self a = rw (
  same_self a.server,
  nat_eq_equiv.refl a.reg,
  nat_eq_equiv.refl a.cpus,
  nat_eq_equiv.refl a.nonce,
  nat_eq_equiv.refl a.seen,
  nat_eq_equiv.refl a.load,
  number_self a.error,
  truth_self a.draining,
) refl

pub book_self : (a : Book) → same_book a a ≡ true
book_self (Server row) = row_self row
book_self (Job job reg state claimed) = rw (
  nat_eq_equiv.refl job.0,
  nat_eq_equiv.refl reg,
  stage_self state,
  truth_self claimed,
) refl

row_is : (a b : ServerRow) → same_row a b ≡ true → a ≡ b
row_is a b e =
    let p0 = and_parts _ (same_truth a.draining b.draining) e in
    let p1 = and_parts _ (option_eq nat_eq a.error b.error) p0.0 in
    let p2 = and_parts _ (a.load == b.load) p1.0 in
    let p3 = and_parts _ (a.seen == b.seen) p2.0 in
    let p4 = and_parts _ (a.nonce == b.nonce) p3.0 in
    let p5 = and_parts _ (a.cpus == b.cpus) p4.0 in
    let p6 = and_parts (same_addr a.server b.server) (a.reg == b.reg) p5.0 in
    ap (λ x. record a { server = x }) (same_is a.server b.server p6.0)
    ∙ ap (λ x. record a { server = b.server; reg = x }) (eqb-true a.reg b.reg p6.1)
    ∙ ap (λ x. record a { server = b.server; reg = b.reg; cpus = x }) (eqb-true a.cpus b.cpus p5.1)
    ∙ ap (λ x. record a { server = b.server; reg = b.reg; cpus = b.cpus; nonce = x }) (eqb-true a.nonce b.nonce p4.1)
    ∙ ap (λ x. record b { seen = x; load = a.load; error = a.error; draining = a.draining })
    (eqb-true a.seen b.seen p3.1)
    ∙ ap (λ x. record b { load = x; error = a.error; draining = a.draining }) (eqb-true a.load b.load p2.1)
    ∙ ap (λ x. record b { error = x; draining = a.draining }) (number_is a.error b.error p1.1)
    ∙ ap (λ x. record b { draining = x }) (truth_is a.draining b.draining p0.1)

job_is : (a b : JobId) → same_job a b ≡ true → a ≡ b
job_is a b e = ap job_of (eqb-true a.0 b.0 e)

pub book_is : (a b : Book) → same_book a b ≡ true → a ≡ b
book_is (Server a) (Server b) e = ap (λ (r : ServerRow). Server r) (row_is a b e)
book_is (Server a) (Job j r s c) e = absurd cc
book_is (Job job reg state claimed) (Server b) e = absurd cc
book_is (Job job reg state claimed) (Job j r s c) e =
    let p1 = and_parts _ (same_truth claimed c) e in
    let p2 = and_parts _ (option_eq same_state state s) p1.0 in
    let p3 = and_parts (same_job job j) (reg == r) p2.0 in
    ap (λ (x : JobId). Job x reg state claimed) (job_is job j p3.0)
    ∙ ap (λ (x : ℕ). Job j x state claimed) (eqb-true reg r p3.1)
    ∙ ap (λ (x : Option JobState). Job j r x claimed) (stage_is state s p2.1)
    ∙ ap (λ (x : Bool). Job j r s x) (truth_is claimed c p1.1)

suc_none : (o : Option ℕ) → option_map suc o ≡ None → o ≡ None
suc_none None e = refl
suc_none (Some n) e = absurd cc

books_same : (ps ds : List Book) → first_wrong ps ds ≡ None → ps ≡ ds
unfolding first_wrong
books_same [] [] e = refl
books_same [] (d ∷ ds) e = absurd cc
books_same (p ∷ ps) [] e = absurd cc
books_same (p ∷ ps) (d ∷ ds) e =
    elim (choice (same_book p d) (option_map suc (first_wrong ps ds)) (Some 0) None e) [
      | inl q ↦ ap (λ (x : Book). x ∷ ps) (book_is p d q.0)
          ∙ ap (λ (xs : List Book). d ∷ xs) (books_same ps ds (suc_none (first_wrong ps ds) q.1))
      | inr q ↦ let clash : Some 0 ≡ None = q.1 in absurd cc
    ]

none_wrong : (ds : List Book) → first_wrong ds ds ≡ None
unfolding first_wrong
none_wrong [] = refl
none_wrong (d ∷ ds) =
    ap (λ (b : Bool). cond b (option_map suc (first_wrong ds ds)) (Some 0)) (book_self d)
    ∙ ap (option_map suc) (none_wrong ds)

-- ---- how many ids were given fits

built_count : (n : ℕ) (o : Option JobId) (r : Read) → (with_built n o r).count ≡ r.count
built_count n None r = refl
built_count n (Some job) r = refl

count_next : (n : ℕ) (l : RunLine) (r : Read) → LineFits l → r.count < 2 ^ 64 → (with_line n l r).count < 2 ^ 64
count_next n (line.Run v entries) r fit lt = lt
count_next n (line.Entry k e) r fit lt = lt
count_next n (line.Core k kind) r fit lt = lt
count_next n (line.Step server kind) r fit lt =
    subst (λ (c : ℕ). c < 2 ^ 64) (sym (built_count n (built_in kind) r)) lt
count_next n (line.Call target bytes) r fit lt = lt
count_next n (line.Reply to bytes) r fit lt = lt
count_next n (line.Word w) r fit lt = lt
count_next n line.Books r fit lt = lt
count_next n (line.Ids base count) r fit lt = fit.1
count_next n (line.Server row) r fit lt = lt
count_next n (line.Job job reg state claimed) r fit lt = lt
count_next n (line.Held server job tc) r fit lt = lt
count_next n (line.Archive server tc bytes) r fit lt = lt
count_next n line.End r fit lt = lt

count_fits : (n : ℕ) (r s : Read) (ls : List RunLine) → AllFit ls → Says n r ls s → r.count < 2 ^ 64
    → s.count < 2 ^ 64
count_fits n r s [] fit says lt = subst (λ (x : Read). x.count < 2 ^ 64) says lt
count_fits n r s (l ∷ ls) fit says lt =
    count_fits (n + 1) (record (with_line n l r) { place = says.0 }) s ls fit.1 says.2 (count_next n l r fit.0 lt)

pub legal_start : (text : List ℕ) (r : Read) → IsPrinted text r → Legal (start_of r)
legal_start text r is =
    let fits : r.count < 2 ^ 64 = count_fits 1 nothing_read r is.lines is.fit is.says (omega arith) in
    record { count = omega (arith, fits); legal = tt }

-- ---- the verdict

pub verdict_read : (text : List ℕ) (r : Read) → read text ≡ Ok r → verdict text ≡ on_read r
verdict_read text r e = ap by_reading e

pub on_given : (r : Read) → r.made ≤ r.count → on_read r ≡ by_marks r (judge_all (start_of r) r.marks)
on_given r le = cond_off (nat_lt r.count r.made) (Refused r.ids_line why.Core)
    (by_marks r (judge_all (start_of r) r.marks))
    (off_by (nat_lt r.count r.made) (λ on. absurd (omega (arith, le, ltb-true r.count r.made on))))

held_verdict : OneNumber → (text : List ℕ) → IsHeld text → verdict text ≡ Holds
held_verdict one text is =
    let r = is.run in
    let books : first_wrong r.books (due_books is.end.core.log) ≡ None =
    ap (λ (xs : List Book). first_wrong xs (due_books is.end.core.log)) is.books
    ∙ none_wrong (due_books is.end.core.log) in
    verdict_read text r ((read_is_printed text r).1 is.printed)
    ∙ on_given r is.given
    ∙ ap (by_marks r) (all_complete one (start_of r) r.marks is.end (legal_start text r is.printed) is.good)
    ∙ ap (by_books r.ids_line) books

books_none : (ids : ℕ) (o : Option ℕ) → by_books ids o ≡ Holds → o ≡ None
books_none ids None e = refl
books_none ids (Some i) e = absurd cc

marks_hold : (r : Read) (o : Out) → by_marks r o ≡ Holds
    → (j : Judged) × (o ≡ Ok j) × (first_wrong r.books (due_books j.core.log) ≡ None)
marks_hold r (Ok j) e = (j, refl, books_none r.ids_line (first_wrong r.books (due_books j.core.log)) e)
marks_hold r (Err x) e = absurd cc

read_holds : (text : List ℕ) (r : Read) → read text ≡ Ok r → on_read r ≡ Holds → IsHeld text
read_holds text r is e =
    elim (choice (nat_lt r.count r.made) (Refused r.ids_line why.Core) (by_marks r (judge_all (start_of r) r.marks))
    Holds e) [
      | inl p ↦ let clash : Refused r.ids_line why.Core ≡ Holds = p.1 in absurd cc
      | inr p ↦
          let m = marks_hold r (judge_all (start_of r) r.marks) p.1 in
          record {
            run = r;
            printed = (read_is_printed text r).0 is;
            given = ltb-false r.count r.made p.0;
            end = m.0;
            good = all_sound (start_of r) r.marks m.0 m.1;
            books = books_same r.books (due_books m.0.core.log) m.2;
          }
    ]

verdict_held : (text : List ℕ) → verdict text ≡ Holds → IsHeld text
verdict_held text e = cases (read text) refl e
  where
    cases : (o : Result Read ℕ) → read text ≡ o → by_reading o ≡ Holds → IsHeld text
    cases (Ok r) is f = read_holds text r is f
    cases (Err n) is f = absurd cc

pub holds_exactly : OneNumber → (text : List ℕ) → (verdict text ≡ Holds) ↔ IsHeld text
holds_exactly one text = (verdict_held text, held_verdict one text)
