-- A refusal is the first fault, with its cause.
use Rattle.std.proofs.Common.{◌≡◌, ℕ, suc, ◌+◌, ◌<◌, ◌≤◌, ◌⊎◌, ◌↔◌, Bool, true, false, cond, nat_lt, List, [], ◌∷◌}
use Rattle.std.proofs.Common.{Option, Some, None, Result, Ok, Err, refl, sym, ap, subst, ◌∙◌, inl, inr, arith}
use Rattle.std.specs.Option.{option_map}
use Rattle.std.proofs.lemmas.Bool.{ltb-true, ltb-false, lt-ltb, cases_Bool}
use Rattle.std.proofs.lemmas.Option.{same_Some}
use Rattle.line_program.proofs.FirstFaultyLemmas.{choice}
use Rattle.farm_script.proofs.FieldLemmas.{cond_is, off_by}
use Rattle.audit.specs.declared.mark.Mark.{Mark}
use Rattle.audit.specs.declared.mark.Mark.TheVariants as mark
use Rattle.audit.specs.declared.mark.Book.{Book}
use Rattle.line_program.specs.declared.why.Why.{Why}
use Rattle.line_program.specs.declared.why.Why.TheVariants as why
use Rattle.audit.specs.declared.verdict.Verdict.{Verdict}
use Rattle.audit.specs.declared.verdict.Verdict.TheVariants.{Holds, Refused}
use Rattle.audit.specs.Reading.{Read, read}
use Rattle.audit.specs.FirstBad.{IsPrinted, IsFirstBad}
use Rattle.audit.specs.Replay.{Judged, judge, judge_then, judge_all}
use Rattle.audit.specs.Books.{due_books, same_book, first_wrong}
use Rattle.audit.specs.Verdict.{start_of, by_books, by_marks, on_read, by_reading, verdict}
use Rattle.audit.specs.Held.{IsGoodMark, AllGood, cause_of, FirstFault, IsFault, IsFirstDifference, IsWrongBook}
use Rattle.audit.proofs.HeldLemmas.{OneNumber}
use Rattle.audit.proofs.HeldLemmas.{Out, good_out, bad_out, mark_cause, all_sound, all_complete, fault_sound, fault_complete}
use Rattle.audit.proofs.HeldLemmas.{book_is, book_self, legal_start, on_given, verdict_read}
use Rattle.audit.proofs.PrintedLemmas.{read_is_printed}
use Rattle.audit.proofs.FirstBadLemmas.{first_bad}

-- core or build
abbrev IsJudged : Why → Type 0
IsJudged w = (w ≡ why.Core) ⊎ (w ≡ why.Build)

cause_judged : (m : Mark) → IsJudged (cause_of m).1
cause_judged (mark.Core line number e) = inl refl
cause_judged (mark.Built line job) = inr refl

step_judged : (j : Judged) (m : Mark) (ms : List Mark) (x : ℕ × Why) (o : Out) → judge j m ≡ o
    → judge_then o (λ n. judge_all n ms) ≡ Err x → ((n : Judged) → judge_all n ms ≡ Err x → IsJudged x.1)
    → IsJudged x.1
step_judged j m ms x (Ok n) is e later = later n e
step_judged j m ms x (Err y) is e later =
    let same : y ≡ x = cc in
    subst (λ (z : ℕ × Why). IsJudged z.1) same
    (subst (λ (z : ℕ × Why). IsJudged z.1) (sym (mark_cause j m y is)) (cause_judged m))

all_judged : (j : Judged) (ms : List Mark) (x : ℕ × Why) → judge_all j ms ≡ Err x → IsJudged x.1
unfolding judge_all
all_judged j [] x e = absurd cc
all_judged j (m ∷ ms) x e = step_judged j m ms x (judge j m) refl e (λ n f. all_judged n ms x f)

no_text : (w : Why) → IsJudged w → w ≡ why.Text → ⊥
no_text w (inl core) is = let clash : why.Core ≡ why.Text = sym core ∙ is in absurd cc
no_text w (inr build) is = let clash : why.Build ≡ why.Text = sym build ∙ is in absurd cc

no_books : (w : Why) → IsJudged w → w ≡ why.Books → ⊥
no_books w (inl core) is = let clash : why.Core ≡ why.Books = sym core ∙ is in absurd cc
no_books w (inr build) is = let clash : why.Build ≡ why.Books = sym build ∙ is in absurd cc

-- a refusal's line and cause
parts_is : (n m : ℕ) (v w : Why) → Refused n v ≡ Refused m w → (n ≡ m) × (v ≡ w)
parts_is n m v w e = (cc, cc)

-- what the marks and the books answer
marks_cases : (r : Read) (o : Out) (n : ℕ) (w : Why) → judge_all (start_of r) r.marks ≡ o
    → by_marks r o ≡ Refused n w
    → ((o ≡ Err (n, w)) × IsJudged w)
    ⊎ ((j : Judged) × (o ≡ Ok j) × (i : ℕ) × (first_wrong r.books (due_books j.core.log) ≡ Some i)
    × (n ≡ r.ids_line + 1 + i) × (w ≡ why.Books))
marks_cases r (Ok j) n w is e = books_cases (first_wrong r.books (due_books j.core.log)) refl e
  where
    books_cases : (b : Option ℕ) → first_wrong r.books (due_books j.core.log) ≡ b → by_books r.ids_line b ≡ Refused n w
        → ((good_out j ≡ bad_out (n, w)) × IsJudged w)
        ⊎ ((k : Judged) × (good_out j ≡ good_out k) × (i : ℕ) × (first_wrong r.books (due_books k.core.log) ≡ Some i)
        × (n ≡ r.ids_line + 1 + i) × (w ≡ why.Books))
    books_cases None is e = absurd cc
    books_cases (Some i) is e = let p = parts_is (r.ids_line + 1 + i) n why.Books w e in
        inr (j, refl, i, is, sym p.0, sym p.1)
marks_cases r (Err x) n w is e =
    let p = parts_is x.0 n x.1 w e in
    let same : x ≡ (n, w) = ap (λ (k : ℕ). (k, x.1)) p.0 ∙ ap (λ (v : Why). (n, v)) p.1 in
    inl (ap (λ (y : ℕ × Why). Err y) same, subst IsJudged p.1 (all_judged (start_of r) r.marks x is))

read_cases : (r : Read) (n : ℕ) (w : Why) → on_read r ≡ Refused n w
    → ((r.count < r.made) × (n ≡ r.ids_line) × (w ≡ why.Core))
    ⊎ ((r.made ≤ r.count) × (by_marks r (judge_all (start_of r) r.marks) ≡ Refused n w))
read_cases r n w e =
    elim (choice (nat_lt r.count r.made) (Refused r.ids_line why.Core) (by_marks r (judge_all (start_of r) r.marks))
    (Refused n w) e) [
      | inl p ↦ let q = parts_is r.ids_line n why.Core w p.1 in
          inl (ltb-true r.count r.made p.0, sym q.0, sym q.1)
      | inr p ↦ inr (ltb-false r.count r.made p.0, p.1)
    ]

-- ---- text

text_cases : (text : List ℕ) (n : ℕ) (o : Result Read ℕ) → read text ≡ o → by_reading o ≡ Refused n why.Text
    → read text ≡ Err n
text_cases text n (Err m) is e = is ∙ ap (λ (k : ℕ). Err k) (parts_is m n why.Text why.Text e).0
text_cases text n (Ok r) is e = elim (read_cases r n why.Text e) [
  | inl p ↦ let clash : why.Text ≡ why.Core = p.2 in absurd cc
  | inr p ↦ elim (marks_cases r (judge_all (start_of r) r.marks) n why.Text refl p.1) [
    | inl q ↦ absurd (no_text why.Text q.1 refl)
    | inr q ↦ let clash : why.Text ≡ why.Books = q.5 in absurd cc
  ]
]

pub refused_text : (text : List ℕ) (n : ℕ) → (verdict text ≡ Refused n why.Text) ↔ IsFirstBad text n
refused_text text n = (
  λ e. (first_bad text n).0 (text_cases text n (read text) refl e),
  λ is. ap by_reading ((first_bad text n).1 is),
)

-- ---- core and build

judged_cases : OneNumber → (text : List ℕ) (n : ℕ) (w : Why) (o : Result Read ℕ) → IsJudged w → read text ≡ o
    → by_reading o ≡ Refused n w → (r : Read) × IsPrinted text r × IsFault r (n, w)
judged_cases one text n w (Err m) j is e = absurd (no_text w j (sym (parts_is m n why.Text w e).1))
judged_cases one text n w (Ok r) j is e =
    let printed = (read_is_printed text r).0 is in
    elim (read_cases r n w e) [
      | inl p ↦ (r, printed, inl (p.0, ap (λ (k : ℕ). (k, w)) p.1 ∙ ap (λ (v : Why). (r.ids_line, v)) p.2))
      | inr p ↦ elim (marks_cases r (judge_all (start_of r) r.marks) n w refl p.1) [
        | inl q ↦ (
          r,
          printed,
          inr (
            p.0,
            fault_sound one (start_of r) r.marks (n, w)
                (legal_start text r printed) q.0,
          ),
        )
        | inr q ↦ absurd (no_books w j q.5)
      ]
    ]

fault_verdict : OneNumber → (text : List ℕ) (n : ℕ) (w : Why) (r : Read) → IsPrinted text r → IsFault r (n, w)
    → verdict text ≡ Refused n w
fault_verdict one text n w r printed (inl p) =
    verdict_read text r ((read_is_printed text r).1 printed)
    ∙ cond_is (nat_lt r.count r.made) (Refused r.ids_line why.Core) (by_marks r (judge_all (start_of r) r.marks))
    (lt-ltb r.count r.made p.0)
    ∙ sym (ap (λ (x : ℕ × Why). Refused x.0 x.1) p.1)
fault_verdict one text n w r printed (inr p) =
    verdict_read text r ((read_is_printed text r).1 printed)
    ∙ on_given r p.0
    ∙ ap (by_marks r) (fault_complete one (start_of r) r.marks (n, w) (legal_start text r printed) p.1)

pub refused_judged : OneNumber → (text : List ℕ) (n : ℕ) (w : Why) → (w ≡ why.Core) ⊎ (w ≡ why.Build)
    → (verdict text ≡ Refused n w) ↔ ((r : Read) × IsPrinted text r × IsFault r (n, w))
refused_judged one text n w j = (
  λ e. judged_cases one text n w (read text) j refl e,
  λ is. fault_verdict one text n w is.0 is.1 is.2,
)

-- ---- books

some_later : (o : Option ℕ) (i : ℕ) → option_map suc o ≡ Some i → (k : ℕ) × (i ≡ suc k) × (o ≡ Some k)
some_later None i e = absurd cc
some_later (Some k) i e = (k, sym (same_Some (suc k) i e), refl)

wrong_differs : (ps ds : List Book) (i : ℕ) → first_wrong ps ds ≡ Some i → IsFirstDifference ps ds i
unfolding first_wrong
wrong_differs [] [] i e = absurd cc
wrong_differs [] (d ∷ ds) i e = sym (same_Some 0 i e)
wrong_differs (p ∷ ps) [] i e = sym (same_Some 0 i e)
wrong_differs (p ∷ ps) (d ∷ ds) i e =
    elim (choice (same_book p d) (option_map suc (first_wrong ps ds)) (Some 0) (Some i) e) [
      | inl q ↦
          let a = some_later (first_wrong ps ds) i q.1 in
          inr (book_is p d q.0, a.0, a.1, wrong_differs ps ds a.0 a.2)
      | inr q ↦ inl (
        sym (same_Some 0 i q.1),
        λ same. let clash : true ≡ false = sym (ap (same_book p) (sym same) ∙ book_self p) ∙ q.0 in absurd cc,
      )
    ]

differs_wrong : (ps ds : List Book) (i : ℕ) → IsFirstDifference ps ds i → first_wrong ps ds ≡ Some i
unfolding first_wrong
differs_wrong [] [] i is = absurd is
differs_wrong [] (d ∷ ds) i is = ap (λ (k : ℕ). Some k) (sym is)
differs_wrong (p ∷ ps) [] i is = ap (λ (k : ℕ). Some k) (sym is)
differs_wrong (p ∷ ps) (d ∷ ds) i (inl q) =
    ap (λ (b : Bool). cond b (option_map suc (first_wrong ps ds)) (Some 0))
    (off_by (same_book p d) (λ on. q.1 (book_is p d on)))
    ∙ ap (λ (k : ℕ). Some k) (sym q.0)
differs_wrong (p ∷ ps) (d ∷ ds) i (inr q) =
    ap (λ (b : Bool). cond b (option_map suc (first_wrong ps ds)) (Some 0))
    (ap (same_book p) (sym q.0) ∙ book_self p)
    ∙ ap (option_map suc) (differs_wrong ps ds q.1 q.3) ∙ ap (λ (k : ℕ). Some k) (sym q.2)

books_cases : (text : List ℕ) (n : ℕ) (o : Result Read ℕ) → read text ≡ o → by_reading o ≡ Refused n why.Books
    → IsWrongBook text n
books_cases text n (Err m) is e = let clash : why.Text ≡ why.Books = (parts_is m n why.Text why.Books e).1 in absurd cc
books_cases text n (Ok r) is e = elim (read_cases r n why.Books e) [
  | inl p ↦ let clash : why.Books ≡ why.Core = p.2 in absurd cc
  | inr p ↦ elim (marks_cases r (judge_all (start_of r) r.marks) n why.Books refl p.1) [
    | inl q ↦ absurd (no_books why.Books q.1 refl)
    | inr q ↦ record {
      run = r;
      printed = (read_is_printed text r).0 is;
      given = p.0;
      end = q.0;
      good = all_sound (start_of r) r.marks q.0 q.1;
      place = q.2;
      differs = wrong_differs r.books (due_books q.0.core.log) q.2 q.3;
      line = q.4;
    }
  ]
]

wrong_verdict : OneNumber → (text : List ℕ) (n : ℕ) → IsWrongBook text n → verdict text ≡ Refused n why.Books
wrong_verdict one text n is =
    let r = is.run in
    verdict_read text r ((read_is_printed text r).1 is.printed)
    ∙ on_given r is.given
    ∙ ap (by_marks r) (all_complete one (start_of r) r.marks is.end (legal_start text r is.printed) is.good)
    ∙ ap (by_books r.ids_line) (differs_wrong r.books (due_books is.end.core.log) is.place is.differs)
    ∙ ap (λ (k : ℕ). Refused k why.Books) (sym is.line)

pub refused_books : OneNumber → (text : List ℕ) (n : ℕ) → (verdict text ≡ Refused n why.Books) ↔ IsWrongBook text n
refused_books one text n = (books_cases text n (read text) refl, wrong_verdict one text n)
