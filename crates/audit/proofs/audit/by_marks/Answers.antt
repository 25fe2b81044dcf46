use Rattle.std.proofs.Common.{◌≡◌, ℕ, ◌<◌, ◌≤◌, List, length, get_or, Option, Some, None, Ok, Err, sym, ap, subst, ◌∙◌}
use Rattle.audit.specs.declared.mark.Mark.{Mark}
use Rattle.audit.specs.declared.mark.Book.{Book}
use Rattle.line_program.specs.declared.why.Why.{Why}
use Rattle.audit.specs.Reading.{read_of}
use Rattle.audit.specs.Replay.{Judged, judge, judge_all, IsJudged}
use Rattle.audit.specs.Books.{due_books, first_wrong}
use Rattle.audit.specs.Verdict.{start_of, by_books, by_marks}
use Rattle.audit.proofs.MarkLemmas.{mark_step, mark_stop, marks_end}
use Rattle.audit.proofs.audit.by_marks.Goals as goal

pub returns-in-Some : goal.returns-in-Some
returns-in-Some c =
    let j : Judged = record {
      core = c.loop-mark.replay.state;
      built = c.loop-mark.replay.kept.built.items;
    } in
    let k : Judged = record { core = c.judge.new.r.state; built = c.judge.new.r.kept.built.items } in
    let ms = c.args.r.now.marks.items in
    let lt : c.loop-mark.mark-index < length ms = subst (λ (xs : List Mark). c.loop-mark.mark-index < length xs)
    c.deref-mark-items.ensures.value c.loop-mark-test.true in
    let is : c.mark-item.result ≡ get_or ms c.loop-mark.mark-index c.mark-item.result =
    subst (λ (xs : List Mark). c.mark-item.result ≡ get_or xs c.loop-mark.mark-index c.mark-item.result)
    c.deref-mark-items.ensures.value c.mark-item.is in
    let refused : judge j c.mark-item.result ≡ Err (c.in-Some.line, c.in-Some.why) =
    subst (λ (o : Option (ℕ × Why)). IsJudged o (judge j c.mark-item.result) k) c.in-Some.is
    c.in_ok-judge.ensures.exact in
    sym (ap (by_marks (read_of c.args.r.now)) (mark_stop j (c.in-Some.line, c.in-Some.why) ms c.loop-mark.mark-index
    c.mark-item.result (judge_all (start_of (read_of c.args.r.now)) ms) lt is refused c.loop-mark.invariant.same))

pub loop-mark-preserved : goal.loop-mark-preserved
loop-mark-preserved c =
    let j : Judged = record {
      core = c.loop-mark.replay.state;
      built = c.loop-mark.replay.kept.built.items;
    } in
    let k : Judged = record { core = c.judge.new.r.state; built = c.judge.new.r.kept.built.items } in
    let ms = c.args.r.now.marks.items in
    let lt : c.loop-mark.mark-index < length ms = subst (λ (xs : List Mark). c.loop-mark.mark-index < length xs)
    c.deref-mark-items.ensures.value c.loop-mark-test.true in
    let is : c.mark-item.result ≡ get_or ms c.loop-mark.mark-index c.mark-item.result =
    subst (λ (xs : List Mark). c.mark-item.result ≡ get_or xs c.loop-mark.mark-index c.mark-item.result)
    c.deref-mark-items.ensures.value c.mark-item.is in
    let good : judge j c.mark-item.result ≡ Ok k =
    subst (λ (o : Option (ℕ × Why)). IsJudged o (judge j c.mark-item.result) k) c.in-None.is
    c.in_ok-judge.ensures.exact in
    record {
      same = mark_step j k ms c.loop-mark.mark-index c.mark-item.result
          (judge_all (start_of (read_of c.args.r.now)) ms) lt is good c.loop-mark.invariant.same;
      kept = c.in_ok-judge.ensures.kept;
    }

pub returns-in-None-first_wrong : goal.returns-in-None-first_wrong
returns-in-None-first_wrong c =
    let j : Judged = record {
      core = c.loop-mark.replay.state;
      built = c.loop-mark.replay.kept.built.items;
    } in
    let ms = c.args.r.now.marks.items in
    let le : length ms ≤ c.loop-mark.mark-index = subst (λ (xs : List Mark). length xs ≤ c.loop-mark.mark-index)
    c.deref-mark-items.ensures.value c.loop-mark-test.false in
    let end = marks_end j ms c.loop-mark.mark-index (judge_all (start_of (read_of c.args.r.now)) ms) le
    c.loop-mark.invariant.same in
    let books = c.args.r.now.books.items in
    let right : first_wrong books (due_books j.core.log) ≡ None =
    sym (c.in-None-first_wrong.ensures.exact
    ∙ ap (λ (xs : List Book). first_wrong xs c.as_slice-2.result.now) c.as_slice.ensures.value
    ∙ ap (first_wrong books) (c.as_slice-2.ensures.value ∙ c.in_ok-due.ensures)) in
    sym (ap (by_marks (read_of c.args.r.now)) end ∙ ap (by_books c.args.r.now.ids_line) right)

pub returns : goal.returns
returns c =
    let j : Judged = record {
      core = c.loop-mark.replay.state;
      built = c.loop-mark.replay.kept.built.items;
    } in
    let ms = c.args.r.now.marks.items in
    let le : length ms ≤ c.loop-mark.mark-index = subst (λ (xs : List Mark). length xs ≤ c.loop-mark.mark-index)
    c.deref-mark-items.ensures.value c.loop-mark-test.false in
    let end = marks_end j ms c.loop-mark.mark-index (judge_all (start_of (read_of c.args.r.now)) ms) le
    c.loop-mark.invariant.same in
    let books = c.args.r.now.books.items in
    let wrong : first_wrong books (due_books j.core.log) ≡ Some c.in-Some-first_wrong.place =
    sym (c.in-Some-first_wrong.ensures.exact
    ∙ ap (λ (xs : List Book). first_wrong xs c.as_slice-2.result.now) c.as_slice.ensures.value
    ∙ ap (first_wrong books) (c.as_slice-2.ensures.value ∙ c.in_ok-due.ensures)) in
    sym (ap (by_marks (read_of c.args.r.now)) end ∙ ap (by_books c.args.r.now.ids_line) wrong)
