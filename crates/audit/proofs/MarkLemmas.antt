-- Marks are judged one after the other, as a loop does.
use Rattle.std.proofs.Common.{◌≡◌, ℕ, ◌+◌, ◌<◌, ◌≤◌, List, length, get_or, drop, Result, Ok, Err}
use Rattle.std.proofs.Common.{sym, ap, ◌∙◌}
use Rattle.std.proofs.lemmas.List.{at_drop_more, at_drop_all}
use Rattle.audit.specs.declared.mark.Mark.{Mark}
use Rattle.line_program.specs.declared.why.Why.{Why}
use Rattle.audit.specs.Replay.{Judged, judge, judge_then, judge_all}

one : (j : Judged) (ms : List Mark) (i : ℕ) (m : Mark) → i < length ms → m ≡ get_or ms i m
    → judge_all j (drop i ms) ≡ judge_then (judge j m) (λ k. judge_all k (drop (i + 1) ms))
unfolding judge_all
one j ms i m lt is = at_drop_more (judge_all j) ms i m lt
    ∙ ap (λ (x : Mark). judge_then (judge j x) (λ k. judge_all k (drop (i + 1) ms))) (sym is)

pub mark_step : (j k : Judged) (ms : List Mark) (i : ℕ) (m : Mark) (total : Result Judged (ℕ × Why)) → i < length ms
    → m ≡ get_or ms i m → judge j m ≡ Ok k → judge_all j (drop i ms) ≡ total → judge_all k (drop (i + 1) ms) ≡ total
mark_step j k ms i m total lt is e so_far =
    sym (one j ms i m lt is ∙ ap (λ (r : Result Judged (ℕ × Why)). judge_then r
    (λ k. judge_all k (drop (i + 1) ms))) e) ∙ so_far

pub mark_stop : (j : Judged) (x : ℕ × Why) (ms : List Mark) (i : ℕ) (m : Mark) (total : Result Judged (ℕ × Why))
    → i < length ms → m ≡ get_or ms i m → judge j m ≡ Err x → judge_all j (drop i ms) ≡ total → total ≡ Err x
mark_stop j x ms i m total lt is e so_far =
    sym so_far ∙ one j ms i m lt is ∙ ap (λ (r : Result Judged (ℕ × Why)). judge_then r
    (λ k. judge_all k (drop (i + 1) ms))) e

pub marks_end : (j : Judged) (ms : List Mark) (i : ℕ) (total : Result Judged (ℕ × Why)) → length ms ≤ i
    → judge_all j (drop i ms) ≡ total → total ≡ Ok j
unfolding judge_all
marks_end j ms i total le so_far = sym so_far ∙ at_drop_all (judge_all j) ms i le
