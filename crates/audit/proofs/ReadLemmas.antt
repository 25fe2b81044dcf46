-- A printed run, read line by line, as a loop does.
use Rattle.std.proofs.Common.{◌≡◌, ℕ, ◌+◌, ◌-◌, ◌<◌, List, length, take, drop, Option, Some, None, Result, Err}
use Rattle.std.proofs.Common.{refl, sym, ap, ◌∙◌, Bool, true, false, zero, suc, [], ◌∷◌, arith}
use Rattle.std.proofs.lemmas.List.{nil_from_length}
use Rattle.line_program.specs.Pieces.{pieces, piece_len}
use Rattle.line_program.proofs.PieceLemmas.{pieces_first}
use Rattle.audit.specs.Reading.{Read, take_line, read_then, read_from, finished, IsTaken}

pub first_line : (number room : ℕ) (r : Read) (bs front back : List ℕ) (n : ℕ) → 0 < length bs
    → n ≡ piece_len bs → front ≡ take n bs → back ≡ drop n bs
    → read_from number room r (pieces bs) ≡ read_then number (take_line number room r front)
    (λ s. read_from (number + 1) (room - length front) s (pieces back))
unfolding read_from
first_line number room r bs front back n some is front-is back-is =
    rw (pieces_first bs some, ← is, ← front-is, ← back-is) refl

pub line_step : (number room : ℕ) (r s : Read) (bs front back : List ℕ) (n : ℕ) (total : Result Read ℕ)
    → 0 < length bs → n ≡ piece_len bs → front ≡ take n bs → back ≡ drop n bs
    → take_line number room r front ≡ Some s → read_from number room r (pieces bs) ≡ total
    → read_from (number + 1) (room - length front) s (pieces back) ≡ total
line_step number room r s bs front back n total some is front-is back-is e so_far =
    sym (first_line number room r bs front back n some is front-is back-is
    ∙ ap (λ (o : Option Read). read_then number o
    (λ t. read_from (number + 1) (room - length front) t (pieces back))) e) ∙ so_far

pub line_stop : (number room : ℕ) (r : Read) (bs front back : List ℕ) (n : ℕ) (total : Result Read ℕ)
    → 0 < length bs → n ≡ piece_len bs → front ≡ take n bs → back ≡ drop n bs
    → take_line number room r front ≡ None → read_from number room r (pieces bs) ≡ total → total ≡ Err number
line_stop number room r bs front back n total some is front-is back-is e so_far =
    sym so_far ∙ first_line number room r bs front back n some is front-is back-is
    ∙ ap (λ (o : Option Read). read_then number o
    (λ t. read_from (number + 1) (room - length front) t (pieces back))) e

pub at_end : (number room : ℕ) (r : Read) (bs : List ℕ) (total : Result Read ℕ) → length bs ≡ 0
    → read_from number room r (pieces bs) ≡ total → finished number r ≡ total
unfolding read_from pieces
at_end number room r bs total none so_far =
    sym (ap (λ (x : List ℕ). read_from number room r (pieces x)) (nil_from_length bs none)) ∙ so_far

pub was_taken : (b : Bool) (o : Option Read) (r : Read) → b ≡ true → IsTaken b o r → o ≡ Some r
was_taken true o r e is = is
was_taken false o r e is = absurd cc

pub not_taken : (b : Bool) (o : Option Read) (r : Read) → b ≡ false → IsTaken b o r → o ≡ None
not_taken true o r e is = absurd cc
not_taken false o r e is = is

pub take_some : (n : ℕ) (bs : List ℕ) → 0 < n → 0 < length bs → 0 < length (take n bs)
take_some zero bs some more = absurd (omega (arith, some))
take_some (suc n) [] some more = absurd (omega (arith, more))
take_some (suc n) (b ∷ bs) some more = omega arith
