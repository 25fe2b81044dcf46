-- Lines that are judged one after the other, as a loop does; and that more bytes behind one byte past the limit
-- change nothing.
use Rattle.std.proofs.Common.{◌≡◌, ℕ, zero, suc, ◌+◌, ◌-◌, ◌<◌, ◌≤◌, min, nat_le, Bool, true, false, ◌&&◌}
use Rattle.std.proofs.Common.{cond, List, ◌++◌, length, take, drop, Option, Some, None, Result, Ok, Err, refl}
use Rattle.std.proofs.Common.{sym, ap, subst, ◌∙◌, ◌⊎◌, inl, inr, arith}
use Rattle.std.specs.Prelude.{IfSome}
use Rattle.std.proofs.lemmas.Bool.{cases_lt}
use Rattle.std.proofs.lemmas.Bool.Decides.{nat_tests}
use Rattle.std.proofs.lemmas.List.{append-nil, length-take, length-drop, take-append-le, drop-append-le}
use Rattle.std.proofs.lemmas.List.{length-append, nil_from_length}
use Rattle.dist_types.specs.Content.{Taken, IsAtEnd}
use Rattle.line_program.specs.declared.fault.FarmFault.{FarmFault}
use Rattle.line_program.specs.declared.fault.FarmFault.TheVariants.{BadLine}
use Rattle.line_program.specs.Lines.{Judge, judged_within, and_then, lines_from, lines_in}
use Rattle.line_program.specs.Pieces.{pieces, piece_len, text_of}
use Rattle.line_program.proofs.PieceLemmas.{pieces_first, piece_len-le, piece_len_some, piece_len-append}

pub first_line : {S R : Type 0} (judge : Judge S) (finish : ℕ → S → Result R FarmFault) (number room : ℕ) (r : S)
    (bs front back : List ℕ) (n : ℕ) → 0 < length bs
    → n ≡ piece_len bs → front ≡ take n bs → back ≡ drop n bs
    → lines_from judge finish number room r (pieces bs) ≡ and_then (judged_within judge number room r front)
    (λ s. lines_from judge finish (number + 1) (room - length front) s (pieces back))
unfolding lines_from
first_line judge finish number room r bs front back n some is front-is back-is =
    rw (pieces_first bs some, ← is, ← front-is, ← back-is) refl

pub line_step : {S R : Type 0} (judge : Judge S) (finish : ℕ → S → Result R FarmFault) (number room : ℕ) (r s : S)
    (bs front back : List ℕ) (n : ℕ) (total : Result R FarmFault) → 0 < length bs
    → n ≡ piece_len bs → front ≡ take n bs → back ≡ drop n bs
    → judged_within judge number room r front ≡ Ok s → lines_from judge finish number room r (pieces bs) ≡ total
    → lines_from judge finish (number + 1) (room - length front) s (pieces back) ≡ total
line_step {S} judge finish number room r s bs front back n total some is front-is back-is e so_far =
    sym (first_line judge finish number room r bs front back n some is front-is back-is
    ∙ ap (λ (o : Result S FarmFault). and_then o
    (λ t. lines_from judge finish (number + 1) (room - length front) t (pieces back))) e) ∙ so_far

pub line_stop : {S R : Type 0} (judge : Judge S) (finish : ℕ → S → Result R FarmFault) (number room : ℕ) (r : S)
    (bs front back : List ℕ) (n : ℕ) (total : Result R FarmFault) (f : FarmFault) → 0 < length bs
    → n ≡ piece_len bs → front ≡ take n bs → back ≡ drop n bs
    → lines_from judge finish number room r (pieces bs) ≡ total → judged_within judge number room r front ≡ Err f
    → total ≡ Err f
line_stop {S} judge finish number room r bs front back n total f some is front-is back-is so_far e =
    sym so_far ∙ first_line judge finish number room r bs front back n some is front-is back-is
    ∙ ap (λ (o : Result S FarmFault). and_then o
    (λ t. lines_from judge finish (number + 1) (room - length front) t (pieces back))) e

pub at_end : {S R : Type 0} (judge : Judge S) (finish : ℕ → S → Result R FarmFault) (number room : ℕ) (r : S)
    (bs : List ℕ) (total : Result R FarmFault) → length bs ≡ 0
    → lines_from judge finish number room r (pieces bs) ≡ total → finish number r ≡ total
unfolding lines_from pieces
at_end judge finish number room r bs total none so_far =
    sym (ap (λ (x : List ℕ). lines_from judge finish number room r (pieces x)) (nil_from_length bs none)) ∙ so_far

-- ---- more bytes

middle_false : (a b c : Bool) → b ≡ false → (a && b && c) ≡ false
middle_false true b c e = ap (λ (v : Bool). v && c) e
middle_false false b c e = refl

too_long : {S : Type 0} (judge : Judge S) (number room : ℕ) (r : S) (piece : List ℕ) → room < length piece
    → judged_within judge number room r piece ≡ Err (BadLine number)
too_long judge number room r piece lt =
    let off : nat_le (length piece) room ≡ false = grind (arith, nat_tests) in
    ap (λ (v : Bool). cond v (judge number r (text_of piece)) (Err (BadLine number)))
    (middle_false (nat_le number 1000000) (nat_le (length piece) room)
    (nat_le (length (text_of piece)) 2097152) off)

over : {S R : Type 0} (judge : Judge S) (finish : ℕ → S → Result R FarmFault) (number room : ℕ) (r : S)
    (bs : List ℕ) → room < piece_len bs
    → lines_from judge finish number room r (pieces bs) ≡ Err (BadLine number)
over {S} judge finish number room r bs lt =
    let le : piece_len bs ≤ length bs = piece_len-le bs in
    let n = piece_len bs in
    let long : room < length (take n bs) = omega (arith, length-take n bs) in
    first_line judge finish number room r bs (take n bs) (drop n bs) n (omega arith) refl refl refl
    ∙ ap (λ (o : Result S FarmFault). and_then o
    (λ t. lines_from judge finish (number + 1) (room - length (take n bs)) t (pieces (drop n bs))))
    (too_long judge number room r (take n bs) long)

then_agree : {A B : Type 0} (o : Result A FarmFault) (f g : A → Result B FarmFault) → ((s : A) → f s ≡ g s)
    → and_then o f ≡ and_then o g
then_agree (Ok x) f g h = h x
then_agree (Err e) f g h = refl

cut_enough : {S R : Type 0} (judge : Judge S) (finish : ℕ → S → Result R FarmFault) (fuel number room : ℕ) (r : S)
    (v rest : List ℕ) → length v ≤ fuel → room < length v
    → lines_from judge finish number room r (pieces (v ++ rest))
    ≡ lines_from judge finish number room r (pieces v)
cut_enough judge finish zero number room r v rest le lt = absurd (omega arith)
cut_enough judge finish (suc fuel) number room r v rest le lt =
    let same : min (piece_len (v ++ rest)) (length v) ≡ piece_len v = piece_len-append v rest in
    let n = piece_len v in
    elim (cases_lt room (piece_len v)) [
      | inl far ↦
          let more : room < piece_len (v ++ rest) = omega arith in
          over judge finish number room r (v ++ rest) more ∙ sym (over judge finish number room r v far)
      | inr near ↦
          let short : n ≤ length v = omega arith in
          let some : 0 < n = piece_len_some v (omega arith) in
          let is : n ≡ piece_len (v ++ rest) = omega arith in
          let front : take n v ≡ take n (v ++ rest) = sym (take-append-le n v rest short) in
          let back : drop n v ++ rest ≡ drop n (v ++ rest) = sym (drop-append-le n v rest short) in
          let whole : 0 < length (v ++ rest) = omega (arith, length-append v rest) in
          let left : length (drop n v) ≤ fuel = omega (arith, length-drop n v) in
          let room_left : room - length (take n v) < length (drop n v) =
          omega (arith, length-drop n v, length-take n v) in
          first_line judge finish number room r (v ++ rest) (take n v) (drop n v ++ rest) n whole is front back
          ∙ then_agree (judged_within judge number room r (take n v))
          (λ s. lines_from judge finish (number + 1) (room - length (take n v)) s (pieces (drop n v ++ rest)))
          (λ s. lines_from judge finish (number + 1) (room - length (take n v)) s (pieces (drop n v)))
          (λ s. cut_enough judge finish fuel (number + 1) (room - length (take n v)) s (drop n v) rest left
          room_left)
          ∙ sym (first_line judge finish number room r v (take n v) (drop n v) n (omega arith) refl refl refl)
    ]

-- what was read to its end, or to one byte past the limit, is judged as all of it
pub read_enough : {S R : Type 0} (judge : Judge S) (finish : ℕ → S → Result R FarmFault) (r : S) (v : List ℕ)
    (old new : Option (List ℕ)) → Taken v old new → (length v ≡ 67108865) ⊎ IsAtEnd new
    → IfSome old (λ bytes. lines_in judge finish r v ≡ lines_in judge finish r bytes)
read_enough judge finish r v old (Some rest) taken (inl e) =
    subst (λ (o : Option (List ℕ)). IfSome o (λ bytes. lines_in judge finish r v ≡ lines_in judge finish r bytes))
    (sym taken) (sym (cut_enough judge finish (length v) 1 67108864 r v rest (omega arith) (omega arith)))
read_enough judge finish r v old (Some rest) taken (inr nil) =
    subst (λ (o : Option (List ℕ)). IfSome o (λ bytes. lines_in judge finish r v ≡ lines_in judge finish r bytes))
    (sym taken)
    (ap (lines_in judge finish r) (sym (append-nil v) ∙ ap (λ (x : List ℕ). v ++ x) (sym nil)))
read_enough judge finish r v old None taken whole =
    subst (λ (o : Option (List ℕ)). IfSome o (λ bytes. lines_in judge finish r v ≡ lines_in judge finish r bytes))
    (sym taken) tt
