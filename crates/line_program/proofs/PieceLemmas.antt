-- The first line of an input, and the lines behind it.
use Rattle.std.proofs.Common.{◌≡◌, ℕ, suc, ◌+◌, ◌<◌, ◌≤◌, ◌==◌, min, Bool, true, false, cond, List, [], ◌∷◌}
use Rattle.std.proofs.Common.{◌++◌, length, get_or, take, drop, refl, ap, ◌∙◌, arith}
use Rattle.std.proofs.Common.{◌≢◌}
use Rattle.std.specs.List.{onto_first}
use Rattle.std.proofs.lemmas.Bool.Decides.{nat_tests}
use Rattle.std.proofs.lemmas.List.{at_drop_more, at_drop_all}
use Rattle.line_program.specs.Pieces.{pieces, piece_len}

step : (v : Bool) (c : ℕ) (cs : List ℕ) → onto_first c (pieces cs) ≡ (c ∷ take (piece_len cs) cs) ∷ pieces
    (drop (piece_len cs) cs)
    → cond v ((c ∷ []) ∷ pieces cs) (onto_first c (pieces cs)) ≡ take (cond v 1 (suc (piece_len cs)))
    (c ∷ cs) ∷ pieces (drop (cond v 1 (suc (piece_len cs))) (c ∷ cs))
step true c cs e = refl
step false c cs e = e

onto : (c : ℕ) (cs : List ℕ) → onto_first c (pieces cs) ≡ (c ∷ take (piece_len cs) cs) ∷ pieces
    (drop (piece_len cs) cs)
unfolding pieces piece_len
onto c [] = refl
onto c (d ∷ ds) = ap (onto_first c) (step (d == 10) d ds (onto d ds))

pub pieces_first : (bs : List ℕ) → 0 < length bs → pieces bs ≡ take (piece_len bs) bs ∷ pieces
    (drop (piece_len bs) bs)
unfolding pieces piece_len
pieces_first [] h = absurd (omega arith)
pieces_first (c ∷ cs) h = step (c == 10) c cs (onto c cs)

len_le : (v : Bool) (n m : ℕ) → n ≤ m → cond v 1 (suc n) ≤ suc m
len_le true n m h = omega arith
len_le false n m h = omega arith

pub piece_len-le : (bs : List ℕ) → piece_len bs ≤ length bs
unfolding piece_len
piece_len-le [] = omega arith
piece_len-le (c ∷ cs) = len_le (c == 10) (piece_len cs) (length cs) (piece_len-le cs)

len_some : (v : Bool) (n : ℕ) → 0 < cond v 1 (suc n)
len_some true n = omega arith
len_some false n = omega arith

pub piece_len_some : (bs : List ℕ) → 0 < length bs → 0 < piece_len bs
unfolding piece_len
piece_len_some [] h = h
piece_len_some (c ∷ cs) h = len_some (c == 10) (piece_len cs)

len_append : (v : Bool) (n m k : ℕ) → min n k ≡ m → min (cond v 1 (suc n)) (suc k) ≡ cond v 1 (suc m)
len_append true n m k h = omega arith
len_append false n m k h = omega arith

pub piece_len-append : (v rest : List ℕ) → min (piece_len (v ++ rest)) (length v) ≡ piece_len v
unfolding piece_len
piece_len-append [] rest = omega arith
piece_len-append (c ∷ cs) rest = len_append (c == 10) (piece_len (cs ++ rest)) (piece_len cs) (length cs)
    (piece_len-append cs rest)

-- a loop over the bytes of the first line
pub len_step : (i : ℕ) (bs : List ℕ) → i < length bs → get_or bs i 0 ≢ 10
    → i + piece_len (drop i bs) ≡ piece_len bs → i + 1 + piece_len (drop (i + 1) bs) ≡ piece_len bs
unfolding piece_len
len_step i bs lt other so_far =
    let off : (get_or bs i 0 == 10) ≡ false = grind (arith, nat_tests) in
    let one : piece_len (drop i bs) ≡ cond (get_or bs i 0 == 10) 1 (suc (piece_len (drop (i + 1) bs))) =
    at_drop_more piece_len bs i 0 lt in
    let two : piece_len (drop i bs) ≡ suc (piece_len (drop (i + 1) bs)) = one
    ∙ ap (λ (v : Bool). cond v 1 (suc (piece_len (drop (i + 1) bs)))) off in
    omega arith

pub len_stop : (i : ℕ) (bs : List ℕ) → i < length bs → get_or bs i 0 ≡ 10
    → i + piece_len (drop i bs) ≡ piece_len bs → i + 1 ≡ piece_len bs
unfolding piece_len
len_stop i bs lt this so_far =
    let on : (get_or bs i 0 == 10) ≡ true = grind (arith, nat_tests) in
    let one : piece_len (drop i bs) ≡ cond (get_or bs i 0 == 10) 1 (suc (piece_len (drop (i + 1) bs))) =
    at_drop_more piece_len bs i 0 lt in
    let two : piece_len (drop i bs) ≡ 1 = one
    ∙ ap (λ (v : Bool). cond v 1 (suc (piece_len (drop (i + 1) bs)))) on in
    omega arith

pub len_done : (i : ℕ) (bs : List ℕ) → length bs ≤ i → i + piece_len (drop i bs) ≡ piece_len bs
    → i ≡ piece_len bs
unfolding piece_len
len_done i bs le so_far =
    let one : piece_len (drop i bs) ≡ 0 = at_drop_all piece_len bs i le in
    omega arith
