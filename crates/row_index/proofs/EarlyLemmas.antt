-- The slots whose keys go before a bound, by the nodes of a tree.
use Rattle.std.proofs.Common.{◌≡◌, ℕ, zero, suc, ◌+◌, ◌-◌, ◌*◌, ◌^◌, ◌<◌, ◌≤◌, Bool, true, false, cond}
use Rattle.std.proofs.Common.{◌⊎◌, List, [], ◌∷◌, ◌++◌, map, Option, Some, None, length, take, drop}
use Rattle.std.proofs.Common.{replicate, refl, sym, ap, ◌∙◌, subst, inl, inr, arith, pow-suc, pow_pos}
use Rattle.std.proofs.Common.{append_assoc, append-nil, take-add, drop-drop, add-zero}
use Rattle.std.proofs.Math.Pow.{pow-lt}
use Rattle.std.proofs.lemmas.Bool.{cases_lt, false≢true}
use Rattle.std.proofs.lemmas.List.{map-append, length-map, length-append, length-take-le, length-drop}
use Rattle.std.proofs.lemmas.List.{drop_more}
use Rattle.std.proofs.lemmas.Nat.{mul-le}
use Rattle.row_index.specs.declared.entrant.Entrant.{Entrant}
use Rattle.row_index.specs.Winner.{early_slots}
use Rattle.row_index.specs.Matches.{node, key_of, keys_of, span, first_of, match_of, is_early}
use Rattle.row_index.specs.Matches.{IsBoard, IsTree, Spans}
use Rattle.row_index.proofs.MatchLemmas.{Order, IsBehind, behind_left, behind_right, one_of}
use Rattle.row_index.proofs.TreeLemmas.{keys_len, more_keys, tree_short}

-- what stands behind something late is late
late_behind : {K : Type 0} (before : K → K → Bool) → Order before → (bound : K) (u v : Option (Entrant K))
    → IsBehind before u v → is_early before bound v ≡ false → is_early before bound u ≡ false
late_behind before order bound None v p e = refl
late_behind before order bound (Some u) None p e = absurd p
late_behind before order bound (Some u) (Some v) p e = order.through bound v.key u.key e p

-- where the winner of two is early, one of them is
early_one_of : {K : Type 0} (before : K → K → Bool) (bound : K) (left right : Option (Entrant K))
    → is_early before bound (first_of before left right) ≡ true → (is_early before bound left ≡ true)
    ⊎ (is_early before bound right ≡ true)
early_one_of before bound left right e =
    elim (one_of before left right) [
      | inl is ↦ inl (subst (λ v. is_early before bound v ≡ true) is e)
      | inr is ↦ inr (subst (λ v. is_early before bound v ≡ true) is e)
    ]

pub early-append : {K : Type 0} (before : K → K → Bool) (bound : K) (at : ℕ) (xs ys : List (Option K))
    → early_slots before bound at (xs ++ ys) ≡ early_slots before bound at xs ++ early_slots before bound
    (at + length xs) ys
early-append before bound at [] ys = ap (λ n. early_slots before bound n ys) (sym (add-zero at))
early-append before bound at (None ∷ xs) ys =
    let next : at + 1 + length xs ≡ at + length (None ∷ xs) = omega arith in
    early-append before bound (at + 1) xs ys
    ∙ ap (λ n. early_slots before bound (at + 1) xs ++ early_slots before bound n ys) next
early-append {K} before bound at (Some key ∷ xs) ys = split (before key bound)
    (early-append before bound (at + 1) xs ys)
  where
    next : at + 1 + length xs ≡ at + length (Some key ∷ xs)
    next = omega arith

    split : (b : Bool) → early_slots before bound (at + 1) (xs ++ ys) ≡ early_slots before bound
        (at + 1) xs ++ early_slots before bound (at + 1 + length xs) ys →
        cond b (at ∷ early_slots before bound (at + 1) (xs ++ ys))
        (early_slots before bound (at + 1) (xs ++ ys)) ≡
        cond b (at ∷ early_slots before bound (at + 1) xs) (early_slots before bound (at + 1) xs)
        ++ early_slots before bound (at + length (Some key ∷ xs)) ys
    split true more = ap (λ l. at ∷ l)
        (more ∙ ap (λ n. early_slots before bound (at + 1) xs ++ early_slots before bound n ys) next)
    split false more = more ∙ ap (λ n. early_slots before bound (at + 1) xs ++ early_slots before bound n ys)
        next

pub early_none : {K : Type 0} (before : K → K → Bool) (bound : K) (at n : ℕ)
    → early_slots before bound at (replicate n None) ≡ []
early_none before bound at zero = refl
early_none before bound at (suc n) = early_none before bound (at + 1) n

-- a node spans slots that there are
pub spans_within : (leaves j at first : ℕ) → Spans leaves j at first → first + 2 ^ j ≤ leaves
spans_within leaves zero at first s = let low : first < leaves = s.1 in omega arith
spans_within leaves (suc j) at first s =
    let rest : first + 2 ^ j + 2 ^ j ≤ leaves = spans_within leaves j (2 * s.0 + 1) (first + 2 ^ j) s.4 in
    let double : 2 ^ suc j ≡ 2 ^ j * 2 = pow-suc 2 j in
    omega arith

pub span_len : {K : Type 0} (nodes : List (Option (Entrant K))) (first n : ℕ) → first + n ≤ length nodes
    → length (span nodes first n) ≡ n
span_len nodes first n short =
    let left : length (drop first nodes) ≡ length nodes - first = length-drop first nodes in
    length-map (take n (drop first nodes)) key_of ∙ length-take-le n (drop first nodes) (omega arith)

-- the slots of a node are those of its left one and those of its right one
pub span_halves : {K : Type 0} (before : K → K → Bool) (bound : K) (nodes : List (Option (Entrant K)))
    (first j : ℕ) → first + 2 ^ suc j ≤ length nodes →
    early_slots before bound first (span nodes first (2 ^ suc j)) ≡ early_slots before bound first
    (span nodes first (2 ^ j)) ++ early_slots before bound (first + 2 ^ j)
    (span nodes (first + 2 ^ j) (2 ^ j))
span_halves {K} before bound nodes first j short =
    ap (λ l. early_slots before bound first l) whole
    ∙ early-append before bound first (span nodes first (2 ^ j)) (span nodes (first + 2 ^ j) (2 ^ j))
    ∙ ap (λ n. early_slots before bound first (span nodes first (2 ^ j)) ++ early_slots before bound
    (first + n) (span nodes (first + 2 ^ j) (2 ^ j))) len
  where
    double : 2 ^ suc j ≡ 2 ^ j + 2 ^ j
    double = let e : 2 ^ suc j ≡ 2 ^ j * 2 = pow-suc 2 j in omega arith

    len : length (span nodes first (2 ^ j)) ≡ 2 ^ j
    len = span_len nodes first (2 ^ j) (omega (arith, double))

    whole : span nodes first (2 ^ suc j) ≡ span nodes first (2 ^ j) ++ span nodes (first + 2 ^ j) (2 ^ j)
    whole =
        ap (λ n. map key_of (take n (drop first nodes))) double
        ∙ ap (λ l. map key_of l) (take-add (2 ^ j) (2 ^ j) (drop first nodes)
        ∙ ap (λ l. take (2 ^ j) (drop first nodes) ++ take (2 ^ j) l) (drop-drop (2 ^ j) first nodes))
        ∙ map-append key_of (take (2 ^ j) (drop first nodes)) (take (2 ^ j) (drop (first + 2 ^ j) nodes))

-- the one slot of a leaf
pub leaf_span : {K : Type 0} (nodes : List (Option (Entrant K))) (first : ℕ) → first < length nodes
    → span nodes first 1 ≡ key_of (node nodes first) ∷ []
leaf_span nodes first short = ap (λ l. map key_of (take 1 l)) (drop_more nodes first None short)

pub leaf_early : {K : Type 0} (before : K → K → Bool) (bound : K) (at : ℕ) (v : Option (Entrant K))
    → is_early before bound v ≡ true → early_slots before bound at (key_of v ∷ []) ≡ at ∷ []
leaf_early before bound at None e = absurd (false≢true e)
leaf_early before bound at (Some v) e = ap (λ b. cond b (at ∷ []) []) e

pub leaf_late : {K : Type 0} (before : K → K → Bool) (bound : K) (at : ℕ) (v : Option (Entrant K))
    → is_early before bound v ≡ false → early_slots before bound at (key_of v ∷ []) ≡ []
leaf_late before bound at None e = refl
leaf_late before bound at (Some v) e = ap (λ b. cond b (at ∷ []) []) e

-- below a late node none is early
pub none_below : {K : Type 0} (before : K → K → Bool) → Order before
    → (bound : K) (leaves : ℕ) (nodes : List (Option (Entrant K))) → IsBoard before leaves nodes →
    (j at first : ℕ) → Spans leaves j at first → is_early before bound (node nodes at) ≡ false
    → early_slots before bound first (span nodes first (2 ^ j)) ≡ []
none_below before order bound leaves nodes board zero at first s late =
    let low : first < leaves = s.1 in
    let here : is_early before bound (node nodes first) ≡ false =
    subst (λ i. is_early before bound (node nodes i) ≡ false) s.0 late in
    ap (λ l. early_slots before bound first l) (leaf_span nodes first (omega (arith, board.len)))
    ∙ leaf_late before bound first (node nodes first) here
none_below before order bound leaves nodes board (suc j) at first s late =
    let pair = s.0 in
    let won : node nodes at ≡ match_of before nodes pair = ap (λ i. node nodes i) s.1 ∙ board.played pair s.2
    in
    let late_won : is_early before bound (match_of before nodes pair) ≡ false =
    subst (λ v. is_early before bound v ≡ false) won late in
    let left : is_early before bound (node nodes (2 * pair)) ≡ false = late_behind before order bound
    (node nodes (2 * pair)) (match_of before nodes pair)
    (behind_left before order (node nodes (2 * pair)) (node nodes (2 * pair + 1))) late_won in
    let right : is_early before bound (node nodes (2 * pair + 1)) ≡ false = late_behind before order bound
    (node nodes (2 * pair + 1)) (match_of before nodes pair)
    (behind_right before order (node nodes (2 * pair)) (node nodes (2 * pair + 1))) late_won in
    let within : first + 2 ^ suc j ≤ leaves = spans_within leaves (suc j) at first s in
    let some : 0 < 2 ^ suc j = pow_pos (suc j) in
    span_halves before bound nodes first j (omega (arith, board.len))
    ∙ ap (λ l. l ++ early_slots before bound (first + 2 ^ j) (span nodes (first + 2 ^ j) (2 ^ j)))
    (none_below before order bound leaves nodes board j (2 * pair) first s.3 left)
    ∙ none_below before order bound leaves nodes board j (2 * pair + 1) (first + 2 ^ j) s.4 right

-- and below an early one at least one is
pub some_below : {K : Type 0} (before : K → K → Bool) (bound : K) (leaves : ℕ)
    (nodes : List (Option (Entrant K))) → IsBoard before leaves nodes →
    (j at first : ℕ) → Spans leaves j at first → is_early before bound (node nodes at) ≡ true
    → 1 ≤ length (early_slots before bound first (span nodes first (2 ^ j)))
some_below before bound leaves nodes board zero at first s early =
    let low : first < leaves = s.1 in
    let here : is_early before bound (node nodes first) ≡ true =
    subst (λ i. is_early before bound (node nodes i) ≡ true) s.0 early in
    let one : early_slots before bound first (span nodes first (2 ^ zero)) ≡ first ∷ [] =
    ap (λ l. early_slots before bound first l) (leaf_span nodes first (omega (arith, board.len)))
    ∙ leaf_early before bound first (node nodes first) here in
    subst (λ l. 1 ≤ length l) (sym one) (omega arith)
some_below before bound leaves nodes board (suc j) at first s early =
    let pair = s.0 in
    let won : node nodes at ≡ match_of before nodes pair = ap (λ i. node nodes i) s.1 ∙ board.played pair s.2
    in
    let early_won : is_early before bound (match_of before nodes pair) ≡ true =
    subst (λ v. is_early before bound v ≡ true) won early in
    let within : first + 2 ^ suc j ≤ leaves = spans_within leaves (suc j) at first s in
    let some : 0 < 2 ^ suc j = pow_pos (suc j) in
    let sum : length (early_slots before bound first (span nodes first (2 ^ suc j))) ≡ length
    (early_slots before bound first (span nodes first (2 ^ j))) + length
    (early_slots before bound (first + 2 ^ j) (span nodes (first + 2 ^ j) (2 ^ j))) =
    ap (λ l. length l) (span_halves before bound nodes first j (omega (arith, board.len)))
    ∙ length-append (early_slots before bound first (span nodes first (2 ^ j)))
    (early_slots before bound (first + 2 ^ j) (span nodes (first + 2 ^ j) (2 ^ j))) in
    elim (early_one_of before bound (node nodes (2 * pair)) (node nodes (2 * pair + 1)) early_won) [
      | inl left ↦ let more : 1 ≤ length (early_slots before bound first (span nodes first (2 ^ j))) =
          some_below before bound leaves nodes board j (2 * pair) first s.3 left in omega (arith, sum)
      | inr right ↦ let more : 1 ≤ length
          (early_slots before bound (first + 2 ^ j) (span nodes (first + 2 ^ j) (2 ^ j))) =
          some_below before bound leaves nodes board j (2 * pair + 1) (first + 2 ^ j) s.4 right
          in omega (arith, sum)
    ]

-- a leaf that is early
pub one_found : {K : Type 0} (before : K → K → Bool) (bound : K) (leaves : ℕ)
    (nodes : List (Option (Entrant K))) → IsBoard before leaves nodes → (j at first : ℕ)
    → Spans leaves j at first → at < leaves →
    is_early before bound (node nodes at) ≡ true → early_slots before bound first (span nodes first (2 ^ j))
    ≡ at ∷ []
one_found before bound leaves nodes board zero at first s low early =
    let here : is_early before bound (node nodes first) ≡ true =
    subst (λ i. is_early before bound (node nodes i) ≡ true) s.0 early in
    ap (λ l. early_slots before bound first l) (leaf_span nodes first (omega (arith, board.len, s.1)))
    ∙ leaf_early before bound first (node nodes first) here ∙ ap (λ i. i ∷ []) (sym s.0)
one_found before bound leaves nodes board (suc j) at first s low early = absurd (omega (arith, s.1))

-- a node above the leaves: what was found below the left one, and then below the right one
pub both_found : {K : Type 0} (before : K → K → Bool) (bound : K) (leaves : ℕ)
    (nodes : List (Option (Entrant K))) → IsBoard before leaves nodes → (j at first : ℕ)
    → Spans leaves j at first → leaves ≤ at → (old mid new : List ℕ) →
    ((i f : ℕ) → Spans leaves i (2 * (at - leaves)) f → mid ≡ old ++ early_slots before bound f
    (span nodes f (2 ^ i))) → ((i f : ℕ) → Spans leaves i (2 * (at - leaves) + 1) f
    → new ≡ mid ++ early_slots before bound f (span nodes f (2 ^ i))) →
    new ≡ old ++ early_slots before bound first (span nodes first (2 ^ j))
both_found before bound leaves nodes board zero at first s high old mid new left right =
    absurd (omega (arith, s.0, s.1))
both_found before bound leaves nodes board (suc j) at first s high old mid new left right =
    let pair : at - leaves ≡ s.0 = omega (arith, s.1) in
    let one : mid ≡ old ++ early_slots before bound first (span nodes first (2 ^ j)) =
    left j first (subst (λ p. Spans leaves j (2 * p) first) (sym pair) s.3) in
    let two : new ≡ mid ++ early_slots before bound (first + 2 ^ j) (span nodes (first + 2 ^ j) (2 ^ j)) =
    right j (first + 2 ^ j) (subst (λ p. Spans leaves j (2 * p + 1) (first + 2 ^ j)) (sym pair) s.4) in
    let within : first + 2 ^ suc j ≤ leaves = spans_within leaves (suc j) at first s in
    let some : 0 < 2 ^ suc j = pow_pos (suc j) in
    two
    ∙ ap (λ l. l ++ early_slots before bound (first + 2 ^ j) (span nodes (first + 2 ^ j) (2 ^ j))) one
    ∙ append_assoc old (early_slots before bound first (span nodes first (2 ^ j)))
    (early_slots before bound (first + 2 ^ j) (span nodes (first + 2 ^ j) (2 ^ j)))
    ∙ ap (λ l. old ++ l) (sym (span_halves before bound nodes first j (omega (arith, board.len))))

-- so many looks for what is found below a node
abbrev pub Looks : {K : Type 0} → (K → K → Bool) → K → ℕ → List (Option (Entrant K)) → ℕ → ℕ → ℕ → Type 0
Looks before bound leaves nodes at start steps = (j first : ℕ) → Spans leaves j at first
    → steps ≤ start + (2 * j * length (early_slots before bound first (span nodes first (2 ^ j))) + 1)

products : (i m n start mid steps : ℕ) → 1 ≤ m + n → mid ≤ start + 1 + (2 * i * m + 1)
    → steps ≤ mid + (2 * i * n + 1) → steps ≤ start + (2 * suc i * (m + n) + 1)
products i m n start mid steps some one two = omega arith

pub both_looked : {K : Type 0} (before : K → K → Bool) (bound : K) (leaves : ℕ)
    (nodes : List (Option (Entrant K))) → IsBoard before leaves nodes → (at start mid steps : ℕ)
    → leaves ≤ at
    → is_early before bound (node nodes at) ≡ true →
    Looks before bound leaves nodes (2 * (at - leaves)) (start + 1) mid → Looks before bound leaves nodes
    (2 * (at - leaves) + 1) mid steps → Looks before bound leaves nodes at start steps
both_looked before bound leaves nodes board at start mid steps high early left right zero first s =
    absurd (omega (arith, s.0, s.1))
both_looked before bound leaves nodes board at start mid steps high early left right (suc j) first s =
    let pair : at - leaves ≡ s.0 = omega (arith, s.1) in
    let m : ℕ = length (early_slots before bound first (span nodes first (2 ^ j))) in
    let n : ℕ = length (early_slots before bound (first + 2 ^ j) (span nodes (first + 2 ^ j) (2 ^ j))) in
    let one : mid ≤ start + 1 + (2 * j * m + 1) =
    left j first (subst (λ p. Spans leaves j (2 * p) first) (sym pair) s.3) in
    let two : steps ≤ mid + (2 * j * n + 1) =
    right j (first + 2 ^ j) (subst (λ p. Spans leaves j (2 * p + 1) (first + 2 ^ j)) (sym pair) s.4) in
    let within : first + 2 ^ suc j ≤ leaves = spans_within leaves (suc j) at first s in
    let some : 0 < 2 ^ suc j = pow_pos (suc j) in
    let sum : length (early_slots before bound first (span nodes first (2 ^ suc j))) ≡ m + n =
    ap (λ l. length l) (span_halves before bound nodes first j (omega (arith, board.len)))
    ∙ length-append (early_slots before bound first (span nodes first (2 ^ j)))
    (early_slots before bound (first + 2 ^ j) (span nodes (first + 2 ^ j) (2 ^ j))) in
    let found : 1 ≤ length (early_slots before bound first (span nodes first (2 ^ suc j))) =
    some_below before bound leaves nodes board (suc j) at first s early in
    subst (λ k. steps ≤ start + (2 * suc j * k + 1)) (sym sum)
    (products j m n start mid steps (subst (λ k. 1 ≤ k) sum found) one two)

pub left_looked : {K : Type 0} (before : K → K → Bool) (bound : K) (leaves : ℕ)
    (nodes : List (Option (Entrant K))) → IsBoard before leaves nodes → (at start steps : ℕ) → leaves ≤ at
    → is_early before bound (node nodes at) ≡ true →
    Looks before bound leaves nodes (2 * (at - leaves)) (start + 1) steps
    → Looks before bound leaves nodes at start steps
left_looked before bound leaves nodes board at start steps high early left =
    both_looked before bound leaves nodes board at start steps steps high early left
    (λ j first s. omega arith)

-- the root spans all slots
spans : (leaves j parts place : ℕ) → leaves ≡ parts * 2 ^ j → place < parts
    → Spans leaves j (2 * leaves - 2 * parts + place) (place * 2 ^ j)
spans leaves zero parts place is low = (omega arith, omega arith)
spans leaves (suc j) parts place is low = (
  leaves - 2 * parts + place,
  omega (arith, enough),
  omega (arith, enough),
  subst (λ at. Spans leaves j at (place * 2 ^ suc j)) index_left
      (subst (λ f. Spans leaves j (2 * leaves - 2 * (2 * parts) + 2 * place) f) first_left
      (spans leaves j (2 * parts) (2 * place) whole (omega arith))),
  subst (λ at. Spans leaves j at (place * 2 ^ suc j + 2 ^ j)) index_right
      (subst (λ f. Spans leaves j (2 * leaves - 2 * (2 * parts) + (2 * place + 1)) f) first_right
      (spans leaves j (2 * parts) (2 * place + 1) whole (omega arith))),
)
  where
    double : 2 ^ suc j ≡ 2 ^ j * 2
    double = pow-suc 2 j

    whole : leaves ≡ 2 * parts * 2 ^ j
    whole = let e : parts * 2 ^ suc j ≡ parts * (2 ^ j * 2) = ap (λ n. parts * n) double in omega arith

    enough : 2 * parts ≤ leaves
    enough =
        let some : 1 ≤ 2 ^ j = pow_pos j in
        let more : 2 * parts * 1 ≤ 2 * parts * 2 ^ j = mul-le (2 * parts) 1 (2 * parts) (2 ^ j)
        (omega arith) some in
        omega (arith, whole)

    index_left : 2 * leaves - 2 * (2 * parts) + 2 * place ≡ 2 * (leaves - 2 * parts + place)
    index_left = omega (arith, enough)

    index_right : 2 * leaves - 2 * (2 * parts) + (2 * place + 1) ≡ 2 * (leaves - 2 * parts + place) + 1
    index_right = omega (arith, enough)

    first_left : 2 * place * 2 ^ j ≡ place * 2 ^ suc j
    first_left = let e : place * 2 ^ suc j ≡ place * (2 ^ j * 2) = ap (λ n. place * n) double in omega arith

    first_right : (2 * place + 1) * 2 ^ j ≡ place * 2 ^ suc j + 2 ^ j
    first_right = let e : place * 2 ^ suc j ≡ place * (2 ^ j * 2) = ap (λ n. place * n) double in omega arith

pub root_spans : (leaves t : ℕ) → leaves ≡ 2 ^ t → Spans leaves t (2 * leaves - 2) 0
root_spans leaves t is = subst (λ at. Spans leaves t at 0) (omega arith)
    (subst (λ f. Spans leaves t (2 * leaves - 2 * 1 + 0) f) (omega arith)
    (spans leaves t 1 0 (omega arith) (omega arith)))

-- the leaves past the slots add none
pub all_early : {K : Type 0} (before : K → K → Bool) (bound : K) (leaves slots t : ℕ)
    (nodes : List (Option (Entrant K))) → IsTree before leaves slots nodes → leaves ≡ 2 ^ t
    → early_slots before bound 0 (span nodes 0 (2 ^ t)) ≡ early_slots before bound 0 (keys_of slots nodes)
all_early {K} before bound leaves slots t nodes tree is =
    ap (λ n. early_slots before bound 0 (keys_of n nodes)) (sym is)
    ∙ ap (λ l. early_slots before bound 0 l) (more_keys before leaves slots leaves nodes tree tree.fits
    (omega arith))
    ∙ early-append before bound 0 (keys_of slots nodes) (replicate (leaves - slots) None)
    ∙ ap (λ l. early_slots before bound 0 (keys_of slots nodes) ++ l)
    (early_none before bound (0 + length (keys_of slots nodes)) (leaves - slots))
    ∙ append-nil (early_slots before bound 0 (keys_of slots nodes))

-- a tree is no higher than any number of levels that is enough for its slots
pub all_looks : {K : Type 0} (before : K → K → Bool) (bound : K) (leaves slots t : ℕ)
    (nodes : List (Option (Entrant K))) → IsTree before leaves slots nodes → leaves ≡ 2 ^ t
    → (start steps : ℕ) → Looks before bound leaves nodes (2 * leaves - 2) start steps →
    (h : ℕ) → slots ≤ 2 ^ h → steps ≤ start +
    (2 * h * length (early_slots before bound 0 (keys_of slots nodes)) + 1)
all_looks before bound leaves slots t nodes tree is start steps looks h enough =
    let k : ℕ = length (early_slots before bound 0 (keys_of slots nodes)) in
    let most : leaves ≤ 2 ^ h = tree.least h enough in
    let low : t ≤ h = elim (cases_lt h t) [
      | inl lt ↦ let more : 2 ^ h < 2 ^ t = pow-lt lt
          in absurd (omega (arith, is))
      | inr le ↦ le
    ] in
    let own : steps ≤ start + (2 * t * k + 1) = subst (λ l. steps ≤ start + (2 * t * length l + 1))
    (all_early before bound leaves slots t nodes tree is) (looks t 0 (root_spans leaves t is)) in
    let levels : 2 * t * k ≤ 2 * h * k = mul-le (2 * t) k (2 * h) k (omega arith) (omega arith) in
    omega (arith, own, levels)

-- what was found below the root, and how many looks it took
pub found_slots : {K : Type 0} (before : K → K → Bool) (bound : K) (leaves slots root : ℕ)
    (nodes : List (Option (Entrant K))) → IsTree before leaves slots nodes → root + 1 ≡ length nodes
    → (found : List ℕ) →
    ((j first : ℕ) → Spans leaves j root first → found ≡ early_slots before bound first
    (span nodes first (2 ^ j))) → found ≡ early_slots before bound 0 (keys_of slots nodes)
found_slots before bound leaves slots root nodes tree last found each =
    let t = tree.power (omega (arith, tree.board.len)) in
    let here : 2 * leaves - 2 ≡ root = omega (arith, tree.board.len) in
    each t.0 0 (subst (λ at. Spans leaves t.0 at 0) here (root_spans leaves t.0 t.1))
    ∙ all_early before bound leaves slots t.0 nodes tree t.1

pub found_looks : {K : Type 0} (before : K → K → Bool) (bound : K) (leaves slots root : ℕ)
    (nodes : List (Option (Entrant K))) → IsTree before leaves slots nodes → root + 1 ≡ length nodes
    → (start steps : ℕ) → Looks before bound leaves nodes root start steps →
    (h : ℕ) → length (keys_of slots nodes) ≤ 2 ^ h
    → steps ≤ start + (2 * h * length (early_slots before bound 0 (keys_of slots nodes)) + 1)
found_looks before bound leaves slots root nodes tree last start steps looks h enough =
    let t = tree.power (omega (arith, tree.board.len)) in
    let here : root ≡ 2 * leaves - 2 = omega (arith, tree.board.len) in
    let own : length (keys_of slots nodes) ≡ slots =
    keys_len slots nodes (tree_short before leaves slots nodes tree) in
    all_looks before bound leaves slots t.0 nodes tree t.1 start steps
    (subst (λ at. Looks before bound leaves nodes at start steps) here looks) h
    (subst (λ n. n ≤ 2 ^ h) own enough)
