-- Where each match is played, nobody goes before the winner at the root, and each winner stands at the leaf
-- of its slot.
use Rattle.std.proofs.Common.{◌≡◌, ℕ, zero, suc, ◌+◌, ◌-◌, ◌*◌, ◌/◌, ◌%◌, ◌<◌, ◌≤◌, Bool, ◌⊎◌}
use Rattle.std.proofs.Common.{List, Option, Some, None, length, sym, ap, ◌∙◌, subst, inl, inr, arith}
use Rattle.std.proofs.lemmas.Bool.{cases_lt, cases_eq}
use Rattle.std.proofs.lemmas.List.{get_or_past}
use Rattle.row_index.specs.declared.entrant.Entrant.{Entrant}
use Rattle.row_index.specs.Matches.{node, first_of, match_of, IsHeld, ArePlayed, IsBoard}
use Rattle.row_index.proofs.MatchLemmas.{Order, IsBehind, behind_same, behind_through, behind_left}
use Rattle.row_index.proofs.MatchLemmas.{behind_right, one_of}

-- a number is twice its half, or one more
pub halves : (n : ℕ) → (n ≡ 2 * (n / 2)) ⊎ (n ≡ 2 * (n / 2) + 1)
halves n = elim (cases_eq (n % 2) 0) [ inl e ↦ inl (omega arith) | inr e ↦ inr (omega arith) ]

-- a node does not go before the winner of its pair
pub beside : {K : Type 0} (before : K → K → Bool) → Order before → (nodes : List (Option (Entrant K)))
    (at : ℕ) → IsBehind before (node nodes at) (match_of before nodes (at / 2))
beside before order nodes at =
    let left = node nodes (2 * (at / 2)) in
    let right = node nodes (2 * (at / 2) + 1) in
    elim (halves at) [
      | inl e ↦ subst (λ i. IsBehind before (node nodes i) (first_of before left right)) (sym e)
          (behind_left before order left right)
      | inr e ↦ subst (λ i. IsBehind before (node nodes i) (first_of before left right)) (sym e)
          (behind_right before order left right)
    ]

-- none goes before the root
pub root_behind : {K : Type 0} (before : K → K → Bool) → Order before
    → (leaves : ℕ) (nodes : List (Option (Entrant K))) → ArePlayed before leaves nodes →
    (n at : ℕ) → at + 1 < 2 * leaves → 2 * leaves ≤ at + 2 + n → IsBehind before (node nodes at)
    (node nodes (2 * leaves - 2))
root_behind before order leaves nodes played zero at low far =
    let e : at ≡ 2 * leaves - 2 = omega arith in
    subst (λ i. IsBehind before (node nodes at) (node nodes i)) e (behind_same before order (node nodes at))
root_behind before order leaves nodes played (suc n) at low far =
    elim (cases_lt (at + 2) (2 * leaves)) [
      | inl lt ↦
          let inside : at / 2 + 1 < leaves = omega arith in
          let up : IsBehind before (node nodes at) (node nodes (leaves + at / 2)) =
          subst (λ v. IsBehind before (node nodes at) v) (sym (played (at / 2) inside))
          (beside before order nodes at) in
          behind_through before order (node nodes at) (node nodes (leaves + at / 2))
          (node nodes (2 * leaves - 2)) up (root_behind before order leaves nodes played n (leaves + at / 2)
          (omega arith) (omega arith))
      | inr ge ↦
          let e : at ≡ 2 * leaves - 2 = omega arith in
          subst (λ i. IsBehind before (node nodes at) (node nodes i)) e
          (behind_same before order (node nodes at))
    ]

-- the winner of a pair won at one of the two nodes
pub from_pair : {K : Type 0} (before : K → K → Bool) (nodes : List (Option (Entrant K))) (pair : ℕ)
    (e : Entrant K) → match_of before nodes pair ≡ Some e → (node nodes (2 * pair) ≡ Some e)
    ⊎ (node nodes (2 * pair + 1) ≡ Some e)
from_pair before nodes pair e won = elim (one_of before (node nodes (2 * pair)) (node nodes (2 * pair + 1)))
    [ inl is ↦ inl (sym is ∙ won) | inr is ↦ inr (sym is ∙ won) ]

-- past the last node there is nobody
pub none_past : {K : Type 0} (nodes : List (Option (Entrant K))) (at : ℕ) (e : Entrant K) → length nodes ≤ at
    → node nodes at ≡ Some e → ⊥
none_past nodes at e past is = let none : node nodes at ≡ None = get_or_past nodes at None past in absurd cc

-- each winner stands at the leaf of its slot
pub held : {K : Type 0} (before : K → K → Bool) (leaves : ℕ) (nodes : List (Option (Entrant K)))
    → IsBoard before leaves nodes →
    (n at : ℕ) → at < n → (e : Entrant K) → node nodes at ≡ Some e → IsHeld leaves nodes e
held before leaves nodes board zero at low e is = absurd (omega arith)
held before leaves nodes board (suc n) at low e is =
    elim (cases_lt at leaves) [
      | inl lt ↦
          let own : e.slot ≡ at = board.own at e lt is in
          (subst (λ i. i < leaves) (sym own) lt, ap (λ i. node nodes i) own ∙ is)
      | inr ge ↦
          elim (cases_lt (at + 1) (2 * leaves)) [
            | inl inside ↦
                let pair : ℕ = at - leaves in
                let here : leaves + (at - leaves) ≡ at = omega arith in
                let won : match_of before nodes (at - leaves) ≡ Some e =
                sym (board.played (at - leaves) (omega arith)) ∙ ap (λ i. node nodes i) here ∙ is in
                elim (from_pair before nodes (at - leaves) e won) [
                  | inl left ↦ held before leaves nodes board n (2 * (at - leaves)) (omega arith) e left
                  | inr right ↦ held before leaves nodes board n (2 * (at - leaves) + 1)
                      (omega arith) e right
                ]
            | inr past ↦ absurd (none_past nodes at e (omega (arith, board.len)) is)
          ]
    ]
