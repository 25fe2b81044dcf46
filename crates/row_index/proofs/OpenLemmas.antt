-- A key changes, and the matches above its slot are played anew, one after another.
use Rattle.std.proofs.Common.{◌≡◌, ◌≢◌, ℕ, zero, suc, ◌+◌, ◌-◌, ◌*◌, ◌/◌, ◌^◌, ◌<◌, ◌≤◌, Bool, true}
use Rattle.std.proofs.Common.{List, Option, Some, None, length, length-set, set, take, sym, ap}
use Rattle.std.proofs.Common.{ap₂, ◌∙◌, subst, inl, inr, arith, pow-suc, get_or-set_same, get_or-set_other}
use Rattle.std.proofs.lemmas.Bool.{cases_eq}
use Rattle.std.proofs.lemmas.List.{set-get_or, take-set-le}
use Rattle.row_index.specs.declared.entrant.Entrant.{Entrant}
use Rattle.row_index.specs.Matches.{node, entered, keeps, first_of, match_of, IsHeld, IsPlayed, ArePlayed}
use Rattle.row_index.specs.Matches.{IsBoard, IsOpen}
use Rattle.row_index.proofs.MatchLemmas.{entered_slot, same_winner}
use Rattle.row_index.proofs.BoardLemmas.{held, from_pair}

-- a match does not read a node of another pair
pub unread : {K : Type 0} (before : K → K → Bool) (nodes : List (Option (Entrant K))) (at pair : ℕ)
    (v : Option (Entrant K)) → pair ≢ at / 2
    → match_of before (set nodes at v) pair ≡ match_of before nodes pair
unread before nodes at pair v other =
    ap₂ (first_of before) (get_or-set_other nodes at (2 * pair) v None (λ e. other (omega arith)))
    (get_or-set_other nodes at (2 * pair + 1) v None (λ e. other (omega arith)))

-- who stands at a leaf after a write at another node
pub held_other : {K : Type 0} (leaves : ℕ) (nodes : List (Option (Entrant K))) (at : ℕ)
    (v : Option (Entrant K)) (e : Entrant K) → e.slot ≢ at → IsHeld leaves nodes e
    → IsHeld leaves (set nodes at v) e
held_other leaves nodes at v e other old = (old.0, get_or-set_other nodes at e.slot v None other ∙ old.1)

-- a key is written at its leaf
pub opened : {K : Type 0} (before : K → K → Bool) (leaves slot : ℕ) (nodes : List (Option (Entrant K)))
    (key : Option K) → IsBoard before leaves nodes → slot < leaves → IsOpen before leaves slot slot
    (set nodes slot (entered slot key))
opened {K} before leaves slot nodes key board within = record { played = played; held = kept }
  where
    played : (pair : ℕ) → pair + 1 < leaves → pair ≢ slot / 2
        → IsPlayed before leaves (set nodes slot (entered slot key)) pair
    played pair lt other =
        get_or-set_other nodes slot (leaves + pair) (entered slot key) None (λ e. omega arith)
        ∙ board.played pair lt ∙ sym (unread before nodes slot pair (entered slot key) other)

    kept : (i : ℕ) (e : Entrant K) → node (set nodes slot (entered slot key)) i ≡ Some e → e.slot ≢ slot
        → IsHeld leaves (set nodes slot (entered slot key)) e
    kept i e is other =
        elim (cases_eq i slot) [
          | inl same ↦
              let short : slot < length nodes = omega (arith, board.len) in
              let there : node (set nodes slot (entered slot key)) slot ≡ entered slot key =
              get_or-set_same nodes slot (entered slot key) None short in
              let came : entered slot key ≡ Some e = sym there
              ∙ ap (λ x. node (set nodes slot (entered slot key)) x) (sym same) ∙ is in
              absurd (other (entered_slot slot key e came))
          | inr apart ↦
              let was : node nodes i ≡ Some e =
              sym (get_or-set_other nodes slot i (entered slot key) None apart) ∙ is in
              held_other leaves nodes slot (entered slot key) e other
              (held before leaves nodes board (i + 1) i (omega arith) e was)
        ]

-- the winner of the open match, where it is of another slot, stands at its leaf
pub winner_held : {K : Type 0} (before : K → K → Bool) (leaves slot at : ℕ)
    (nodes : List (Option (Entrant K))) → IsOpen before leaves slot at nodes → (pair : ℕ) (e : Entrant K)
    → match_of before nodes pair ≡ Some e → e.slot ≢ slot → IsHeld leaves nodes e
winner_held before leaves slot at nodes is pair e won other =
    elim (from_pair before nodes pair e won) [
      | inl left ↦ is.held (2 * pair) e left other
      | inr right ↦
          is.held (2 * pair + 1) e right other
    ]

-- the open match is played, and the one above it is open
pub climbed : {K : Type 0} (before : K → K → Bool) (leaves slot at : ℕ) (nodes : List (Option (Entrant K)))
    → IsOpen before leaves slot at nodes → at / 2 + 1 < leaves → length nodes ≡ 2 * leaves - 1 →
    IsOpen before leaves slot (leaves + at / 2)
    (set nodes (leaves + at / 2) (match_of before nodes (at / 2)))
climbed {K} before leaves slot at nodes is inside len = record { played = played; held = kept }
  where
    won : Option (Entrant K)
    won = match_of before nodes (at / 2)

    next : List (Option (Entrant K))
    next = set nodes (leaves + at / 2) won

    here : node next (leaves + at / 2) ≡ won
    here = get_or-set_same nodes (leaves + at / 2) won None (omega (arith, len))

    played : (pair : ℕ) → pair + 1 < leaves → pair ≢ (leaves + at / 2) / 2 → IsPlayed before leaves next pair
    played pair lt other =
        elim (cases_eq pair (at / 2)) [
          | inl same ↦ ap (λ p. node next (leaves + p)) same ∙ here ∙ ap (λ p. match_of before nodes p)
              (sym same) ∙ sym (unread before nodes (leaves + at / 2) pair won other)
          | inr apart ↦ get_or-set_other nodes (leaves + at / 2) (leaves + pair) won None
              (λ e. apart (omega arith)) ∙ is.played pair lt apart
              ∙ sym (unread before nodes (leaves + at / 2) pair won other)
        ]

    old_held : (i : ℕ) (e : Entrant K) → node next i ≡ Some e → e.slot ≢ slot → IsHeld leaves nodes e
    old_held i e there other =
        elim (cases_eq i (leaves + at / 2)) [
          | inl same ↦ winner_held before leaves slot at nodes is (at / 2) e
              (sym here ∙ ap (λ x. node next x) (sym same) ∙ there) other
          | inr apart ↦ is.held i e (sym (get_or-set_other nodes (leaves + at / 2) i won None apart) ∙ there)
              other
        ]

    kept : (i : ℕ) (e : Entrant K) → node next i ≡ Some e → e.slot ≢ slot → IsHeld leaves next e
    kept i e there other =
        let old : IsHeld leaves nodes e = old_held i e there other in
        let low : e.slot < leaves = old.0 in
        held_other leaves nodes (leaves + at / 2) won e (λ h. omega arith) old

-- nor where the open match ends as before
pub settled : {K : Type 0} (before : K → K → Bool) (leaves slot at : ℕ) (nodes : List (Option (Entrant K)))
    → IsOpen before leaves slot at nodes → at / 2 + 1 < leaves →
    keeps slot (node nodes (leaves + at / 2)) (match_of before nodes (at / 2)) ≡ true
    → ArePlayed before leaves (set nodes (leaves + at / 2) (match_of before nodes (at / 2)))
settled {K} before leaves slot at nodes is inside kept = subst (λ l. ArePlayed before leaves l)
    (sym unchanged) played
  where
    same : node nodes (leaves + at / 2) ≡ match_of before nodes (at / 2)
    same = same_winner nodes slot (node nodes (leaves + at / 2)) (match_of before nodes (at / 2)) kept
        (λ e old other. (is.held (leaves + at / 2) e old other).1)
        (λ e new other. (winner_held before leaves slot at nodes is (at / 2) e new other).1)

    unchanged : set nodes (leaves + at / 2) (match_of before nodes (at / 2)) ≡ nodes
    unchanged = ap (λ v. set nodes (leaves + at / 2) v) (sym same) ∙ set-get_or nodes (leaves + at / 2) None

    played : ArePlayed before leaves nodes
    played pair lt = elim (cases_eq pair (at / 2)) [
      | inl e ↦ ap (λ p. node nodes (leaves + p)) e ∙ same
          ∙ ap (λ p. match_of before nodes p) (sym e)
      | inr apart ↦ is.played pair lt apart
    ]

-- so many levels are left above the node, and so many steps for them
pub record Climbs (leaves at start steps h : ℕ) : Type 0 where
  pub left : ℕ
  pub reaches : leaves ≤ at / 2 + 2 ^ left
  pub spent : steps + 2 * left ≤ start + 2 * h

pub climbs_next : (leaves at start steps h : ℕ) → at / 2 + 1 < leaves → Climbs leaves at start steps h
    → Climbs leaves (leaves + at / 2) start (steps + 2) h
climbs_next leaves at start steps h inside c = next c.left c.reaches c.spent
  where
    next : (left : ℕ) → leaves ≤ at / 2 + 2 ^ left → steps + 2 * left ≤ start + 2 * h
        → Climbs leaves (leaves + at / 2) start (steps + 2) h
    next zero reaches spent = absurd (omega arith)
    next (suc left) reaches spent =
        let double : 2 ^ suc left ≡ 2 ^ left * 2 = pow-suc 2 left in
        record { left = left; reaches = omega (arith, double); spent = omega arith }

-- the matches above a slot are played up to the node `at`, whose winner is in hand
pub record IsClimbing {K : Type 0} (before : K → K → Bool) (leaves slot at : ℕ)
    (start nodes : List (Option (Entrant K))) (risen : Option (Entrant K)) (first steps : ℕ) : Type 0 where
  pub len : length nodes ≡ length start
  pub same : take leaves nodes ≡ take leaves start
  pub is : IsOpen before leaves slot at nodes
  pub risen_is : risen ≡ node nodes at
  pub looks : (h : ℕ) → leaves ≤ 2 ^ h → Climbs leaves at first steps h

pub climbing_next : {K : Type 0} (before : K → K → Bool) (leaves slot at : ℕ)
    (start nodes : List (Option (Entrant K))) (risen : Option (Entrant K)) (first steps : ℕ)
    → length start ≡ 2 * leaves - 1 → at / 2 + 1 < leaves →
    IsClimbing before leaves slot at start nodes risen first steps →
    IsClimbing before leaves slot (leaves + at / 2) start
    (set nodes (leaves + at / 2) (match_of before nodes (at / 2))) (match_of before nodes (at / 2)) first
    (steps + 2)
climbing_next before leaves slot at start nodes risen first steps len inside c =
    let won = match_of before nodes (at / 2) in
    record {
      len = length-set nodes (leaves + at / 2) won ∙ c.len;
      same = take-set-le leaves nodes (leaves + at / 2) won (omega arith) ∙ c.same;
      is = climbed before leaves slot at nodes c.is inside (c.len ∙ len);
      risen_is = sym (get_or-set_same nodes (leaves + at / 2) won None (omega (arith, c.len, len)));
      looks = λ h enough. climbs_next leaves at first steps h inside (c.looks h enough);
    }

-- the matches of the pairs below this one are played
pub record IsPlaying {K : Type 0} (before : K → K → Bool) (leaves pair : ℕ)
    (start nodes : List (Option (Entrant K))) : Type 0 where
  pub len : length nodes ≡ length start
  pub same : take leaves nodes ≡ take leaves start
  pub played : (q : ℕ) → q < pair → IsPlayed before leaves nodes q

pub playing_next : {K : Type 0} (before : K → K → Bool) (leaves pair : ℕ)
    (start nodes : List (Option (Entrant K))) → length start ≡ 2 * leaves - 1 → pair + 1 < leaves
    → IsPlaying before leaves pair start nodes →
    IsPlaying before leaves (pair + 1) start (set nodes (leaves + pair) (match_of before nodes pair))
playing_next {K} before leaves pair start nodes len inside c =
    record {
      len = length-set nodes (leaves + pair) won ∙ c.len;
      same = take-set-le leaves nodes
          (leaves + pair) won (omega arith) ∙ c.same;
      played = played;
    }
  where
    won : Option (Entrant K)
    won = match_of before nodes pair

    here : node (set nodes (leaves + pair) won) (leaves + pair) ≡ won
    here = get_or-set_same nodes (leaves + pair) won None (omega (arith, c.len, len))

    played : (q : ℕ) → q < pair + 1 → IsPlayed before leaves (set nodes (leaves + pair) won) q
    played q lt =
        elim (cases_eq q pair) [
          | inl same ↦ ap (λ p. node (set nodes (leaves + pair) won) (leaves + p)) same ∙ here
              ∙ ap (λ p. match_of before nodes p) (sym same)
              ∙ sym (unread before nodes (leaves + pair) q won (λ e. omega arith))
          | inr apart ↦ get_or-set_other nodes (leaves + pair) (leaves + q) won None
              (λ e. apart (omega arith))
              ∙ c.played q (omega (arith, apart))
              ∙ sym (unread before nodes (leaves + pair) q won (λ e. omega arith))
        ]
