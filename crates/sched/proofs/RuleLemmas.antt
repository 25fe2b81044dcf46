-- What the rule gives of its views, and how it passes on to a state in which one view changed.
use Rattle.std.proofs.Common.{◌≡◌, ℕ, ◌<◌, ◌≤◌, ◌≢◌, length, true, cond, Option, ap, ⊎_elim, arith}
use mathlib.Core.Option.{some}
use lib.ListN.{get_elem?}
use mathlib.Core.Logic.{dite}
use native.Mathlib.Decide.{dec_le}
use Rattle.atomic_table.specs.Table.{State}
use Rattle.sched.specs.declared.view.View.{View}
use Rattle.core_rules.specs.declared.start.Start.{Start}
use Rattle.sched.specs.Lists.{Has, total, only, times}
use Rattle.sched.specs.Rule.{Seen, Holds, IsOut, has_turn}
use Rattle.sched.proofs.SumLemmas.{term_le, terms_le, below_only, below_one, total_one}

module _ (start : Start) (s : State (Option Seen) View) (h : Holds start s) where
  -- an own place is below the log's length
  pub own_below : (j : ℕ) (v : View) (k : ℕ) → get_elem? s.views j ≡ some v → Has k v.own → k < length h.log
  own_below j v k at has = dite (dec_le (length h.log) k)
      (λ le. absurd (omega (
        arith,
        h.own (only k),
        term_le (λ u. total (only k) u.own) s.views j v at,
        (below_only k (length h.log)).1 le,
      )))
      (λ lt. omega arith)

  -- no place is own twice
  pub own_once : (j : ℕ) (v : View) (k : ℕ) → get_elem? s.views j ≡ some v → times k v.own ≤ 1
  own_once j v k at = omega (
    arith,
    h.own (only k),
    term_le (λ u. total (only k) u.own) s.views j v at,
    (below_only k (length h.log)).0,
  )

  -- no place is own to two
  pub own_alone : (i j : ℕ) (v u : View) (k : ℕ) → get_elem? s.views i ≡ some v
      → get_elem? s.views j ≡ some u → j ≢ i → Has k v.own → Has k u.own → ⊥
  own_alone i j v u k at there ne mine theirs =
      omega (
        arith,
        h.own (only k),
        terms_le (λ w. total (only k) w.own) s.views i j v u ne at there,
        (below_only k (length h.log)).0,
      )

  pub own_few : (j : ℕ) (v : View) → get_elem? s.views j ≡ some v → length v.own ≤ length h.log
  own_few j v at = omega (
    arith,
    h.own (λ _. 1),
    term_le (λ u. total (λ _. 1) u.own) s.views j v at,
    below_one (length h.log),
    total_one v.own,
  )

  pub held_few : (j : ℕ) (v : View) → get_elem? s.views j ≡ some v → v.held ≤ h.made
  held_few j v at = omega (arith, h.held, term_le (λ u. u.held) s.views j v at)

  -- where one has the turn, the slot is out, and nobody else has it
  pub turn_taken : (j : ℕ) (v : View) → get_elem? s.views j ≡ some v → v.turn ≡ true → IsOut h.turn s.homes
  turn_taken j v at has =
      ⊎_elim (λ home. let mine : has_turn v ≡ 1 = ap (λ b. cond b 1 0) has in
      absurd (omega (arith, home.free, h.turns, term_le has_turn s.views j v at))) (λ out. out) h.slot

  pub turn_alone : (i j : ℕ) (v u : View) → get_elem? s.views i ≡ some v → get_elem? s.views j ≡ some u
      → j ≢ i → v.turn ≡ true → u.turn ≡ true → ⊥
  turn_alone i j v u at there ne has theirs =
      let mine : has_turn v ≡ 1 = ap (λ b. cond b 1 0) has in
      let two : has_turn u ≡ 1 = ap (λ b. cond b 1 0) theirs in
      let out = turn_taken i v at has in
      omega (arith, out.taken, h.turns, terms_le has_turn s.views i j v u ne at there)
