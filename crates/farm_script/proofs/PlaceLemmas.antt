-- Places of elements, tests of lists, and equal addresses.
use Rattle.std.proofs.Common.{◌≡◌, ℕ, ◌+◌, ◌==◌, Bool, true, false, cond, ◌||◌, ◌&&◌, List, [], ◌∷◌}
use Rattle.std.proofs.Common.{◌++◌, map, Option, Some, None, is_some, refl, sym, ap, subst, ◌∙◌, eqb-true}
use Rattle.std.proofs.Common.{eq-eqb, nat_eq, get_or, suc, ◌⊎◌, inl, inr, arith}
use Rattle.std.proofs.Math.ListN.{set}
use Rattle.std.specs.List.{list_any, position, position_from}
use Rattle.std.specs.Cmp.Lexicographic.{pointwise, same_text}
use Rattle.std.proofs.lemmas.Cmp.{nat_list_eq_equiv}
use Rattle.std.proofs.lemmas.Iterator.Adapters.{position_from-zero}
use Rattle.dist_types.specs.declared.addr.Addr.{Addr}
use Rattle.dist_types.specs.declared.addr.Addr.TheVariants.{V4, V6}
use Rattle.dist_types.specs.Addr.{same_addr}
use Rattle.farm_script.specs.declared.setup.SetupServer.{SetupServer}
use Rattle.farm_script.specs.declared.setup.BuilderLine.{BuilderLine}
use Rattle.farm_script.specs.Place.{has_addr}
use Rattle.farm_script.specs.Script.{answered}
use Rattle.farm_script.proofs.FieldLemmas.{cond_is, cond_off}
use Rattle.farm_script.proofs.VisibleLemmas.{both}

some_or : (b v : Bool) (i : ℕ) (o : Option ℕ) → is_some o ≡ v → is_some (cond b (Some i) o) ≡ (b || v)
some_or true v i o e = refl
some_or false v i o e = e

any_from : {X : Type 0} (p : X → Bool) (i : ℕ) (xs : List X) → is_some (position_from p i xs) ≡ list_any p xs
any_from p i [] = refl
any_from p i (x ∷ xs) = some_or (p x) (list_any p xs) i (position_from p (i + 1) xs) (any_from p (i + 1) xs)

-- an element passes where there is a first one that does
pub any_at : {X : Type 0} (p : X → Bool) (xs : List X) → is_some (position p xs) ≡ list_any p xs
any_at p xs = ap (λ (o : Option ℕ). is_some o) (position_from-zero p xs) ∙ any_from p 0 xs

any_map : (addr : Addr) (ss : List SetupServer) → list_any (λ s. same_addr s.addr addr) ss ≡ has_addr addr
    (map (λ s. s.addr) ss)
any_map addr [] = refl
any_map addr (s ∷ ss) = ap (λ (v : Bool). same_addr s.addr addr || v) (any_map addr ss)

pub there : (addr : Addr) (ss : List SetupServer)
    → is_some (position (λ s. same_addr s.addr addr) ss) ≡ has_addr addr (map (λ s. s.addr) ss)
there addr ss = any_at (λ s. same_addr s.addr addr) ss ∙ any_map addr ss

-- the test on addresses is equality
pub same_is : (a b : Addr) → same_addr a b ≡ true → a ≡ b
same_is (V4 a p) (V4 b q) e =
    let t = both (pointwise nat_eq a b) (p == q) e in
    let ip : a ≡ b = same_text a b (sym t.0) in
    let port : p ≡ q = eqb-true p q t.1 in
    cc
same_is (V6 a p) (V6 b q) e =
    let t = both (pointwise nat_eq a b) (p == q) e in
    let ip : a ≡ b = same_text a b (sym t.0) in
    let port : p ≡ q = eqb-true p q t.1 in
    cc
same_is (V4 a p) (V6 b q) e = absurd cc
same_is (V6 a p) (V4 b q) e = absurd cc

both_true : (a b : Bool) → a ≡ true → b ≡ true → (a && b) ≡ true
both_true true b e f = f
both_true false b e f = absurd cc

pub same_self : (a : Addr) → same_addr a a ≡ true
same_self (V4 a p) = both_true (pointwise nat_eq a a) (p == p) (nat_list_eq_equiv.refl a) (eq-eqb p p refl)
same_self (V6 a p) = both_true (pointwise nat_eq a a) (p == p) (nat_list_eq_equiv.refl a) (eq-eqb p p refl)

-- ---- the answer of the first server at an address

abbrev with_answer : BuilderLine → SetupServer → SetupServer
with_answer answer s = record s { builder = s.builder ++ answer ∷ [] }

none_cond : (b : Bool) (i : ℕ) (o : Option ℕ) → cond b (Some i) o ≡ None → (b ≡ false) × (o ≡ None)
none_cond true i o e = absurd cc
none_cond false i o e = (refl, e)

none_answered : (addr : Addr) (answer : BuilderLine) (k : ℕ) (ss : List SetupServer)
    → position_from (λ s. same_addr s.addr addr) k ss ≡ None → ss ≡ answered addr answer ss
none_answered addr answer k [] e = refl
none_answered addr answer k (s ∷ ss) e =
    let p = none_cond (same_addr s.addr addr) k (position_from (λ x. same_addr x.addr addr) (k + 1) ss) e in
    ap (λ (xs : List SetupServer). s ∷ xs) (none_answered addr answer (k + 1) ss p.1)
    ∙ sym (cond_off (same_addr s.addr addr) (with_answer answer s ∷ ss) (s ∷ answered addr answer ss) p.0)

pub answered_none : (addr : Addr) (answer : BuilderLine) (ss : List SetupServer)
    → position (λ s. same_addr s.addr addr) ss ≡ None → ss ≡ answered addr answer ss
answered_none addr answer ss e = none_answered addr answer 0 ss
    (sym (position_from-zero (λ s. same_addr s.addr addr) ss) ∙ e)

-- at index j stands the server that gets the answer
record IsAnswered (addr : Addr) (answer : BuilderLine) (ss : List SetupServer) (j : ℕ) : Type 0 where
  put : (d s : SetupServer) → d ≡ get_or ss j d → s ≡ with_answer answer d
      → set ss j s ≡ answered addr answer ss

some_cond : (b : Bool) (i k : ℕ) (o : Option ℕ) → cond b (Some i) o ≡ Some k → ((b ≡ true) × (i ≡ k))
    ⊎ ((b ≡ false) × (o ≡ Some k))
some_cond true i k o e = inl (refl, cc)
some_cond false i k o e = inr (refl, e)

some_answered : (addr : Addr) (answer : BuilderLine) (k i : ℕ) (ss : List SetupServer)
    → position_from (λ s. same_addr s.addr addr) k ss ≡ Some i
    → (j : ℕ) × (i ≡ k + j) × IsAnswered addr answer ss j
some_answered addr answer k i [] e = absurd cc
some_answered addr answer k i (s ∷ ss) e =
    elim (some_cond (same_addr s.addr addr) k i (position_from (λ x. same_addr x.addr addr) (k + 1) ss) e) [
      | inl p ↦ (
        0,
        omega (arith, p.1),
        record {
          put = λ d y at is. ap (λ (x : SetupServer). x ∷ ss) (is ∙ ap (with_answer answer) at)
              ∙ sym (cond_is (same_addr s.addr addr) (with_answer answer s ∷ ss)
              (s ∷ answered addr answer ss) p.0);
        },
      )
      | inr p ↦
          let r = some_answered addr answer (k + 1) i ss p.1 in (
            suc r.0,
            omega (arith, r.1),
            record {
              put = λ d y at is. ap (λ (xs : List SetupServer). s ∷ xs) (r.2.put d y at is)
                  ∙ sym (cond_off (same_addr s.addr addr) (with_answer answer s ∷ ss)
                  (s ∷ answered addr answer ss) p.0);
            },
          )
    ]

pub answered_some : (addr : Addr) (answer : BuilderLine) (ss : List SetupServer) (i : ℕ) (d s : SetupServer)
    → position (λ x. same_addr x.addr addr) ss ≡ Some i
    → d ≡ get_or ss i d → s ≡ record d { builder = d.builder ++ answer ∷ [] }
    → set ss i s ≡ answered addr answer ss
answered_some addr answer ss i d s e at is =
    let r = some_answered addr answer 0 i ss (sym (position_from-zero (λ x. same_addr x.addr addr) ss) ∙ e) in
    let same : r.0 ≡ i = omega (arith, r.1) in
    let put : (j : ℕ) → r.0 ≡ j → d ≡ get_or ss j d → set ss j s ≡ answered addr answer ss = λ j k at_j.
    subst (λ (n : ℕ). d ≡ get_or ss n d → set ss n s ≡ answered addr answer ss) k
    (λ q. r.2.put d s q is) at_j in
    put i same at
