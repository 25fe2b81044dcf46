-- The walk of one bucket for a key.
use Rattle.std.proofs.Common.{◌≡◌, ℕ, ◌<◌, inl, inr, Bool, true, false, List, [], length, Option, Some, None}
use Rattle.std.proofs.Common.{IfNone, get_or, refl, sym, ap, ◌∙◌, subst, true≢false, arith, Contains}
use Rattle.std.proofs.lemmas.List.{get_or_past}
use Rattle.std.specs.Option.{option_map, IsSomeAnd}
use Rattle.slab.specs.Slab.{Slab, get}
use Rattle.slab.proofs.SlabLemmas.{Contains-cons, Contains-cons_cases}
use Rattle.lru_metered.specs.declared.index.Entry.{Entry}
use Rattle.lru_metered.specs.Chain.{first_or}
use Rattle.lru_metered.specs.Index.{pair_of, pairs_at, nexts, homes, Matches, Lists, Leads, IsBucketed}
use Rattle.lru_metered.proofs.IndexLemmas.{Heads, lists-head, lists-same, first-none, trail, trail-lists}

module _ {K V : Type 0} (test : K → Bool) (items : Slab (Entry K V)) (head : Option ℕ) where
  -- what the walk has come to: the entries before it do not pass, and the others it has yet to see
  pub record Searched (previous current : Option ℕ) : Type 0 where
    pub rest : List ℕ
    pub listed : Lists (nexts items) current rest
    pub inside : (list : List ℕ) (x : ℕ) → Lists (nexts items) head list → Contains rest x → Contains list x
    pub seen : (list : List ℕ) (x : ℕ) → Lists (nexts items) head list → Contains list x
        → Matches test (pairs_at items) x → Contains rest x
    pub leads : Leads (nexts items) head previous current

  pub searched-none : (list : List ℕ) → Lists (nexts items) head list → Searched None head
  searched-none list l =
      record {
        rest = list;
        listed = l;
        inside = λ other x k has. subst (λ z. Contains z x) (lists-same (nexts items) head list other l k)
            has;
        seen = λ other x k has m. subst (λ z. Contains z x) (lists-same (nexts items) head other list k l)
            has;
        leads = λ other k. refl;
      }

  module _ (previous : Option ℕ) (at : ℕ) (e : Entry K V) (found : get items at ≡ Some e)
      (s : Searched previous (Some at)) where
    heads : Heads (nexts items) at s.rest
    heads = lists-head (nexts items) at s.rest s.listed

    next-is : e.next ≡ first_or heads.rest None
    next-is = by (e.next) (first_or heads.rest None) (sym (ap (option_map (λ (n : Entry K V). n.next)) found)
        ∙ heads.after)
      where
        by : (x y : Option ℕ) → Some x ≡ Some y → x ≡ y
        by x y is = cc

    pub searched-more : test e.key ≡ false → Searched (Some at) e.next
    searched-more fails =
        record {
          rest = heads.rest;
          listed = subst (λ o. Lists (nexts items) o heads.rest) (sym next-is) heads.lists;
          inside = λ list x l has.
              s.inside list x l (subst (λ z. Contains z x) (sym heads.whole)
              (Contains-cons at x heads.rest has));
          seen = λ list x l has m.
              elim (Contains-cons_cases at x heads.rest
              (subst (λ z. Contains z x) heads.whole (s.seen list x l has m))) [
                | inl is ↦ absurd (true≢false
                    (sym (subst (λ o. IsSomeAnd o (λ (p : K × V). test p.0 ≡ true))
                    (ap (pairs_at items) (sym is) ∙ ap (option_map pair_of) found) m) ∙ fails))
                | inr more ↦ more
              ];
          leads = λ list l. (
            s.inside list at l
                (subst (λ z. Contains z at) (sym heads.whole) (0, omega arith, refl)),
            heads.after
                ∙ ap (λ o. Some o) (sym next-is),
          );
        }

    -- the walk is shorter by one
    pub searched-shorter : length (trail (nexts items) (length items.slots) e.next) < length
        (trail (nexts items) (length items.slots) (Some at))
    searched-shorter =
        let now = trail-lists items (Some at) s.rest s.listed in
        let later = trail-lists items e.next heads.rest
        (subst (λ o. Lists (nexts items) o heads.rest) (sym next-is) heads.lists) in
        omega (arith, ap length now, ap length later, ap length heads.whole)

  pub searched-all : (previous : Option ℕ) → Searched previous None → (list : List ℕ) (x : ℕ)
      → Lists (nexts items) head list → Contains list x → ¬ (Matches test (pairs_at items) x)
  searched-all previous s list x l has m =
      let none = first-none s.rest (sym s.listed.starts) in
      let there = subst (λ z. Contains z x) none (s.seen list x l has m) in
      absurd (omega (arith, there.1))

-- what a look-up says of a key, by what was found
pub if-none : {X : Type 0} {P Q : Type 0} (o : Option X) → (P → Q) → IfNone o P → IfNone o Q
if-none None f p = f p
if-none (Some x) f p = tt

module _ {K V : Type 0} where
  -- a key that passes belongs to the bucket of its hash
  pub home-of : (eq : K → K → Bool) (place : K → ℕ) (pairs : ℕ → Option (K × V)) (k : K) (x : ℕ)
      → ((l : K) → eq k l ≡ true → place k ≡ place l) → Matches (eq k) pairs x
      → homes place pairs x ≡ Some (place k)
  home-of eq place pairs k x respects m = by (pairs x) refl
    where
      by : (o : Option (K × V)) → pairs x ≡ o → homes place pairs x ≡ Some (place k)
      by None is = absurd (subst (λ o. IsSomeAnd o (λ (p : K × V). eq k p.0 ≡ true)) is m)
      by (Some p) is = ap (option_map (λ (q : K × V). place q.0)) is
          ∙ ap (λ n. Some n) (sym (respects p.0
          (subst (λ o. IsSomeAnd o (λ (q : K × V). eq k q.0 ≡ true)) is m)))

-- where there are no buckets nothing belongs to one
pub none-home : (next : ℕ → Option (Option ℕ)) (home : ℕ → Option ℕ) (heads : List (Option ℕ))
    → IsBucketed next home heads → length heads ≡ 0 → (x b : ℕ) → home x ≡ Some b → ⊥
none-home next home heads t none x b is =
    let head : get_or heads b None ≡ None = get_or_past heads b None (omega (arith, none)) in
    let empty : t.lists b ≡ [] = first-none (t.lists b) (sym (t.runs b).starts ∙ head) in
    let has : Contains [] x = subst (λ l. Contains l x) empty ((t.members b x).1 is) in
    absurd (omega (arith, has.1))
