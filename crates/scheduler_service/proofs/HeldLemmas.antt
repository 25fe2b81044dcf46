-- What becomes of passes that are used, split off and joined.
use Rattle.std.proofs.Common.{◌≡◌, ℕ, suc, ◌<◌, List, [], ◌∷◌, ◌++◌, length, map, true, false, refl, sym}
use Rattle.std.proofs.Common.{ap, ◌∙◌, subst, cond, append_assoc, arith}
use Rattle.std.specs.Prelude.{All, nat_le, slice_index_or, Result, Ok, Err, OnErr}
use Rattle.std.specs.List.{sum_by}
use Rattle.std.proofs.lemmas.List.{append-nil}
use Rattle.std.proofs.lemmas.List.Elements.{All-nil, All-push, All-weaker}
use Rattle.std.proofs.lemmas.List.Sums.{sum_by-cons, sum_by_push}
use mathlib.Core.List.{IsPrefix}
use Rattle.core_rules.specs.declared.entry.CoreEntry.{CoreEntry}
use Rattle.sched.specs.Lists.{longer, shorter, merged}
use Rattle.sched.specs.Pass.{Told, Whose, IsPassOf, IsSplit, IsJoined, Stays, count_of, held_of, splits_of}
use Rattle.sched.specs.Pass.{split_off}
use Rattle.scheduler_service.specs.Workers.{longest, all_places, AreJoined, AreTakenBack, HasAllBack}

-- ---- lists that begin others

prefix_self : {A : Type 0} (xs : List A) → IsPrefix xs xs
prefix_self xs = ([], append-nil xs)

prefix_trans : {A : Type 0} (xs ys zs : List A) → IsPrefix xs ys → IsPrefix ys zs → IsPrefix xs zs
prefix_trans xs ys zs p q =
    (p.0 ++ q.0, sym (append_assoc xs p.0 q.0) ∙ (ap (λ w. w ++ q.0) p.1 ∙ q.1))

-- ---- one pass

pub stays_on : (a b c : Told) → Stays a b → Stays b c → Stays a c
stays_on a b c first next = record {
  of = next.of ∙ first.of;
  start = next.start ∙ first.start;
  held = next.held ∙ first.held;
  splits = next.splits ∙ first.splits;
}

pub still_of : (scheduler : Whose) (a b : Told) → IsPassOf scheduler a → Stays a b → IsPassOf scheduler b
still_of scheduler a b is stays = record { of = stays.of ∙ is.of; start = stays.start ∙ is.start }

pub split_of : (scheduler : Whose) (a b : Told) → IsPassOf scheduler a → IsSplit a b → IsPassOf scheduler b
split_of scheduler a b is split = record { of = split.of ∙ is.of; start = split.start ∙ is.start }

-- what is split off a pass is so of the pass that counts it
pub split_late : (k : ℕ) (a b : Told) → IsSplit a b → IsSplit (split_off k a) b
split_late k a b split = record {
  of = split.of;
  start = split.start;
  front = split.front;
  own = split.own;
  held = split.held;
  splits = split.splits;
  count = split.count;
}

pub split_early : (k : ℕ) (a b : Told) → IsSplit (split_off k a) b → IsSplit a b
split_early k a b split = record {
  of = split.of;
  start = split.start;
  front = split.front;
  own = split.own;
  held = split.held;
  splits = split.splits;
  count = split.count;
}

pub counting_of : (scheduler : Whose) (k : ℕ) (a : Told) → IsPassOf scheduler a
    → IsPassOf scheduler (split_off k a)
counting_of scheduler k a is = record { of = is.of; start = is.start }

-- ---- passes that are joined, one after another

longest_push : (front : List CoreEntry) (passes : List Told) (p : Told)
    → longest front (passes ++ p ∷ []) ≡ longer (longest front passes) p.front
longest_push front [] p = refl
longest_push front (q ∷ passes) p = longest_push (longer front q.front) passes p

places_push : (own : List ℕ) (passes : List Told) (p : Told)
    → all_places own (passes ++ p ∷ []) ≡ merged (all_places own passes) p.own
places_push own [] p = refl
places_push own (q ∷ passes) p = places_push (merged own q.own) passes p

-- of two fronts of which the shorter begins the longer, each begins it
both_begin : (xs ys : List CoreEntry) → IsPrefix (shorter xs ys) (longer xs ys)
    → IsPrefix xs (longer xs ys) × IsPrefix ys (longer xs ys)
both_begin xs ys begins =
    elim (nat_le (length xs) (length ys)) as (λ b. IsPrefix (cond b xs ys) (cond b ys xs)
    → IsPrefix xs (cond b ys xs) × IsPrefix ys (cond b ys xs)) [
      | true ↦ λ is. (is, prefix_self ys)
      | false ↦ λ is. (prefix_self xs, is)
    ] begins

pub none_joined : (a : Told) → AreJoined [] a a
none_joined a = record {
  of = refl;
  start = refl;
  front = refl;
  begins = prefix_self a.front;
  begin = All-nil (λ p. IsPrefix p.front a.front);
  own = refl;
  count = omega arith;
  held = omega arith;
  splits = omega arith;
}

pub one_joined : (passes : List Told) (p a b c : Told) → AreJoined passes a b → IsJoined b p c
    → AreJoined (passes ++ p ∷ []) a c
one_joined passes p a b c before one =
    let both : IsPrefix b.front c.front × IsPrefix p.front c.front =
    subst (λ f. IsPrefix b.front f × IsPrefix p.front f) (sym one.front)
    (both_begin b.front p.front (subst (IsPrefix (shorter b.front p.front)) one.front one.begins)) in
    record {
      of = one.of ∙ before.of;
      start = one.start ∙ before.start;
      front = one.front
          ∙ (ap (λ f. longer f p.front) before.front ∙ sym (longest_push a.front passes p));
      begins = prefix_trans a.front b.front c.front before.begins both.0;
      begin = All-push (λ q. IsPrefix q.front c.front) passes p
          (All-weaker (λ q. IsPrefix q.front b.front) (λ q. IsPrefix q.front c.front)
          (λ q is. prefix_trans q.front b.front c.front is both.0) passes before.begin) both.1;
      own = one.own ∙ (ap (λ o. merged o p.own) before.own ∙ sym (places_push a.own passes p));
      count = omega (arith, one.count, before.count, sum_by_push count_of passes p);
      held = omega (arith, one.held, before.held, sum_by_push held_of passes p);
      splits = omega (arith, one.splits, before.splits, sum_by_push splits_of passes p);
    }

-- where no pass was split off, the pass stays
pub none_taken : (most : ℕ) (a : Told) → AreTakenBack most a a
none_taken most a = record {
  passes = [];
  within = omega arith;
  split = All-nil (IsSplit a);
  joined = record {
    of = refl;
    start = refl;
    front = refl;
    begins = prefix_self a.front;
    begin = All-nil (λ p. IsPrefix p.front a.front);
    own = refl;
    count = omega arith;
    held = omega arith;
    splits = omega arith;
  };
}

pub on_err : {X E : Type 0} (r : Result X E) (P : Type 0) → P → OnErr r P
on_err (Ok x) P p = tt
on_err (Err e) P p = p

-- ---- sums

-- workers that hold what they held, one by one, hold as much in all
pub sum_same : {W : Type 0} (f : W → ℕ) (xs ys : List W) → length ys ≡ length xs
    → ((i : ℕ) (d : W) → i < length xs → f (slice_index_or ys i d) ≡ f (slice_index_or xs i d))
    → sum_by f ys ≡ sum_by f xs
sum_same f [] [] e same = refl
sum_same f [] (y ∷ ys) e same = absurd (omega (arith, e))
sum_same f (x ∷ xs) [] e same = absurd (omega (arith, e))
sum_same f (x ∷ xs) (y ∷ ys) e same =
    let first : f y ≡ f x = same 0 x (omega arith) in
    let rest = sum_same f xs ys (omega (arith, e)) (λ i d below. same (suc i) d (omega (arith, below))) in
    omega (arith, sum_by-cons f x xs, sum_by-cons f y ys, first, rest)

-- a sum of ones, and of nothing
pub sum_ones : {W : Type 0} (f : W → ℕ) (ws : List W) → All (λ w. f w ≡ 1) ws → sum_by f ws ≡ length ws
sum_ones f [] all = refl
sum_ones f (w ∷ ws) all =
    let first : f w ≡ 1 = all 0 w (omega arith) in
    let rest = sum_ones f ws (λ i d below. all (suc i) d (omega (arith, below))) in
    omega (arith, sum_by-cons f w ws, first, rest)

pub sum_none : {W : Type 0} (f : W → ℕ) (ws : List W) → All (λ w. f w ≡ 0) ws → sum_by f ws ≡ 0
sum_none f [] all = refl
sum_none f (w ∷ ws) all =
    let first : f w ≡ 0 = all 0 w (omega arith) in
    let rest = sum_none f ws (λ i d below. all (suc i) d (omega (arith, below))) in
    omega (arith, sum_by-cons f w ws, first, rest)

-- passes that were taken back are all that were split off
pub all_back : (most : ℕ) (a b : Told) → AreTakenBack most a b → HasAllBack a b
all_back most a b taken =
    let none = sum_none splits_of taken.passes
    (All-weaker (IsSplit a) (λ p. splits_of p ≡ 0) (λ p split. split.splits) taken.passes taken.split) in
    let ones = sum_ones held_of taken.passes
    (All-weaker (IsSplit a) (λ p. held_of p ≡ 1) (λ p split. split.held) taken.passes taken.split) in
    record {
      number = length taken.passes;
      splits = omega (arith, taken.joined.splits, none);
      held = omega (arith, taken.joined.held, ones);
    }

pub sum_mapped : {W P : Type 0} (g : W → P) (f : P → ℕ) (ws : List W) → sum_by f (map g ws) ≡ sum_by
    (λ w. f (g w)) ws
sum_mapped g f [] = refl
sum_mapped g f (w ∷ ws) = omega (
  arith,
  sum_by-cons f (g w) (map g ws),
  sum_by-cons (λ w. f (g w)) w ws,
  sum_mapped g f ws,
)
