-- Workers that are hired one after another, and what holds of each of them.
use Rattle.std.proofs.Common.{◌≡◌, ℕ, ◌<◌, List, [], ◌∷◌, ◌++◌, length, map, sym, ap, ◌∙◌, subst, arith}
use Rattle.std.specs.Prelude.{All, slice_index_or}
use Rattle.std.specs.List.{sum_by}
use Rattle.std.proofs.lemmas.List.{get_or-map, length-map, map-append, length-append}
use Rattle.std.proofs.lemmas.List.Elements.{All-push, All-weaker}
use Rattle.std.proofs.lemmas.List.Sums.{sum_by_push}
use Rattle.sched.specs.Pass.{Told, Whose, IsPassOf, IsSplit, IsJoined, Stays, split_off, held_of, splits_of}
use Rattle.scheduler_service.specs.Workers.{AreJoined, HasAllBack}
use Rattle.scheduler_service.proofs.HeldLemmas.{one_joined, split_of, still_of, split_late, split_early}
use Rattle.scheduler_service.proofs.HeldLemmas.{sum_mapped, sum_none, sum_same}

-- ---- one after another

pub one_hired : {W T P : Type 0} (kit : W → T) (pass : W → P) (held : P → ℕ) (Is : P → Type 0)
    (ws new : List W) (ts : List T) (w : W)
    → map kit ws ≡ ts → All (λ x. Is (pass x)) ws → sum_by (λ x. held (pass x)) ws ≡ length ts
    → new ≡ ws ++ w ∷ [] → Is (pass w) → held (pass w) ≡ 1
    → (map kit new ≡ ts ++ kit w ∷ []) × All (λ x. Is (pass x)) new
    × (sum_by (λ x. held (pass x)) new ≡ length (ts ++ kit w ∷ []))
one_hired kit pass held Is ws new ts w kits all hold is one holds = (
  ap (map kit) is ∙ (map-append kit ws (w ∷ []) ∙ ap (λ l. l ++ kit w ∷ []) kits),
  subst (All (λ x. Is (pass x))) (sym is) (All-push (λ x. Is (pass x)) ws w all one),
  ap (sum_by (λ x. held (pass x))) is
      ∙ omega (
        arith,
        sum_by_push (λ x. held (pass x)) ws w,
        holds,
        hold,
        length-append ts (kit w ∷ []),
      ),
)

-- ---- of which scheduler their passes are

pub hired_of : {W : Type 0} (pass : W → Told) (scheduler : Whose) (a : Told) (ws : List W) → IsPassOf
    scheduler a
    → All (λ w. IsSplit a (pass w)) ws → All (λ w. IsPassOf scheduler (pass w)) ws
hired_of pass scheduler a ws is split =
    λ i d below. split_of scheduler a (pass (slice_index_or ws i d)) is (split i d below)

pub stayed_of : {W : Type 0} (pass : W → Told) (scheduler : Whose) (xs ys : List W) → length ys ≡ length xs
    → All (λ w. IsPassOf scheduler (pass w)) xs
    → ((i : ℕ) (d : W) → i < length xs → Stays (pass (slice_index_or xs i d)) (pass (slice_index_or ys i d)))
    → All (λ w. IsPassOf scheduler (pass w)) ys
stayed_of pass scheduler xs ys same of stay =
    λ i d below.
    let within : i < length xs = omega (arith, same, below) in
    still_of scheduler (pass (slice_index_or xs i d)) (pass (slice_index_or ys i d)) (of i d within)
    (stay i d within)

-- ---- of which pass they were split off

pub hired_late : (k : ℕ) (a b : Told) (ps : List Told) → b ≡ split_off k a → All (IsSplit a) ps → All (IsSplit b) ps
hired_late k a b ps is split = subst (λ x. All (IsSplit x) ps) (sym is)
    (All-weaker (IsSplit a) (IsSplit (split_off k a)) (λ p one. split_late k a p one) ps split)

pub hired_early : {W : Type 0} (pass : W → Told) (k : ℕ) (a b : Told) (ws : List W) → b ≡ split_off k a
    → All (λ w. IsSplit b (pass w)) ws → All (λ w. IsSplit a (pass w)) ws
hired_early pass k a b ws is split =
    All-weaker (λ w. IsSplit (split_off k a) (pass w)) (λ w. IsSplit a (pass w))
    (λ w one. split_early k a (pass w) one) ws (subst (λ x. All (λ w. IsSplit x (pass w)) ws) is split)

-- ---- what is gathered of them

pub one_gathered : {W T : Type 0} (kit : W → T) (pass : W → Told) (ws : List W) (w : W) (ts new : List T)
    (a b c : Told)
    → ts ≡ map kit ws → new ≡ ts ++ kit w ∷ [] → AreJoined (map pass ws) a b → IsJoined b (pass w) c
    → (new ≡ map kit (ws ++ w ∷ [])) × AreJoined (map pass (ws ++ w ∷ [])) a c
one_gathered kit pass ws w ts new a b c kits is joined one = (
  is ∙ (ap (λ l. l ++ kit w ∷ []) kits ∙ sym (map-append kit ws (w ∷ []))),
  subst (λ ps. AreJoined ps a c) (sym (map-append pass ws (w ∷ [])))
      (one_joined (map pass ws) (pass w) a b c joined one),
)

-- their passes are all that were split off, so that none is out
pub gathered_all : {W : Type 0} (pass : W → Told) (k : ℕ) (a b : Told) (xs ys : List W) → length ys ≡ length xs
    → All (λ w. IsSplit a (pass w)) xs → sum_by (λ w. held_of (pass w)) xs ≡ k
    → ((i : ℕ) (d : W) → i < length xs → Stays (pass (slice_index_or xs i d)) (pass (slice_index_or ys i d)))
    → AreJoined (map pass ys) (split_off k a) b → HasAllBack a b
gathered_all pass k a b xs ys same split hold stay joined =
    let none = sum_none (λ w. splits_of (pass w)) xs
    (All-weaker (λ w. IsSplit a (pass w)) (λ w. splits_of (pass w) ≡ 0) (λ w one. one.splits) xs split) in
    let splits = sum_same (λ w. splits_of (pass w)) xs ys same (λ i d below. (stay i d below).splits) in
    let held = sum_same (λ w. held_of (pass w)) xs ys same (λ i d below. (stay i d below).held) in
    record {
      number = k;
      splits = omega (arith, joined.splits, sum_mapped pass splits_of ys, splits, none);
      held = omega (arith, joined.held, sum_mapped pass held_of ys, held, hold);
    }

-- what holds of each worker holds of each kit, and of the passes that they began and ended with
pub each_worker : {W T P : Type 0} (kit : W → T) (pass : W → P) (Q : T → P → T → P → Type 0)
    (xs ys : List W) (ts us : List T)
    → map kit xs ≡ ts → us ≡ map kit ys → length ys ≡ length xs
    → (back : T → P → W)
    → ((i : ℕ) (w : W) → i < length xs → Q (kit (slice_index_or xs i w)) (pass (slice_index_or xs i w))
    (kit (slice_index_or ys i w)) (pass (slice_index_or ys i w)))
    → (i : ℕ) (d : T) (p : P) → i < length ts → Q (slice_index_or ts i d) (slice_index_or (map pass xs) i p)
    (slice_index_or us i d) (slice_index_or (map pass ys) i p)
each_worker kit pass Q xs ys ts us before after same back holds i d p below =
    let w = back d p in
    let count : length ts ≡ length xs = sym (ap length before) ∙ length-map xs kit in
    let within : i < length xs = omega arith in
    let first : slice_index_or ts i d ≡ kit (slice_index_or xs i w) = ap (λ l. slice_index_or l i d)
    (sym before) ∙ get_or-map kit xs i w d within in
    let second : slice_index_or us i d ≡ kit (slice_index_or ys i w) = ap (λ l. slice_index_or l i d) after
    ∙ get_or-map kit ys i w d (omega arith) in
    let began : slice_index_or (map pass xs) i p ≡ pass (slice_index_or xs i w) =
    get_or-map pass xs i w p within in
    let ended : slice_index_or (map pass ys) i p ≡ pass (slice_index_or ys i w) =
    get_or-map pass ys i w p (omega arith) in
    subst (λ t. Q t (slice_index_or (map pass xs) i p) (slice_index_or us i d) (slice_index_or (map pass ys)
    i p))
    (sym first)
    (subst (λ q. Q (kit (slice_index_or xs i w)) q (slice_index_or us i d) (slice_index_or (map pass ys) i p))
    (sym began)
    (subst (λ t. Q (kit (slice_index_or xs i w)) (pass (slice_index_or xs i w)) t (slice_index_or (map pass
    ys) i p))
    (sym second)
    (subst (λ q. Q (kit (slice_index_or xs i w)) (pass (slice_index_or xs i w)) (kit (slice_index_or ys i
    w)) q)
    (sym ended) (holds i w within))))
