-- What the paths in a directory add, one path after another.
use Rattle.std.proofs.Common.{◌≡◌, ℕ, ◌+◌, ◌<◌, ◌≤◌, List, [], ◌∷◌, ◌++◌, length, get_or, drop, map, Result}
use Rattle.std.proofs.Common.{Ok, Err, refl, sym, ap, ◌∙◌, append_assoc}
use Rattle.std.proofs.lemmas.List.{append-nil, at_drop_more, at_drop_all}
use Rattle.path_pkg.specs.Told.{Nodes}
use Rattle.path_pkg.specs.Spot.{Spot, spot_text}
use Rattle.path_pkg.specs.Resolved.{paths_below}
use Rattle.path_pkg.specs.Records.{found, onto, then_onto, all_found, found_at, then_check, checked}
use Rattle.path_pkg.specs.Records.{behind_links, then_behind}
use Rattle.path_pkg.specs.declared.record.Record.{Record}
use Rattle.path_pkg.specs.declared.fault.PackError.{PackError}

onto_onto : (a b : List Record) (r : Result (List Record) PackError) → onto a (onto b r) ≡ onto (a ++ b) r
onto_onto a b (Ok c) = ap (λ (x : List Record). Ok x) (sym (append_assoc a b c))
onto_onto a b (Err e) = refl

first_found : (t : Nodes) (p : List ℕ) (ps : List (List ℕ)) → all_found t (p ∷ ps) ≡ then_onto (found t p)
    (all_found t ps)
unfolding all_found
first_found t p ps = refl

none_found : (t : Nodes) → all_found t [] ≡ Ok []
unfolding all_found
none_found t = refl

here : {P : Type 0} (t : Nodes) (g : P → List ℕ) (paths : List P) (i : ℕ) (p : P) → i < length paths
    → p ≡ get_or paths i p
    → all_found t (map g (drop i paths)) ≡ then_onto (found t (g p))
    (all_found t (map g (drop (i + 1) paths)))
here t g paths i p within is =
    at_drop_more (λ ps. all_found t (map g ps)) paths i p within
    ∙ ap (λ x. all_found t (g x ∷ map g (drop (i + 1) paths))) (sym is)
    ∙ first_found t (g p) (map g (drop (i + 1) paths))

-- one path more
pub one_more : {P : Type 0} (t : Nodes) (g : P → List ℕ) (paths : List P) (i : ℕ) (p : P)
    (records more new : List Record) (all : Result (List Record) PackError)
    → i < length paths → p ≡ get_or paths i p → found t (g p) ≡ Ok more → new ≡ records ++ more
    → onto records (all_found t (map g (drop i paths))) ≡ all
    → onto new (all_found t (map g (drop (i + 1) paths))) ≡ all
one_more t g paths i p records more new all within is it made so_far =
    let rest = all_found t (map g (drop (i + 1) paths)) in
    ap (λ x. onto x rest) made ∙ sym (onto_onto records more rest) ∙ ap (λ x. onto records (then_onto x rest))
    (sym it)
    ∙ ap (onto records) (sym (here t g paths i p within is)) ∙ so_far

-- a path that is refused
pub refused_here : {P : Type 0} (t : Nodes) (g : P → List ℕ) (paths : List P) (i : ℕ) (p : P)
    (records : List Record) (e : PackError) (all : Result (List Record) PackError)
    → i < length paths → p ≡ get_or paths i p → found t (g p) ≡ Err e
    → onto records (all_found t (map g (drop i paths))) ≡ all → all ≡ Err e
refused_here t g paths i p records e all within is it so_far =
    sym so_far ∙ ap (onto records) (here t g paths i p within is)
    ∙ ap (λ x. onto records (then_onto x (all_found t (map g (drop (i + 1) paths))))) it

-- no path more
pub all_here : {P : Type 0} (t : Nodes) (g : P → List ℕ) (paths : List P) (i : ℕ) (records : List Record)
    (all : Result (List Record) PackError)
    → length paths ≤ i → onto records (all_found t (map g (drop i paths))) ≡ all → all ≡ Ok records
all_here t g paths i records all past so_far =
    sym so_far ∙ ap (onto records) (at_drop_all (λ ps. all_found t (map g ps)) paths i past ∙ none_found t)
    ∙ ap (λ (x : List Record). Ok x) (append-nil records)

-- what stands in a directory
pub found_there : (t : Nodes) (s : Spot) (paths : List (List ℕ)) (r : Result (List Record) PackError)
    → paths ≡ paths_below t (spot_text s) → all_found t paths ≡ r
    → found_at t s ≡ then_check (then_behind s.links r)
unfolding found_at
found_there t s paths r ep e =
    ap (λ x. then_check (then_behind s.links (all_found t x))) (sym ep)
    ∙ ap (λ x. then_check (then_behind s.links x)) e

-- what stands in a directory where something was found
pub found_behind : (t : Nodes) (s : Spot) (paths : List (List ℕ)) (links : List (List ℕ × List ℕ))
    (found records : List Record)
    → paths ≡ paths_below t (spot_text s) → links ≡ s.links → records ≡ behind_links links found
    → all_found t paths ≡ Ok found → checked records ≡ found_at t s
found_behind t s paths links found records ep el er e =
    ap checked (er ∙ ap (λ l. behind_links l found) el) ∙ sym (found_there t s paths (Ok found) ep e)
