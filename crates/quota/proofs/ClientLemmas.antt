-- Clients found by their names.
use Rattle.std.proofs.Common.{◌≡◌, ℕ, ◌+◌, List, [], ◌∷◌, Bool, cond, not, map, length, position}
use Rattle.std.proofs.Common.{Some, None, refl, ap, ◌∙◌, sym}
use Rattle.std.specs.Prelude.{nat_lt}
use Rattle.std.specs.List.{prefix_len, position_or_len}
use Rattle.std.specs.Str.{bytes_eq}
use Rattle.std.proofs.lemmas.List.{length-map}
use Rattle.quota.specs.Clients.{client_of, place_of}

prefix_map : {X Y : Type 0} (p : Y → Bool) (f : X → Y) (xs : List X)
    → prefix_len p (map f xs) ≡ prefix_len (λ x. p (f x)) xs
prefix_map p f [] = refl
prefix_map p f (x ∷ xs) = ap (λ n. cond (p (f x)) (1 + n) 0) (prefix_map p f xs)

pub position_map : {X Y : Type 0} (p : Y → Bool) (f : X → Y) (xs : List X)
    → position p (map f xs) ≡ position (λ x. p (f x)) xs
position_map p f xs =
    ap (λ i. cond (nat_lt i (length (map f xs))) (Some i) None) (prefix_map (λ y. not (p y)) f xs)
    ∙ ap (λ n. cond (nat_lt (position_or_len (λ x. p (f x)) xs) n) (Some (position_or_len (λ x. p (f x)) xs))
    None) (length-map xs f)

-- the place among the keys of a table is that among the clients
pub placed : {K : Type 0} (text : K → List ℕ) (name : List ℕ) (es : List (K × ℕ))
    → position (λ k. bytes_eq name (text k)) (map (λ e. e.0) es)
    ≡ place_of (map (λ e. client_of (text e.0) e.1) es) name
placed text name es =
    position_map (λ k. bytes_eq name (text k)) (λ e. e.0) es
    ∙ sym (position_map (λ c. bytes_eq name c.name) (λ e. client_of (text e.0) e.1) es)
