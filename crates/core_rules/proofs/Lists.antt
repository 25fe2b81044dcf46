-- Filters and maps, one inside the other.
use Rattle.std.proofs.Common.{◌≡◌, List, [], ◌∷◌, ◌++◌, Bool, true, false, cond, ◌&&◌, ◌||◌, map, filter}
use Rattle.std.proofs.Common.{Option, Some, None, refl, ap, ◌∙◌, sym, arith, unwrap_or}
use Rattle.std.specs.List.{list_any, filter_map, cons_option}
use Rattle.std.specs.Prelude.{option_to_list, if◌then◌else◌}
use Rattle.std.specs.Option.{option_map}
use Rattle.std.proofs.lemmas.List.{map-append}
use Rattle.std.proofs.lemmas.List.Elements.{filter-append, filter_map-append, filter_agree}
use Rattle.std.proofs.lemmas.Grind.{common_steps}
use Rattle.core_rules.specs.Cuts.{Cut, cuts, cuts_behind, lasting}
use Rattle.core_rules.specs.Log.{latest, newest, newer}

-- what is seen of one thing, where it lasts
abbrev pub seen : {X B : Type 0} → (X → Bool) → (X → B) → X → Option B
seen lasts view x = if lasts x then Some (view x) else None

pub map-map : {X Y Z : Type 0} (g : Y → Z) (f : X → Y) (xs : List X)
    → map g (map f xs) ≡ map (λ x. g (f x)) xs
map-map g f [] = refl
map-map g f (x ∷ xs) = ap (λ zs. g (f x) ∷ zs) (map-map g f xs)

pub filter-map : {X Y : Type 0} (p : Y → Bool) (f : X → Y) (xs : List X)
    → filter p (map f xs) ≡ map f (filter (λ x. p (f x)) xs)
filter-map p f [] = refl
filter-map p f (x ∷ xs) =
    elim (p (f x)) as (λ b. cond b (f x ∷ filter p (map f xs)) (filter p (map f xs)) ≡ map f
    (cond b (x ∷ filter (λ x. p (f x)) xs) (filter (λ x. p (f x)) xs))) [
      | true ↦ ap (λ zs. f x ∷ zs) (filter-map p f xs)
      | false ↦ filter-map p f xs
    ]

pub filter-filter : {X : Type 0} (p q : X → Bool) (xs : List X) → filter (λ x. q x && p x) xs ≡ filter p
    (filter q xs)
filter-filter p q [] = refl
filter-filter p q (x ∷ xs) =
    elim (q x) as (λ b. cond (b && p x) (x ∷ filter (λ x. q x && p x) xs) (filter (λ x. q x && p x) xs)
    ≡ filter p (cond b (x ∷ filter q xs) (filter q xs))) [
      | true ↦ ap (λ zs. cond (p x) (x ∷ zs) zs) (filter-filter p q xs)
      | false ↦ filter-filter p q xs
    ]

-- two functions that agree on what passes
pub map-filter_agree : {X Y : Type 0} (f g : X → Y) (p : X → Bool) → ((x : X) → p x ≡ true → f x ≡ g x)
    → (xs : List X) → map f (filter p xs) ≡ map g (filter p xs)
map-filter_agree f g p agree [] = refl
map-filter_agree f g p agree (x ∷ xs) =
    let split : (b : Bool) → p x ≡ b → map f (cond b (x ∷ filter p xs) (filter p xs)) ≡ map g
    (cond b (x ∷ filter p xs) (filter p xs)) =
    λ b. elim b as (λ b. p x ≡ b → map f (cond b (x ∷ filter p xs) (filter p xs)) ≡ map g
    (cond b (x ∷ filter p xs) (filter p xs))) [
      | true ↦ λ e. ap (λ y. y ∷ map f (filter p xs)) (agree x e)
          ∙ ap (λ zs. g x ∷ zs) (map-filter_agree f g p agree xs)
      | false ↦ λ e. map-filter_agree f g p agree xs
    ] in
    split (p x) refl

pub list_any-push : {X : Type 0} (p : X → Bool) (xs : List X) (x : X)
    → list_any p (xs ++ x ∷ []) ≡ (list_any p xs || p x)
list_any-push p [] x = grind (arith, common_steps)
list_any-push p (y ∷ ys) x = ap (λ b. p y || b) (list_any-push p ys x) ∙ grind (arith, common_steps)

-- what comes after the cut goes on by one element
abbrev pub followed : {X : Type 0} → X → Cut X → Cut X
followed x c = record c { after = c.after ++ x ∷ [] }

-- one more element cuts the list once more, behind all of it
pub cuts_behind-push : {X : Type 0} (front xs : List X) (x : X) → cuts_behind front (xs ++ x ∷ []) ≡ map
    (followed x) (cuts_behind front xs) ++ record { before = front ++ xs; at = x; after = [] } ∷ []
cuts_behind-push front [] x = grind (arith, common_steps)
cuts_behind-push front (y ∷ ys) x = ap (λ cs. record { before = front; at = y; after = ys ++ x ∷ [] } ∷ cs)
    (cuts_behind-push (front ++ y ∷ []) ys x) ∙ grind (arith, common_steps)

cons_option-map : {Y Z : Type 0} (u : Y → Z) (o : Option Y) (ys : List Y)
    → cons_option (option_map u o) (map u ys) ≡ map u (cons_option o ys)
cons_option-map u None ys = refl
cons_option-map u (Some y) ys = refl

pub filter_map-map : {X Y Z : Type 0} (h : Y → Option Z) (k : X → Option Z) (f : X → Y) (u : Z → Z)
    → ((x : X) → h (f x) ≡ option_map u (k x)) → (xs : List X) → filter_map h (map f xs) ≡ map u
    (filter_map k xs)
filter_map-map h k f u agree [] = refl
filter_map-map h k f u agree (x ∷ xs) = ap (λ o. cons_option o (filter_map h (map f xs))) (agree x)
    ∙ ap (cons_option (option_map u (k x))) (filter_map-map h k f u agree xs) ∙ cons_option-map u (k x)
    (filter_map k xs)

-- a map that changes no element
pub map-same : {X : Type 0} (f : X → X) → ((x : X) → f x ≡ x) → (xs : List X) → map f xs ≡ xs
map-same f same [] = refl
map-same f same (x ∷ xs) = ap (λ y. y ∷ map f xs) (same x) ∙ ap (λ ys. x ∷ ys) (map-same f same xs)

pub cons_nil : {X : Type 0} (o : Option X) → cons_option o [] ≡ option_to_list o
cons_nil None = refl
cons_nil (Some x) = refl

pub map-option : {X Y : Type 0} (f : X → Y) (o : Option X) → map f (option_to_list o) ≡ option_to_list
    (option_map f o)
map-option f None = refl
map-option f (Some x) = refl

pub and_left : (a b : Bool) → (a && b) ≡ true → a ≡ true
and_left true b e = refl
and_left false b e = e

-- the cut behind all of a list
abbrev pub end_cut : {A : Type 0} → List A → A → Cut A
end_cut xs x = record { before = xs; at = x; after = [] }

-- What is seen of what lasts, after one more element: what survives it, changed, and what it makes itself.
pub record Grows {A X B : Type 0} (make : Cut A → Option X) (lasts : X → Bool) (view : X → B)
    (after : A → B → B) (stays : A → B → Bool) : Type 0 where
  pub grow : A → X → X
  -- what is made at a cut doesn't depend on what follows it, but by growing
  pub made : (e : A) (c : Cut A) → make (followed e c) ≡ option_map (grow e) (make c)
  pub lasts_on : (e : A) (x : X) → lasts (grow e x) ≡ (lasts x && stays e (view x))
  pub changed : (e : A) (x : X) → lasts x ≡ true → view (grow e x) ≡ after e (view x)
  pub fresh : (c : Cut A) → c.after ≡ [] → filter lasts (option_to_list (make c)) ≡ option_to_list (make c)

pub lasting-push : {A X B : Type 0} (make : Cut A → Option X) (lasts : X → Bool) (view : X → B)
    (after : A → B → B) (stays : A → B → Bool) → Grows make lasts view after stays → (xs : List A) (e : A) →
    map view (lasting make lasts (xs ++ e ∷ [])) ≡ map (after e)
    (filter (stays e) (map view (lasting make lasts xs))) ++ option_to_list
    (option_map view (make (end_cut xs e)))
lasting-push {A} {X} {B} make lasts view after stays grows xs e =
    ap (λ cs. map view (filter lasts (filter_map make cs))) (cuts_behind-push [] xs e)
    ∙ ap (λ ms. map view (filter lasts ms))
    (filter_map-append make (map (followed e) (cuts xs)) (end_cut xs e ∷ []))
    ∙ ap (map view) (filter-append lasts (filter_map make (map (followed e) (cuts xs)))
    (filter_map make (end_cut xs e ∷ [])))
    ∙ map-append view (filter lasts (filter_map make (map (followed e) (cuts xs))))
    (filter lasts (filter_map make (end_cut xs e ∷ [])))
    ∙ ap (λ bs. bs ++ map view (filter lasts (filter_map make (end_cut xs e ∷ [])))) old
    ∙ ap (λ bs. map (after e) (filter (stays e) (map view (lasting make lasts xs))) ++ bs) new
  where
    old : map view (filter lasts (filter_map make (map (followed e) (cuts xs)))) ≡ map (after e)
        (filter (stays e) (map view (lasting make lasts xs)))
    old = ap (λ ms. map view (filter lasts ms))
        (filter_map-map make make (followed e) (grows.grow e) (grows.made e) (cuts xs))
        ∙ ap (map view) (filter-map lasts (grows.grow e) (filter_map make (cuts xs)))
        ∙ map-map view (grows.grow e) (filter (λ x. lasts (grows.grow e x)) (filter_map make (cuts xs)))
        ∙ ap (map (λ x. view (grows.grow e x)))
        (filter_agree (λ x. lasts (grows.grow e x)) (λ x. lasts x && stays e (view x)) (grows.lasts_on e)
        (filter_map make (cuts xs)))
        ∙ map-filter_agree (λ x. view (grows.grow e x)) (λ x. after e (view x))
        (λ x. lasts x && stays e (view x))
        (λ x h. grows.changed e x (and_left (lasts x) (stays e (view x)) h)) (filter_map make (cuts xs))
        ∙ ap (map (λ x. after e (view x)))
        (filter-filter (λ x. stays e (view x)) lasts (filter_map make (cuts xs)))
        ∙ sym (map-map (after e) view (filter (λ x. stays e (view x)) (lasting make lasts xs)))
        ∙ ap (map (after e)) (sym (filter-map (stays e) view (lasting make lasts xs)))

    new : map view (filter lasts (filter_map make (end_cut xs e ∷ []))) ≡ option_to_list
        (option_map view (make (end_cut xs e)))
    new = ap (λ ms. map view (filter lasts ms)) (cons_nil (make (end_cut xs e)))
        ∙ ap (map view) (grows.fresh (end_cut xs e) refl) ∙ map-option view (make (end_cut xs e))

pub list_any-map : {X Y : Type 0} (p : Y → Bool) (f : X → Y) (xs : List X) → list_any p (map f xs) ≡ list_any
    (λ x. p (f x)) xs
list_any-map p f [] = refl
list_any-map p f (x ∷ xs) = ap (λ b. p (f x) || b) (list_any-map p f xs)

-- the last of a list, with one more
pub newest-push : {B : Type 0} (first : Option B) (xs : List B) (o : Option B)
    → newest first (xs ++ option_to_list o) ≡ newer o (newest first xs)
newest-push first [] None = refl
newest-push first [] (Some x) = refl
newest-push first (x ∷ xs) o = newest-push (Some x) xs o

pub latest-push : {B : Type 0} (first : B) (xs : List B) (o : Option B)
    → latest first (xs ++ option_to_list o) ≡ unwrap_or o (latest first xs)
latest-push first [] None = refl
latest-push first [] (Some x) = refl
latest-push first (x ∷ xs) o = latest-push x xs o
