-- What lasts, where the change that an element makes depends on the elements before it.
use Rattle.std.proofs.Common.{◌≡◌, List, [], ◌∷◌, ◌++◌, Bool, true, false, cond, ◌&&◌, map, filter, Option}
use Rattle.std.proofs.Common.{Some, None, refl, ap, ◌∙◌, sym, append_assoc}
use Rattle.std.specs.Prelude.{option_to_list}
use Rattle.std.specs.List.{filter_map, cons_option, AllByRecursion}
use Rattle.std.specs.Option.{option_map}
use Rattle.std.proofs.lemmas.List.{map-append}
use Rattle.std.proofs.lemmas.List.Elements.{filter-append, filter_map-append, filter_agree}
use Rattle.core_rules.specs.Cuts.{Cut, cuts, cuts_behind, lasting}
use Rattle.core_rules.proofs.Lists.{map-map, filter-map, filter-filter, followed, cuts_behind-push}
use Rattle.core_rules.proofs.Lists.{filter_map-map, cons_nil, map-option, and_left, end_cut}

-- the parts make up the list
abbrev pub IsCutOf : {A : Type 0} → List A → Cut A → Type 0
IsCutOf xs c = c.before ++ c.at ∷ c.after ≡ xs

pub cuts_are : {A : Type 0} (front xs whole : List A) → front ++ xs ≡ whole → AllByRecursion (IsCutOf whole)
    (cuts_behind front xs)
cuts_are front [] whole is = tt
cuts_are front (x ∷ xs) whole is =
    (is, cuts_are (front ++ x ∷ []) xs whole (append_assoc front (x ∷ []) xs ∙ is))

-- two functions that agree on what is made at the cuts and passes
agree_made : {A X Y : Type 0} (make : Cut A → Option X) (p : X → Bool) (f g : X → Y) (cs : List (Cut A))
    → AllByRecursion (λ c. (x : X) → make c ≡ Some x → p x ≡ true → f x ≡ g x) cs
    → map f (filter p (filter_map make cs)) ≡ map g (filter p (filter_map make cs))
agree_made make p f g [] all = refl
agree_made {A} {X} {Y} make p f g (c ∷ cs) all =
    let rest : List X = filter_map make cs in
    let split : (o : Option X) → make c ≡ o → map f (filter p (cons_option o rest)) ≡ map g
    (filter p (cons_option o rest)) =
    λ o. elim o as (λ o. make c ≡ o → map f (filter p (cons_option o rest)) ≡ map g
    (filter p (cons_option o rest))) [
      | None ↦ λ e. agree_made make p f g cs all.1
      | Some x ↦ λ e.
          let test : (b : Bool) → p x ≡ b → map f (cond b (x ∷ filter p rest) (filter p rest)) ≡ map g
          (cond b (x ∷ filter p rest) (filter p rest)) =
          λ b. elim b as (λ b. p x ≡ b → map f (cond b (x ∷ filter p rest) (filter p rest)) ≡ map g
          (cond b (x ∷ filter p rest) (filter p rest))) [
            | true ↦ λ t. ap (λ y. y ∷ map f (filter p rest)) (all.0 x e t)
                ∙ ap (λ ys. g x ∷ ys) (agree_made make p f g cs all.1)
            | false ↦ λ t. agree_made make p f g cs all.1
          ] in
          test (p x) refl
    ] in
    split (make c) refl

pub record GrowsIn {A X B : Type 0} (make : Cut A → Option X) (lasts : X → Bool) (view : X → B)
    (after : List A → A → B → B) (stays : A → B → Bool) : Type 0 where
  pub grow : A → X → X
  pub made : (e : A) (c : Cut A) → make (followed e c) ≡ option_map (grow e) (make c)
  pub lasts_on : (e : A) (x : X) → lasts (grow e x) ≡ (lasts x && stays e (view x))
  pub changed : (xs : List A) (e : A) (c : Cut A) (x : X) → IsCutOf xs c → make c ≡ Some x → lasts x ≡ true
      → view (grow e x) ≡ after xs e (view x)
  pub fresh : (c : Cut A) → c.after ≡ [] → filter lasts (option_to_list (make c)) ≡ option_to_list (make c)

weaker : {C : Type 0} (P Q : C → Type 0) → ((c : C) → P c → Q c) → (cs : List C) → AllByRecursion P cs
    → AllByRecursion Q cs
weaker P Q h [] all = tt
weaker P Q h (c ∷ cs) all = (h c all.0, weaker P Q h cs all.1)

pub lasting_in-push : {A X B : Type 0} (make : Cut A → Option X) (lasts : X → Bool) (view : X → B)
    (after : List A → A → B → B) (stays : A → B → Bool) → GrowsIn make lasts view after stays
    → (xs : List A) (e : A) →
    map view (lasting make lasts (xs ++ e ∷ [])) ≡ map (after xs e)
    (filter (stays e) (map view (lasting make lasts xs))) ++ option_to_list
    (option_map view (make (end_cut xs e)))
lasting_in-push {A} {X} {B} make lasts view after stays grows xs e =
    ap (λ cs. map view (filter lasts (filter_map make cs))) (cuts_behind-push [] xs e)
    ∙ ap (λ ms. map view (filter lasts ms))
    (filter_map-append make (map (followed e) (cuts xs)) (end_cut xs e ∷ []))
    ∙ ap (map view) (filter-append lasts (filter_map make (map (followed e) (cuts xs)))
    (filter_map make (end_cut xs e ∷ [])))
    ∙ map-append view (filter lasts (filter_map make (map (followed e) (cuts xs))))
    (filter lasts (filter_map make (end_cut xs e ∷ [])))
    ∙ ap (λ bs. bs ++ map view (filter lasts (filter_map make (end_cut xs e ∷ [])))) old
    ∙ ap (λ bs. map (after xs e) (filter (stays e) (map view (lasting make lasts xs))) ++ bs) new
  where
    old : map view (filter lasts (filter_map make (map (followed e) (cuts xs)))) ≡ map (after xs e)
        (filter (stays e) (map view (lasting make lasts xs)))
    old = ap (λ ms. map view (filter lasts ms))
        (filter_map-map make make (followed e) (grows.grow e) (grows.made e) (cuts xs))
        ∙ ap (map view) (filter-map lasts (grows.grow e) (filter_map make (cuts xs)))
        ∙ map-map view (grows.grow e) (filter (λ x. lasts (grows.grow e x)) (filter_map make (cuts xs)))
        ∙ ap (map (λ x. view (grows.grow e x)))
        (filter_agree (λ x. lasts (grows.grow e x)) (λ x. lasts x && stays e (view x)) (grows.lasts_on e)
        (filter_map make (cuts xs)))
        ∙ agree_made make (λ x. lasts x && stays e (view x)) (λ x. view (grows.grow e x))
        (λ x. after xs e (view x)) (cuts xs)
        (weaker (IsCutOf xs) (λ c. (x : X) → make c ≡ Some x → (lasts x && stays e (view x)) ≡ true
        → view (grows.grow e x) ≡ after xs e (view x))
        (λ c is x from h. grows.changed xs e c x is from (and_left (lasts x) (stays e (view x)) h)) (cuts xs)
        (cuts_are [] xs xs refl))
        ∙ ap (map (λ x. after xs e (view x)))
        (filter-filter (λ x. stays e (view x)) lasts (filter_map make (cuts xs)))
        ∙ sym (map-map (after xs e) view (filter (λ x. stays e (view x)) (lasting make lasts xs)))
        ∙ ap (map (after xs e)) (sym (filter-map (stays e) view (lasting make lasts xs)))

    new : map view (filter lasts (filter_map make (end_cut xs e ∷ []))) ≡ option_to_list
        (option_map view (make (end_cut xs e)))
    new = ap (λ ms. map view (filter lasts ms)) (cons_nil (make (end_cut xs e)))
        ∙ ap (map view) (grows.fresh (end_cut xs e) refl) ∙ map-option view (make (end_cut xs e))
