-- What one more entry does to the newest of what lasts, and to what is asked by number.
use Rattle.std.proofs.Common.{◌≡◌, ℕ, ◌+◌, ◌<◌, ◌≤◌, List, [], ◌∷◌, ◌++◌, Bool, true, false, cond, ◌&&◌, map}
use Rattle.std.proofs.Common.{filter, length, Option, Some, None, refl, ap, ◌∙◌, sym, subst, arith}
use Rattle.std.proofs.Common.{append-nil, append_assoc, eq-eqb, eqb-true, length-append}
use Rattle.std.specs.Prelude.{◌==◌, option_to_list, option_and_then, nat_lt}
use Rattle.std.specs.List.{AllByRecursion, filter_map}
use Rattle.std.specs.Option.{option_map}
use Rattle.std.proofs.lemmas.List.{map-append}
use Rattle.std.proofs.lemmas.List.Elements.{filter-append, filter_map-append, filter_agree}
use Rattle.core_rules.specs.Cuts.{Cut, cuts, lasting}
use Rattle.core_rules.proofs.Lists.{map-map, filter-map, filter-filter, map-filter_agree, filter_map-map}
use Rattle.core_rules.proofs.Lists.{followed, cuts_behind-push, cons_nil, and_left, end_cut}
use Rattle.core_rules.specs.declared.entry.CoreEntry.{CoreEntry}
use Rattle.core_rules.specs.Log.{newest, newer}
use Rattle.core_rules.proofs.Lists.{seen}
use Rattle.core_rules.proofs.Lists.{newest-push}
use Rattle.core_rules.proofs.AllLemmas.{is_false}
use Rattle.core_rules.proofs.RoomLemmas.{lt_true, lt_false}

-- what the empty log has, and each log with one more entry, each log has
grow_from : (P : List CoreEntry → Type 0)
    → ((log : List CoreEntry) (e : CoreEntry) → P log → P (log ++ e ∷ [])) → (front log : List CoreEntry)
    → P front → P (front ++ log)
grow_from P step front [] p = subst P (sym (append-nil front)) p
grow_from P step front (e ∷ es) p = subst P (append_assoc front (e ∷ []) es)
    (grow_from P step (front ++ e ∷ []) es (step front e p))

pub grow_has : (P : List CoreEntry → Type 0) → P []
    → ((log : List CoreEntry) (e : CoreEntry) → P log → P (log ++ e ∷ [])) → (log : List CoreEntry) → P log
grow_has P none step log = grow_from P step [] log none

-- the newest

pub newest-map : {X Y : Type 0} (f : X → Y) (o : Option X) (xs : List X)
    → newest (option_map f o) (map f xs) ≡ option_map f (newest o xs)
newest-map f o [] = refl
newest-map f o (x ∷ xs) = newest-map f (Some x) xs

seen-option : {X B : Type 0} (lasts : X → Bool) (view : X → B) (o : Option X)
    → map view (filter lasts (option_to_list o)) ≡ option_to_list (option_and_then (seen lasts view) o)
seen-option lasts view None = refl
seen-option lasts view (Some x) =
    elim (lasts x) as (λ b. map view (cond b (x ∷ []) []) ≡ option_to_list (cond b (Some (view x)) None))
    [ true ↦ refl | false ↦ refl ]

filter-const : {X : Type 0} (b : Bool) (xs : List X) → filter (λ x. b) xs ≡ cond b xs []
filter-const true [] = refl
filter-const true (x ∷ xs) = ap (λ ys. x ∷ ys) (filter-const true xs)
filter-const false [] = refl
filter-const false (x ∷ xs) = filter-const false xs

newest-if : {B : Type 0} (after : B → B) (stays : Bool) (bs : List B)
    → newest None (map after (cond stays bs [])) ≡ cond stays (option_map after (newest None bs)) None
newest-if after true bs = newest-map after None bs
newest-if after false bs = refl

map-if : {X B : Type 0} (view : X → B) (stays : Bool) (xs : List X) → map view (cond stays xs []) ≡ cond stays
    (map view xs) []
map-if view true xs = refl
map-if view false xs = refl

-- what is seen of the newest that lasts, with one more element: what that makes, or the old one changed,
-- where it stays
pub newest-grown : {A X B : Type 0} (make : Cut A → Option X) (grow : A → X → X) (lasts : X → Bool)
    (view : X → B) (stays : Bool) (after : B → B) (xs : List A) (e : A) →
    ((c : Cut A) → make (followed e c) ≡ option_map (grow e) (make c)) →
    ((x : X) → lasts (grow e x) ≡ (lasts x && stays)) →
    ((x : X) → lasts x ≡ true → view (grow e x) ≡ after (view x)) →
    newest None (map view (lasting make lasts (xs ++ e ∷ []))) ≡ newer
    (option_and_then (seen lasts view) (make (end_cut xs e)))
    (cond stays (option_map after (newest None (map view (lasting make lasts xs)))) None)
newest-grown {A} {X} {B} make grow lasts view stays after xs e made last changed =
    ap (λ cs. newest None (map view (filter lasts (filter_map make cs)))) (cuts_behind-push [] xs e)
    ∙ ap (λ ms. newest None (map view (filter lasts ms)))
    (filter_map-append make (map (followed e) (cuts xs)) (end_cut xs e ∷ []))
    ∙ ap (λ ms. newest None (map view ms)) (filter-append lasts grown (filter_map make (end_cut xs e ∷ [])))
    ∙ ap (newest None) (map-append view (filter lasts grown)
    (filter lasts (filter_map make (end_cut xs e ∷ []))))
    ∙ ap (λ ms. newest None (map view (filter lasts grown) ++ map view (filter lasts ms)))
    (cons_nil (make (end_cut xs e)))
    ∙ ap (λ bs. newest None (map view (filter lasts grown) ++ bs))
    (seen-option lasts view (make (end_cut xs e)))
    ∙ newest-push None (map view (filter lasts grown)) new
    ∙ ap (λ bs. newer new (newest None bs)) old
    ∙ ap (newer new) (newest-if after stays (map view (lasting make lasts xs)))
  where
    grown : List X
    grown = filter_map make (map (followed e) (cuts xs))

    made_before : List X
    made_before = filter_map make (cuts xs)

    new : Option B
    new = option_and_then (seen lasts view) (make (end_cut xs e))

    old : map view (filter lasts (filter_map make (map (followed e) (cuts xs)))) ≡ map after
        (cond stays (map view (lasting make lasts xs)) [])
    old = ap (λ ms. map view (filter lasts ms))
        (filter_map-map make make (followed e) (grow e) made (cuts xs))
        ∙ ap (map view) (filter-map lasts (grow e) (filter_map make (cuts xs)))
        ∙ map-map view (grow e) (filter (λ x. lasts (grow e x)) (filter_map make (cuts xs)))
        ∙ ap (map (λ x. view (grow e x))) (filter_agree (λ x. lasts (grow e x)) (λ x. lasts x && stays) last
        (filter_map make (cuts xs)))
        ∙ map-filter_agree (λ x. view (grow e x)) (λ x. after (view x)) (λ x. lasts x && stays)
        (λ x h. changed x (and_left (lasts x) stays h)) (filter_map make (cuts xs))
        ∙ ap (map (λ x. after (view x))) (filter-filter (λ x. stays) lasts (filter_map make (cuts xs))
        ∙ filter-const stays (lasting make lasts xs))
        ∙ sym (map-map after view (cond stays (lasting make lasts xs) []))
        ∙ ap (map after) (map-if view stays (lasting make lasts xs))

-- by number

-- what is made at an entry has its number, for good
pub record Numbered {X : Type 0} (make : Cut CoreEntry → Option X) (number : X → ℕ) : Type 0 where
  pub grow : CoreEntry → X → X
  pub made : (e : CoreEntry) (c : Cut CoreEntry) → make (followed e c) ≡ option_map (grow e) (make c)
  pub same : (e : CoreEntry) (x : X) → number (grow e x) ≡ number x
  pub at_end : (log : List CoreEntry) (e : CoreEntry) (x : X) → make (end_cut log e) ≡ Some x
      → number x ≡ length log

-- what is seen of the one of that number
abbrev pub seen_of : {X B : Type 0} → (Cut CoreEntry → Option X) → (X → ℕ) → (X → B) → List CoreEntry → ℕ
    → Option B
seen_of make number view log n = newest None (map view (lasting make (λ x. number x == n) log))

pub and_true : (b : Bool) → b ≡ (b && true)
and_true true = refl
and_true false = refl

option_map-same : {B : Type 0} (o : Option B) → option_map (λ b. b) o ≡ o
option_map-same None = refl
option_map-same (Some b) = refl

pub asked-push : {X B : Type 0} (make : Cut CoreEntry → Option X) (number : X → ℕ) (view : X → B)
    (numbered : Numbered make number) → ((e : CoreEntry) (x : X) → view (numbered.grow e x) ≡ view x)
    → (log : List CoreEntry) (e : CoreEntry) (n : ℕ) →
    seen_of make number view (log ++ e ∷ []) n ≡ newer
    (option_and_then (seen (λ x. number x == n) view) (make (end_cut log e)))
    (seen_of make number view log n)
asked-push make number view numbered keeps log e n =
    newest-grown make numbered.grow (λ x. number x == n) view true (λ b. b) log e (numbered.made e)
    (λ x. ap (λ m. m == n) (numbered.same e x) ∙ and_true (number x == n)) (λ x h. keeps e x)
    ∙ ap (newer (option_and_then (seen (λ x. number x == n) view) (make (end_cut log e))))
    (option_map-same (seen_of make number view log n))

none_other : {X B : Type 0} (number : X → ℕ) (view : X → B) (n m : ℕ) (o : Option X)
    → ((x : X) → o ≡ Some x → number x ≡ m) → (m == n) ≡ false
    → option_and_then (seen (λ x. number x == n) view) o ≡ None
none_other number view n m None is other = refl
none_other number view n m (Some x) is other = ap (λ b. cond b (Some (view x)) None)
    (ap (λ k. k == n) (is x refl) ∙ other)

-- another entry changes nothing
pub asked-other : {X B : Type 0} (make : Cut CoreEntry → Option X) (number : X → ℕ) (view : X → B)
    (numbered : Numbered make number) → ((e : CoreEntry) (x : X) → view (numbered.grow e x) ≡ view x)
    → (log : List CoreEntry) (e : CoreEntry) (n : ℕ) → (length log == n) ≡ false →
    seen_of make number view (log ++ e ∷ []) n ≡ seen_of make number view log n
asked-other make number view numbered keeps log e n other =
    asked-push make number view numbered keeps log e n
    ∙ ap (λ o. newer o (seen_of make number view log n))
    (none_other number view n (length log) (make (end_cut log e)) (numbered.at_end log e) other)

-- there is none beyond the log
pub asked-beyond : {X B : Type 0} (make : Cut CoreEntry → Option X) (number : X → ℕ) (view : X → B)
    (numbered : Numbered make number) → ((e : CoreEntry) (x : X) → view (numbered.grow e x) ≡ view x)
    → (log : List CoreEntry) (n : ℕ) → length log ≤ n → seen_of make number view log n ≡ None
asked-beyond make number view numbered keeps log =
    grow_has (λ l. (n : ℕ) → length l ≤ n → seen_of make number view l n ≡ None) (λ n le. refl) step log
  where
    step : (l : List CoreEntry) (e : CoreEntry)
        → ((n : ℕ) → length l ≤ n → seen_of make number view l n ≡ None)
        → (n : ℕ) → length (l ++ e ∷ []) ≤ n → seen_of make number view (l ++ e ∷ []) n ≡ None
    step l e before n le =
        let longer : length (l ++ e ∷ []) ≡ length l + 1 = length-append l (e ∷ []) in
        let other : (length l == n) ≡ false = is_false (length l == n)
        (λ t. let same : length l ≡ n = eqb-true (length l) n t in omega (arith, le, longer, same)) in
        asked-other make number view numbered keeps l e n other ∙ before n (omega (arith, le, longer))

-- so what there is lies within
pub asked-within : {X B : Type 0} (make : Cut CoreEntry → Option X) (number : X → ℕ) (view : X → B)
    (numbered : Numbered make number) → ((e : CoreEntry) (x : X) → view (numbered.grow e x) ≡ view x)
    → (log : List CoreEntry) (n : ℕ) (b : B) → seen_of make number view log n ≡ Some b → n < length log
asked-within make number view numbered keeps log n b is = split (nat_lt n (length log)) refl
  where
    split : (t : Bool) → nat_lt n (length log) ≡ t → n < length log
    split true h = lt_true n (length log) h
    split false h = let none : None ≡ Some b =
        sym (asked-beyond make number view numbered keeps log n (lt_false n (length log) h)) ∙ is in absurd cc

-- and stays
pub asked-stays : {X B : Type 0} (make : Cut CoreEntry → Option X) (number : X → ℕ) (view : X → B)
    (numbered : Numbered make number) → ((e : CoreEntry) (x : X) → view (numbered.grow e x) ≡ view x)
    → (log : List CoreEntry) (e : CoreEntry) (n : ℕ) (b : B) → seen_of make number view log n ≡ Some b
    → seen_of make number view (log ++ e ∷ []) n ≡ Some b
asked-stays make number view numbered keeps log e n b is =
    let within : n < length log = asked-within make number view numbered keeps log n b is in
    asked-other make number view numbered keeps log e n
    (is_false (length log == n) (λ t. let same : length log ≡ n = eqb-true (length log) n t
    in omega (arith, within, same))) ∙ is

-- the new one is found
pub asked-new : {X B : Type 0} (make : Cut CoreEntry → Option X) (number : X → ℕ) (view : X → B)
    (numbered : Numbered make number) → ((e : CoreEntry) (x : X) → view (numbered.grow e x) ≡ view x)
    → (log : List CoreEntry) (e : CoreEntry) (x : X) → make (end_cut log e) ≡ Some x
    → seen_of make number view (log ++ e ∷ []) (number x) ≡ Some (view x)
asked-new make number view numbered keeps log e x is =
    asked-push make number view numbered keeps log e (number x)
    ∙ ap (λ o. newer (option_and_then (seen (λ y. number y == number x) view) o)
    (seen_of make number view log (number x))) is
    ∙ ap (λ b. newer (cond b (Some (view x)) None) (seen_of make number view log (number x)))
    (eq-eqb (number x) (number x) refl)

-- maps that agree

pub map-agree : {X Y : Type 0} (f g : X → Y) → ((x : X) → f x ≡ g x) → (xs : List X) → map f xs ≡ map g xs
map-agree f g agree [] = refl
map-agree f g agree (x ∷ xs) = ap (λ y. y ∷ map f xs) (agree x) ∙ ap (λ ys. g x ∷ ys) (map-agree f g agree xs)

pub map-all_agree : {X Y : Type 0} (f g : X → Y) (xs : List X) → AllByRecursion (λ x. f x ≡ g x) xs
    → map f xs ≡ map g xs
map-all_agree f g [] all = refl
map-all_agree f g (x ∷ xs) all = ap (λ y. y ∷ map f xs) all.0
    ∙ ap (λ ys. g x ∷ ys) (map-all_agree f g xs all.1)
