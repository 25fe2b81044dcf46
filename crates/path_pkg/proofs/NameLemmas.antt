-- Names, and the steps of a simple path.
use Rattle.std.proofs.Common.{◌≡◌, ℕ, zero, suc, ◌+◌, List, [], ◌∷◌, ◌++◌, map, take, Bool, true, false, not}
use Rattle.std.proofs.Common.{◌&&◌, ◌==◌, Option, Some, None, refl, sym, ap, ◌∙◌, subst}
use Rattle.std.specs.List.{list_all, filter_map, flat_map, slice_split, onto_first, AllByRecursion}
use Rattle.std.specs.Str.{bytes_eq}
use Rattle.std.proofs.lemmas.List.{append-nil}
use Rattle.std.proofs.lemmas.List.Elements.{All-from_recursion}
use Rattle.std.proofs.lemmas.List.Splits.{slice_split_none, slice_split_at}
use Rattle.path_pkg.specs.Path.{is_absolute, joined, path_text, step_in, steps_of}
use Rattle.path_pkg.specs.Simple.{is_inner, is_name}
use Rattle.path_pkg.specs.declared.path.Step.{Step}
use Rattle.path_pkg.specs.declared.path.Step.TheVariants.{Up, Name, Linked}

pub never : false ≡ true → ⊥
never h = cc

pub and_left : (a b : Bool) → (a && b) ≡ true → a ≡ true
and_left true b h = refl
and_left false b h = h

pub and_right : (a b : Bool) → (a && b) ≡ true → b ≡ true
and_right true b h = h
and_right false b h = absurd (never h)

pub both : (a b : Bool) → a ≡ true → b ≡ true → (a && b) ≡ true
both true true h k = refl
both true false h k = k
both false b h k = h

not_true : (b : Bool) → not b ≡ true → b ≡ false
not_true true h = sym h
not_true false h = refl

-- whether a step that goes to a name goes to one
abbrev pub is_named : Step → Bool
is_named Up = true
is_named (Name part) = is_name part
is_named (Linked path) = true

-- a `/` stands in no piece
onto : (b : ℕ) (ps : List (List ℕ)) → (b == 47) ≡ false → list_all (list_all is_inner) ps ≡ true
    → list_all (list_all is_inner) (onto_first b ps) ≡ true
onto b [] h all = rw h refl
onto b (p ∷ ps) h all = rw h all

pieces_inner : (text : List ℕ) → list_all (list_all is_inner) (slice_split (λ b. b == 47) text) ≡ true
pieces_inner [] = refl
pieces_inner (b ∷ bs) = by_test (b == 47) refl (pieces_inner bs)
  where
    by_test : (c : Bool) → (b == 47) ≡ c → list_all (list_all is_inner) (slice_split (λ x. x == 47) bs) ≡ true
        → list_all (list_all is_inner) (slice_split (λ x. x == 47) (b ∷ bs)) ≡ true
    by_test true h rest = rw h rest
    by_test false h rest = rw h (onto b (slice_split (λ x. x == 47) bs) h rest)

named_from : (ps : List (List ℕ)) → list_all (list_all is_inner) ps ≡ true
    → list_all is_named (filter_map step_in ps) ≡ true
named_from [] all = refl
named_from (p ∷ ps) all =
    by_test (bytes_eq p []) refl (bytes_eq p (46 ∷ [])) refl (bytes_eq p (46 ∷ 46 ∷ [])) refl
    (named_from ps (and_right (list_all is_inner p) _ all))
  where
    inner : list_all is_inner p ≡ true
    inner = and_left (list_all is_inner p) _ all

    by_test : (a : Bool) → bytes_eq p [] ≡ a → (b : Bool) → bytes_eq p (46 ∷ []) ≡ b → (c : Bool)
        → bytes_eq p (46 ∷ 46 ∷ []) ≡ c
        → list_all is_named (filter_map step_in ps) ≡ true
        → list_all is_named (filter_map step_in (p ∷ ps)) ≡ true
    by_test true ha b hb c hc rest = rw ha rest
    by_test false ha true hb c hc rest = rw (ha, hb) rest
    by_test false ha false hb true hc rest = rw (ha, hb, hc) rest
    by_test false ha false hb false hc rest =
        let name : is_name p ≡ true = both (not (bytes_eq p [])) _ (ap not ha)
        (both (not (bytes_eq p (46 ∷ []))) _ (ap not hb)
        (both (not (bytes_eq p (46 ∷ 46 ∷ []))) _ (ap not hc) inner)) in
        rw (ha, hb, hc) (both (is_name p) (list_all is_named (filter_map step_in ps)) name rest)

-- the steps of a path go to names
pub steps_named : (text : List ℕ) → list_all is_named (steps_of text) ≡ true
unfolding steps_of
steps_named text = named_from (slice_split (λ b. b == 47) text) (pieces_inner text)

-- the links that are still to be noted
abbrev pub to_note : List Step → ℕ
to_note [] = 0
to_note (Up ∷ rest) = to_note rest
to_note (Name part ∷ rest) = to_note rest
to_note (Linked path ∷ rest) = 1 + to_note rest

none_from : (ps : List (List ℕ)) (more : List Step) → to_note (filter_map step_in ps ++ more) ≡ to_note more
none_from [] more = refl
none_from (p ∷ ps) more = by_test (bytes_eq p []) refl (bytes_eq p (46 ∷ [])) refl
    (bytes_eq p (46 ∷ 46 ∷ [])) refl (none_from ps more)
  where
    by_test : (a : Bool) → bytes_eq p [] ≡ a → (b : Bool) → bytes_eq p (46 ∷ []) ≡ b → (c : Bool)
        → bytes_eq p (46 ∷ 46 ∷ []) ≡ c
        → to_note (filter_map step_in ps ++ more) ≡ to_note more
        → to_note (filter_map step_in (p ∷ ps) ++ more) ≡ to_note more
    by_test true ha b hb c hc rest = rw ha rest
    by_test false ha true hb c hc rest = rw (ha, hb) rest
    by_test false ha false hb true hc rest = rw (ha, hb, hc) rest
    by_test false ha false hb false hc rest = rw (ha, hb, hc) rest

-- the steps of a path note none
pub steps_note_none : (text : List ℕ) (more : List Step) → to_note (steps_of text ++ more) ≡ to_note more
unfolding steps_of
steps_note_none text more = none_from (slice_split (λ b. b == 47) text) more

no_slash : (p : List ℕ) → list_all is_inner p ≡ true → AllByRecursion (λ x. (x == 47) ≡ false) p
no_slash [] all = tt
no_slash (b ∷ bs) all = (
  not_true (b == 47) (and_left (is_inner b) _ all),
  no_slash bs (and_right (is_inner b) _ all),
)

inner_of : (p : List ℕ) → is_name p ≡ true → list_all is_inner p ≡ true
inner_of p h =
    and_right (not (bytes_eq p (46 ∷ 46 ∷ []))) _
    (and_right (not (bytes_eq p (46 ∷ []))) _ (and_right (not (bytes_eq p [])) _ h))

-- a name is a step
step_to : (p : List ℕ) → is_name p ≡ true → step_in p ≡ Some (Name p)
step_to p h =
    let more : (not (bytes_eq p (46 ∷ [])) && (not (bytes_eq p (46 ∷ 46 ∷ [])) && list_all is_inner p))
    ≡ true = and_right (not (bytes_eq p [])) _ h in
    let full : bytes_eq p [] ≡ false = not_true _ (and_left (not (bytes_eq p [])) _ h) in
    let here : bytes_eq p (46 ∷ []) ≡ false = not_true _ (and_left (not (bytes_eq p (46 ∷ []))) _ more) in
    let above : bytes_eq p (46 ∷ 46 ∷ []) ≡ false =
    not_true _ (and_left (not (bytes_eq p (46 ∷ 46 ∷ []))) _
    (and_right (not (bytes_eq p (46 ∷ []))) _ more)) in
    rw (full, here, above) refl

abbrev cut : List ℕ → List (List ℕ)
cut text = slice_split (λ b. b == 47) text

first_step : (p : List ℕ) (ps : List (List ℕ)) → is_name p ≡ true
    → filter_map step_in (p ∷ ps) ≡ Name p ∷ filter_map step_in ps
first_step p ps h = rw (step_to p h) refl

steps_from : (p : List ℕ) (ps : List (List ℕ)) → is_name p ≡ true → list_all is_name ps ≡ true
    → filter_map step_in (cut (p ++ flat_map (λ q. 47 ∷ q) ps)) ≡ Name p ∷ map Name ps
steps_from p [] h all =
    let apart = All-from_recursion (λ x. (x == 47) ≡ false) p (no_slash p (inner_of p h)) in
    ap (λ x. filter_map step_in (cut x)) (append-nil p) ∙ ap (filter_map step_in)
    (slice_split_none (λ b. b == 47) p apart) ∙ first_step p [] h
steps_from p (q ∷ qs) h all =
    let apart = All-from_recursion (λ x. (x == 47) ≡ false) p (no_slash p (inner_of p h)) in
    let rest = q ++ flat_map (λ x. 47 ∷ x) qs in
    ap (filter_map step_in) (slice_split_at (λ b. b == 47) p 47 rest apart refl) ∙ first_step p (cut rest) h
    ∙ ap (λ l. Name p ∷ l) (steps_from q qs (and_left (is_name q) _ all) (and_right (is_name q) _ all))

steps_joined : (parts : List (List ℕ)) → list_all is_name parts ≡ true
    → filter_map step_in (cut (joined parts)) ≡ map Name parts
steps_joined [] all = refl
steps_joined (p ∷ ps) all = steps_from p ps (and_left (is_name p) _ all) (and_right (is_name p) _ all)

-- the steps of a simple path are its names
pub steps_simple : (absolute : Bool) (parts : List (List ℕ)) → list_all is_name parts ≡ true
    → steps_of (path_text absolute parts) ≡ map Name parts
unfolding steps_of
steps_simple true parts all = steps_joined parts all
steps_simple false parts all = steps_joined parts all

joined_inner : (p : List ℕ) (more : List ℕ) → is_name p ≡ true → is_absolute (p ++ more) ≡ false
joined_inner [] more h = absurd (never h)
joined_inner (b ∷ bs) more h = not_true (b == 47) (and_left (is_inner b) _ (inner_of (b ∷ bs) h))

-- whether a simple path begins with `/`
pub absolute_simple : (absolute : Bool) (parts : List (List ℕ)) → list_all is_name parts ≡ true
    → is_absolute (path_text absolute parts) ≡ absolute
absolute_simple true parts all = refl
absolute_simple false [] all = refl
absolute_simple false (p ∷ ps) all = joined_inner p (flat_map (λ q. 47 ∷ q) ps) (and_left (is_name p) _ all)

pub all_take : {X : Type 0} (test : X → Bool) (n : ℕ) (xs : List X) → list_all test xs ≡ true
    → list_all test (take n xs) ≡ true
all_take test zero xs all = refl
all_take test (suc n) [] all = refl
all_take test (suc n) (x ∷ xs) all = both _ _ (and_left (test x) _ all)
    (all_take test n xs (and_right (test x) _ all))
