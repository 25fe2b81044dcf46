-- What a path made simple is like.
use Rattle.std.proofs.Common.{◌≡◌, ℕ, zero, suc, ◌+◌, ◌-◌, ◌<◌, ◌≤◌, List, [], ◌∷◌, ◌++◌, map, length, take}
use Rattle.std.proofs.Common.{Bool, true, false, ◌&&◌, Result, Ok, Err, refl, sym, ap, ◌∙◌, append_assoc}
use Rattle.std.proofs.Common.{subst, arith, ◌⊎◌, inl, inr}
use Rattle.std.proofs.lemmas.Bool.{cases_lt}
use Rattle.std.specs.List.{list_all}
use Rattle.std.proofs.Math.Seq.{take-length}
use Rattle.std.proofs.lemmas.List.{append-nil, length-append, length-take, take-take, take-append-le}
use Rattle.std.proofs.lemmas.List.Folds.{list_all-append}
use Rattle.path_pkg.specs.Told.{Nodes}
use Rattle.path_pkg.specs.Path.{is_absolute, path_text, steps_of}
use Rattle.path_pkg.specs.Tree.{is_link}
use Rattle.path_pkg.specs.Spot.{Spot, spot_text, above, below, beside, start}
use Rattle.path_pkg.specs.Simple.{is_name, IsSimple, HasNoLink, IsFreeOfLinks}
use Rattle.path_pkg.specs.Simplified.{is_met, link_target, taken, simplified, simple_path, text_of}
use Rattle.path_pkg.specs.declared.path.Step.{Step}
use Rattle.path_pkg.specs.declared.path.Step.TheVariants.{Up, Name, Linked}
use Rattle.path_pkg.specs.declared.fault.PackError.{PackError}
use Rattle.path_pkg.proofs.TakenLemmas.{taken_none, taken_name}
use Rattle.path_pkg.proofs.WalkLemmas.{Keeps, ends}
use Rattle.path_pkg.proofs.NameLemmas.{and_left, and_right, both, is_named, steps_named, to_note}
use Rattle.path_pkg.proofs.NameLemmas.{steps_note_none, steps_simple, absolute_simple, all_take}

-- names alone are on the way and ahead
abbrev Names : ℕ → Spot → List Step → Type 0
Names n s todo = (list_all is_name s.parts ≡ true) × (list_all is_named todo ≡ true)

all_more : {X : Type 0} (test : X → Bool) (xs : List X) (x : X) → list_all test xs ≡ true → test x ≡ true
    → list_all test (xs ++ x ∷ []) ≡ true
all_more test xs x all one = list_all-append test xs (x ∷ []) ∙ both _ _ all (both _ _ one refl)

all_onto : {X : Type 0} (test : X → Bool) (xs ys : List X) → list_all test xs ≡ true → list_all test ys ≡ true
    → list_all test (xs ++ ys) ≡ true
all_onto test xs ys all more = list_all-append test xs ys ∙ both _ _ all more

names_beside : (s : Spot) (target : List ℕ) (b : Bool) → is_absolute target ≡ b
    → list_all is_name s.parts ≡ true → list_all is_name (beside s target).parts ≡ true
names_beside s target true h all = rw h refl
names_beside s target false h all = rw h all

names_kept : (t : Nodes) (r : Bool) → Keeps t r Names
names_kept t r = record {
  up = λ n s rest p. (all_take is_name (length s.parts - 1) s.parts p.0, p.1);
  name = λ n s part rest unmet p. (
    all_more is_name s.parts part p.0 (and_left (is_name part) _ p.1),
    and_right (is_name part) _ p.1,
  );
  link = λ n s part rest met p.
      let target = link_target t (below s part) in (
        names_beside s target (is_absolute target) refl p.0,
        all_onto is_named (steps_of target) (Linked (spot_text (below s part)) ∷ rest) (steps_named target)
            (and_right (is_name part) _ p.1),
      );
  linked = λ n s path rest p. p;
}

-- no link is on the way
abbrev Free : Nodes → ℕ → Spot → List Step → Type 0
Free t n s todo = HasNoLink t s.absolute s.parts

fronts_up : (t : Nodes) (a : Bool) (parts : List (List ℕ)) → HasNoLink t a parts
    → HasNoLink t a (take (length parts - 1) parts)
fronts_up t a parts free n within =
    let short : n < length parts - 1 = omega (arith, within, length-take (length parts - 1) parts) in
    ap (λ x. is_link t (path_text a x)) (take-take (n + 1) (length parts - 1) parts (omega (arith, short)))
    ∙ free n (omega (arith, short))

fronts_more : (t : Nodes) (a : Bool) (parts : List (List ℕ)) (part : List ℕ) → HasNoLink t a parts
    → is_link t (path_text a (parts ++ part ∷ [])) ≡ false → HasNoLink t a (parts ++ part ∷ [])
fronts_more t a parts part free here n within = by_place (cases_lt n (length parts))
  where
    whole : List (List ℕ)
    whole = parts ++ part ∷ []

    long : length whole ≡ length parts + 1
    long = length-append parts (part ∷ [])

    by_place : (n < length parts) ⊎ (length parts ≤ n) → is_link t (path_text a (take (n + 1) whole)) ≡ false
    by_place (inl h) = ap (λ x. is_link t (path_text a x))
        (take-append-le (n + 1) parts (part ∷ []) (omega (arith, h))) ∙ free n (omega (arith, h))
    by_place (inr h) =
        let last : n + 1 ≡ length whole = omega (arith, h, within, long) in
        ap (λ x. is_link t (path_text a (take x whole))) last ∙ ap (λ x. is_link t (path_text a x))
        (take-length whole) ∙ here

free_beside : (t : Nodes) (s : Spot) (target : List ℕ) (b : Bool) → is_absolute target ≡ b
    → HasNoLink t s.absolute s.parts → HasNoLink t (beside s target).absolute (beside s target).parts
free_beside t s target true h free = rw h (λ n within. absurd (omega (arith, within)))
free_beside t s target false h free = rw h free

free_kept : (t : Nodes) → Keeps t true (Free t)
free_kept t = record {
  up = λ n s rest p. fronts_up t s.absolute s.parts p;
  name = λ n s part rest unmet p. fronts_more t s.absolute s.parts part p unmet;
  link = λ n s part rest met p. let target = link_target t (below s part) in free_beside t s target
      (is_absolute target) refl p;
  linked = λ n s path rest p. p;
}

-- the links that were noted, that are to be noted and that may still be replaced
abbrev Counted : ℕ → Spot → List Step → Type 0
Counted n s todo = length s.links + (to_note todo + n) ≤ 40

links_beside : (s : Spot) (target : List ℕ) (b : Bool) → is_absolute target ≡ b
    → (beside s target).links ≡ s.links
links_beside s target true h = rw h refl
links_beside s target false h = rw h refl

counted_kept : (t : Nodes) (r : Bool) → Keeps t r Counted
counted_kept t r = record {
  up = λ n s rest p. p;
  name = λ n s part rest unmet p. p;
  link = λ n s part rest met p.
      let target = link_target t (below s part) in
      let ahead : to_note (steps_of target ++ Linked (spot_text (below s part)) ∷ rest) ≡ 1 + to_note rest =
      steps_note_none target (Linked (spot_text (below s part)) ∷ rest) in
      let same : length (beside s target).links ≡ length s.links =
      ap length (links_beside s target (is_absolute target) refl) in
      omega (arith, p, ahead, same);
  linked = λ n s path rest p.
      let one : length (s.links ++ (path, spot_text s) ∷ []) ≡ length s.links + 1 =
      length-append s.links ((path, spot_text s) ∷ []) in
      omega (arith, p, one);
}

one_text : (a b : List ℕ) (w : Result (List ℕ) PackError) → w ≡ Ok a → w ≡ Ok b → a ≡ b
one_text a b w is ok = cc

no_text : (x : PackError) (b : List ℕ) (w : Result (List ℕ) PackError) → w ≡ Err x → w ≡ Ok b → ⊥
no_text x b w is ok = cc

-- where a path is made simple
spot_there : (t : Nodes) (w : Result Spot PackError) (text : List ℕ) → text_of w ≡ Ok text → (s : Spot)
    × (w ≡ Ok s) × (spot_text s ≡ text)
spot_there t (Ok s) text e = (s, refl, one_text (spot_text s) text (text_of (Ok s)) refl e)
spot_there t (Err x) text e = absurd (no_text x text (text_of (Err x)) refl e)

simple_spot : (r : Bool) (t : Nodes) (path text : List ℕ) → simple_path r t path ≡ Ok text → (s : Spot)
    × (simplified r t path ≡ Ok s) × (spot_text s ≡ text)
unfolding simple_path
simple_spot r t path text e = spot_there t (simplified r t path) text e

pub names_alone : (r : Bool) (t : Nodes) (path : List ℕ) (s : Spot) → simplified r t path ≡ Ok s
    → list_all is_name s.parts ≡ true
unfolding simplified
names_alone r t path s e =
    (ends t r Names (names_kept t r) 40 (start path) (steps_of path) s (refl, steps_named path) e).1.0

pub none_on_it : (t : Nodes) (path : List ℕ) (s : Spot) → simplified true t path ≡ Ok s
    → HasNoLink t s.absolute s.parts
unfolding simplified
none_on_it t path s e = (ends t true (Free t) (free_kept t) 40 (start path) (steps_of path) s
    (λ n within. absurd (omega (arith, within))) e).1

pub at_most_forty : (r : Bool) (t : Nodes) (path : List ℕ) (s : Spot) → simplified r t path ≡ Ok s
    → length s.links ≤ 40
unfolding simplified
at_most_forty r t path s e =
    let none : to_note (steps_of path) ≡ 0 = ap to_note (sym (append-nil (steps_of path)))
    ∙ steps_note_none path [] in
    let end = ends t r Counted (counted_kept t r) 40 (start path) (steps_of path) s (omega (arith, none)) e in
    omega (arith, end.1)

pub simple : (r : Bool) (t : Nodes) (path text : List ℕ) → simple_path r t path ≡ Ok text → IsSimple text
simple r t path text e =
    let there = simple_spot r t path text e in
    record {
      absolute = there.0.absolute;
      parts = there.0.parts;
      names = names_alone r t path there.0 there.1;
      written = sym there.2;
    }

pub free_of_links : (t : Nodes) (path text : List ℕ) → simple_path true t path ≡ Ok text
    → IsFreeOfLinks t text
free_of_links t path text e =
    let there = simple_spot true t path text e in
    record {
      simple = record {
        absolute = there.0.absolute;
        parts = there.0.parts;
        names = names_alone true t path there.0 there.1;
        written = sym there.2;
      };
      free = none_on_it t path there.0 there.1;
    }

abbrev at : Bool → List (List ℕ × List ℕ) → List (List ℕ) → Spot
at a ls parts = record { absolute = a; parts = parts; links = ls }

-- a walk along names, none of which is replaced
names_taken : (n : ℕ) (t : Nodes) (r : Bool) (a : Bool) (ls : List (List ℕ × List ℕ))
    (front names : List (List ℕ))
    → ((m : ℕ) → m < length names → is_met t r (at a ls (front ++ take (m + 1) names)) ≡ false)
    → taken n t r (at a ls front) (map Name names) ≡ Ok (at a ls (front ++ names))
names_taken n t r a ls front [] unmet = taken_none n t r (at a ls front) ∙ ap (λ x. Ok (at a ls x))
    (sym (append-nil front))
names_taken n t r a ls front (x ∷ xs) unmet =
    taken_name n t r (at a ls front) x (map Name xs) (unmet 0 (omega arith))
    ∙ names_taken n t r a ls (front ++ x ∷ []) xs later
    ∙ ap (λ l. Ok (at a ls l)) (append_assoc front (x ∷ []) xs)
  where
    later : (m : ℕ) → m < length xs → is_met t r (at a ls ((front ++ x ∷ []) ++ take (m + 1) xs)) ≡ false
    later m within =
        let next : suc (m + 1) ≡ suc m + 1 = omega arith in
        ap (λ l. is_met t r (at a ls l)) (append_assoc front (x ∷ []) (take (m + 1) xs))
        ∙ ap (λ k. is_met t r (at a ls (front ++ take k (x ∷ xs)))) next
        ∙ unmet (suc m) (omega (arith, within))

stays_at : (r : Bool) (t : Nodes) (a : Bool) (parts : List (List ℕ)) → list_all is_name parts ≡ true
    → ((m : ℕ) → m < length parts → is_met t r (at a [] (take (m + 1) parts)) ≡ false)
    → simple_path r t (path_text a parts) ≡ Ok (path_text a parts)
unfolding simple_path simplified
stays_at r t a parts names unmet =
    ap (λ x. text_of (taken 40 t r (at x [] []) (steps_of (path_text a parts))))
    (absolute_simple a parts names)
    ∙ ap (λ x. text_of (taken 40 t r (at a [] []) x)) (steps_simple a parts names)
    ∙ ap text_of (names_taken 40 t r a [] [] parts unmet)

stays_text : (r : Bool) (t : Nodes) (text other : List ℕ) → text ≡ other → simple_path r t other ≡ Ok other
    → simple_path r t text ≡ Ok text
stays_text r t text other e h = let P : List ℕ → Type 0 = λ x. simple_path r t x ≡ Ok x in subst P (sym e) h

-- a path made simple stays as it is
pub stays : (r : Bool) (t : Nodes) (path text : List ℕ) → simple_path r t path ≡ Ok text
    → simple_path r t text ≡ Ok text
stays false t path text e =
    let s = simple false t path text e in
    stays_text false t text _ s.written (stays_at false t s.absolute s.parts s.names (λ m within. refl))
stays true t path text e =
    let f = free_of_links t path text e in
    stays_text true t text _ f.simple.written
    (stays_at true t f.simple.absolute f.simple.parts f.simple.names f.free)
