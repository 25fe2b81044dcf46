-- The parts of a key, one by one.
use Rattle.std.proofs.Common.{◌≡◌, ℕ, Bool, true, false, ◌&&◌, not, List, [], ◌∷◌, ◌++◌, map, refl, sym, ◌∙◌}
use Rattle.std.specs.List.{list_all}
use Rattle.folders.specs.Plain.{is_plain}
use Rattle.listed_files.specs.Key.{is_temporary, are_key, last_behind}

and_true : (b : Bool) → (b && true) ≡ (true && b)
and_true true = refl
and_true false = refl

and_then : (a b c d : Bool) → b ≡ (c && d) → (a && b) ≡ (a && c && d)
and_then true b c d is = is
and_then false b c d is = refl

module _ {A : Type 0} (view : A → List ℕ) where
  plain_behind : (xs : List A) (x : A) → list_all is_plain (map view (xs ++ x ∷ [])) ≡
      (list_all is_plain (map view xs) && is_plain (view x))
  plain_behind [] x = and_true (is_plain (view x))
  plain_behind (y ∷ ys) x =
      and_then (is_plain (view y)) (list_all is_plain (map view (ys ++ x ∷ [])))
      (list_all is_plain (map view ys)) (is_plain (view x)) (plain_behind ys x)

  -- whether all are plain, once there is one more
  pub plain_more : (xs : List A) (x : A) (old one : Bool) → old ≡ list_all is_plain (map view xs)
      → one ≡ is_plain (view x) → (old && one) ≡ list_all is_plain (map view (xs ++ x ∷ []))
  plain_more xs x old one is one_is = (λ i. is i && one_is i) ∙ sym (plain_behind xs x)

  -- and which is the last
  pub last_more : (part : List ℕ) (xs : List A) (x : A) → view x ≡ last_behind part (map view (xs ++ x ∷ []))
  last_more part [] x = refl
  last_more part (y ∷ ys) x = last_more (view y) ys x

-- no part is no temporary file's name
pub none_temporary : false ≡ is_temporary []
unfolding is_temporary
none_temporary = refl

-- the parts are a key
pub whole_key : (plain temporary : Bool) (parts : List (List ℕ)) → plain ≡ list_all is_plain parts
    → temporary ≡ is_temporary (last_behind [] parts) → (plain && not temporary) ≡ are_key parts
whole_key plain temporary parts plain_is is = λ i. plain_is i && not (is i)
