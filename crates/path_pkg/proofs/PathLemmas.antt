-- The steps of a path.
use Rattle.std.proofs.Common.{◌≡◌, List, [], ◌∷◌, ◌++◌, map, Option, Some, None, refl, sym, ap, ◌∙◌}
use Rattle.std.specs.List.{filter_map}
use Rattle.std.specs.Option.{option_to_list}
use Rattle.std.proofs.lemmas.List.{map-append}
use Rattle.std.proofs.lemmas.List.Elements.{filter_map-append}
use Rattle.std.specs.List.{cons_option}

one : {C : Type 0} (o : Option C) → cons_option o [] ≡ option_to_list o
one (Some y) = refl
one None = refl

-- what is made of one item more
pub made_more : {A B C : Type 0} (f : B → Option C) (g : A → B) (xs : List A) (x : A) (old new : List C)
    (o : Option C)
    → new ≡ old ++ option_to_list o → o ≡ f (g x) → old ≡ filter_map f (map g xs)
    → new ≡ filter_map f (map g (xs ++ x ∷ []))
made_more f g xs x old new o made is so_far =
    made ∙ ap (λ l. l ++ option_to_list o) so_far ∙ ap (λ p. filter_map f (map g xs) ++ option_to_list p) is
    ∙ rw (map-append, filter_map-append) (ap (λ l. filter_map f (map g xs) ++ l) (sym (one (f (g x)))))
