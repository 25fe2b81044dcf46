-- A list cut at each of its elements: what each makes, seen with those before and after it.
use Rattle.std.specs.Prelude.{List, [], ◌∷◌, ◌++◌, filter, Bool, Option}
use Rattle.std.specs.List.{filter_map}

-- a list cut at one of its elements
pub record Cut (A : Type 0) : Type 0 where
  pub before : List A
  pub at : A
  pub after : List A

-- a list cut at each of its elements in turn, with a front before it
abbrev pub cuts_behind : {A : Type 0} → List A → List A → List (Cut A)
cuts_behind front [] = []
cuts_behind front (x ∷ xs) = record { before = front; at = x; after = xs } ∷ cuts_behind (front ++ x ∷ []) xs

-- a list cut at each of its elements in turn
abbrev pub cuts : {A : Type 0} → List A → List (Cut A)
cuts xs = cuts_behind [] xs

-- what the elements make, each seen with those before and after it, as far as it lasts
abbrev pub lasting : {A X : Type 0} → (Cut A → Option X) → (X → Bool) → List A → List X
lasting make lasts xs = filter lasts (filter_map make (cuts xs))
