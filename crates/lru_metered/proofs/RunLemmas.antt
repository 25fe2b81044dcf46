-- What runs of an iterator give that is seen as the list of what it has left.
use Rattle.std.proofs.Common.{List, [], ◌∷◌, length, Option, Some, None, ap, arith, length-append}
use Rattle.std.specs.Iterator.{MakesProgress, at_most}
use Rattle.std.specs.Map.Iter.{TakesFirst, TakesLast, ShowsInOrder, ShowsInReverse, GivesInOrder}
use Rattle.std.specs.Map.Iter.{GivesInReverse}
use Rattle.std.proofs.iter.runs.Sources.{from_front, from_back, as_is, as_is_back}

module _ {A X : Type 0} (shows : A → X) where
  pub shows_in_order : ShowsInOrder shows
  shows_in_order = from_front (TakesFirst shows) shows (λ s. s) (λ s t h. ap length h.0) (λ s x t h. h)

  pub shows_in_reverse : ShowsInReverse shows
  shows_in_reverse = from_back (TakesLast shows) shows (λ s. s) (λ s t h. ap length h.0) (λ s x t h. h)

module _ {X : Type 0} where
  pub gives_in_order : GivesInOrder X
  gives_in_order p s = as_is p p.from (shows_in_order (λ x. x) p s)

  pub gives_in_reverse : GivesInReverse X
  gives_in_reverse p s = as_is_back p p.from (shows_in_reverse (λ x. x) p s)

-- each call leaves fewer
module _ {A X : Type 0} (shows : A → X) (s t : List X) where
  pub first_progress : (r : Option A) → TakesFirst shows s r t → MakesProgress (λ _. Unit {0})
      (λ l. at_most (length l)) s r t
  first_progress None h = record { on = λ _. tt; keeps = tt; rests = λ _. tt }
  first_progress (Some x) h = record {
    on = λ _. (tt, tt, omega (arith, ap length h));
    keeps = tt;
    rests = λ _. tt;
  }

  pub last_progress : (r : Option A) → TakesLast shows s r t → MakesProgress (λ _. Unit {0})
      (λ l. at_most (length l)) s r t
  last_progress None h = record { on = λ _. tt; keeps = tt; rests = λ _. tt }
  last_progress (Some x) h =
      record {
        on = λ _. (tt, tt, omega (arith, ap length h, length-append t (shows x ∷ [])));
        keeps = tt;
        rests = λ _. tt;
      }
