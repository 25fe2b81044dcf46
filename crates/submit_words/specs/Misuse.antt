-- What is told of words: one meaning, which an answer gives unless memory ran out.
use Rattle.std.specs.Prelude.{◌≡◌, Option, Some, None, Result, MatchResult}
use Rattle.submit_words.specs.declared.misuse.Misuse.{Misuse}
use Rattle.submit_words.specs.declared.misuse.Misuse.TheVariants.{Usage, Memory}

-- the words mean nothing, or memory ran out
abbrev pub Refuses : {U : Type 0} → Misuse → Option U → Type 0
Refuses (Usage cause) meaning = meaning ≡ None
Refuses Memory meaning = Unit {0}

-- the answer, seen through a view, is what the words mean, unless memory ran out
abbrev pub Reads : {T U : Type 0} → (T → U) → Option U → Result T Misuse → Type 0
Reads seen meaning answer = MatchResult answer (λ x. meaning ≡ Some (seen x)) (λ e. Refuses e meaning)
