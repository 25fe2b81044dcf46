-- The records of what was asked in two runs, and what of them is alike.
use Rattle.std.specs.Prelude.{◌≡◌, List, ◌++◌, drop, length, map, Option, Some}
use Rattle.std.specs.Option.{option_map}
use Rattle.dist_types.specs.declared.dialer.Asked.{Asked}

-- what was answered since, in a record's new rows
abbrev pub answers_since : {Row Answer : Type 0} → (Row → Answer) → List Row → List Row → List Answer
answers_since answer old new = map answer (drop (length old) new)

-- both records are told, and the same was answered since
pub record AnsweredAlike {Row Answer : Type 0} (answer : Row → Answer) (old new before after : Option (List Row))
    : Type 0 where
  pub first : List Row
  pub last : List Row
  pub other : List Row
  pub since : List Row
  pub old_is : old ≡ Some first
  pub new_is : new ≡ Some last
  pub before_is : before ≡ Some other
  pub after_is : after ≡ Some since
  pub heard : answers_since answer first last ≡ answers_since answer other since

-- both dialers tell their records, and the same was answered to both
abbrev pub HearAlike : Option (List Asked) → Option (List Asked) → Option (List Asked) → Option (List Asked)
    → Type 0
HearAlike old new before after = AnsweredAlike (λ (a : Asked). a.answer) old new before after

-- the same rows more stand at the end of both records, where they are told
abbrev pub GrowAlike : {Row : Type 0} → Option (List Row) → Option (List Row) → Option (List Row)
    → Option (List Row) → Type 0
GrowAlike {Row} old new before after = (more : List Row) × (new ≡ option_map (λ rows. rows ++ more) old)
    × (after ≡ option_map (λ rows. rows ++ more) before)
