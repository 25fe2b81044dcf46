-- What a call leaves of a list, whether it errs or not.
use Rattle.std.specs.Prelude.{◌≡◌, ℕ, List, ◌++◌, drop}

-- the front comes first
pub record Begins {A : Type 0} (front whole : List A) : Type 0 where
  pub rest : List A
  pub parts : whole ≡ front ++ rest

-- of what was to be written a front was, behind what was there before
pub record Adds {A : Type 0} (text before after : List A) : Type 0 where
  pub front : List A
  pub rest : List A
  pub written : after ≡ before ++ front
  pub whole : text ≡ front ++ rest

-- the rest is what stands behind so many
pub record Ends {A : Type 0} (rest whole : List A) : Type 0 where
  pub count : ℕ
  pub behind : rest ≡ drop count whole
