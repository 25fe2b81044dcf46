-- What is opened for reading.
use Rattle.std.specs.Prelude.{ℕ, List, length, drop, min}

-- a content, and the place where the next byte is read
pub record Reading : Type 0 where
  pub content : List ℕ
  pub place : ℕ

-- what is still to be read
abbrev pub to_read : Reading → List ℕ
to_read r = drop r.place r.content

-- how many bytes a read into a buffer of this length gives
abbrev pub read_length : Reading → ℕ → ℕ
read_length r room = min room (length (to_read r))
