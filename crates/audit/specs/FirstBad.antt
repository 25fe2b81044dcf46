-- What a printed run is, and which line of a text is the first outside the grammar.
use Rattle.std.specs.Prelude.{◌≡◌, ℕ, ◌+◌, ◌≤◌, ◌⊎◌, List, [], ◌∷◌, ◌++◌, length, Some, true}
use Rattle.std.specs.List.{flat_map}
use Rattle.line_program.specs.Limits.{max_run_bytes}
use Rattle.line_program.specs.Pieces.{pieces, text_of}
use Rattle.line_program.specs.FirstFaulty.{size}
use Rattle.run_lines.specs.Texts.{ended_text}
use Rattle.run_lines.specs.Grammar.{LineFits, IsRunLine}
use Rattle.run_lines.specs.declared.line.RunLine.{RunLine}
use Rattle.audit.specs.declared.order.Place.{Place}
use Rattle.audit.specs.declared.order.Place.TheVariants.{Over}
use Rattle.audit.specs.Order.{next}
use Rattle.audit.specs.Reading.{Read, with_line, nothing_read, is_ended}

-- the lines say this, each in its place
abbrev pub Says : ℕ → Read → List RunLine → Read → Type 0
Says number r [] s = r ≡ s
Says number r (l ∷ ls) s = (place : Place) × (next r.place r.seen l ≡ Some place)
    × Says (number + 1) (record (with_line number l r) { place = place }) ls s

-- each of the values has a line
abbrev pub AllFit : List RunLine → Type 0
AllFit [] = Unit {0}
AllFit (l ∷ ls) = LineFits l × AllFit ls

-- A printed run: the lines of values that say this in their order, the last line among them, and as many
-- entries as line 1 says; within the limit.
pub record IsPrinted (text : List ℕ) (r : Read) : Type 0 where
  pub lines : List RunLine
  pub spelled : text ≡ flat_map ended_text lines
  pub fit : AllFit lines
  pub says : Says 1 nothing_read lines r
  pub over : r.place ≡ Over
  pub all : r.seen ≡ r.entries
  pub short : length text ≤ max_run_bytes

-- Line p, behind lines that are done and were read so: within the limit and ended, the line of a value, and
-- in its place.
pub record IsGood (done : List (List ℕ)) (r : Read) (p : List ℕ) (l : RunLine) (behind : Place) : Type 0 where
  pub within : size done + length p ≤ max_run_bytes
  pub ended : is_ended p ≡ true
  pub says : IsRunLine (text_of p) l
  pub in_place : next r.place r.seen l ≡ Some behind

-- the first line from here on that is not good; the number after the last where lines are missing, and 1 where
-- there are more or fewer entries than line 1 says
abbrev pub FirstBadFrom : List (List ℕ) → Read → List (List ℕ) → ℕ → Type 0
FirstBadFrom done r [] n = ((r.place ≡ Over → ⊥) × (n ≡ length done + 1))
    ⊎ ((r.place ≡ Over) × (r.seen ≡ r.entries → ⊥) × (n ≡ 1))
FirstBadFrom done r (p ∷ ps) n =
    ((n ≡ length done + 1) × ((l : RunLine) (place : Place) → IsGood done r p l place → ⊥))
    ⊎ ((l : RunLine) × (place : Place) × IsGood done r p l place
    × FirstBadFrom (done ++ p ∷ []) (record (with_line (length done + 1) l r) { place = place }) ps n)

-- the text's first line outside the grammar has this number
abbrev pub IsFirstBad : List ℕ → ℕ → Type 0
IsFirstBad text n = FirstBadFrom [] nothing_read (pieces text) n
