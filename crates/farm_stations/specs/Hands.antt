-- The builders of stations, whoever made them.
use Rattle.std.specs.Prelude.{◌≡◌, ◌⊎◌, ℕ, ◌+◌, List, [], length, slice_get, Option, Some, None, IfSome, Err}
use Rattle.dist_types.specs.Builder.{Answering, Built}
use Rattle.dist_types.specs.declared.builder.BuildFault.TheVariants as build
use Rattle.std.specs.Option.{option_map}
use Rattle.build_server.specs.Builds.{Builder}
use Rattle.farm_script.specs.declared.setup.BuilderLine.{BuilderLine}
use Rattle.farm_entries.specs.Passage.{IsAsked}
use Rattle.farm_stations.specs.Lined.{answering}

-- a builder that a station asks: what it tells, and of one that the farm made, the lines that it was made for
pub record Hand : Type 0 where
  pub told : Builder
  pub lines : Option (List BuilderLine)

-- what it answers, where it has lines
abbrev pub answers_of : Hand → Option Answering
answers_of hand = option_map answering hand.lines

-- one that was handed in
abbrev pub handed_in : Builder → Hand
handed_in told = record { told = told; lines = None }

-- one that the farm made for these lines, before its first build
abbrev pub fresh_hand : List BuilderLine → Hand
fresh_hand lines = record { told = record { rows = Some []; refusals = 0 }; lines = Some lines }

-- the builder that a station asks: one that was handed in, or one that the farm made
abbrev pub hand_by : Option Builder → Option Hand → Hand
hand_by (Some builder) own = handed_in builder
hand_by None (Some own) = own
hand_by None None = handed_in (record { rows = None; refusals = 0 })

-- a builder that is handed back tells what the one that was asked does, and answers by its lines
pub record IsGiven {B : Type 0} (told : B → Builder) (answers : B → Option Answering) (hand : Hand)
    (b : B) : Type 0 where
  pub tells : told b ≡ hand.told
  pub answered : IfSome hand.lines (λ lines. answers b ≡ Some (answering lines))

-- The last row tells what is answered behind the rows before it; or memory ran out in that build.
abbrev pub IsTrueTo : Answering → List Built → Type 0
IsTrueTo answers rows = (n : ℕ) (row : Built) → length rows ≡ n + 1 → slice_get rows n ≡ Some row
    → (row.answer ≡ answers n row.outputs row.inputs) ⊎ (row.answer ≡ Err build.Memory)

-- the last row of a builder's record, where both are told, is by what it answers
abbrev pub KeepsWord : Hand → Type 0
KeepsWord hand = IfSome (answers_of hand) (λ answers. IfSome hand.told.rows (λ rows. IsTrueTo answers rows))

-- It tells its whole record, and from its next row on it answers what these lines list, in order, and then it
-- echoes: these lines are left of its own.
pub record HasLeft (left : List BuilderLine) (hand : Hand) : Type 0 where
  pub answers : Answering
  pub rows : List Built
  pub answers_are : answers_of hand ≡ Some answers
  pub rows_are : hand.told.rows ≡ Some rows
  pub each : (n : ℕ) (outputs : List (List ℕ)) (inputs : List ℕ)
      → answers (length rows + n) outputs inputs ≡ answering left n outputs inputs

-- The builder that a server asks is the one that was handed in, if any; else one that the farm made, which has
-- those lines left.
abbrev pub IsHandOf : List BuilderLine → Option Builder → Hand → Type 0
IsHandOf left (Some builder) hand = hand ≡ handed_in builder
IsHandOf left None hand = HasLeft left hand

-- It was called at most once: its record is the old one or has one row more, and its count of refusals has not
-- fallen. It answers as before.
pub record IsCalled (old new : Hand) : Type 0 where
  pub asked : IsAsked old.told new.told
  pub answers : answers_of new ≡ answers_of old
