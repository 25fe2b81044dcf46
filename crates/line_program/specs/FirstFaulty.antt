-- The first faulty line of an input and its cause, in the words of a grammar; and what its lines say.
use Rattle.std.specs.Prelude.{◌≡◌, ◌⊎◌, ℕ, ◌+◌, ◌<◌, ◌≤◌, Bool, false, List, [], ◌∷◌, ◌++◌, length}
use Rattle.line_program.specs.Pieces.{pieces, text_of}
use Rattle.line_program.specs.declared.fault.FarmFault.{FarmFault}
use Rattle.line_program.specs.declared.fault.FarmFault.TheVariants as fault

-- How a grammar judges a line: what its text says, and what it says where addresses may have scopes; behind lines that
-- say so much, whether it is out of its place, whether its address stands before, and whether its ids meet earlier
-- ones; and what an input that says so much lacks.
pub record Grammar (L : Type 0) : Type 1 where
  pub says : List ℕ → L → Type 0
  pub scoped : List ℕ → L → Type 0
  pub misplaced : List L → L → Bool
  pub duplicate : List L → L → Type 0
  pub overlapping : List L → L → Type 0
  pub lacking : List L → Type 0

-- how many bytes the lines have
abbrev pub size : List (List ℕ) → ℕ
size [] = 0
size (p ∷ ps) = length p + size ps

-- Line p, behind lines that say this, is within the limits, in the grammar but for scopes of its addresses,
-- and in its place.
pub record IsInPlace {L : Type 0} (g : Grammar L) (done : List (List ℕ)) (said : List L) (p : List ℕ) : Type 0 where
  pub number : length done < 1000000
  pub room : size done + length p ≤ 67108864
  pub short : length (text_of p) ≤ 2097152
  pub line : L
  pub spells : g.scoped (text_of p) line
  pub place : g.misplaced said line ≡ false

-- line p says this, and is not faulty
pub record IsFine {L : Type 0} (g : Grammar L) (done : List (List ℕ)) (said : List L) (p : List ℕ) (l : L)
    : Type 0 where
  pub in_place : IsInPlace g done said p
  pub says : g.says (text_of p) l
  pub first : g.duplicate said l → ⊥
  pub apart : g.overlapping said l → ⊥

-- line p is in its place, and what it says clashes so with what was said before
pub record IsClash {L : Type 0} (g : Grammar L) (clashes : List L → L → Type 0) (done : List (List ℕ))
    (said : List L) (p : List ℕ) : Type 0 where
  pub in_place : IsInPlace g done said p
  pub line : L
  pub says : g.says (text_of p) line
  pub clash : clashes said line

-- Why a line is faulty, with its number: it is not in its place; or it is, and is a line for a scope alone;
-- or it is a line, and its address stands before, or its ids were of an earlier life.
abbrev pub IsFaulty : {L : Type 0} → Grammar L → List (List ℕ) → List L → List ℕ → FarmFault → Type 0
IsFaulty g done said p (fault.BadLine n) = (n ≡ length done + 1) × (IsInPlace g done said p → ⊥)
IsFaulty {L} g done said p (fault.ScopedAddress n) = (n ≡ length done + 1) × IsInPlace g done said p
    × ((l : L) → g.says (text_of p) l → ⊥)
IsFaulty g done said p (fault.DuplicateAddress n) = (n ≡ length done + 1) × IsClash g g.duplicate done said p
IsFaulty g done said p (fault.OverlappingIds n) = (n ≡ length done + 1) × IsClash g g.overlapping done said p
IsFaulty g done said p other = ⊥

-- The first fault from here on, behind lines that are done and say this. Where no line is faulty, but what they
-- say lacks something, it is a bad line at the number after the last.
abbrev pub FirstFaultyFrom : {L : Type 0} → Grammar L → List (List ℕ) → List L → List (List ℕ) → FarmFault
    → Type 0
FirstFaultyFrom g done said [] f = g.lacking said × (f ≡ fault.BadLine (length done + 1))
FirstFaultyFrom {L} g done said (p ∷ ps) f = IsFaulty g done said p f
    ⊎ ((l : L) × IsFine g done said p l × FirstFaultyFrom g (done ++ p ∷ []) (said ++ l ∷ []) ps f)

-- the input's first faulty line has this cause and number
abbrev pub IsFirstFaulty : {L : Type 0} → Grammar L → List ℕ → FarmFault → Type 0
IsFirstFaulty g bytes f = FirstFaultyFrom g [] [] (pieces bytes) f

-- no line of the input is faulty, and it lacks nothing
abbrev pub IsFaultless : {L : Type 0} → Grammar L → List ℕ → Type 0
IsFaultless g bytes = (f : FarmFault) → IsFirstFaulty g bytes f → ⊥

-- each line, without its end, says its value
abbrev pub EachLine : {L : Type 0} → (List ℕ → L → Type 0) → List (List ℕ) → List L → Type 0
EachLine says [] [] = Unit {0}
EachLine says (p ∷ ps) (l ∷ ls) = says (text_of p) l × EachLine says ps ls
EachLine says [] (l ∷ ls) = ⊥
EachLine says (p ∷ ps) [] = ⊥
