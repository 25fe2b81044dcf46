-- The lines of an input, judged one after the other: what they say, or the first faulty one with its cause.
use Rattle.std.specs.Prelude.{◌≡◌, ℕ, ◌+◌, ◌-◌, ◌&&◌, nat_le, Bool, if◌then◌else◌, List, [], ◌∷◌, length}
use Rattle.std.specs.Prelude.{Result, Ok, Err}
use Rattle.line_program.specs.Pieces.{pieces, text_of}
use Rattle.line_program.specs.declared.fault.FarmFault.{FarmFault}
use Rattle.line_program.specs.declared.fault.FarmFault.TheVariants.{BadLine, Memory}

-- a line within the limits: its number, its length without its end, and where its last byte stands
abbrev pub fits : ℕ → ℕ → List ℕ → Bool
fits number room piece = nat_le number 1000000 && nat_le (length piece) room
    && nat_le (length (text_of piece)) 2097152

-- the next step, where this one met no fault
abbrev pub and_then : {A B : Type 0} → Result A FarmFault → (A → Result B FarmFault) → Result B FarmFault
and_then (Ok x) f = f x
and_then (Err e) f = Err e

-- How a program judges a line: its number, what was read before, and its text give what was read with it, or
-- why it is faulty.
abbrev pub Judge : Type 0 → Type 0
Judge S = ℕ → S → List ℕ → Result S FarmFault

-- what was read, with one line more, which is within the limits
abbrev pub judged_within : {S : Type 0} → Judge S → ℕ → ℕ → S → List ℕ → Result S FarmFault
judged_within judge number room s piece =
    if fits number room piece then judge number s (text_of piece) else Err (BadLine number)

-- the lines from this number on, with so much room left, behind what was read; at the end what they make
unfoldable pub lines_from : {S R : Type 0} → Judge S → (ℕ → S → Result R FarmFault) → ℕ → ℕ → S
    → List (List ℕ) → Result R FarmFault
lines_from judge finish number room s [] = finish number s
lines_from judge finish number room s (p ∷ ps) = and_then (judged_within judge number room s p)
    (λ t. lines_from judge finish (number + 1) (room - length p) t ps)

-- what the lines of an input make, behind what stands before them, or its first faulty line with its cause
abbrev pub lines_in : {S R : Type 0} → Judge S → (ℕ → S → Result R FarmFault) → S → List ℕ
    → Result R FarmFault
lines_in judge finish s bytes = lines_from judge finish 1 67108864 s (pieces bytes)

-- ---- what a reader answers

-- a fault is the one that reading gives, unless memory ran out
abbrev pub IsScriptFault : {Y : Type 0} → FarmFault → Result Y FarmFault → Type 0
IsScriptFault Memory read = Unit {0}
IsScriptFault f read = read ≡ Err f

-- What a function returned, seen by view, is what reading a script gives, unless memory ran out.
abbrev pub IsScriptAnswer : {X Y : Type 0} → (X → Y) → Result X FarmFault → Result Y FarmFault → Type 0
IsScriptAnswer view (Ok x) read = read ≡ Ok (view x)
IsScriptAnswer view (Err f) read = IsScriptFault f read
