-- What is told of a configuration: one verdict, which an answer gives unless memory ran out.
use Rattle.std.specs.Prelude.{◌≡◌, ℕ, List, Option, Result, Ok, Err, ok_or, MatchResult}
use Rattle.line_program.specs.declared.fault.ConfigCause.{ConfigCause}
use Rattle.line_program.specs.declared.fault.ConfigCause.TheVariants.{Missing, Unreadable, NotToml, Key}
use Rattle.command_line.specs.declared.cause.ConfigFault.{ConfigFault}
use Rattle.command_line.specs.declared.cause.ConfigFault.TheVariants.{Cause, Memory}

-- the next step, where this one says something
infixl 10 ◌>>=◌
abbrev pub ◌>>=◌ : {A B : Type 0} → Result A ConfigCause → (A → Result B ConfigCause) → Result B ConfigCause
(Ok x) >>= next = next x
(Err e) >>= next = Err e

-- what may be wrong with the bytes of a file
abbrev pub IsOfBytes : ConfigCause → Type 0
IsOfBytes Missing = ⊥
IsOfBytes Unreadable = ⊥
IsOfBytes NotToml = Unit {0}
IsOfBytes (Key key) = Unit {0}

-- the fault is the verdict's, or want of memory
abbrev pub IsConfigFault : {U : Type 0} → ConfigFault → Result U ConfigCause → Type 0
IsConfigFault (Cause c) verdict = (verdict ≡ Err c) × IsOfBytes c
IsConfigFault Memory verdict = Unit {0}

-- the answer, seen through a view, is the verdict, unless memory ran out
abbrev pub IsConfigAnswer : {T U : Type 0} → (T → U) → Result U ConfigCause → Result T ConfigFault → Type 0
IsConfigAnswer seen verdict answer = MatchResult answer (λ x. verdict ≡ Ok (seen x))
    (λ e. IsConfigFault e verdict)

-- what was found at a key, or that key is the bad one
abbrev pub needed : {A : Type 0} → List ℕ → Option A → Result A ConfigCause
needed key found = ok_or found (Key key)
