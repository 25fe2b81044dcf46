-- Reading as a function: the value, or nothing where there is none.
use Rattle.std.specs.Prelude.{◌≡◌, Option, Some, None, Result, Ok, Err}
use Rattle.line_program.specs.declared.fault.LineFault.{LineFault}
use Rattle.line_program.specs.declared.fault.LineFault.TheVariants as faults

-- a line that is not in the grammar has no value; want of memory says nothing
abbrev pub Fails : {Y : Type 0} → LineFault → Option Y → Type 0
Fails faults.Memory read = Unit {0}
Fails faults.Bad read = read ≡ None

-- What a function returned, seen by view, is what reading gives, unless memory ran out.
abbrev pub IsLineAnswer : {X Y : Type 0} → (X → Y) → Result X LineFault → Option Y → Type 0
IsLineAnswer view (Ok x) read = read ≡ Some (view x)
IsLineAnswer view (Err e) read = Fails e read
