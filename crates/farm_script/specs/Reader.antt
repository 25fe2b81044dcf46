-- What a line alone is read as, or why it is none.
use Rattle.std.specs.Prelude.{◌≡◌, Option, Some, None, Result, Ok, Err}
use Rattle.farm_script.specs.declared.lines.Line.{Line}
use Rattle.farm_script.specs.declared.reader.LineFault.{LineFault}
use Rattle.farm_script.specs.declared.reader.LineFault.TheVariants.{Bad, Scoped, Memory}

-- Why a line is none, by what it says where scopes are taken: nothing even so; or it is a line for a scope alone. Want
-- of memory says nothing.
abbrev pub IsRefused : LineFault → Option Line → Type 0
IsRefused Bad taken = taken ≡ None
IsRefused Scoped taken = (l : Line) × (taken ≡ Some l)
IsRefused Memory taken = Unit {0}

-- a fault of a line that memory did not cause: it says nothing where scopes are refused
abbrev pub IsNone : LineFault → Option Line → Type 0
IsNone Bad refused = refused ≡ None
IsNone Scoped refused = refused ≡ None
IsNone Memory refused = Unit {0}

-- What a line is read as, by what it says where scopes are refused, and where they are taken.
abbrev pub IsReadAs : Result Line LineFault → Option Line → Option Line → Type 0
IsReadAs (Ok l) refused taken = refused ≡ Some l
IsReadAs (Err f) refused taken = IsNone f refused × IsRefused f taken
