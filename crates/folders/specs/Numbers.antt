-- Which calls of a folder in memory fail.
use Rattle.std.specs.Prelude.{ℕ, Bool, ◌==◌, ◌||◌, ◌&&◌, ◌-◌, if◌then◌else◌, List, length, take}
use Rattle.std.specs.List.{list_any}
use Rattle.folders.specs.declared.calls.Calls.{Calls}

-- whether the call of this number is among those listed
abbrev pub is_listed : List ℕ → ℕ → Bool
is_listed numbers call = list_any (λ n. n == call) numbers

-- whether the next call is to stop in the middle of what it writes
abbrev pub stops : Calls → Bool
stops c = is_listed c.middle.items c.count

-- Whether the next call fails before it does anything, and whether it fails behind that. One that writes no
-- bytes has no middle, and fails before.
abbrev pub fails_before : Calls → Bool
fails_before c = is_listed c.before.items c.count || stops c

abbrev pub fails_after : Calls → Bool
fails_after c = is_listed c.after.items c.count

-- the same of a call that writes these bytes: one that stops in the middle of them fails behind a front
abbrev pub piece_fails : Calls → List ℕ → Bool
piece_fails c bytes = is_listed c.before.items c.count || (stops c && length bytes == 0)

abbrev pub piece_breaks : Calls → Bool
piece_breaks c = stops c || fails_after c

-- how much of them it writes: all, or all but the last
abbrev pub piece_length : Calls → List ℕ → ℕ
piece_length c bytes = if stops c then length bytes - 1 else length bytes

-- what it writes
abbrev pub piece : Calls → List ℕ → List ℕ
piece c bytes = take (piece_length c bytes) bytes
