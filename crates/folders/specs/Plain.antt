-- The parts of a path.
use Rattle.std.specs.Prelude.{ℕ, Bool, not, ◌&&◌, ◌==◌, List, [], codes}
use Rattle.std.specs.List.{list_any}
use Rattle.std.specs.Str.{bytes_eq}

-- a part of a path is plain: not empty, not `.` or `..`, and without a NUL byte
unfoldable pub is_plain : List ℕ → Bool
is_plain part = not (bytes_eq part []) && not (bytes_eq part (codes ".")) && not (bytes_eq part (codes ".."))
    && not (list_any (λ b. b == 0) part)
