-- Which heads need no reading.
use Rattle.std.specs.Prelude.{ℕ, ◌==◌, Bool, true, false, not, ◌&&◌, ◌||◌, List, [], ◌∷◌, take, codes}
use Rattle.std.specs.List.{starts_with}
use Rattle.http_head.specs.Fields.{same_name}

-- whether bytes begin with the name of the field that announces a body, in any case
abbrev pub is_length : List ℕ → Bool
is_length bytes = same_name (take 14 bytes) (codes "content-length")

-- whether a line of the bytes does, of which the first begins with them only where that is said
abbrev pub has_length : Bool → List ℕ → Bool
has_length begins [] = false
has_length begins (b ∷ bytes) = (begins && is_length (b ∷ bytes)) || has_length (b == 10) bytes

-- whether a stop is no more read than that: it is a GET, and no line of it announces a body
unfoldable pub is_plain : List ℕ → Bool
is_plain stop = starts_with (λ (a b : ℕ). a == b) stop (codes "GET ") && not (has_length true stop)
