-- A folder without files.
use Rattle.std.proofs.Common.{◌≡◌, List, ℕ, [], ◌∷◌}
use Rattle.std.specs.List.{IsDistinct}
use Rattle.std.specs.Map.{keys_of}
use Rattle.std.specs.Str.{bytes_eq}

-- no path stands twice among none
pub none_twice : (files : List (List ℕ × List ℕ)) → files ≡ [] → IsDistinct bytes_eq (keys_of files)
unfolding IsDistinct
none_twice [] e = tt
none_twice (f ∷ fs) e = cc
