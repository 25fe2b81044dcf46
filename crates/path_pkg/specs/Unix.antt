-- Paths of Unix, as they are sent.
use Rattle.std.specs.Prelude.{ℕ, List, if◌then◌else◌, Option, Some, None}
use Rattle.std.specs.Str.{is_utf8}
use Rattle.path_pkg.specs.Path.{is_absolute}

-- the text that a path is sent as: the path itself, where it is UTF-8
abbrev pub unix_dist : List ℕ → Option (List ℕ)
unix_dist path = if is_utf8 path then Some path else None

-- the same for a path that begins with `/`
abbrev pub unix_dist_abs : List ℕ → Option (List ℕ)
unix_dist_abs path = if is_absolute path then unix_dist path else None
