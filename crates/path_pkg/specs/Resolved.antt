-- Where a path leads, with each link on it followed.
use Rattle.std.specs.Prelude.{ℕ, List, [], ◌∷◌, ◌++◌, map, filter, length, Bool, ◌&&◌, nat_lt, nat_eq, true}
use Rattle.std.specs.Prelude.{if◌then◌else◌, Option, None, Result, Ok, Err}
use Rattle.std.specs.Str.{bytes_eq}
use Rattle.std.specs.List.{starts_with}
use Rattle.path_pkg.specs.Told.{Nodes}
use Rattle.path_pkg.specs.Tree.{node_at, kind_of, content_of}
use Rattle.path_pkg.specs.Spot.{Spot, spot_text}
use Rattle.path_pkg.specs.Simplified.{simplified}
use Rattle.path_pkg.specs.declared.node.Node.{Node}
use Rattle.path_pkg.specs.declared.node.Kind.{Kind}
use Rattle.path_pkg.specs.declared.fault.PackError.{PackError}

-- the node where a path leads, if the path leads somewhere
abbrev pub led_to : Nodes → Result Spot PackError → Option Node
led_to t (Ok s) = node_at t (spot_text s)
led_to t (Err e) = None

-- the node at a path, with each link followed, and none past forty links
unfoldable pub target_node : Nodes → List ℕ → Option Node
target_node t path = led_to t (simplified true t path)

-- its kind
abbrev pub target_kind_at : Nodes → List ℕ → Kind
target_kind_at t path = kind_of (target_node t path)

-- the content of the file at a path, with each link followed
abbrev pub content_at : Nodes → List ℕ → Option (List ℕ)
content_at t path = content_of (target_node t path)

-- what the paths in a directory begin with
abbrev pub dir_prefix : List ℕ → List ℕ
dir_prefix path = if bytes_eq path (47 ∷ []) then path else path ++ 47 ∷ []

-- whether a path lies in a directory, by what the paths in it begin with
abbrev pub is_within : List ℕ → List ℕ → Bool
is_within prefix inner = nat_lt (length prefix) (length inner) && starts_with nat_eq inner prefix

-- whether a path lies below a directory
abbrev pub is_below : List ℕ → List ℕ → Bool
is_below path inner = is_within (dir_prefix path) inner

-- the paths below a directory, in byte order
abbrev pub paths_below : Nodes → List ℕ → List (List ℕ)
paths_below t path = filter (is_below path) (map (λ p. p.0) t)
