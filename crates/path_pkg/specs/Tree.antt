-- What stands at a path of a tree.
use Rattle.std.specs.Prelude.{ℕ, List, Bool, true, false, Option, Some, None}
use Rattle.std.specs.Map.{lookup}
use Rattle.std.specs.Str.{bytes_eq}
use Rattle.path_pkg.specs.Told.{Nodes}
use Rattle.path_pkg.specs.declared.node.Node.{Node}
use Rattle.path_pkg.specs.declared.node.Node.TheVariants as Nodes
use Rattle.path_pkg.specs.declared.node.Kind.{Kind}
use Rattle.path_pkg.specs.declared.node.Kind.TheVariants as Kinds

-- the node whose path is this text
abbrev pub node_at : Nodes → List ℕ → Option Node
node_at t path = lookup (λ p. bytes_eq path p) t

-- the kind of what stands there
abbrev pub kind_of : Option Node → Kind
kind_of None = Kinds.None
kind_of (Some Nodes.Dir) = Kinds.Dir
kind_of (Some (Nodes.File bytes)) = Kinds.File
kind_of (Some (Nodes.Link target)) = Kinds.Link
kind_of (Some Nodes.Other) = Kinds.Other

abbrev pub kind_at : Nodes → List ℕ → Kind
kind_at t path = kind_of (node_at t path)

abbrev pub is_link_kind : Kind → Bool
is_link_kind Kinds.Link = true
is_link_kind _ = false

-- whether a link stands there
abbrev pub is_link : Nodes → List ℕ → Bool
is_link t path = is_link_kind (kind_at t path)

-- the target, where the node is a link
abbrev pub link_of : Option Node → Option (List ℕ)
link_of (Some (Nodes.Link target)) = Some target
link_of _ = None

-- the target of the link there, where there is one
abbrev pub link_at : Nodes → List ℕ → Option (List ℕ)
link_at t path = link_of (node_at t path)

-- the content of a file
abbrev pub content_of : Option Node → Option (List ℕ)
content_of (Some (Nodes.File bytes)) = Some bytes
content_of _ = None
