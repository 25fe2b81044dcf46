-- Where a path leads.
use Rattle.std.proofs.Common.{◌≡◌, ℕ, List, true, Ok, Err, None, ap}
use Rattle.path_pkg.specs.Told.{Nodes}
use Rattle.path_pkg.specs.Tree.{node_at}
use Rattle.path_pkg.specs.Spot.{Spot, spot_text}
use Rattle.path_pkg.specs.Simplified.{simplified}
use Rattle.path_pkg.specs.Resolved.{led_to, target_node}
use Rattle.path_pkg.specs.declared.fault.PackError.{PackError}

pub target_ok : (t : Nodes) (path : List ℕ) (s : Spot) → simplified true t path ≡ Ok s
    → target_node t path ≡ node_at t (spot_text s)
unfolding target_node
target_ok t path s e = ap (led_to t) e

pub target_err : (t : Nodes) (path : List ℕ) (e : PackError) → simplified true t path ≡ Err e
    → target_node t path ≡ None
unfolding target_node
target_err t path e h = ap (led_to t) h
