-- The links that are recorded while paths are made simple.
use Rattle.std.specs.Prelude.{◌≡◌, List, Option, Some, None, Result, Ok, Err, String}
use Rattle.std.specs.Borrow.{MutBor}
use Rattle.std.specs.BTreeMap.{BTreeMap}
use Rattle.path_pkg.specs.Windows.{pairs_of}
use Rattle.path_pkg.specs.Spot.{Spot}
use Rattle.path_pkg.specs.Written.{Entry, put_all}
use Rattle.path_pkg.specs.declared.fault.PackError.{PackError}

-- what is recorded, with the links that were replaced on one path more, of each path the last
abbrev pub recorded_with : List Entry → Result Spot PackError → List Entry
recorded_with links (Ok s) = put_all links s.links
recorded_with links (Err e) = links

-- what is recorded, where links are
abbrev pub recorded : {A B : Type 0} → Option (MutBor (BTreeMap (String A) (String B))) → Option (List Entry)
recorded (Some links) = Some (pairs_of links.now.entries)
recorded None = None

-- both are the same map, or none
abbrev pub IsSameMap : {X : Type 0} → Option (MutBor X) → Option (MutBor X) → Type 0
IsSameMap None None = Unit {0}
IsSameMap (Some a) (Some b) = b.ghost_name ≡ a.ghost_name
IsSameMap None (Some b) = ⊥
IsSameMap (Some a) None = ⊥
