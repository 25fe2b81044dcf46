-- What a tree tells of itself, and what a call of it leaves.
use Rattle.std.specs.Prelude.{◌≡◌, ℕ, ◌≤◌, List, map, Option, Some, Result, Ok, Err}
use Rattle.std.specs.List.Sorted.{IsStrictlySortedBy}
use Rattle.std.specs.Cmp.Lexicographic.{slice_cmp}
use Rattle.std.specs.Ordering.{nat_cmp}
use Rattle.dist_types.specs.Cause.{Rose}
use Rattle.path_pkg.specs.declared.node.Node.{Node}
use Rattle.path_pkg.specs.declared.fault.TreeFault.{TreeFault}
use Rattle.path_pkg.specs.declared.fault.TreeFault.TheVariants.{Failed, NotUtf8, Memory}

-- what stands at each path
abbrev pub Nodes : Type 0
Nodes = List (List ℕ × Node)

-- the paths strictly rise in byte order
abbrev pub IsInByteOrder : Nodes → Type 0
IsInByteOrder t = IsStrictlySortedBy (slice_cmp nat_cmp) (map (λ e. e.0) t)

-- the nodes, where a tree tells them; how often it failed; how often a name or a target was not UTF-8
pub record Told : Type 0 where
  pub nodes : Option Nodes
  pub faults : ℕ
  pub misnamed : ℕ

-- what holds of the nodes, where they are told
abbrev pub WhereTold : Told → (Nodes → Type 0) → Type 0
WhereTold told P = (t : Nodes) → told.nodes ≡ Some t → P t

-- the cause of a refusal: one count rose and the other stayed; want of memory raises none
abbrev pub TreeCause : TreeFault → Told → Told → Type 0
TreeCause Failed old new = Rose old.faults new.faults × (new.misnamed ≡ old.misnamed)
TreeCause NotUtf8 old new = Rose old.misnamed new.misnamed × (new.faults ≡ old.faults)
TreeCause Memory old new = new ≡ old

-- the nodes stay, no count falls, and a refusal has its cause
pub record Refused (cause : Told → Told → Type 0) (old new : Told) : Type 0 where
  pub nodes : new.nodes ≡ old.nodes
  pub faults : old.faults ≤ new.faults
  pub misnamed : old.misnamed ≤ new.misnamed
  pub caused : cause old new

-- an answer leaves the tree as it was
abbrev pub LeavesTree : {T : Type 0} → Result T TreeFault → Told → Told → Type 0
LeavesTree (Ok x) old new = new ≡ old
LeavesTree (Err e) old new = Refused (TreeCause e) old new
