-- What the tree of the system tells.
use Rattle.std.specs.Prelude.{◌≡◌, ℕ, Option, Some, None}
use Rattle.std.proofs.Common.{subst}
use Rattle.path_pkg.specs.Told.{Told, Nodes}
use Rattle.path_pkg.specs.declared.real_tree.RealTree.{RealTree}

-- how often it failed
abbrev pub real_faults : {R F D : Type 0} → RealTree R F D → ℕ
real_faults t = t.faults

-- how often a name or a target was not UTF-8
abbrev pub real_misnamed : {R F D : Type 0} → RealTree R F D → ℕ
real_misnamed t = t.misnamed

-- what it tells: nothing of what stands where
abbrev pub real_told : {R F D : Type 0} → RealTree R F D → Told
real_told t = record { nodes = None; faults = t.faults; misnamed = t.misnamed }

abbrev IsNothing : Option Nodes → Type 0
IsNothing None = Unit {0}
IsNothing (Some t) = ⊥

-- what is told is not nothing
pub nothing_told : (t : Nodes) → None ≡ Some t → ⊥
nothing_told t e = subst IsNothing e tt
