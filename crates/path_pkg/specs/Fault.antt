-- The refusals of packing.
use Rattle.std.specs.Prelude.{◌≡◌, Bool, true, false, Result, Ok, Err}
use Rattle.dist_types.specs.Answers.{AnswersWhere}
use Rattle.dist_types.specs.Cause.{Rose}
use Rattle.path_pkg.specs.Told.{Told, Refused}
use Rattle.path_pkg.specs.declared.fault.TreeFault.{TreeFault}
use Rattle.path_pkg.specs.declared.fault.TreeFault.TheVariants.{Failed, NotUtf8, Memory}
use Rattle.path_pkg.specs.declared.fault.PackError.{PackError}
use Rattle.path_pkg.specs.declared.fault.PackError.TheVariants as Packs

-- a tree's refusal, as one of packing
abbrev pub pack_error : TreeFault → PackError
pack_error Failed = Packs.TreeFault
pack_error NotUtf8 = Packs.NotUtf8
pack_error Memory = Packs.Memory

-- whether the paths and the nodes alone decide a refusal, and not the outside or want of memory
abbrev pub is_decided : PackError → Bool
is_decided Packs.TreeFault = false
is_decided Packs.SinkFault = false
is_decided Packs.NotUtf8 = false
is_decided Packs.Memory = false
is_decided _ = true

-- whether making a path simple may be refused so
abbrev pub is_simplify_error : PackError → Bool
is_simplify_error Packs.LinkInParent = true
is_simplify_error Packs.TooManyLinks = true
is_simplify_error Packs.TreeFault = true
is_simplify_error Packs.NotUtf8 = true
is_simplify_error Packs.Memory = true
is_simplify_error _ = false

-- the answer, seen through a view, is the verdict, unless the outside failed or memory ran out
abbrev pub IsPackAnswer : {T U : Type 0} → (T → U) → Result U PackError → Result T PackError → Type 0
IsPackAnswer seen verdict answer = AnswersWhere (λ e. is_decided e ≡ true) seen verdict answer

-- the cause of a refusal: one count of the tree rose and the other stayed; all else leaves the tree as it was
abbrev pub PackCause : PackError → Told → Told → Type 0
PackCause Packs.TreeFault old new = Rose old.faults new.faults × (new.misnamed ≡ old.misnamed)
PackCause Packs.NotUtf8 old new = Rose old.misnamed new.misnamed × (new.faults ≡ old.faults)
PackCause Packs.SinkFault old new = ⊥
PackCause _ old new = new ≡ old

-- an answer leaves the tree as it was, and a refusal has its cause
abbrev pub PackLeavesTree : {T : Type 0} → Result T PackError → Told → Told → Type 0
PackLeavesTree (Ok x) old new = new ≡ old
PackLeavesTree (Err e) old new = Refused (PackCause e) old new
