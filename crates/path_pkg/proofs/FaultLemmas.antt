-- A tree's refusals as those of packing.
use Rattle.std.proofs.Common.{◌≡◌, false, true, refl, arith}
use Rattle.path_pkg.specs.Told.{Told, Refused, TreeCause}
use Rattle.path_pkg.specs.Fault.{pack_error, is_decided, is_simplify_error, PackCause}
use Rattle.path_pkg.specs.declared.fault.TreeFault.{TreeFault}
use Rattle.path_pkg.specs.declared.fault.TreeFault.TheVariants.{Failed, NotUtf8, Memory}
use Rattle.path_pkg.specs.declared.fault.PackError.{PackError}

pub undecided : (f : TreeFault) → is_decided (pack_error f) ≡ false
undecided Failed = refl
undecided NotUtf8 = refl
undecided Memory = refl

pub of_simplify : (f : TreeFault) → is_simplify_error (pack_error f) ≡ true
of_simplify Failed = refl
of_simplify NotUtf8 = refl
of_simplify Memory = refl

pub pack_refused : (f : TreeFault) (old new : Told) → Refused (TreeCause f) old new
    → Refused (PackCause (pack_error f)) old new
pack_refused Failed old new h = record {
  nodes = h.nodes;
  faults = h.faults;
  misnamed = h.misnamed;
  caused = h.caused;
}
pack_refused NotUtf8 old new h = record {
  nodes = h.nodes;
  faults = h.faults;
  misnamed = h.misnamed;
  caused = h.caused;
}
pack_refused Memory old new h = record {
  nodes = h.nodes;
  faults = h.faults;
  misnamed = h.misnamed;
  caused = h.caused;
}

-- what asks the tree nothing leaves it as it was
pub untouched : (e : PackError) (told : Told) → PackCause e told told → Refused (PackCause e) told told
untouched e told h = record { nodes = refl; faults = omega arith; misnamed = omega arith; caused = h }
